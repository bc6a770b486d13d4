-- The heads that a join leaves: the one above the other, and the commit over both.
use Rattle.std.proofs.Common.{◌≡◌, ◌↔◌, ⊎_elim, ◌<◌, ℕ, List, [], ◌∷◌, length, Contains, Some, refl, sym, ◌∙◌, ap, subst, arith}
use Rattle.std.proofs.lemmas.Option.{same_Some}
use Rattle.gb_text.specs.declared.id.Id.{Id}
use Rattle.gb_text.specs.declared.id.Name.{Name}
use Rattle.object_store.specs.Held.{Objects}
use Rattle.commit_walk.specs.Below.{IsBelow, head}
use Rattle.commit_walk.proofs.BelowLemmas.{below_one}
use Rattle.commit_walk.proofs.DistinctLemmas.{AreDistinct-nil, Contains-cons, Contains-first, Contains-nil, Contains-one}
use Rattle.op_kind.specs.Meaning.{KeepsLaws, Meaning}
use Rattle.dag_entity.specs.Agreeing.{SameNeeded}
use Rattle.dag_entity.specs.Entities.{IsEntity, IsOperationCommit, IsOperationList}
use Rattle.dag_entity.specs.Extending.{Extends, extended}
use Rattle.dag_entity.specs.Faults.{AreApart, EntityFaultHolds}
use Rattle.dag_entity.specs.Joining.{IsMergeTime, at_head, merge_name, merge_node}
use Rattle.dag_entity.specs.Nodes.{IsNode, edit_at}
use Rattle.dag_entity.specs.declared.entity.Entity.{Entity}
use Rattle.dag_entity.specs.declared.entity.Placed.{Placed}
use Rattle.dag_entity.specs.declared.fault.EntityFault.{EntityFault}
use Rattle.dag_entity.proofs.AgreeFaults.{entity_over}
use Rattle.dag_entity.proofs.AgreeLemmas.{edit_same}
use Rattle.dag_entity.proofs.LawExtending.{is_extended}
use Rattle.dag_entity.proofs.LawRules.{room}
use Rattle.dag_entity.proofs.FewerLemmas.{valid_alone, wrong_above, wrong_together}
use Rattle.dag_entity.proofs.PairLemmas.{edit_of_second, is_first, is_second, root_of_second, under}

-- ---- a head over another

module _ (objects : Objects) (one two : Name) (below : IsBelow objects (two ∷ []) one) where
  down : (name : Name) → IsBelow objects (one ∷ two ∷ []) name → IsBelow objects (two ∷ []) name
  down name b = ⊎_elim (λ (l : IsBelow objects (one ∷ []) name). under objects (two ∷ []) one below name l) (λ (r : IsBelow objects (two ∷ []) name). r) (below_one objects one two b)

  up : (name : Name) → IsBelow objects (two ∷ []) name → IsBelow objects (one ∷ two ∷ []) name
  up name b = under objects (one ∷ two ∷ []) two (is_second objects one two) name b

  pub forward_below : (name : Name) → IsBelow objects (one ∷ two ∷ []) name ↔ IsBelow objects (two ∷ []) name
  forward_below name = (down name, up name)

  -- such heads are not apart, in either order
  not_apart : (a b : Name) → AreApart objects (one ∷ two ∷ []) a b → ⊥
  not_apart a b apart =
      let first : one ≡ a = cc (apart.are) in
      let second : two ≡ b = cc (apart.are) in
      apart.one_apart (subst (λ (n : Name). IsBelow objects (n ∷ []) a) second (subst (IsBelow objects (two ∷ [])) first below))

  not_apart_turned : (a b : Name) → AreApart objects (two ∷ one ∷ []) a b → ⊥
  not_apart_turned a b apart =
      let first : two ≡ a = cc (apart.are) in
      let second : one ≡ b = cc (apart.are) in
      apart.two_apart (subst (λ (n : Name). IsBelow objects (n ∷ []) b) first (subst (IsBelow objects (two ∷ [])) second below))

  down_turned : (name : Name) → IsBelow objects (two ∷ one ∷ []) name → IsBelow objects (two ∷ []) name
  down_turned name b = ⊎_elim (λ (l : IsBelow objects (two ∷ []) name). l) (λ (r : IsBelow objects (one ∷ []) name). under objects (two ∷ []) one below name r) (below_one objects two one b)

  module _ {Op State Row : Type 0} (k : Meaning Op State Row) where
    -- the same operations lie below both
    same_commits : (placed : Placed Op) → IsOperationCommit k objects (one ∷ two ∷ []) placed ↔ IsOperationCommit k objects (two ∷ []) placed
    same_commits placed = (λ o. record { below = down placed.commit o.below; has = o.has; some = o.some }, λ o. record { below = up placed.commit o.below; has = o.has; some = o.some })

    pub operations_of_second : (ops : List Op) → IsOperationList k objects (one ∷ two ∷ []) ops ↔ IsOperationList k objects (two ∷ []) ops
    operations_of_second ops = (
      λ list. record { packs = list.packs; are = record { all = λ placed o. list.are.all placed ((same_commits placed).1 o); only = λ placed c. (same_commits placed).0 (list.are.only placed c); rise = list.are.rise }; written_out = list.written_out },
      λ list. record { packs = list.packs; are = record { all = λ placed o. list.are.all placed ((same_commits placed).0 o); only = λ placed c. (same_commits placed).1 (list.are.only placed c); rise = list.are.rise }; written_out = list.written_out },
    )

module _ {Op State Row : Type 0} (k : Meaning Op State Row) (objects : Objects) (id : Id) (authors : List Id) (one two : Name) (below : IsBelow objects (two ∷ []) one) where
  pub same_faults : (f : EntityFault) → EntityFaultHolds k objects id (one ∷ two ∷ []) authors f ↔ EntityFaultHolds k objects id (two ∷ []) authors f
  same_faults f = (
    wrong_together k objects id authors (one ∷ two ∷ []) (two ∷ []) (not_apart objects one two below) (down objects one two below) f,
    wrong_above k objects id authors (one ∷ two ∷ []) two (is_second objects one two) f,
  )

  pub same_faults_turned : (f : EntityFault) → EntityFaultHolds k objects id (two ∷ one ∷ []) authors f ↔ EntityFaultHolds k objects id (two ∷ []) authors f
  same_faults_turned f = (
    wrong_together k objects id authors (two ∷ one ∷ []) (two ∷ []) (not_apart_turned objects one two below) (down_turned objects one two below) f,
    wrong_above k objects id authors (two ∷ one ∷ []) two (is_first objects two one) f,
  )

pub forward_operations : {Op State Row : Type 0} (k : Meaning Op State Row) (objects : Objects) (one two : Name) → IsBelow objects (two ∷ []) one → (ops : List Op) → IsOperationList k objects (one ∷ two ∷ []) ops ↔ IsOperationList k objects (two ∷ []) ops
forward_operations k objects one two below ops = operations_of_second objects one two below k ops

module _ {Op State Row : Type 0} (k : Meaning Op State Row) (objects : Objects) (id : Id) (one two : Name) (authors : List Id) (entity : Entity Op)
    (was : IsEntity k objects id (one ∷ two ∷ []) authors entity) (below : IsBelow objects (two ∷ []) one) where
  pub forward_entity : IsEntity k objects id (two ∷ []) authors (at_head entity two)
  forward_entity = record {
    valid = valid_alone k objects id authors (one ∷ two ∷ []) two (is_second objects one two) was.valid;
    id_is = was.id_is;
    heads_are = refl;
    packs = record {
      all = λ name b. was.packs.all name (under objects (one ∷ two ∷ []) two (is_second objects one two) name b);
      only = λ placed c. down objects one two below placed.commit (was.packs.only placed c);
      each = was.packs.each;
      rise = was.packs.rise;
    };
    count = was.count;
    edit = record {
      head = two;
      among = Contains-first two [];
      says = edit_of_second k objects id one two authors entity was below;
      most = λ other clock c says.
          let same : clock ≡ entity.edit = same_Some clock entity.edit (sym says ∙ ap (edit_at objects) (sym (Contains-one two other c)) ∙ edit_of_second k objects id one two authors entity was below) in
          omega (arith, same);
    };
    create = root_of_second k objects id one two authors entity was below;
  }

-- ---- the commit over both

-- its edit clock is above those of both, and above the folder's
pub time_rises : (objects : Objects) (one two : Name) (clock edit : ℕ) (time : IsMergeTime objects one two clock edit) → (time.one < edit) × (time.two < edit) × (clock < edit)
time_rises objects one two clock edit time = (omega (arith, time.is), omega (arith, time.is), omega (arith, time.is))

module _ {Op State Row : Type 0} (k : Meaning Op State Row) (laws : KeepsLaws k) (before after : Objects) (id : Id) (one two : Name) (author : Id) (authors : List Id) (clock now edit : ℕ) (entity : Entity Op)
    (was : IsEntity k before id (one ∷ two ∷ []) authors entity) (apart : AreApart before (one ∷ two ∷ []) one two) (time : IsMergeTime before one two clock edit)
    (agree : SameNeeded before after (one ∷ two ∷ [])) (node : IsNode k after (merge_node k one two author edit now)) (known : Contains authors author) where
  abbrev both : List Name
  both = one ∷ two ∷ []

  there : IsEntity k after id both authors entity
  there = entity_over k before after both agree id authors entity was

  less : (top : Name) (clock : ℕ) → Contains both top → edit_at after top ≡ Some clock → clock < edit
  less top clock_top c says =
      let rises = time_rises before one two clock edit time in
      let was_says : edit_at before top ≡ Some clock_top = sym (edit_same before after both agree top (head c)) ∙ says in
      ⊎_elim
      (λ (e : one ≡ top). let same : clock_top ≡ time.one = same_Some clock_top time.one (sym was_says ∙ ap (edit_at before) (sym e) ∙ time.says_one) in let it : clock_top < edit = omega (arith, same, rises.0) in it)
      (λ (h : Contains (two ∷ []) top). let same : clock_top ≡ time.two = same_Some clock_top time.two (sym was_says ∙ ap (edit_at before) (sym (Contains-one two top h)) ∙ time.says_two) in let it : clock_top < edit = omega (arith, same, rises.1) in it)
      (Contains-cons one (two ∷ []) top c)

  extends : Extends k after both authors entity.packs (merge_node k one two author edit now)
  extends = record {
    is = node;
    over = refl;
    above = less;
    near = λ top clock are says. absurd (omega (arith, ap length are));
    merge = λ many. refl;
    follow = λ i d within. absurd (omega (arith, within));
    once = AreDistinct-nil;
    fresh = λ placed found c old new. Contains-nil found new;
    known = known;
    few = let free = room k before id authors one two entity was apart.one_apart apart.two_apart in omega (arith, free, was.count);
  }

  pub joined_entity : IsEntity k after id (merge_name k one two author edit now ∷ []) authors (extended entity (merge_node k one two author edit now))
  joined_entity = is_extended k laws after id both authors entity (merge_node k one two author edit now) there extends
