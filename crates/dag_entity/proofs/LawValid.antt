-- What the validity of an entity says of its commits: their root, their clocks, their operations, and their packs.
use Rattle.std.proofs.Common.{◌≡◌, ◌≢◌, ◌⊎◌, inl, inr, ⊎_elim, ◌<◌, ◌+◌, ℕ, List, [], ◌∷◌, ◌++◌, length, map, take, drop, get_or, Contains, Some, option_and_then, refl, sym, ◌∙◌, ap, subst, arith}
use Rattle.std.specs.List.{slice_get}
use Rattle.std.specs.Str.{bytes_eq}
use Rattle.std.proofs.lemmas.Bool.{cases_Bool, cases_lt, cases_order}
use Rattle.std.proofs.lemmas.List.{drop_more, get_or-take, length-take-le, map-append, take-append-drop}
use Rattle.std.proofs.lemmas.List.Elements.{Contains-get_or}
use Rattle.std.proofs.lemmas.Option.{get_or_from_slice_get, same_Some, slice_get_within}
use Rattle.std.proofs.lemmas.Slice.Eq.{bytes_eq-Decides}
use Rattle.gb_text.specs.declared.id.Id.{Id}
use Rattle.gb_text.specs.declared.id.Name.{Name}
use Rattle.gb_text.proofs.SortedLemmas.{distinct_elements}
use Rattle.git_object.specs.declared.commit.Commit.{Commit}
use Rattle.object_store.specs.Held.{Objects}
use Rattle.object_store.specs.Typed.{commit_at, tree_at}
use Rattle.object_store.proofs.GrowthLemmas.{bind-some}
use Rattle.commit_walk.specs.Below.{IsBelow, IsParent, parent}
use Rattle.commit_walk.specs.Distinct.{AreDistinct}
use Rattle.commit_walk.proofs.DistinctLemmas.{Contains-from_map}
use Rattle.commit_pack.specs.Packs.{pack_under}
use Rattle.commit_pack.specs.declared.fault.CommitPackFault.{CommitPackFault}
use Rattle.commit_pack.proofs.LawLemmas.{not_both, pack_edit, pack_or_fault}
use Rattle.op_kind.specs.Meaning.{KeepsLaws, Meaning}
use Rattle.op_pack.specs.Heads.{edit_clock_of}
use Rattle.op_pack.specs.declared.pack.Pack.{Pack}
use Rattle.dag_entity.specs.Entities.{IsEntity, ops_in}
use Rattle.dag_entity.specs.Extending.{BeginsOnce, ClockRises}
use Rattle.dag_entity.specs.Faults.{EntityFaultHolds, IsRootCommit, IsRootNode, MayNotOpen}
use Rattle.dag_entity.specs.Judging.{IsRepeated, OpensWell, all_ids}
use Rattle.dag_entity.specs.Nodes.{HasPackFault, IsCommitBelow, IsNode, IsNodeBelow, edit_at, ids_of, pack_at}
use Rattle.dag_entity.specs.declared.entity.Entity.{Entity}
use Rattle.dag_entity.specs.declared.entity.Loaded.{Loaded}
use Rattle.dag_entity.specs.declared.entity.Placed.{Placed}
use Rattle.dag_entity.specs.declared.fault.EntityFault.TheVariants as fault
use Rattle.dag_entity.proofs.JudgeLemmas.{Contains-at, RepeatsInOne, RepeatsInTwo, repeated_parts}
use Rattle.dag_entity.proofs.OrderLemmas.{placed_total}

-- ---- lists and bytes

-- no element of a list without repetition stands at two places
pub one_place : {X : Type 0} (xs : List X) (x : X) (i j : ℕ) → AreDistinct xs → slice_get xs i ≡ Some x → slice_get xs j ≡ Some x → i ≢ j → ⊥
one_place xs x i j once at_i at_j differ =
    let same = get_or_from_slice_get xs i x x at_i ∙ sym (get_or_from_slice_get xs j x x at_j) in
    elim (cases_order i j) [
      | inl e ↦ differ e
      | inr (inl below) ↦ once i j x below (slice_get_within xs j x at_j) same
      | inr (inr above) ↦ once j i x above (slice_get_within xs i x at_i) (sym same)
    ]

-- a list in which nothing is repeated is without repetition
distinct_when : (ids : List Id) → ((i : Id) → IsRepeated ids i → ⊥) → AreDistinct ids
distinct_when ids never i j d before within same =
    let first : get_or (take j ids) i d ≡ get_or ids j d = get_or-take j ids i d before ∙ same in
    let inside : i < length (take j ids) = omega (arith, before, length-take-le j ids (omega (arith, within))) in
    never (get_or ids j d) (record {
      front = take j ids;
      rest = drop (j + 1) ids;
      is = sym (ap (λ (rest : List Id). take j ids ++ rest) (sym (drop_more ids j d within)) ∙ take-append-drop j ids);
      again = subst (Contains (take j ids)) first (Contains-get_or (take j ids) i d inside);
    })

-- names and ids that cannot differ are the same
pub name_stable : (a b : Name) → (a ≢ b → ⊥) → a ≡ b
name_stable a b never =
    elim (cases_Bool (bytes_eq a.bytes b.bytes)) [
      | inl t ↦ ap (λ (bytes : List ℕ). record { bytes = bytes }) ((bytes_eq-Decides a.bytes b.bytes).0 t)
      | inr f ↦ absurd (never (λ e. let t = (bytes_eq-Decides a.bytes b.bytes).1 (ap (λ (n : Name). n.bytes) e) in cc (f, t)))
    ]

id_stable : (a b : Id) → (a ≢ b → ⊥) → a ≡ b
id_stable a b never =
    elim (cases_Bool (bytes_eq a.bytes b.bytes)) [
      | inl t ↦ ap (λ (bytes : List ℕ). record { bytes = bytes }) ((bytes_eq-Decides a.bytes b.bytes).0 t)
      | inr f ↦ absurd (never (λ e. let t = (bytes_eq-Decides a.bytes b.bytes).1 (ap (λ (n : Id). n.bytes) e) in cc (f, t)))
    ]

module _ {Op State Row : Type 0} (k : Meaning Op State Row) (objects : Objects) where
  -- the edit clock of a commit is its pack's
  pub edit_of_pack : (name : Name) (pack : Pack Op) → pack_at k objects name ≡ Some pack → edit_at objects name ≡ Some pack.edit
  edit_of_pack name pack has =
      let commit = bind-some (λ (c : Commit). pack_under k objects c.tree) (commit_at objects name) pack has in
      ap (option_and_then (λ (c : Commit). option_and_then edit_clock_of (tree_at objects c.tree))) commit.1 ∙ pack_edit k objects commit.0.tree pack commit.2

  pub pack_of_node : (node : Loaded Op) → IsNode k objects node → pack_at k objects node.placed.commit ≡ Some node.placed.pack
  pack_of_node node is = ap (option_and_then (λ (c : Commit). pack_under k objects c.tree)) is.held ∙ is.pack

module _ {Op State Row : Type 0} (k : Meaning Op State Row) where
  -- the ids of packs are those of their operations
  ids_are : (packs : List (Placed Op)) → all_ids k packs ≡ map (λ (op : Op). (k.common_of op).place.id) (ops_in k packs)
  ids_are [] = refl
  ids_are (p ∷ ps) = ap (λ (l : List Id). ids_of k p.pack ++ l) (ids_are ps) ∙ sym (map-append (λ (op : Op). (k.common_of op).place.id) p.pack.ops (ops_in k ps))

module _ {Op State Row : Type 0} (k : Meaning Op State Row) (objects : Objects) (id : Id) (heads : List Name) (authors : List Id) (entity : Entity Op) (was : IsEntity k objects id heads authors entity) where
  -- ---- edit clocks

  pub has_edit : (name : Name) → IsBelow objects heads name → (edit : ℕ) × (edit_at objects name ≡ Some edit)
  has_edit name b =
      let at = Contains-from_map (λ (p : Placed Op). p.commit) entity.packs name (was.packs.all name b) in
      (at.0.pack.edit, ap (edit_at objects) (sym at.2) ∙ edit_of_pack k objects at.0.commit at.0.pack (was.packs.each at.0 at.1))

  pub clocks_rise : (high low : Name) → IsBelow objects heads high → IsParent objects high low → ClockRises objects high low
  unfolding EntityFaultHolds
  clocks_rise high low b p =
      let above = has_edit high b in
      let beneath = has_edit low (parent b p) in
      record {
        above = above.0;
        beneath = beneath.0;
        says_above = above.1;
        says_beneath = beneath.1;
        rises = elim (cases_lt beneath.0 above.0) [
          | inl l ↦ l
          | inr falls ↦ absurd (was.valid (fault.ClockOrder high low) (record { below = b; parent = p; above = above.0; beneath = beneath.0; says_above = above.1; says_beneath = beneath.1; falls = falls }))
        ];
      }

  -- ---- the root

  module _ (root : Loaded Op) (is : IsRootNode k objects heads root) where
    root_only : (name : Name) → IsRootCommit objects heads name → name ≡ root.placed.commit
    unfolding EntityFaultHolds
    root_only name one = name_stable name root.placed.commit (λ differ.
        was.valid (fault.SecondRoot name) (record {
          one = one;
          other = root.placed.commit;
          two = record { commit = is.is.is.commit; is = record { below = is.is.below; held = is.is.is.held }; root = sym is.is.is.parents ∙ is.root };
          differ = differ;
        }))

    opens_with : (create : ℕ) → root.placed.pack.create ≡ Some create → (ops : List Op) → root.placed.pack.ops ≡ ops → OpensWell k id root.placed.pack create
    unfolding EntityFaultHolds
    opens_with create says [] e = absurd (was.valid fault.FirstNotCreate (record { node = root; is = is; bad = subst (MayNotOpen k) (sym e) tt }))
    opens_with create says (op ∷ ops) e = record {
      says = says;
      first = op;
      rest = ops;
      begins = e;
      opening = elim (cases_Bool (k.is_opening op)) [
        | inl good ↦ good
        | inr bad ↦ absurd (was.valid fault.FirstNotCreate (record { node = root; is = is; bad = subst (MayNotOpen k) (sym e) bad }))
      ];
      id_is = id_stable (k.common_of op).place.id id (λ wrong.
          was.valid (fault.WrongId (k.common_of op).place.id)
          (record { node = root; is = is; first = ap (λ (l : List Op). slice_get (map (λ (o : Op). (k.common_of o).place.id) l) 0) e; wrong = wrong }));
    }

  pub begins_once : BeginsOnce k objects heads id entity.create
  begins_once =
      let root = was.create.node in
      record { root = root; is = was.create.is; only = root_only root was.create.is; opens = opens_with root was.create.is entity.create was.create.says root.placed.pack.ops refl }

  -- ---- operations

  -- the node of a pack
  node_among : (placed : Placed Op) → Contains entity.packs placed → (node : Loaded Op) × IsNodeBelow k objects heads node × (node.placed ≡ placed)
  node_among placed c =
      let commit = bind-some (λ (c : Commit). pack_under k objects c.tree) (commit_at objects placed.commit) placed.pack (was.packs.each placed c) in
      (record { parents = commit.0.parents; placed = placed }, record { below = was.packs.only placed c; is = record { commit = commit.0; held = commit.1; parents = refl; pack = commit.2 } }, refl)

  no_repeat_in_one : (i : Id) → RepeatsInOne k entity.packs i → ⊥
  unfolding EntityFaultHolds
  no_repeat_in_one i r =
      let node = node_among r.placed r.among in
      was.valid (fault.RepeatedOperation i) (inl (record {
        node = node.0;
        is = node.1;
        one = r.one;
        two = r.two;
        differ = r.differ;
        at_one = ap (λ (p : Placed Op). slice_get (ids_of k p.pack) r.one) node.2 ∙ r.at_one;
        at_two = ap (λ (p : Placed Op). slice_get (ids_of k p.pack) r.two) node.2 ∙ r.at_two;
      }))

  -- packs at two places are those of two commits
  pub apart : (i j : ℕ) (one two : Placed Op) → slice_get entity.packs i ≡ Some one → slice_get entity.packs j ≡ Some two → i ≢ j → one.commit ≢ two.commit
  apart i j one two at_one at_two differ same =
      let has_one = was.packs.each one (Contains-at entity.packs i one at_one) in
      let has_two = was.packs.each two (Contains-at entity.packs j two at_two) in
      let pack : one.pack ≡ two.pack = same_Some one.pack two.pack (sym has_one ∙ ap (pack_at k objects) same ∙ has_two) in
      let all : one ≡ two = grind (arith, same, pack) in
      one_place entity.packs one i j (distinct_elements placed_total entity.packs was.packs.rise) at_one (at_two ∙ ap Some (sym all)) differ

  no_repeat_in_two : (i : Id) → RepeatsInTwo k entity.packs i → ⊥
  unfolding EntityFaultHolds
  no_repeat_in_two i r =
      let one = node_among r.one (Contains-at entity.packs r.first r.one r.at_first) in
      let two = node_among r.two (Contains-at entity.packs r.second r.two r.at_second) in
      was.valid (fault.RepeatedOperation i) (inr (record {
        one = one.0;
        two = two.0;
        is_one = one.1;
        is_two = two.1;
        differ = λ same. apart r.first r.second r.one r.two r.at_first r.at_second r.differ (ap (λ (p : Placed Op). p.commit) (sym one.2) ∙ same ∙ ap (λ (p : Placed Op). p.commit) two.2);
        in_one = subst (λ (p : Placed Op). Contains (ids_of k p.pack) i) (sym one.2) r.in_one;
        in_two = subst (λ (p : Placed Op). Contains (ids_of k p.pack) i) (sym two.2) r.in_two;
      }))

  pub operations_once : AreDistinct (map (λ (op : Op). (k.common_of op).place.id) (ops_in k entity.packs))
  operations_once =
      subst AreDistinct (ids_are k entity.packs) (distinct_when (all_ids k entity.packs) (λ i r.
      ⊎_elim (λ (one : RepeatsInOne k entity.packs i). no_repeat_in_one i one) (λ (two : RepeatsInTwo k entity.packs i). no_repeat_in_two i two) (repeated_parts k entity.packs i r)))

-- ---- packs

module _ {Op State Row : Type 0} (k : Meaning Op State Row) (laws : KeepsLaws k) (objects : Objects) (heads : List Name) (name : Name) where
  -- a commit below has a pack or a fault
  pub below_pack_or_fault : (commit : Commit) → IsCommitBelow objects heads name commit → ((pack : Pack Op) × (pack_at k objects name ≡ Some pack)) ⊎ ((f : CommitPackFault) × HasPackFault k objects heads name f)
  below_pack_or_fault commit is =
      elim (pack_or_fault k objects commit.tree laws) [
        | inl found ↦ inl (found.0, ap (option_and_then (λ (c : Commit). pack_under k objects c.tree)) is.held ∙ found.1)
        | inr fails ↦ inr (fails.0, record { commit = commit; is = is; holds = fails.1 })
      ]

  -- and never both
  pub below_not_both : (pack : Pack Op) (f : CommitPackFault) → pack_at k objects name ≡ Some pack → HasPackFault k objects heads name f → ⊥
  below_not_both pack f has h =
      not_both k objects h.commit.tree laws pack f (ap (option_and_then (λ (c : Commit). pack_under k objects c.tree)) (sym h.is.held) ∙ has) h.holds
