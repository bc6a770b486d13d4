-- What the validity of an entity says of nearness, of merge commits, of operations that follow, of authors, and of room for a merge commit.
use Rattle.std.proofs.Common.{◌≡◌, ◌≢◌, inl, inr, ⊎_elim, ◌<◌, ◌≤◌, ◌+◌, ℕ, true, List, [], ◌∷◌, length, map, option_map, Contains, Some, refl, sym, ◌∙◌, ap, subst, arith}
use Rattle.std.specs.List.{slice_get}
use Rattle.std.specs.Str.{bytes_eq}
use Rattle.std.proofs.lemmas.Bool.{cases_Bool, cases_lt}
use Rattle.std.proofs.lemmas.List.{length-map}
use Rattle.std.proofs.lemmas.Option.{get_or_from_slice_get, slice_get-get_or, slice_get-map}
use Rattle.std.proofs.lemmas.Slice.Eq.{bytes_eq-Decides}
use Rattle.gb_text.specs.declared.decimal.TheConstants.{GREATEST_TIME}
use Rattle.gb_text.specs.declared.id.Id.{Id}
use Rattle.gb_text.specs.declared.id.Name.{Name}
use Rattle.git_object.specs.declared.commit.Commit.{Commit}
use Rattle.lamport.specs.declared.clock.TheConstants.{JUMP}
use Rattle.object_store.specs.Held.{Objects}
use Rattle.object_store.specs.Typed.{commit_at}
use Rattle.object_store.proofs.GrowthLemmas.{bind-some}
use Rattle.commit_walk.specs.Below.{HasCommit, IsBelow}
use Rattle.commit_walk.specs.Distinct.{AreDistinct}
use Rattle.commit_walk.specs.declared.below.TheConstants.{MOST_COMMITS}
use Rattle.commit_walk.proofs.DistinctLemmas.{Contains-cons, Contains-first, Contains-from_map, Contains-later, Contains-nil}
use Rattle.commit_pack.specs.Packs.{pack_under}
use Rattle.op_kind.specs.Meaning.{Meaning}
use Rattle.dag_entity.specs.Entities.{IsEntity}
use Rattle.dag_entity.specs.Order.{commits_of}
use Rattle.dag_entity.specs.Faults.{AreApart, EntityFaultHolds, IsValid}
use Rattle.dag_entity.specs.Nodes.{IsCommitBelow, IsNodeBelow, edit_at}
use Rattle.dag_entity.specs.declared.entity.Entity.{Entity}
use Rattle.dag_entity.specs.declared.entity.Loaded.{Loaded}
use Rattle.dag_entity.specs.declared.entity.Placed.{Placed}
use Rattle.dag_entity.specs.declared.fault.EntityFault.TheVariants as fault
use Rattle.dag_entity.proofs.LawValid.{apart}

-- ---- lists

-- an id that cannot be missing is among the ids
among_stable : (ids : List Id) (id : Id) → ((Contains ids id → ⊥) → ⊥) → Contains ids id
among_stable [] id never = absurd (never (Contains-nil id))
among_stable (i ∷ ids) id never =
    elim (cases_Bool (bytes_eq i.bytes id.bytes)) [
      | inl t ↦ subst (λ (x : Id). Contains (i ∷ ids) x) (ap (λ (bytes : List ℕ). record { bytes = bytes }) ((bytes_eq-Decides i.bytes id.bytes).0 t)) (Contains-first i ids)
      | inr f ↦ Contains-later i ids id (among_stable ids id (λ missing. never (λ c.
          ⊎_elim (λ (e : i ≡ id). let t = (bytes_eq-Decides i.bytes id.bytes).1 (ap (λ (n : Id). n.bytes) e) in cc (f, t)) missing (Contains-cons i ids id c))))
    ]

-- a list that cannot have an element has none
none_when : {X : Type 0} (xs : List X) → (0 < length xs → ⊥) → xs ≡ []
none_when [] never = refl
none_when (x ∷ xs) never = absurd (never (omega arith))

-- what stands at a place
found_at : {X : Type 0} (xs : List X) (i : ℕ) → i < length xs → (x : X) × (slice_get xs i ≡ Some x)
found_at [] i within = absurd (omega (arith, within))
found_at (x ∷ xs) i within = (_, slice_get-get_or (x ∷ xs) i x within)

-- what stands there in a list of parts
part_at : {X Y : Type 0} (f : X → Y) (xs : List X) (i : ℕ) (x : X) → slice_get xs i ≡ Some x → slice_get (map f xs) i ≡ Some (f x)
part_at f xs i x at = slice_get-map f xs i ∙ ap (option_map f) at

-- ---- heads

-- heads that are apart are so in the other order
pub apart_turned : (objects : Objects) (heads : List Name) (one two : Name) → AreApart objects heads one two → AreApart objects (two ∷ one ∷ []) two one
apart_turned objects heads one two are = record { are = refl; one_apart = are.two_apart; two_apart = are.one_apart }

module _ {Op State Row : Type 0} (k : Meaning Op State Row) (objects : Objects) (id : Id) where
  module _ (heads : List Name) (authors : List Id) where
    pub near : (high low : Name) (commit : Commit) (above beneath : ℕ) → IsValid k objects id heads authors → IsCommitBelow objects heads high commit → commit.parents ≡ low ∷ []
        → edit_at objects high ≡ Some above → edit_at objects low ≡ Some beneath → above ≤ beneath + JUMP
    unfolding EntityFaultHolds
    near high low commit above beneath valid is single says_above says_beneath =
        elim (cases_lt (beneath + JUMP) above) [
          | inl jumps ↦ absurd (valid (fault.ClockJump high low)
              (record { commit = commit; is = is; single = single; above = above; beneath = beneath; says_above = says_above; says_beneath = says_beneath; jumps = jumps }))
          | inr within ↦ within
        ]

    pub merges : (node : Loaded Op) → IsValid k objects id heads authors → IsNodeBelow k objects heads node → 2 ≤ length node.parents → node.placed.pack.ops ≡ []
    unfolding EntityFaultHolds
    merges node valid is many =
        none_when node.placed.pack.ops (λ some. valid (fault.MergeHasOperations node.placed.commit) (record { node = node; is = is; named = refl; many = many; some = some }))

    pub follow : (node : Loaded Op) (place : ℕ) (op : Op) → IsValid k objects id heads authors → IsNodeBelow k objects heads node → slice_get node.placed.pack.ops place ≡ Some op
        → (node.parents ≡ [] → place ≡ 0 → ⊥) → k.is_following op ≡ true
    unfolding EntityFaultHolds
    follow node place op valid is at later =
        elim (cases_Bool (k.is_following op)) [
          | inl good ↦ good
          | inr bad ↦ absurd (valid (fault.SecondCreate (k.common_of op).place.id) (record { node = node; is = is; place = place; op = op; at = at; named = refl; bad = bad; later = later }))
        ]

    pub known : (node : Loaded Op) → IsValid k objects id heads authors → IsNodeBelow k objects heads node → Contains authors node.placed.pack.author
    unfolding EntityFaultHolds
    known node valid is =
        among_stable authors node.placed.pack.author (λ unknown. valid (fault.AuthorUnknown node.placed.pack.author) (record { node = node; is = is; wrote = refl; unknown = unknown }))

  -- ---- room for a merge commit

  module _ (authors : List Id) (one two : Name) where
    pub clock : (head : Name) → IsValid k objects id (one ∷ two ∷ []) authors → (IsBelow objects (two ∷ []) one → ⊥) → (IsBelow objects (one ∷ []) two → ⊥)
        → Contains (one ∷ two ∷ []) head → edit_at objects head ≢ Some GREATEST_TIME
    unfolding EntityFaultHolds
    clock head valid one_apart two_apart among full =
        valid (fault.ClockFull head) (record { one = one; two = two; apart = record { are = refl; one_apart = one_apart; two_apart = two_apart }; head = among; full = full })

    module _ (entity : Entity Op) (was : IsEntity k objects id (one ∷ two ∷ []) authors entity) where
      -- no commit comes twice
      commits_once : AreDistinct (commits_of entity.packs)
      commits_once i j d before within same =
          let sized = length-map entity.packs (λ (p : Placed Op). p.commit) in
          let first = found_at entity.packs i (omega (arith, before, within, sized)) in
          let second = found_at entity.packs j (omega (arith, within, sized)) in
          let commit = λ (p : Placed Op). p.commit in
          let is_first = get_or_from_slice_get (commits_of entity.packs) i first.0.commit d (part_at commit entity.packs i first.0 first.1) in
          let is_second = get_or_from_slice_get (commits_of entity.packs) j second.0.commit d (part_at commit entity.packs j second.0 second.1) in
          apart k objects id (one ∷ two ∷ []) authors entity was i j first.0 second.0 first.1 second.1 (λ e. omega (arith, before, e)) (sym is_first ∙ same ∙ is_second)

      commit_there : (name : Name) → Contains (commits_of entity.packs) name → HasCommit objects (one ∷ two ∷ []) name
      commit_there name among =
          let at = Contains-from_map (λ (p : Placed Op). p.commit) entity.packs name among in
          let commit = bind-some (λ (c : Commit). pack_under k objects c.tree) (commit_at objects at.0.commit) at.0.pack (was.packs.each at.0 at.1) in
          record {
            below = subst (IsBelow objects (one ∷ two ∷ [])) at.2 (was.packs.only at.0 at.1);
            commit = commit.0;
            held = ap (commit_at objects) (sym at.2) ∙ commit.1;
          }

      pub room : (IsBelow objects (two ∷ []) one → ⊥) → (IsBelow objects (one ∷ []) two → ⊥) → entity.commits < MOST_COMMITS
      unfolding EntityFaultHolds
      room one_apart two_apart =
          let sized = length-map entity.packs (λ (p : Placed Op). p.commit) in
          elim (cases_lt entity.commits MOST_COMMITS) [
            | inl few ↦ few
            | inr many ↦ absurd (was.valid (fault.TooLarge (MOST_COMMITS + 1)) (inl (
              refl,
              inr (record {
                one = one;
                two = two;
                apart = record { are = refl; one_apart = one_apart; two_apart = two_apart };
                names = commits_of entity.packs;
                once = commits_once;
                many = omega (arith, many, was.count, sized);
                each = commit_there;
              }),
            )))
          ]
