-- What the order of packs says: which of two comes first, parents before children, and one pack more.
use Rattle.std.proofs.Common.{◌≡◌, ◌<◌, ◌≤◌, ℕ, List, [], ◌∷◌, ◌++◌, length, get_or, Contains, Some, refl, sym, ◌∙◌, ap, subst, inl, inr, arith}
use Rattle.std.specs.List.{AllByRecursion, AllPairs, slice_get}
use Rattle.std.specs.List.Sorted.{IsStrictlySortedBy}
use Rattle.std.specs.Ordering.{nat_cmp}
use Rattle.std.specs.declared.cmp.Ordering.{Ordering}
use Rattle.std.specs.declared.cmp.Ordering.TheVariants.{Less, Equal, Greater}
use Rattle.std.proofs.lemmas.Bool.{cases_eq, cases_lt, lt-ltb}
use Rattle.std.proofs.lemmas.Bool.Decides.{nat_tests}
use Rattle.std.proofs.lemmas.Cmp.{nat_list_cmp_total, tied_itself}
use Rattle.std.proofs.lemmas.Map.Keys.{Less-from_sorted}
use Rattle.std.proofs.lemmas.Option.{get_or_from_slice_get, same_Some, slice_get_within}
use Rattle.gb_text.specs.declared.id.Id.{Id}
use Rattle.gb_text.specs.declared.id.Name.{Name}
use Rattle.object_store.specs.Held.{Objects}
use Rattle.commit_walk.specs.Below.{IsParent}
use Rattle.commit_walk.proofs.DistinctLemmas.{Contains-first, Contains-later}
use Rattle.op_kind.specs.Meaning.{Meaning}
use Rattle.dag_entity.specs.Entities.{AreAllInOrder}
use Rattle.dag_entity.specs.Faults.{HasClockOrder}
use Rattle.dag_entity.specs.Order.{ParentsComeFirst, Rise, StandsBefore, compared, placed_cmp}
use Rattle.dag_entity.specs.declared.entity.Placed.{Placed}
use Rattle.dag_entity.proofs.JudgeLemmas.{Contains-at}
use Rattle.dag_entity.proofs.LawValid.{edit_of_pack}

-- ---- two packs

-- a text is level with itself
level : (text : List ℕ) → compared text text ≡ Equal
level text = tied_itself nat_list_cmp_total text

module _ {Op : Type 0} (one other : Placed Op) (less : placed_cmp one other ≡ Less) where
  falls : other.pack.edit < one.pack.edit → ⊥
  falls lt =
      let greater : nat_cmp one.pack.edit other.pack.edit ≡ Greater = grind (arith, nat_tests) in
      let no : Greater ≡ Less = rw greater at less in
      cc no

  same_clock : one.pack.edit ≡ other.pack.edit → nat_cmp one.pack.edit other.pack.edit ≡ Equal
  same_clock is = grind (arith, nat_tests)

  id_falls : one.pack.edit ≡ other.pack.edit → compared one.pack.id.bytes other.pack.id.bytes ≡ Greater → ⊥
  id_falls is greater =
      let no : Greater ≡ Less = rw (same_clock is) at (rw greater at less) in
      cc no

  by_name : one.pack.edit ≡ other.pack.edit → one.pack.id ≡ other.pack.id → compared one.commit.bytes other.commit.bytes ≡ Less
  by_name is same =
      let level_ids : compared one.pack.id.bytes other.pack.id.bytes ≡ Equal = subst (λ (id : Id). compared one.pack.id.bytes id.bytes ≡ Equal) same (level one.pack.id.bytes) in
      rw level_ids at (rw (same_clock is) at less)

  pub stands_before : StandsBefore one other
  stands_before = record { clocks = omega (arith, falls); ids = id_falls; names = by_name }

-- a lesser clock comes first
earlier : {Op : Type 0} (a b : Placed Op) → a.pack.edit < b.pack.edit → placed_cmp a b ≡ Less
earlier a b l = rw (lt-ltb a.pack.edit b.pack.edit l) refl

-- ---- packs in order

pub all_stand_before : {Op : Type 0} (packs : List (Placed Op)) → Rise packs → AllPairs StandsBefore packs
all_stand_before packs rise i j d before inside =
    stands_before (get_or packs i d) (get_or packs j d) (Less-from_sorted placed_cmp packs i j d rise before inside)

each_push : {X : Type 0} (P : X → Type 0) (xs : List X) (y : X) → AllByRecursion P xs → P y → AllByRecursion P (xs ++ y ∷ [])
each_push P [] y all p = (p, tt)
each_push P (x ∷ xs) y all p = (all.0, each_push P xs y all.1 p)

strict_push : {X : Type 0} (cmp : X → X → Ordering) (xs : List X) (y : X) → IsStrictlySortedBy cmp xs → ((x : X) → Contains xs x → cmp x y ≡ Less) → IsStrictlySortedBy cmp (xs ++ y ∷ [])
unfolding IsStrictlySortedBy
strict_push cmp [] y s last = (tt, tt)
strict_push cmp (x ∷ xs) y s last =
    (each_push (λ z. cmp x z ≡ Less) xs y s.0 (last x (Contains-first x xs)), strict_push cmp xs y s.1 (λ z c. last z (Contains-later x xs z c)))

-- a pack whose clock is above all others comes last
pub later_last : {Op : Type 0} (packs : List (Placed Op)) (placed : Placed Op) → Rise packs → ((other : Placed Op) → Contains packs other → other.pack.edit < placed.pack.edit)
    → Rise (packs ++ placed ∷ [])
later_last packs placed rise above = strict_push placed_cmp packs placed rise (λ other c. earlier other placed (above other c))

-- the clock of an earlier pack is not greater
edit_rises : {Op : Type 0} (packs : List (Placed Op)) (i j : ℕ) (one other : Placed Op) → Rise packs → slice_get packs i ≡ Some one → slice_get packs j ≡ Some other
    → i ≤ j → one.pack.edit ≤ other.pack.edit
edit_rises packs i j one other rise at_one at_other le =
    elim (cases_eq i j) [
      | inl e ↦
          let same = same_Some one other (sym at_one ∙ ap (slice_get packs) e ∙ at_other) in
          omega (arith, ap (λ p. p.pack.edit) same)
      | inr differ ↦
          let before = all_stand_before packs rise i j one (omega (arith, le, differ)) (slice_get_within packs j other at_other) in
          let first = get_or_from_slice_get packs i one one at_one in
          let second = get_or_from_slice_get packs j other one at_other in
          omega (arith, before.clocks, ap (λ p. p.pack.edit) first, ap (λ p. p.pack.edit) second)
    ]

-- where no clock falls below a parent's, parents stand before children
pub parents_first : {Op State Row : Type 0} (k : Meaning Op State Row) (objects : Objects) (heads : List Name) (packs : List (Placed Op)) → AreAllInOrder k objects heads packs
    → ((high low : Name) → HasClockOrder objects heads high low → ⊥) → ParentsComeFirst objects packs
parents_first k objects heads packs are rise i j child low at_child at_low names =
    elim (cases_lt j i) [
      | inl lt ↦ lt
      | inr ge ↦
          let has_child = Contains-at packs i child at_child in
          let has_low = Contains-at packs j low at_low in
          absurd (rise child.commit low.commit (record {
            below = are.only child has_child;
            parent = names;
            above = child.pack.edit;
            beneath = low.pack.edit;
            says_above = edit_of_pack k objects child.commit child.pack (are.each child has_child);
            says_beneath = edit_of_pack k objects low.commit low.pack (are.each low has_low);
            falls = edit_rises packs i j child low are.rise at_child at_low ge;
          }))
    ]
