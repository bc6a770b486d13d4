-- The first turn of whose entity something is so, and lists of refs and of ids, which are determined.
use Rattle.std.proofs.Common.{◌≡◌, inl, inr, ℕ, List, [], ◌∷◌, ◌++◌, map, Contains, Option, Some, None, refl, sym, ◌∙◌, ap, subst}
use Rattle.std.specs.Cmp.Lexicographic.{slice_cmp}
use Rattle.std.specs.List.{AllByRecursion}
use Rattle.std.specs.List.Sorted.{IsStrictlySortedBy}
use Rattle.std.specs.Ordering.{nat_cmp}
use Rattle.std.specs.declared.cmp.Ordering.TheVariants.{Less}
use Rattle.std.proofs.lemmas.Cmp.{nat_list_cmp_total}
use Rattle.std.proofs.lemmas.List.{map-append}
use Rattle.std.proofs.lemmas.List.Elements.{All-contains, All-from_recursion, Contains-append_cases, Contains-append_right}
use Rattle.gb_text.specs.Digits.{IsId}
use Rattle.gb_text.specs.declared.id.Id.{Id}
use Rattle.gb_text.specs.declared.id.Name.{Name}
use Rattle.gb_text.proofs.SortedLemmas.{same_elements}
use Rattle.gb_store.specs.Files.{Files}
use Rattle.object_batch.proofs.ClashLemmas.{Contains-cons_cases, Contains-first, Contains-later}
use Rattle.ref_store.specs.Refs.{Bad, Head}
use Rattle.repo_state.specs.Listed.{AreRefs, ref_with}
use Rattle.repo_state.specs.Sides.{AreIds, IsBefore, IsFirst, head_at}
use Rattle.repo_state.specs.declared.refs.EntityRef.{EntityRef}
use Rattle.repo_state.specs.declared.side.Side.{Side}
use Rattle.repo_state.proofs.ListingLemmas.{Contains-from_map, Contains-map, not_before_itself, not_both_before, one_first}
use Rattle.sync_steps.specs.declared.line.EntityWord.{EntityWord}
use Rattle.sync_steps.specs.declared.line.EntityWord.TheVariants as word
use Rattle.refusal_causes.specs.TurnCauses.{IsFirstTurn}

-- ---- what a ref that stands has

pub some_head : (head : Option Name) (name : Name) → ref_with head ≡ Head name → head ≡ Some name
some_head None name e = absurd (cc e)
some_head (Some other) name e = let same : other ≡ name = cc e in ap Some same

pub no_head : (head : Option Name) → ref_with head ≡ Bad → head ≡ None
no_head None e = refl
no_head (Some name) e = absurd (cc e)

-- ---- the order of refs

-- in a list that ascends what stands behind is greater
behind : (xs : List (List ℕ)) (x : List ℕ) (ys : List (List ℕ)) → IsStrictlySortedBy (slice_cmp nat_cmp) (xs ++ x ∷ ys) → AllByRecursion (λ y. slice_cmp nat_cmp x y ≡ Less) ys
unfolding IsStrictlySortedBy
behind [] x ys rising = rising.0
behind (z ∷ xs) x ys rising = behind xs x ys rising.1

abbrev bytes_of : EntityRef → List ℕ
bytes_of e = e.id.bytes

module _ (files : Files) (folder : List ℕ) (of : Side) (refs : List EntityRef) (are : AreRefs files folder of refs) (done : List EntityRef) (at : EntityRef) (rest : List EntityRef) (is : refs ≡ done ++ at ∷ rest) where
  -- an entity that stands behind some is one of the refs
  pub at_stands : IsId at.id × (head_at files folder of at.id ≡ ref_with at.head)
  at_stands = (are.members at).0 (subst (λ (es : List EntityRef). Contains es at) (sym is) (Contains-append_right done (at ∷ rest) at (Contains-first at rest)))

  later_is_greater : (e : EntityRef) → Contains rest e → slice_cmp nat_cmp at.id.bytes e.id.bytes ≡ Less
  later_is_greater e has =
      let rising : IsStrictlySortedBy (slice_cmp nat_cmp) (map bytes_of done ++ bytes_of at ∷ map bytes_of rest) =
      subst (IsStrictlySortedBy (slice_cmp nat_cmp)) (ap (map bytes_of) is ∙ map-append bytes_of done (at ∷ rest)) are.rising in
      All-contains (λ y. slice_cmp nat_cmp at.id.bytes y ≡ Less) (map bytes_of rest) (bytes_of e)
      (All-from_recursion (λ y. slice_cmp nat_cmp at.id.bytes y ≡ Less) (map bytes_of rest) (behind (map bytes_of done) (bytes_of at) (map bytes_of rest) rising))
      (Contains-map bytes_of rest e has)

  not_before : (e : EntityRef) → Contains (at ∷ rest) e → IsBefore e.id at.id → ⊥
  not_before e has before = elim (Contains-cons_cases at rest e has) [
    | inl same ↦ not_before_itself at.id.bytes (subst (λ (x : EntityRef). slice_cmp nat_cmp x.id.bytes at.id.bytes ≡ Less) (sym same) before)
    | inr later ↦ not_both_before at.id.bytes e.id.bytes (later_is_greater e later) before
  ]

  -- where something is so of it that is not so of those before it, and only of refs that stand, it is the first
  pub first_at : (IsSo : Id → Type 0) → ((id : Id) → IsSo id → (head : Option Name) × (head_at files folder of id ≡ ref_with head)) → IsSo at.id → ((e : EntityRef) → Contains done e → IsSo e.id → ⊥)
      → IsFirst IsSo at.id
  first_at IsSo stands so none = record { is_id = at_stands.0; is_so = so; none_before = none_sooner }
    where
      none_sooner : (other : Id) → IsId other → IsSo other → IsBefore other at.id → ⊥
      none_sooner other is_id other_so before =
          let found = stands other other_so in
          let e : EntityRef = record { id = other; head = found.0 } in
          let has : Contains (done ++ at ∷ rest) e = subst (λ (es : List EntityRef). Contains es e) is ((are.members e).1 (is_id, found.1)) in
          elim (Contains-append_cases done (at ∷ rest) e has) [
            | inl sooner ↦ none e sooner other_so
            | inr later ↦ not_before e later before
          ]

-- ---- one first turn

pub one_first_turn : (IsSo : EntityWord → Id → Type 0) (word other : EntityWord) (id twin : Id) → IsFirstTurn IsSo word id → IsFirstTurn IsSo other twin → (word ≡ other) × (id ≡ twin)
one_first_turn IsSo word.Identity word.Identity id twin one two = (refl, one_first (IsSo word.Identity) id twin one two)
one_first_turn IsSo word.Identity word.Bug id twin one two = absurd (two.0 id one.is_id one.is_so)
one_first_turn IsSo word.Bug word.Identity id twin one two = absurd (one.0 twin two.is_id two.is_so)
one_first_turn IsSo word.Bug word.Bug id twin one two = (refl, one_first (IsSo word.Bug) id twin one.1 two.1)

-- ---- lists that ascend

module _ {A : Type 0} (key : A → List ℕ) where
  entries_same : (xs ys : List A) → ((x y : A) → Contains xs x → Contains ys y → key x ≡ key y → x ≡ y) → map key xs ≡ map key ys → xs ≡ ys
  entries_same [] [] one e = refl
  entries_same [] (y ∷ ys) one e = absurd (cc e)
  entries_same (x ∷ xs) [] one e = absurd (cc e)
  entries_same (x ∷ xs) (y ∷ ys) one e =
      let first : key x ≡ key y = cc e in
      let rest : map key xs ≡ map key ys = cc e in
      let is = one x y (Contains-first x xs) (Contains-first y ys) first in
      let are = entries_same xs ys (λ a b c d. one a b (Contains-later x xs a c) (Contains-later y ys b d)) rest in
      λ i. is i ∷ are i

  -- lists with the same elements, each known by its key, are one
  sorted_same : (xs ys : List A) → IsStrictlySortedBy (slice_cmp nat_cmp) (map key xs) → IsStrictlySortedBy (slice_cmp nat_cmp) (map key ys) → ((x : A) → Contains xs x → Contains ys x) → ((y : A) → Contains ys y → Contains xs y)
      → ((x y : A) → Contains xs x → Contains ys y → key x ≡ key y → x ≡ y) → xs ≡ ys
  sorted_same xs ys rising also there back one = entries_same xs ys one (same_elements nat_list_cmp_total (map key xs) (map key ys) rising also (over xs ys there) (over ys xs back))
    where
      over : (early late : List A) → ((x : A) → Contains early x → Contains late x) → (z : List ℕ) → Contains (map key early) z → Contains (map key late) z
      over early late goes z c =
          let from = Contains-from_map key early z c in
          subst (Contains (map key late)) from.2 (Contains-map key late from.0 (goes from.0 from.1))

same_head : (one two : Option Name) → ref_with one ≡ ref_with two → one ≡ two
same_head None None e = refl
same_head None (Some name) e = absurd (cc e)
same_head (Some name) None e = absurd (cc e)
same_head (Some name) (Some other) e = let is : name ≡ other = cc e in ap Some is

module _ (files : Files) (folder : List ℕ) (of : Side) where
  -- the refs of a side are one list
  pub refs_same : (refs others : List EntityRef) → AreRefs files folder of refs → AreRefs files folder of others → refs ≡ others
  refs_same refs others are also =
      sorted_same bytes_of refs others are.rising also.rising (λ e c. (also.members e).1 ((are.members e).0 c)) (λ e c. (are.members e).1 ((also.members e).0 c)) one
    where
      one : (x y : EntityRef) → Contains refs x → Contains others y → bytes_of x ≡ bytes_of y → x ≡ y
      one x y c d same =
          let id : x.id ≡ y.id = λ i. record { bytes = same i } in
          let head : x.head ≡ y.head = same_head x.head y.head (sym ((are.members x).0 c).1 ∙ ap (λ (it : Id). head_at files folder of it) id ∙ ((also.members y).0 d).1) in
          λ i. record { id = id i; head = head i }

  -- and so are its ids
  pub ids_same : (ids others : List Id) → AreIds files folder of ids → AreIds files folder of others → ids ≡ others
  ids_same ids others are also =
      sorted_same (λ (id : Id). id.bytes) ids others are.rising also.rising (λ id c. (also.members id).1 ((are.members id).0 c)) (λ id c. (are.members id).1 ((also.members id).0 c))
      (λ x y c d same. λ i. record { bytes = same i })
