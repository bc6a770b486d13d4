-- Names that are sorted, each kept once.
use Rattle.std.proofs.Common.{◌≡◌, ◌↔◌, ℕ, List, [], true, sym, subst, arith}
use Rattle.std.specs.Prelude.{Contains}
use Rattle.std.proofs.lemmas.Cmp.{nat_list_cmp_total, nat_list_eq_equiv}
use Rattle.std.proofs.lemmas.Grind.{common_steps}
use Rattle.std.proofs.lemmas.List.Filters.{dedup_is}
use Rattle.std.proofs.lemmas.List.Kept.{Contains-dedup, Contains-from_dedup, IsStrictlySortedBy-dedup}
use Rattle.std.proofs.lemmas.List.Sorted.{Contains-permutation, IsPermutation-sym}
use Rattle.std.proofs.lemmas.Slice.Eq.{bytes_eq-Decides}
use Rattle.std.specs.Cmp.Lexicographic.{slice_cmp, texts_ties}
use Rattle.std.specs.List.{dedup}
use Rattle.std.specs.List.Retain.{DiffersFromLast, IsFiltered}
use Rattle.std.specs.List.Sorted.{IsPermutation, IsSorted, IsStrictlySortedBy}
use Rattle.std.specs.Ordering.{nat_cmp}
use Rattle.std.specs.Str.{bytes_eq}

-- a sorted list without repetition rises
pub rising_once : (sorted once : List (List ℕ)) → IsSorted (slice_cmp nat_cmp) sorted
    → IsFiltered (DiffersFromLast bytes_eq) [] sorted once → IsStrictlySortedBy (slice_cmp nat_cmp) once
rising_once sorted once h kept =
    subst (IsStrictlySortedBy (slice_cmp nat_cmp)) (sym (dedup_is bytes_eq sorted once kept))
    (IsStrictlySortedBy-dedup nat_list_cmp_total texts_ties sorted h)

same_bytes : (xs ys : List ℕ) → bytes_eq xs ys ≡ true → xs ≡ ys
same_bytes xs ys h = grind (arith, common_steps, bytes_eq-Decides xs ys, h)

-- it has the names that were given
pub same_names : (given sorted once : List (List ℕ)) → IsPermutation given sorted
    → IsFiltered (DiffersFromLast bytes_eq) [] sorted once → (name : List ℕ) → Contains once name ↔ Contains given name
same_names given sorted once moved kept name =
    let e : once ≡ dedup bytes_eq sorted = dedup_is bytes_eq sorted once kept in
    let Has : List (List ℕ) → Type 0 = λ xs. Contains xs name in (
      λ h. Contains-permutation sorted given name (IsPermutation-sym given sorted moved)
          (Contains-from_dedup bytes_eq sorted name (subst Has e h)),
      λ h. subst Has (sym e)
          (Contains-dedup nat_list_eq_equiv same_bytes sorted name (Contains-permutation given sorted name moved h)),
    )
