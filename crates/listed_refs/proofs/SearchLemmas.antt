-- A binary search among keys that rise finds the one that is asked for.
use Rattle.std.proofs.Common.{◌≡◌, ◌≤◌, ◌<◌, ⊎_elim, ℕ, true, List, [], length, map, get_or, Contains, Ok, Err, refl, sym, ◌∙◌, ap, arith}
use Rattle.std.proofs.lemmas.Cmp.{nat_list_cmp_total}
use Rattle.std.proofs.lemmas.List.{get_or-map, length-map}
use Rattle.std.proofs.lemmas.Map.Keys.{Less-from_sorted}
use Rattle.std.proofs.lemmas.Map.Lookups.{exact_bytes}
use Rattle.std.proofs.lemmas.Map.Text.{is_eq-slice_cmp}
use Rattle.std.proofs.lemmas.Bool.{cases_eq, cases_order}
use Rattle.std.proofs.lemmas.Slice.Eq.{bytes_eq-Decides}
use Rattle.std.specs.Cmp.Lexicographic.{slice_cmp}
use Rattle.std.specs.List.Sorted.{IsBinarySearchResult, IsNonDecreasingBy, IsStrictlySortedBy}
use Rattle.std.specs.Ordering.{is_eq, nat_cmp, ordering_index, ordering_reverse}
use Rattle.std.specs.declared.cmp.Ordering.{Ordering}
use Rattle.std.specs.declared.cmp.Ordering.TheVariants.{Less, Equal, Greater}

abbrev cmp : List ℕ → List ℕ → Ordering
cmp one other = slice_cmp nat_cmp one other

-- what is below stands no higher to a third
higher : (key one other : List ℕ) → cmp one other ≡ Less → ordering_index (cmp one key) ≤ ordering_index (cmp other key)
higher key one other less = by (cmp one key) (cmp other key) refl refl
  where
    by : (p o : Ordering) → cmp one key ≡ p → cmp other key ≡ o → ordering_index p ≤ ordering_index o
    by Less o at to = omega arith
    by Equal Less at to = (let no : Less ≡ Equal = sym (nat_list_cmp_total.trans one other key less to) ∙ at in absurd cc)
    by Equal Equal at to = omega arith
    by Equal Greater at to = omega arith
    by Greater Less at to = (let no : Less ≡ Greater = sym (nat_list_cmp_total.trans one other key less to) ∙ at in absurd cc)
    by Greater Equal at to =
        let turned : cmp one key ≡ cmp one other = nat_list_cmp_total.antisymm one key ∙ ap ordering_reverse (sym (nat_list_cmp_total.congr other key one to)) ∙ sym (nat_list_cmp_total.antisymm one other) in
        let no : Less ≡ Greater = sym less ∙ sym turned ∙ at in
        absurd cc
    by Greater Greater at to = omega arith

-- no key is below or above itself
pub is_itself : (key one : List ℕ) → one ≡ key → is_eq (cmp one key) ≡ true
is_itself key one same = is_eq-slice_cmp one key ∙ (bytes_eq-Decides one key).1 same

module _ {X : Type 0} (key_of : X → List ℕ) (key : List ℕ) where
  rises : (xs : List X) → IsStrictlySortedBy (slice_cmp nat_cmp) (map key_of xs) → IsNonDecreasingBy (λ x. ordering_index (cmp (key_of x) key)) xs
  rises xs sorted i j d le within = ⊎_elim (λ same. omega (arith, ap (λ k. ordering_index (cmp (key_of (get_or xs k d)) key)) same)) (λ differ. apart (omega arith)) (cases_eq i j)
    where
      apart : i < j → ordering_index (cmp (key_of (get_or xs i d)) key) ≤ ordering_index (cmp (key_of (get_or xs j d)) key)
      apart lt =
          let size : length (map key_of xs) ≡ length xs = length-map xs key_of in
          let first : get_or (map key_of xs) i [] ≡ key_of (get_or xs i d) = get_or-map key_of xs i d [] (omega arith) in
          let second : get_or (map key_of xs) j [] ≡ key_of (get_or xs j d) = get_or-map key_of xs j d [] within in
          higher key (key_of (get_or xs i d)) (key_of (get_or xs j d))
          (sym (ap (λ k. cmp k (key_of (get_or xs j d))) first) ∙ sym (ap (cmp (get_or (map key_of xs) i [])) second) ∙ Less-from_sorted (slice_cmp nat_cmp) (map key_of xs) i j [] sorted lt (omega arith))

  -- what is found has the key
  pub found_is : (xs : List X) (i : ℕ) (d : X) → IsBinarySearchResult (λ x. cmp (key_of x) key) xs (Ok i) → key_of (get_or xs i d) ≡ key
  found_is xs i d found = exact_bytes (key_of (get_or xs i d)) key (found d)

  -- where none is found, none has the key
  pub none_is : (xs : List X) (i : ℕ) → IsStrictlySortedBy (slice_cmp nat_cmp) (map key_of xs) → IsBinarySearchResult (λ x. cmp (key_of x) key) xs (Err i) → (x : X) → Contains xs x → key_of x ≡ key → ⊥
  none_is xs i sorted missed x (k, within, is) same =
      let parts = missed (rises xs sorted) in
      let itself : is_eq (cmp (key_of (get_or xs k x)) key) ≡ true = is_itself key (key_of (get_or xs k x)) (ap key_of is ∙ same) in
      ⊎_elim
      (λ at. absurd (cc (itself, parts.1 k x (omega (arith, at)) within)))
      (λ apart. ⊎_elim
      (λ below. absurd (cc (itself, parts.0 k x (omega arith) below)))
      (λ above. absurd (cc (itself, parts.1 k x (omega arith) within)))
      apart)
      (cases_order k i)
