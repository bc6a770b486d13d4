-- The order of packs: what a sort by ranks gives, and that it is the only one.
use Rattle.std.proofs.Common.{◌≡◌, ◌↔◌, inl, inr, ◌<◌, Bool, false, List, [], ◌∷◌, ℕ, zero, suc, length, get_or, Contains, IsPermutation, refl, sym, ◌∙◌, ap, arith}
use Rattle.std.specs.Bool.{Decides}
use Rattle.std.specs.Cmp.{IsTotalOrder}
use Rattle.std.specs.List.{AllPairs}
use Rattle.std.specs.List.Sorted.{IsSorted, IsStrictlySortedBy}
use Rattle.std.specs.Ordering.{is_lt, nat_cmp, ordering_reverse, ordering_then}
use Rattle.std.specs.Str.{bytes_eq}
use Rattle.std.specs.declared.cmp.Ordering.{Ordering}
use Rattle.std.specs.declared.cmp.Ordering.TheVariants.{Less, Equal, Greater}
use Rattle.std.proofs.lemmas.Bool.{cases_Bool}
use Rattle.std.proofs.lemmas.Cmp.{nat_cmp_total, nat_list_cmp_total, on_total, then_total}
use Rattle.std.proofs.lemmas.List.{get_or-map, length-map}
use Rattle.std.proofs.lemmas.List.Elements.{recursion_from_All}
use Rattle.std.proofs.lemmas.List.Sorted.{Contains-permutation, IsPermutation-map, IsPermutation-sym, length_permutation, ranks_by, sorted_far}
use Rattle.std.proofs.lemmas.Map.Keys.{IsDistinct-IsPermutation}
use Rattle.std.proofs.lemmas.Map.Made.{AllPairs-from_IsDistinct, IsDistinct-from_AllPairs}
use Rattle.std.proofs.lemmas.Slice.Eq.{bytes_eq-Decides}
use Rattle.gb_text.specs.declared.id.Name.{Name}
use Rattle.gb_text.proofs.SortedLemmas.{same_elements}
use Rattle.commit_walk.specs.Distinct.{AreDistinct}
use Rattle.dag_graph.proofs.IndexLemmas.{exact_name}
use Rattle.dag_entity.specs.Order.{Rise, commits_of, compared, placed_cmp, rank_cmp, rank_of}
use Rattle.dag_entity.specs.declared.entity.Placed.{Placed}
use Rattle.dag_entity.specs.declared.order.Rank.{Rank}

module _ {X : Type 0} (xs ys : List X) (moved : IsPermutation xs ys) where
  -- another order has the same elements
  pub same_members : (x : X) → Contains xs x ↔ Contains ys x
  same_members x = (Contains-permutation xs ys x moved, Contains-permutation ys xs x (IsPermutation-sym xs ys moved))

  -- and as many
  pub same_length : length xs ≡ length ys
  same_length = sym (length_permutation xs ys moved)

-- ---- names

name_eq : Name → Name → Bool
name_eq a b = bytes_eq a.bytes b.bytes

same_name_bytes : (a b : Name) → Decides (name_eq a b) (a ≡ b)
unfolding name_eq
same_name_bytes a b =
    let of_bytes : List ℕ → Name = λ bytes. record { bytes = bytes } in
    (λ t. ap of_bytes ((bytes_eq-Decides a.bytes b.bytes).0 t), λ e. (bytes_eq-Decides a.bytes b.bytes).1 (ap (λ (n : Name). n.bytes) e))

name_eq-flips : (a b : Name) → name_eq a b ≡ name_eq b a
name_eq-flips a b =
    elim (cases_Bool (name_eq a b)) [
      | inl t ↦ t ∙ sym ((same_name_bytes b a).1 (sym ((same_name_bytes a b).0 t)))
      | inr f ↦ elim (cases_Bool (name_eq b a)) [
        | inl t ↦ let back = (same_name_bytes a b).1 (sym ((same_name_bytes b a).0 t)) in absurd (cc (f, back))
        | inr g ↦ f ∙ sym g
      ]
    ]

-- names of which none comes twice stay so in another order
pub distinct_moved : (one two : List Name) → IsPermutation one two → AreDistinct one → AreDistinct two
distinct_moved one two moved once =
    AllPairs-from_IsDistinct same_name_bytes two (IsDistinct-IsPermutation name_eq name_eq-flips one two moved (IsDistinct-from_AllPairs same_name_bytes one once))

-- ---- ranks

rank_total : IsTotalOrder rank_cmp
rank_total = then_total (on_total (λ r. r.edit) nat_cmp_total) (then_total (on_total (λ r. r.pack.bytes) nat_list_cmp_total) (on_total (λ r. r.name.bytes) nat_list_cmp_total))

-- a list in which each pair rises is strictly sorted
strict_from_pairs : {X : Type 0} (cmp : X → X → Ordering) (xs : List X) → AllPairs (λ a b. cmp a b ≡ Less) xs → IsStrictlySortedBy cmp xs
unfolding IsStrictlySortedBy
strict_from_pairs cmp [] h = tt
strict_from_pairs cmp (x ∷ xs) h = (
  recursion_from_All (λ y. cmp x y ≡ Less) xs (λ j d inside. h zero (suc j) d (omega arith) (omega arith)),
  strict_from_pairs cmp xs (λ i j d below inside. h (suc i) (suc j) d (omega arith) (omega arith)),
)

less_when : (a : Ordering) → is_lt a ≡ false → (a ≡ Equal → ⊥) → ordering_reverse a ≡ Less
less_when Less f n = cc f
less_when Equal f n = absurd (n refl)
less_when Greater f n = refl

last_equal : (p q r : Ordering) → ordering_then p (ordering_then q r) ≡ Equal → r ≡ Equal
last_equal Less q r e = cc e
last_equal Greater q r e = cc e
last_equal Equal Less r e = cc e
last_equal Equal Greater r e = cc e
last_equal Equal Equal r e = e

same_name : (a b : Rank) → rank_cmp a b ≡ Equal → a.name ≡ b.name
same_name a b e = exact_name a.name b.name (last_equal (nat_cmp a.edit b.edit) (compared a.pack.bytes b.pack.bytes) (compared a.name.bytes b.name.bytes) e)

module _ {Op : Type 0} where
  pub placed_total : IsTotalOrder (placed_cmp {Op = Op})
  placed_total = on_total rank_of rank_total

  -- packs in order are determined by which they are
  pub one_rise : (one two : List (Placed Op)) → Rise one → Rise two → ((placed : Placed Op) → Contains one placed ↔ Contains two placed) → one ≡ two
  one_rise one two rise_one rise_two same = same_elements placed_total one two rise_one rise_two (λ p. (same p).0) (λ p. (same p).1)

  -- packs of distinct commits that are sorted by their ranks rise
  pub sorted_rises : (old new : List (Placed Op)) → AreDistinct (commits_of old) → IsPermutation old new → IsSorted placed_cmp new → Rise new
  sorted_rises old new once moved sorted =
      let apart : AreDistinct (commits_of new) = distinct_moved (commits_of old) (commits_of new) (IsPermutation-map (λ (p : Placed Op). p.commit) old new moved) once in
      strict_from_pairs placed_cmp new (λ i j d below within.
      let a = get_or new i d in
      let b = get_or new j d in
      let commit_at : (k : ℕ) → k < length new → get_or (commits_of new) k d.commit ≡ (get_or new k d).commit =
      λ k lt. get_or-map (λ (p : Placed Op). p.commit) new k d d.commit lt in
      let far : is_lt (placed_cmp b a) ≡ false =
      sorted_far (λ x y. is_lt (placed_cmp x y)) (ranks_by placed_total (λ x. x)) new sorted i j d (omega (arith, below)) within in
      let differ : placed_cmp b a ≡ Equal → ⊥ = λ e.
      apart i j d.commit below (omega (arith, within, length-map new (λ (p : Placed Op). p.commit)))
      (commit_at i (omega (arith, below, within)) ∙ sym (same_name (rank_of b) (rank_of a) e) ∙ sym (commit_at j within)) in
      placed_total.antisymm a b ∙ less_when (placed_cmp b a) far differ)
