-- The two least of some ids, as one id after another is added.
use Rattle.std.proofs.Common.{◌≡◌, ℕ, ◌+◌, ◌≤◌, cond, Bool, true, false, List, [], ◌∷◌, ◌++◌, refl, sym, ap, ◌∙◌, arith}
use Rattle.std.specs.List.{All, sum_by}
use Rattle.std.specs.List.Sorted.{IsPermutation}
use Rattle.std.proofs.lemmas.List.Elements.{All-cons, All-head, All-nil, All-tail, All-weaker}
use Rattle.std.proofs.lemmas.List.Sums.{sum_by-cons}
use Rattle.std.proofs.lemmas.List.Sorted.{IsPermutation-append_comm, IsPermutation-cons, IsPermutation-refl, IsPermutation-sym, IsPermutation-trans, IsPermutation-append, sum_by-IsPermutation}
use Rattle.gb_text.specs.declared.id.Id.{Id}
use Rattle.combined_id.specs.Lookup.{IsLeastTwo, is_below}
use Rattle.combined_id.proofs.OrderLemmas.{below-neither, below-one_way, below-further, below-trans}

-- ---- one id more

-- the first two change places
pub flipped : (x y : Id) (others : List Id) → IsPermutation (x ∷ y ∷ others) (y ∷ x ∷ others)
flipped x y others = IsPermutation-append (x ∷ y ∷ []) (y ∷ x ∷ []) others others (IsPermutation-append_comm (x ∷ []) (y ∷ [])) (IsPermutation-refl others)

new_first : (fit others : List Id) (x y id : Id) → IsPermutation fit (x ∷ y ∷ others) → IsPermutation (fit ++ id ∷ []) (id ∷ x ∷ y ∷ others)
new_first fit others x y id h =
    IsPermutation-trans (fit ++ id ∷ []) (id ∷ fit) (id ∷ x ∷ y ∷ others) (IsPermutation-append_comm fit (id ∷ [])) (IsPermutation-cons id fit (x ∷ y ∷ others) h)

-- an id below both
pub least_below : (fit : List Id) (x y id : Id) → IsLeastTwo fit x y → is_below id x ≡ true → IsLeastTwo (fit ++ id ∷ []) id x
least_below fit x y id h lt = record {
  others = y ∷ h.others;
  are = new_first fit h.others x y id h.are;
  ordered = below-one_way id x lt;
  above = All-cons (λ other. is_below other x ≡ false) y h.others h.ordered
      (All-weaker (λ other. is_below other y ≡ false) (λ other. is_below other x ≡ false) (λ other k. below-trans x y other h.ordered k) h.others h.above);
}

-- an id between
pub least_between : (fit : List Id) (x y id : Id) → IsLeastTwo fit x y → is_below id x ≡ false → is_below id y ≡ true → IsLeastTwo (fit ++ id ∷ []) x id
least_between fit x y id h le lt = record {
  others = y ∷ h.others;
  are = IsPermutation-trans (fit ++ id ∷ []) (id ∷ x ∷ y ∷ h.others) (x ∷ id ∷ y ∷ h.others) (new_first fit h.others x y id h.are) (flipped id x (y ∷ h.others));
  ordered = le;
  above = All-cons (λ other. is_below other id ≡ false) y h.others (below-one_way id y lt)
      (All-weaker (λ other. is_below other y ≡ false) (λ other. is_below other id ≡ false) (λ other k. below-trans id y other (below-one_way id y lt) k) h.others h.above);
}

-- an id above both
pub least_above : (fit : List Id) (x y id : Id) → IsLeastTwo fit x y → is_below id y ≡ false → IsLeastTwo (fit ++ id ∷ []) x y
least_above fit x y id h le = record {
  others = id ∷ h.others;
  are = IsPermutation-trans (fit ++ id ∷ []) (id ∷ x ∷ y ∷ h.others) (x ∷ y ∷ id ∷ h.others) (new_first fit h.others x y id h.are)
      (IsPermutation-trans (id ∷ x ∷ y ∷ h.others) (x ∷ id ∷ y ∷ h.others) (x ∷ y ∷ id ∷ h.others) (flipped id x (y ∷ h.others))
      (IsPermutation-cons x (id ∷ y ∷ h.others) (y ∷ id ∷ h.others) (flipped id y h.others)));
  ordered = h.ordered;
  above = All-cons (λ other. is_below other y ≡ false) id h.others le h.above;
}

-- two ids
pub least_turned : (one two : Id) → is_below two one ≡ true → IsLeastTwo (one ∷ two ∷ []) two one
least_turned one two lt = record { others = []; are = flipped one two []; ordered = below-one_way two one lt; above = All-nil (λ other. is_below other one ≡ false) }

pub least_kept : (one two : Id) → is_below two one ≡ false → IsLeastTwo (one ∷ two ∷ []) one two
least_kept one two le = record { others = []; are = IsPermutation-refl (one ∷ two ∷ []); ordered = le; above = All-nil (λ other. is_below other two ≡ false) }

-- ---- there is but one such pair

-- 1 for an id below another
abbrev counts : Id → Id → ℕ
counts bound id = cond (is_below id bound) 1 0

none_below : (bound : Id) (ids : List Id) → All (λ id. is_below id bound ≡ false) ids → sum_by (counts bound) ids ≡ 0
none_below bound [] all = refl
none_below bound (id ∷ ids) all =
    let here : counts bound id ≡ 0 = ap (λ (b : Bool). cond b 1 0) (All-head (λ id. is_below id bound ≡ false) id ids all) in
    let rest = none_below bound ids (All-tail (λ id. is_below id bound ≡ false) id ids all) in
    omega (arith, sum_by-cons (counts bound) id ids, here, rest)

at_most_one : (bound id : Id) → counts bound id ≤ 1
at_most_one bound id = decide (is_below id bound)
  where
    decide : (b : Bool) → cond b 1 0 ≤ 1
    decide true = omega arith
    decide false = omega arith

-- how many of some ids are below an id that is not above their first
below_two : (bound x y : Id) (others : List Id) → sum_by (counts bound) (x ∷ y ∷ others) ≡ counts bound x + (counts bound y + sum_by (counts bound) others)
below_two bound x y others = omega (arith, sum_by-cons (counts bound) x (y ∷ others), sum_by-cons (counts bound) y others)

counted : (bound id : Id) → is_below id bound ≡ true → counts bound id ≡ 1
counted bound id h = ap (λ (b : Bool). cond b 1 0) h

not_counted : (bound id : Id) → is_below id bound ≡ false → counts bound id ≡ 0
not_counted bound id h = ap (λ (b : Bool). cond b 1 0) h

itself : (id : Id) → is_below id id ≡ false
itself id = decide (is_below id id) refl
  where
    decide : (b : Bool) → is_below id id ≡ b → is_below id id ≡ false
    decide true e = below-one_way id id e
    decide false e = e

module _ (one two : List Id) (x y s t : Id) (same : IsPermutation one two) (first : IsLeastTwo one x y) (second : IsLeastTwo two s t) where
  shuffled : IsPermutation (x ∷ y ∷ first.others) (s ∷ t ∷ second.others)
  shuffled =
      IsPermutation-trans _ one _ (IsPermutation-sym one _ first.are) (IsPermutation-trans one two _ same second.are)

  equal_sums : (bound : Id) → counts bound s + (counts bound t + sum_by (counts bound) second.others) ≡ counts bound x + (counts bound y + sum_by (counts bound) first.others)
  equal_sums bound =
      sym (below_two bound s t second.others) ∙ sum_by-IsPermutation (counts bound) (x ∷ y ∷ first.others) (s ∷ t ∷ second.others) shuffled ∙ below_two bound x y first.others

  pub least_not_below : is_below x s ≡ false
  least_not_below = decide (is_below x s) refl
    where
      decide : (b : Bool) → is_below x s ≡ b → is_below x s ≡ false
      decide false e = e
      decide true e =
          let sums = equal_sums s in
          let one_x = counted s x e in
          let no_s = not_counted s s (itself s) in
          let no_t = not_counted s t second.ordered in
          let no_others = none_below s second.others (All-weaker (λ id. is_below id t ≡ false) (λ id. is_below id s ≡ false) (λ id k. below-trans s t id second.ordered k) second.others second.above) in
          absurd (omega (arith, sums, one_x, no_s, no_t, no_others))

  pub next_not_below : is_below y t ≡ false
  next_not_below = decide (is_below y t) refl
    where
      decide : (b : Bool) → is_below y t ≡ b → is_below y t ≡ false
      decide false e = e
      decide true e =
          let sums = equal_sums t in
          let one_x = counted t x (below-further x y t first.ordered e) in
          let one_y = counted t y e in
          let few = at_most_one t s in
          let no_t = not_counted t t (itself t) in
          let no_others = none_below t second.others second.above in
          absurd (omega (arith, sums, one_x, one_y, few, no_t, no_others))

-- lists of the same ids have the same two least
pub least_same : (one two : List Id) (x y s t : Id) → IsPermutation one two → IsLeastTwo one x y → IsLeastTwo two s t → (x ≡ s) × (y ≡ t)
least_same one two x y s t same first second =
    let back = IsPermutation-sym one two same in (
      below-neither x s (least_not_below one two x y s t same first second) (least_not_below two one s t x y back second first),
      below-neither y t (next_not_below one two x y s t same first second) (next_not_below two one s t x y back second first),
    )
