-- Laws of the answers of a look-up.
use Rattle.std.proofs.Common.{◌≡◌, ℕ, zero, suc, ◌<◌, ◌≤◌, ◌⊎◌, inl, inr, cond, Bool, true, false, List, [], ◌∷◌, ◌++◌, length, take, take-take, drop, filter, get_or, set, swap, refl, sym, ap, subst, ◌∙◌, arith, append-nil, ◌+◌}
use Rattle.std.specs.Cmp.Lexicographic.{slice_cmp}
use Rattle.std.specs.List.{All}
use Rattle.std.specs.List.Sorted.{IsPermutation, IsStrictlySortedBy}
use Rattle.std.specs.Ordering.{is_lt, nat_cmp}
use Rattle.std.specs.declared.cmp.Ordering.TheVariants.{Less}
use Rattle.std.proofs.lemmas.List.{length-take}
use Rattle.std.proofs.lemmas.List.Elements.{All-from_recursion, All-weaker, filter_more}
use Rattle.std.proofs.lemmas.List.Kept.{IsStrictlySortedBy-filter}
use Rattle.std.proofs.lemmas.List.Sorted.{IsPermutation-cons, IsPermutation-keeps, IsPermutation-refl, IsPermutation-sym, IsPermutation-trans, length_permutation}
use Rattle.hex.specs.Hex.{encode_lower}
use Rattle.gb_text.specs.Prefix.{digits_of, fits}
use Rattle.gb_text.specs.declared.id.Id.{Id}
use Rattle.gb_text.specs.declared.prefix.Prefix.{Prefix}
use Rattle.gb_text.proofs.PrefixLemmas.{begins_with-take, take-begins_with}
use Rattle.combined_id.specs.Lookup.{Answers, Finds, IsLeastTwo, fitting, is_below, named}
use Rattle.combined_id.specs.declared.lookup.Lookup.{Lookup}
use Rattle.combined_id.specs.declared.lookup.Lookup.TheVariants.{One, NotFound, Ambiguous}
use Rattle.combined_id.proofs.LeastLemmas.{flipped, least_kept, least_same, least_turned}
use Rattle.combined_id.proofs.OrderLemmas.{below-one_way}

-- ---- answers that name at most one id

record IsPlain (ids fit : List Id) (found : Lookup) : Type 0 where
  few : length fit ≤ 1
  are : named ids found ≡ fit

one_long : (ids : List Id) (place : ℕ) → place < length ids → length (take 1 (drop place ids)) ≡ 1
one_long [] place lt = absurd (omega arith)
one_long (id ∷ ids) zero lt = refl
one_long (id ∷ ids) (suc place) lt = one_long ids place (omega arith)

plain_one : (ids fit : List Id) (place : ℕ) → Answers ids fit (One place) → IsPlain ids fit (One place)
plain_one ids fit place h =
    let long = one_long ids place h.0 in
    let same : length fit ≡ 1 = ap (λ (l : List Id). length l) h.1 ∙ long in
    record { few = omega (arith, same); are = sym h.1 }

plain_none : (ids fit : List Id) → Answers ids fit NotFound → IsPlain ids fit NotFound
plain_none ids fit h =
    let same : length fit ≡ 0 = ap (λ (l : List Id). length l) h in
    record { few = omega (arith, same); are = sym h }

many : (fit : List Id) (x y : Id) → IsLeastTwo fit x y → 2 ≤ length fit
many fit x y h = let same = length_permutation fit (x ∷ y ∷ h.others) h.are in omega (arith, same)

-- ---- the order of the ids

-- a relation of lists holds along each permutation, if it goes under a first item and over an exchange of the first two
module _ {X : Type 0} (R : List X → List X → Type 0) (same : (xs : List X) → R xs xs)
    (skip : (x : X) (xs ys : List X) → R xs ys → R (x ∷ xs) (x ∷ ys))
    (turn : (x y : X) (xs : List X) → R (x ∷ y ∷ xs) (y ∷ x ∷ xs))
    (linked : (xs ys zs : List X) → R xs ys → R ys zs → R xs zs) where
  to_head : (l : List X) (j : ℕ) (x d : X) → j < length l → R (x ∷ l) (get_or l j d ∷ set l j x)
  to_head [] j x d h = absurd (omega arith)
  to_head (y ∷ l) zero x d h = turn x y l
  to_head (y ∷ l) (suc j) x d h =
      linked _ _ _ (turn x y l) (linked _ _ _ (skip y _ _ (to_head l j x d (omega arith))) (turn y (get_or l j d) (set l j x)))

  exchanged : (l : List X) (i j : ℕ) (d : X) → i < length l → j < length l → R l (set (set l i (get_or l j d)) j (get_or l i d))
  exchanged [] i j d p q = absurd (omega arith)
  exchanged (x ∷ l) zero zero d p q = same (x ∷ l)
  exchanged (x ∷ l) zero (suc j) d p q = to_head l j x d (omega arith)
  exchanged (x ∷ l) (suc i) zero d p q = to_head l i x d (omega arith)
  exchanged (x ∷ l) (suc i) (suc j) d p q = skip x _ _ (exchanged l i j d (omega arith) (omega arith))

  along_permutation : (xs ys : List X) → IsPermutation xs ys → R xs ys
  along_permutation xs = IsPermutation-keeps xs (R xs) (same xs) (λ l i j p q h. linked xs l _ h (swapped l i j p q))
    where
      swapped : (l : List X) (i j : ℕ) → i < length l → j < length l → R l (swap l i j)
      swapped [] i j p q = same []
      swapped (x ∷ l) i j p q = exchanged (x ∷ l) i j x p q

module _ (p : Id → Bool) where
  kept : (x : Id) (xs : List Id) → p x ≡ true → filter p (x ∷ xs) ≡ x ∷ filter p xs
  kept x xs e = ap (λ (b : Bool). cond b (x ∷ filter p xs) (filter p xs)) e

  left : (x : Id) (xs : List Id) → p x ≡ false → filter p (x ∷ xs) ≡ filter p xs
  left x xs e = ap (λ (b : Bool). cond b (x ∷ filter p xs) (filter p xs)) e

  under : (x : Id) (xs ys : List Id) (b : Bool) → IsPermutation (filter p xs) (filter p ys)
      → IsPermutation (cond b (x ∷ filter p xs) (filter p xs)) (cond b (x ∷ filter p ys) (filter p ys))
  under x xs ys true h = IsPermutation-cons x (filter p xs) (filter p ys) h
  under x xs ys false h = h

  over : (x y : Id) (fit : List Id) (b c : Bool)
      → IsPermutation (cond b (x ∷ cond c (y ∷ fit) fit) (cond c (y ∷ fit) fit)) (cond c (y ∷ cond b (x ∷ fit) fit) (cond b (x ∷ fit) fit))
  over x y fit true true = flipped x y fit
  over x y fit true false = IsPermutation-refl (x ∷ fit)
  over x y fit false true = IsPermutation-refl (y ∷ fit)
  over x y fit false false = IsPermutation-refl fit

  filter-permutation : (xs ys : List Id) → IsPermutation xs ys → IsPermutation (filter p xs) (filter p ys)
  filter-permutation =
      along_permutation (λ xs ys. IsPermutation (filter p xs) (filter p ys)) (λ xs. IsPermutation-refl (filter p xs)) (λ x xs ys h. under x xs ys (p x) h)
      (λ x y xs. over x y (filter p xs) (p x) (p y)) (λ xs ys zs h k. IsPermutation-trans (filter p xs) (filter p ys) (filter p zs) h k)

few_permuted : (xs ys : List Id) → IsPermutation xs ys → length xs ≤ 1 → xs ≡ ys
few_permuted =
    along_permutation (λ xs ys. length xs ≤ 1 → xs ≡ ys) (λ xs h. refl) (λ x xs ys h few. ap (λ l. x ∷ l) (h (omega (arith, few))))
    (λ x y xs few. absurd (omega (arith, few))) (λ xs ys zs h k few. let e = h few in e ∙ k (subst (λ (l : List Id). length l ≤ 1) e few))

plain_same : (ids others one two : List Id) (found also : Lookup) → IsPermutation one two → IsPlain ids one found → IsPlain others two also
    → named ids found ≡ named others also
plain_same ids others one two found also same a b = a.are ∙ few_permuted one two same a.few ∙ sym b.are

apart : (ids one two : List Id) (found : Lookup) (x y : Id) → IsPermutation one two → IsPlain ids one found → IsLeastTwo two x y → ⊥
apart ids one two found x y same plain least =
    let long = length_permutation one two same in
    let more = many two x y least in
    let few = plain.few in
    omega (arith, long, more, few)

answers_same : (ids others one two : List Id) (found also : Lookup) → IsPermutation one two → Answers ids one found → Answers others two also
    → named ids found ≡ named others also
answers_same ids others one two (One i) (One j) same a b = plain_same ids others one two (One i) (One j) same (plain_one ids one i a) (plain_one others two j b)
answers_same ids others one two (One i) NotFound same a b = plain_same ids others one two (One i) NotFound same (plain_one ids one i a) (plain_none others two b)
answers_same ids others one two (One i) (Ambiguous s t) same a b = absurd (apart ids one two (One i) s t same (plain_one ids one i a) b)
answers_same ids others one two NotFound (One j) same a b = plain_same ids others one two NotFound (One j) same (plain_none ids one a) (plain_one others two j b)
answers_same ids others one two NotFound NotFound same a b = refl
answers_same ids others one two NotFound (Ambiguous s t) same a b = absurd (apart ids one two NotFound s t same (plain_none ids one a) b)
answers_same ids others one two (Ambiguous x y) (One j) same a b = absurd (apart others two one (One j) x y (IsPermutation-sym one two same) (plain_one others two j b) a)
answers_same ids others one two (Ambiguous x y) NotFound same a b = absurd (apart others two one NotFound x y (IsPermutation-sym one two same) (plain_none others two b) a)
answers_same ids others one two (Ambiguous x y) (Ambiguous s t) same a b =
    let both = least_same one two x y s t same a b in
    λ i. both.0 i ∷ both.1 i ∷ []

pub order_free : (prefix : Prefix) (ids others : List Id) (one two : Lookup) → IsPermutation ids others → Finds prefix ids one → Finds prefix others two
    → named ids one ≡ named others two
order_free prefix ids others one two same a b =
    answers_same ids others (fitting prefix ids) (fitting prefix others) one two (filter-permutation (fits prefix) ids others same) a b

-- ---- ascending ids

first_two : (fit : List Id) (x y : Id) → IsStrictlySortedBy (λ one two. slice_cmp nat_cmp one.bytes two.bytes) fit → IsLeastTwo fit x y → take 2 fit ≡ x ∷ y ∷ []
unfolding IsStrictlySortedBy
first_two [] x y s h = let more = many [] x y h in absurd (omega (arith, more))
first_two (a ∷ []) x y s h = let more = many (a ∷ []) x y h in absurd (omega (arith, more))
first_two (a ∷ b ∷ rest) x y s h =
    let above : All (λ other. slice_cmp nat_cmp b.bytes other.bytes ≡ Less) rest = All-from_recursion (λ other. slice_cmp nat_cmp b.bytes other.bytes ≡ Less) rest s.1.0 in
    let own : IsLeastTwo (a ∷ b ∷ rest) a b = record {
      others = rest;
      are = IsPermutation-refl (a ∷ b ∷ rest);
      ordered = below-one_way a b (ap is_lt s.0.0);
      above = All-weaker (λ other. slice_cmp nat_cmp b.bytes other.bytes ≡ Less) (λ other. is_below other b ≡ false) (λ other e. below-one_way b other (ap is_lt e)) rest above;
    } in
    let both = least_same (a ∷ b ∷ rest) (a ∷ b ∷ rest) a b x y (IsPermutation-refl (a ∷ b ∷ rest)) own h in
    λ i. both.0 i ∷ both.1 i ∷ []

pub neighbours : (prefix : Prefix) (ids : List Id) (least next : Id) → IsStrictlySortedBy (λ one two. slice_cmp nat_cmp one.bytes two.bytes) ids
    → Finds prefix ids (Ambiguous least next) → take 2 (fitting prefix ids) ≡ least ∷ next ∷ []
neighbours prefix ids least next s h =
    first_two (fitting prefix ids) least next (IsStrictlySortedBy-filter (λ one two. slice_cmp nat_cmp one.bytes two.bytes) (fits prefix) ids s) h

-- ---- longer prefixes

longer_fits : (shorter longer : Prefix) (id : Id) → take (length (digits_of shorter)) (digits_of longer) ≡ digits_of shorter
    → fits longer id ≡ true → fits shorter id ≡ true
longer_fits shorter longer id e h =
    let n = length (digits_of shorter) in
    let m = length (digits_of longer) in
    let text = encode_lower id.bytes in
    let same : length (take n (digits_of longer)) ≡ n = ap (λ (l : List ℕ). length l) e in
    let le : n ≤ m = omega (arith, same, length-take n (digits_of longer)) in
    take-begins_with (digits_of shorter) text
    (sym (take-take n m text le) ∙ ap (take n) (begins_with-take (digits_of longer) text h) ∙ e)

narrowed : (p q : Id → Bool) → ((id : Id) → p id ≡ true → q id ≡ true) → (ids : List Id) → filter p (filter q ids) ≡ filter p ids
narrowed p q implies [] = refl
narrowed p q implies (id ∷ ids) = decide (narrowed p q implies ids) (q id) refl (p id) refl
  where
    decide : filter p (filter q ids) ≡ filter p ids → (b : Bool) → q id ≡ b → (c : Bool) → p id ≡ c → filter p (filter q (id ∷ ids)) ≡ filter p (id ∷ ids)
    decide more true e true f = ap (filter p) (kept q id ids e) ∙ kept p id (filter q ids) f ∙ ap (λ l. id ∷ l) more ∙ sym (kept p id ids f)
    decide more true e false f = ap (filter p) (kept q id ids e) ∙ left p id (filter q ids) f ∙ more ∙ sym (left p id ids f)
    decide more false e true f = let yes = implies id f in cc (yes, e)
    decide more false e false f = ap (filter p) (left q id ids e) ∙ more ∙ sym (left p id ids f)

few_narrowed : (p : Id → Bool) (fit : List Id) → length fit ≤ 1 → (filter p fit ≡ fit) ⊎ (filter p fit ≡ [])
few_narrowed p [] few = inl refl
few_narrowed p (x ∷ []) few = decide (p x) refl
  where
    decide : (b : Bool) → p x ≡ b → (filter p (x ∷ []) ≡ x ∷ []) ⊎ (filter p (x ∷ []) ≡ [])
    decide true e = inl (kept p x [] e)
    decide false e = inr (left p x [] e)
few_narrowed p (x ∷ y ∷ rest) few = absurd (omega (arith, few))

found_none : (ids fit : List Id) (found : Lookup) → fit ≡ [] → Answers ids fit found → found ≡ NotFound
found_none ids fit (One i) e h =
    let long = one_long ids i h.0 in
    let none : length (take 1 (drop i ids)) ≡ 0 = ap (λ (l : List Id). length l) (sym h.1 ∙ e) in
    absurd (omega (arith, long, none))
found_none ids fit NotFound e h = refl
found_none ids fit (Ambiguous x y) e h =
    let more = many fit x y h in
    let none : length fit ≡ 0 = ap (λ (l : List Id). length l) e in
    absurd (omega (arith, more, none))

found_few : (ids fit : List Id) (found : Lookup) → length fit ≤ 1 → Answers ids fit found → named ids found ≡ fit
found_few ids fit (One i) few h = sym h.1
found_few ids fit NotFound few h = sym h
found_few ids fit (Ambiguous x y) few h = let more = many fit x y h in absurd (omega (arith, more, few))

from_plain : (p : Id → Bool) (ids fit narrow : List Id) (one two : Lookup) → narrow ≡ filter p fit → IsPlain ids fit one → Answers ids narrow two
    → (length (named ids one) ≡ 2) ⊎ (named ids two ≡ named ids one) ⊎ (two ≡ NotFound)
from_plain p ids fit narrow one two e plain h = decide (few_narrowed p fit plain.few)
  where
    decide : (filter p fit ≡ fit) ⊎ (filter p fit ≡ []) → (length (named ids one) ≡ 2) ⊎ (named ids two ≡ named ids one) ⊎ (two ≡ NotFound)
    decide (inl same) =
        let is : narrow ≡ fit = e ∙ same in
        inr (inl (found_few ids narrow two (subst (λ (l : List Id). length l ≤ 1) (sym is) plain.few) h ∙ is ∙ sym plain.are))
    decide (inr none) = inr (inr (found_none ids narrow two (e ∙ none) h))

pub longer_finds : (shorter longer : Prefix) (ids : List Id) (one two : Lookup) → take (length (digits_of shorter)) (digits_of longer) ≡ digits_of shorter
    → Finds shorter ids one → Finds longer ids two → (length (named ids one) ≡ 2) ⊎ (named ids two ≡ named ids one) ⊎ (two ≡ NotFound)
longer_finds shorter longer ids one two e a b = each one a
  where
    narrow : fitting longer ids ≡ filter (fits longer) (fitting shorter ids)
    narrow = sym (narrowed (fits longer) (fits shorter) (λ id h. longer_fits shorter longer id e h) ids)

    each : (one : Lookup) → Finds shorter ids one → (length (named ids one) ≡ 2) ⊎ (named ids two ≡ named ids one) ⊎ (two ≡ NotFound)
    each (One i) h = from_plain (fits longer) ids (fitting shorter ids) (fitting longer ids) (One i) two narrow (plain_one ids (fitting shorter ids) i h) b
    each NotFound h = from_plain (fits longer) ids (fitting shorter ids) (fitting longer ids) NotFound two narrow (plain_none ids (fitting shorter ids) h) b
    each (Ambiguous x y) h = inl refl

-- ---- the loop

-- the list of the item at a position
pub item_at : (ids : List Id) (place : ℕ) (d : Id) → place < length ids → take 1 (drop place ids) ≡ get_or ids place d ∷ []
item_at [] place d lt = absurd (omega arith)
item_at (id ∷ ids) zero d lt = refl
item_at (id ∷ ids) (suc place) d lt = item_at ids place d (omega arith)

-- an id that fits comes to those that fit
pub fitting_more : (prefix : Prefix) (ids : List Id) (place : ℕ) (d : Id) → place < length ids → fits prefix (get_or ids place d) ≡ true
    → fitting prefix (take (place + 1) ids) ≡ fitting prefix (take place ids) ++ take 1 (drop place ids)
fitting_more prefix ids place d lt h =
    filter_more (fits prefix) ids place d lt
    ∙ ap (λ (b : Bool). filter (fits prefix) (take place ids) ++ cond b (get_or ids place d ∷ []) []) h
    ∙ ap (λ (l : List Id). filter (fits prefix) (take place ids) ++ l) (sym (item_at ids place d lt))

-- another does not
pub fitting_as_before : (prefix : Prefix) (ids : List Id) (place : ℕ) (d : Id) → place < length ids → fits prefix (get_or ids place d) ≡ false
    → fitting prefix (take (place + 1) ids) ≡ fitting prefix (take place ids)
fitting_as_before prefix ids place d lt h =
    filter_more (fits prefix) ids place d lt
    ∙ ap (λ (b : Bool). filter (fits prefix) (take place ids) ++ cond b (get_or ids place d ∷ []) []) h
    ∙ append-nil (filter (fits prefix) (take place ids))

pub pair_turned : (ids fit : List Id) (first place : ℕ) (d : Id) → place < length ids → Answers ids fit (One first)
    → is_below (get_or ids place d) (get_or ids first d) ≡ true → IsLeastTwo (fit ++ take 1 (drop place ids)) (get_or ids place d) (get_or ids first d)
pair_turned ids fit first place d lt h below =
    let are : fit ++ take 1 (drop place ids) ≡ get_or ids first d ∷ get_or ids place d ∷ [] =
    ap (λ (l : List Id). l ++ take 1 (drop place ids)) (h.1 ∙ item_at ids first d h.0) ∙ ap (λ (l : List Id). get_or ids first d ∷ l) (item_at ids place d lt) in
    subst (λ (l : List Id). IsLeastTwo l (get_or ids place d) (get_or ids first d)) (sym are) (least_turned (get_or ids first d) (get_or ids place d) below)

pub pair_kept : (ids fit : List Id) (first place : ℕ) (d : Id) → place < length ids → Answers ids fit (One first)
    → is_below (get_or ids place d) (get_or ids first d) ≡ false → IsLeastTwo (fit ++ take 1 (drop place ids)) (get_or ids first d) (get_or ids place d)
pair_kept ids fit first place d lt h below =
    let are : fit ++ take 1 (drop place ids) ≡ get_or ids first d ∷ get_or ids place d ∷ [] =
    ap (λ (l : List Id). l ++ take 1 (drop place ids)) (h.1 ∙ item_at ids first d h.0) ∙ ap (λ (l : List Id). get_or ids first d ∷ l) (item_at ids place d lt) in
    subst (λ (l : List Id). IsLeastTwo l (get_or ids first d) (get_or ids place d)) (sym are) (least_kept (get_or ids first d) (get_or ids place d) below)

-- the two least, with an item of the list
pub third : (ids fit : List Id) (place : ℕ) (d x y : Id) → place < length ids → IsLeastTwo (fit ++ get_or ids place d ∷ []) x y
    → IsLeastTwo (fit ++ take 1 (drop place ids)) x y
third ids fit place d x y lt h = subst (λ (l : List Id). IsLeastTwo (fit ++ l) x y) (sym (item_at ids place d lt)) h
