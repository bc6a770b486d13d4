-- Laws of cutting: what is taken from the front, and that what was written is taken again.
use Rattle.std.proofs.lemmas.Bool.{and_parts}
use Rattle.std.proofs.lemmas.Option.{same_Some}
use Rattle.std.proofs.Common.{◌≡◌, ◌≢◌, ℕ, suc, ◌+◌, ◌-◌, ◌<◌, ◌≤◌, Bool, true, false, cond, eqb, List, [], ◌∷◌, ◌++◌, length, get_or, take, drop, Option, Some, None, refl, sym, ap, subst, ◌∙◌, append_assoc, arith, inl, inr, ◌⊎◌, drop-cons, add-one}
use Rattle.std.specs.Prelude.{not, ◌||◌, zero}
use Rattle.std.specs.List.{list_all, list_any}
use Rattle.std.specs.Option.{option_map, MatchOption}
use Rattle.std.proofs.lemmas.Bool.{eqb-true, eqb-false, ne_eqb, not-true}
use Rattle.std.proofs.lemmas.Bool.Decides.{nat_tests}
use Rattle.std.proofs.lemmas.List.{append-nil, take-append-drop, length-take, get_or-take}
use Rattle.std.proofs.lemmas.List.Elements.{recursion_from_All, All-from_get_or}
use Rattle.std.proofs.Common.{Bor}
use Rattle.std.proofs.lemmas.Grind.{common_steps}
use Rattle.std.proofs.Math.Seq.{take-suc}
use Rattle.std.proofs.Math.ListN.{drop_of_length-le}
use Rattle.git_object.specs.Grammar.{Lacks}
use Rattle.git_object.specs.Reading.{◌>>=◌, strip, onto, cut_at, lines_at}

-- ---- options

-- what reads by way of another read both
pub bind_some : {A B : Type 0} (o : Option A) (f : A → Option B) (y : B) → (o >>= f) ≡ Some y → (x : A) × (o ≡ Some x) × (f x ≡ Some y)
bind_some (Some x) f y e = (x, refl, e)
bind_some None f y e = absurd cc

-- what a test lets through passed it
pub if_some : {A : Type 0} (b : Bool) (x y : A) → cond b (Some x) None ≡ Some y → (b ≡ true) × (x ≡ y)
if_some true x y e = (refl, cc)
if_some false x y e = absurd cc

-- ---- fronts

-- a number equals itself
pub same_eqb : (x : ℕ) → eqb x x ≡ true
same_eqb x = grind (arith, nat_tests)

-- a front is taken off
pub strip_again : (front rest : List ℕ) → strip front (front ++ rest) ≡ Some rest
strip_again [] rest = refl
strip_again (p ∷ ps) rest = rw (same_eqb p) (strip_again ps rest)

choose_takes : (b : Bool) (o : Option (List ℕ)) (rest : List ℕ) → cond b o None ≡ Some rest → (b ≡ true) × (o ≡ Some rest)
choose_takes true o rest e = (refl, e)
choose_takes false o rest e = absurd cc

-- what a front was taken off began with it
pub strip_takes : (front bytes rest : List ℕ) → strip front bytes ≡ Some rest → bytes ≡ front ++ rest
strip_takes [] bytes rest e = same_Some bytes rest e
strip_takes (p ∷ ps) [] rest e = absurd cc
strip_takes (p ∷ ps) (b ∷ bs) rest e =
    let t = choose_takes (eqb p b) (strip ps bs) rest e in
    let same : p ≡ b = eqb-true p b t.0 in
    let more : bs ≡ ps ++ rest = strip_takes ps bs rest t.1 in
    cc

strip_none : (front bytes : List ℕ) (o : Option (List ℕ)) → o ≡ strip front bytes → ((rest : List ℕ) → bytes ≢ front ++ rest) → o ≡ None
strip_none front bytes None e never = refl
strip_none front bytes (Some rest) e never = absurd (never rest (strip_takes front bytes rest (sym e)))

-- ---- cuts

unequal_eqb : (x y : ℕ) → x ≢ y → eqb x y ≡ false
unequal_eqb x y ne = grind (arith, nat_tests)

-- a cut at the first such byte
pub cut_again : (at : ℕ) (front rest : List ℕ) → Lacks at front → cut_at at (front ++ at ∷ rest) ≡ Some (front, rest)
unfolding cut_at
cut_again at [] rest lacks = rw (same_eqb at) refl
cut_again at (x ∷ xs) rest lacks = rw (unequal_eqb x at lacks.0, cut_again at xs rest lacks.1) refl

-- no cut where no such byte stands
pub cut_none : (at : ℕ) (bytes : List ℕ) → Lacks at bytes → cut_at at bytes ≡ None
unfolding cut_at
cut_none at [] lacks = refl
cut_none at (x ∷ xs) lacks = rw (unequal_eqb x at lacks.0, cut_none at xs lacks.1) refl

-- one byte in front of what was cut
pub onto_some : (x : ℕ) (o : Option (List ℕ × List ℕ)) (y : List ℕ × List ℕ) → onto x o ≡ Some y → (z : List ℕ × List ℕ) × (o ≡ Some z) × (y ≡ (x ∷ z.0, z.1))
onto_some x None y e = absurd cc
onto_some x (Some z) y e = (z, refl, sym (same_Some (x ∷ z.0, z.1) y e))

cut_chosen : (b : Bool) (xs : List ℕ) (x : ℕ) (o : Option (List ℕ × List ℕ)) (y : List ℕ × List ℕ) → cond b (Some ([], xs)) (onto x o) ≡ Some y →
    ((b ≡ true) × (y ≡ ([], xs))) ⊎ ((b ≡ false) × ((z : List ℕ × List ℕ) × (o ≡ Some z) × (y ≡ (x ∷ z.0, z.1))))
cut_chosen true xs x o y e = inl (refl, sym (same_Some ([], xs) y e))
cut_chosen false xs x o y e = inr (refl, onto_some x o y e)

pub record Cuts (at : ℕ) (bytes : List ℕ) (y : List ℕ × List ℕ) : Type 0 where
  pub lacks : Lacks at y.0
  pub parts : bytes ≡ y.0 ++ at ∷ y.1

eqb_unequal : (x y : ℕ) → eqb x y ≡ false → x ≢ y
eqb_unequal x y e = λ same. grind (arith, nat_tests)

-- what was cut is the text
pub cut_takes : (at : ℕ) (bytes : List ℕ) (y : List ℕ × List ℕ) → cut_at at bytes ≡ Some y → Cuts at bytes y
unfolding cut_at
cut_takes at [] y e = absurd cc
cut_takes at (x ∷ xs) y e = elim (cut_chosen (eqb x at) xs x (cut_at at xs) y e) [
  | inl here ↦ (let same : x ≡ at = eqb-true x at here.0 in subst (λ (w : List ℕ × List ℕ). Cuts at (x ∷ xs) w) (sym here.1) (record { lacks = tt; parts = ap (λ (v : ℕ). v ∷ xs) same }))
  | inr on ↦ (let inner = cut_takes at xs on.1.0 on.1.1 in subst (λ (w : List ℕ × List ℕ). Cuts at (x ∷ xs) w) (sym on.1.2) (record { lacks = (eqb_unequal x at on.0, inner.lacks); parts = ap (λ (v : List ℕ). x ∷ v) inner.parts }))
]

-- ---- what the code's slices say

-- a search of a front takes it off
pub strip_from : (front bytes : List ℕ) (r : Option (Bor (List ℕ))) → MatchOption r ((rest : List ℕ) → bytes ≢ front ++ rest) (λ x. bytes ≡ front ++ x.now) → option_map (λ x. x.now) r ≡ strip front bytes
strip_from front bytes None never = sym (strip_none front bytes (strip front bytes) refl never)
strip_from front bytes (Some x) e = sym (ap (strip front) e ∙ strip_again front x.now)

-- the bytes round index i, which holds x
split_at_index : (bytes : List ℕ) (i x : ℕ) → i < length bytes → get_or bytes i 0 ≡ x → bytes ≡ take i bytes ++ x ∷ drop (i + 1) bytes
split_at_index bytes i x lt e =
    let rest : drop i bytes ≡ get_or bytes i 0 ∷ drop (suc i) bytes = drop-cons bytes i 0 lt in
    sym (take-append-drop i bytes) ∙ ap (λ (r : List ℕ). take i bytes ++ r) (rest ∙ ap (λ (v : ℕ). v ∷ drop (suc i) bytes) e ∙ ap (λ (k : ℕ). x ∷ drop k bytes) (sym (add-one i)))

lacks_front : (at i : ℕ) (bytes : List ℕ) → i ≤ length bytes → ((k : ℕ) → k < i → get_or bytes k 0 ≡ at → ⊥) → Lacks at (take i bytes)
lacks_front at i bytes le below = recursion_from_All (λ x. x ≢ at) (take i bytes) (All-from_get_or (λ x. x ≢ at) (take i bytes) 0
    (λ k lt. let within : k < i = omega (arith, length-take i bytes) in rw (get_or-take i bytes k 0 within) (below k within)))

cut_found : (at i : ℕ) (bytes : List ℕ) → i < length bytes → ((k : ℕ) → k < i → get_or bytes k 0 ≡ at → ⊥) → get_or bytes i 0 ≡ at → Some (take i bytes, drop (i + 1) bytes) ≡ cut_at at bytes
cut_found at i bytes lt below here = sym (ap (cut_at at) (split_at_index bytes i at lt here) ∙ cut_again at (take i bytes) (drop (i + 1) bytes) (lacks_front at i bytes (omega arith) below))

-- no cut where no byte so far is such
pub cut_absent : (at i : ℕ) (bytes : List ℕ) → length bytes ≤ i → ((k : ℕ) → k < i → get_or bytes k 0 ≡ at → ⊥) → None ≡ cut_at at bytes
cut_absent at i bytes le below = sym (cut_none at bytes (recursion_from_All (λ x. x ≢ at) bytes (All-from_get_or (λ x. x ≢ at) bytes 0 (λ k lt. below k (omega arith)))))

-- ---- header lines, up to the empty one

-- bytes in front of what was cut
abbrev pub front_onto : List ℕ → Option (List ℕ × List ℕ) → Option (List ℕ × List ℕ)
front_onto front None = None
front_onto front (Some r) = Some (front ++ r.0, r.1)

regroup : (front : List ℕ) (x : ℕ) (o : Option (List ℕ × List ℕ)) → front_onto front (onto x o) ≡ front_onto (front ++ x ∷ []) o
regroup front x None = refl
regroup front x (Some r) = ap (λ (v : List ℕ). Some (v, r.1)) (simp append_assoc)

lines_on : (front : List ℕ) (fresh : Bool) (x : ℕ) (xs : List ℕ) (all : Option (List ℕ × List ℕ)) → (fresh ≡ true → x ≢ 10)
    → front_onto front (lines_at fresh (x ∷ xs)) ≡ all → front_onto (front ++ x ∷ []) (lines_at (eqb x 10) xs) ≡ all
unfolding lines_at
lines_on front true x xs all ne so_far =
    let here : eqb x 10 ≡ false = ne_eqb x 10 (ne refl) in
    let one : front_onto front (lines_at true (x ∷ xs)) ≡ front_onto (front ++ x ∷ []) (lines_at false xs) = rw here (regroup front x (lines_at false xs)) in
    rw here (sym one ∙ so_far)
lines_on front false x xs all ne so_far = sym (regroup front x (lines_at (eqb x 10) xs)) ∙ so_far

tail_is : (k : ℕ) (bytes : List ℕ) → take (length bytes - k) (drop k bytes) ≡ drop k bytes
tail_is k bytes = grind (arith, common_steps)

-- the cut at the place of the first such byte
pub cut_here : (at i : ℕ) (bytes : List ℕ) → i < length bytes → ((k : ℕ) → k < i → get_or bytes k 0 ≡ at → ⊥) → get_or bytes i 0 ≡ at → Some (take i bytes, take (length bytes - (i + 1)) (drop (i + 1) bytes)) ≡ cut_at at bytes
cut_here at i bytes lt below here = ap (λ (r : List ℕ). Some (take i bytes, r)) (tail_is (i + 1) bytes) ∙ cut_found at i bytes lt below here

next_byte : (i x : ℕ) (bytes : List ℕ) → i < length bytes → get_or bytes i 0 ≡ x → drop i bytes ≡ x ∷ drop (i + 1) bytes
next_byte i x bytes lt e = drop-cons bytes i 0 lt ∙ ap (λ (v : ℕ). v ∷ drop (suc i) bytes) e ∙ ap (λ (k : ℕ). x ∷ drop k bytes) (sym (add-one i))

next_front : (i x : ℕ) (bytes : List ℕ) → i < length bytes → get_or bytes i 0 ≡ x → take (i + 1) bytes ≡ take i bytes ++ x ∷ []
next_front i x bytes lt e = rw add-one (take-suc bytes i 0 lt ∙ ap (λ (v : ℕ). take i bytes ++ v ∷ []) e)

-- a byte that ends nothing lets the lines go on
pub lines_next : (i x : ℕ) (fresh ends : Bool) (bytes : List ℕ) (all : Option (List ℕ × List ℕ)) → i < length bytes → get_or bytes i 0 ≡ x → ends ≡ eqb x 10 → (fresh ≡ true → x ≢ 10)
    → front_onto (take i bytes) (lines_at fresh (drop i bytes)) ≡ all → front_onto (take (i + 1) bytes) (lines_at ends (drop (i + 1) bytes)) ≡ all
lines_next i x fresh ends bytes all lt e is ne so_far =
    rw (is, next_front i x bytes lt e) (lines_on (take i bytes) fresh x (drop (i + 1) bytes) all ne (rw (next_byte i x bytes lt e) at so_far))

-- an empty line ends the lines
pub lines_here : (i : ℕ) (fresh : Bool) (bytes : List ℕ) (all : Option (List ℕ × List ℕ)) → i < length bytes → get_or bytes i 0 ≡ 10 → fresh ≡ true
    → front_onto (take i bytes) (lines_at fresh (drop i bytes)) ≡ all → Some (take i bytes, take (length bytes - (i + 1)) (drop (i + 1) bytes)) ≡ all
unfolding lines_at
lines_here i fresh bytes all lt e is so_far =
    let one : front_onto (take i bytes) (lines_at fresh (drop i bytes)) ≡ Some (take i bytes, drop (i + 1) bytes) = rw (is, next_byte i 10 bytes lt e) (ap (λ (v : List ℕ). Some (v, drop (i + 1) bytes)) (append-nil (take i bytes))) in
    ap (λ (r : List ℕ). Some (take i bytes, r)) (tail_is (i + 1) bytes) ∙ sym one ∙ so_far

nothing_left : (front : List ℕ) (fresh : Bool) → front_onto front (lines_at fresh []) ≡ None
unfolding lines_at
nothing_left front true = refl
nothing_left front false = refl

-- lines that never end are none
pub lines_absent : (i : ℕ) (fresh : Bool) (bytes : List ℕ) (all : Option (List ℕ × List ℕ)) → length bytes ≤ i
    → front_onto (take i bytes) (lines_at fresh (drop i bytes)) ≡ all → None ≡ all
lines_absent i fresh bytes all le so_far = sym (nothing_left (take i bytes) fresh) ∙ ap (λ (r : List ℕ). front_onto (take i bytes) (lines_at fresh r)) (sym (drop_of_length-le bytes le)) ∙ so_far

-- ---- texts without a byte

-- a text that passes the test lacks the byte
pub lacks_by_test : (b : ℕ) (text : List ℕ) → list_all (λ x. not (eqb x b)) text ≡ true → Lacks b text
lacks_by_test b [] e = tt
lacks_by_test b (x ∷ xs) e = (let p = and_parts (not (eqb x b)) (list_all (λ x. not (eqb x b)) xs) e in (eqb-false x b (not-true (eqb x b) p.0), lacks_by_test b xs p.1))

-- a text of two parts that lack a byte lacks it
pub lacks_append : (b : ℕ) (xs ys : List ℕ) → Lacks b xs → Lacks b ys → Lacks b (xs ++ ys)
lacks_append b [] ys p q = q
lacks_append b (x ∷ xs) ys p q = (p.0, lacks_append b xs ys p.1 q)

-- no byte of a text that lacks one is it
pub index_lacks : (b : ℕ) (text : List ℕ) (i : ℕ) → 0 ≢ b → Lacks b text → get_or text i 0 ≢ b
index_lacks b [] i ne lacks = ne
index_lacks b (x ∷ xs) zero ne lacks = lacks.0
index_lacks b (x ∷ xs) (suc i) ne lacks = index_lacks b xs i ne lacks.1

-- ---- texts that are not empty

-- a length that is not zero is of some text
pub nil_length : (l : List ℕ) → eqb (length l) 0 ≡ false → l ≢ []
nil_length [] e = absurd cc
nil_length (x ∷ xs) e = λ same. absurd cc

-- some text has a length that is not zero
pub some_length : (l : List ℕ) → l ≢ [] → eqb (length l) 0 ≡ false
some_length [] ne = absurd (ne refl)
some_length (x ∷ xs) ne = ne_eqb (length (x ∷ xs)) 0 (omega arith)

-- ---- tests of texts

or_false : (s t : Bool) → (s || t) ≡ false → (s ≡ false) × (t ≡ false)
or_false true t e = absurd cc
or_false false t e = (refl, e)

-- a text in which no byte is found lacks it
pub lacks_from_any : (b : ℕ) (text : List ℕ) → list_any (λ x. eqb x b) text ≡ false → Lacks b text
lacks_from_any b [] e = tt
lacks_from_any b (x ∷ xs) e = (let p = or_false (eqb x b) (list_any (λ x. eqb x b) xs) e in (eqb-false x b p.0, lacks_from_any b xs p.1))

-- no byte is found in a text that lacks it
pub any_from_lacks : (b : ℕ) (text : List ℕ) → Lacks b text → list_any (λ x. eqb x b) text ≡ false
any_from_lacks b [] lacks = refl
any_from_lacks b (x ∷ xs) lacks = rw (ne_eqb x b lacks.0) (any_from_lacks b xs lacks.1)
