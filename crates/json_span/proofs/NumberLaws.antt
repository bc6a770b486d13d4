-- What completes a number, byte by byte.
use Rattle.std.proofs.Common.{◌≡◌, ℕ, true, cond, eqb, List, [], ◌∷◌, Some, None, refl, sym, ap, subst, ◌∙◌, inl, inr}
use Rattle.std.proofs.lemmas.Bool.{eqb-true}
use Rattle.json_span.specs.Grammar.{is_digit, is_sign, is_exponent_letter, Fraction, Exponent, digits, zero_digit, no_zero_first, absent, present, no_fraction, point_digits, no_exponent, exponent_digits}
use Rattle.json_span.specs.Machine.{number_step, may_end}
use Rattle.json_span.specs.declared.state.NumberAt.{NumberAt}
use Rattle.json_span.specs.declared.state.NumberAt.TheVariants.{AfterMinus, AfterZero, InInteger, AfterPoint, InFraction, AfterE, AfterSign, InExponent}
use Rattle.std.proofs.lemmas.Option.{cond_some}
use Rattle.json_span.proofs.BasicLaws.{some_is, chosen}
use Rattle.json_span.proofs.Completions.{Then, NumRest}

-- A number that may end is complete.
pub num_ended : (n : NumberAt) → may_end n ≡ true → NumRest n []
num_ended AfterMinus e = absurd cc
num_ended AfterZero e = record { x = []; v = []; first = no_fraction; then = no_exponent; whole = refl }
num_ended InInteger e = record { x = []; v = []; first = tt; then = record { x = []; v = []; first = no_fraction; then = no_exponent; whole = refl }; whole = refl }
num_ended AfterPoint e = absurd cc
num_ended InFraction e = record { x = []; v = []; first = tt; then = no_exponent; whole = refl }
num_ended AfterE e = absurd cc
num_ended AfterSign e = absurd cc
num_ended InExponent e = tt

to_num : (m n : NumberAt) (x : List ℕ) → Some m ≡ Some n → NumRest n x → NumRest m x
to_num m n x e r = subst (λ (w : NumberAt). NumRest w x) (sym (some_is m n e)) r

exp_power : (b : ℕ) (x : List ℕ) → is_exponent_letter b ≡ true → NumRest AfterE x → Exponent (b ∷ x)
exp_power b x t r = subst (λ (w : List ℕ). Exponent (b ∷ w)) (sym r.whole) (exponent_digits t r.first r.then)

dot_fraction : (b : ℕ) (x : List ℕ) → b ≡ 46 → NumRest AfterPoint x → Then Fraction Exponent (b ∷ x)
dot_fraction b x at r = record { x = 46 ∷ r.x; v = r.v; first = point_digits r.first; then = r.then; whole = ap (λ (y : ℕ). y ∷ x) at ∙ ap (λ (y : List ℕ). 46 ∷ y) r.whole }

tail_sound : (m : NumberAt) (b : ℕ) (x : List ℕ) → cond (eqb b 46) (Some AfterPoint) (cond (is_exponent_letter b) (Some AfterE) None) ≡ Some m → NumRest m x → Then Fraction Exponent (b ∷ x)
tail_sound m b x e r = elim (chosen (eqb b 46) (Some AfterPoint) (cond (is_exponent_letter b) (Some AfterE) None) (Some m) e) [
  | inl h ↦ dot_fraction b x (eqb-true b 46 h.0) (to_num AfterPoint m x h.1 r)
  | inr h ↦ (let i = cond_some (is_exponent_letter b) AfterE m h.1 in record { x = []; v = b ∷ x; first = no_fraction; then = exp_power b x i.0 (subst (λ (w : NumberAt). NumRest w x) (sym i.1) r); whole = refl })
]

-- What completes a number behind a byte completes it before the byte.
pub num_sound : (n m : NumberAt) (b : ℕ) (x : List ℕ) → number_step n b ≡ Some m → NumRest m x → NumRest n (b ∷ x)
unfolding number_step
num_sound AfterMinus m b x e r = elim (chosen (eqb b 48) (Some AfterZero) (cond (is_digit b) (Some InInteger) None) (Some m) e) [
  | inl h ↦ record { x = 48 ∷ []; v = x; first = zero_digit; then = to_num AfterZero m x h.1 r; whole = ap (λ (y : ℕ). y ∷ x) (eqb-true b 48 h.0) }
  | inr h ↦ (let i = cond_some (is_digit b) InInteger m h.1 in let q : NumRest InInteger x = subst (λ (w : NumberAt). NumRest w x) (sym i.1) r in
      record { x = b ∷ q.x; v = q.v; first = no_zero_first i.0 (λ same. absurd (let f = h.0 in cc)) q.first; then = q.then; whole = ap (λ (y : List ℕ). b ∷ y) q.whole })
]
num_sound AfterZero m b x e r = tail_sound m b x e r
num_sound InInteger m b x e r = elim (chosen (is_digit b) (Some InInteger) (cond (eqb b 46) (Some AfterPoint) (cond (is_exponent_letter b) (Some AfterE) None)) (Some m) e) [
  | inl h ↦ (let q = to_num InInteger m x h.1 r in record { x = b ∷ q.x; v = q.v; first = (h.0, q.first); then = q.then; whole = ap (λ (y : List ℕ). b ∷ y) q.whole })
  | inr h ↦ record { x = []; v = b ∷ x; first = tt; then = tail_sound m b x h.1 r; whole = refl }
]
num_sound AfterPoint m b x e r = (let i = cond_some (is_digit b) InFraction m e in let q : NumRest InFraction x = subst (λ (w : NumberAt). NumRest w x) (sym i.1) r in
    record { x = b ∷ q.x; v = q.v; first = digits i.0 q.first; then = q.then; whole = ap (λ (y : List ℕ). b ∷ y) q.whole })
num_sound InFraction m b x e r = elim (chosen (is_digit b) (Some InFraction) (cond (is_exponent_letter b) (Some AfterE) None) (Some m) e) [
  | inl h ↦ (let q = to_num InFraction m x h.1 r in record { x = b ∷ q.x; v = q.v; first = (h.0, q.first); then = q.then; whole = ap (λ (y : List ℕ). b ∷ y) q.whole })
  | inr h ↦ (let i = cond_some (is_exponent_letter b) AfterE m h.1 in record { x = []; v = b ∷ x; first = tt; then = exp_power b x i.0 (subst (λ (w : NumberAt). NumRest w x) (sym i.1) r); whole = refl })
]
num_sound AfterE m b x e r = elim (chosen (is_sign b) (Some AfterSign) (cond (is_digit b) (Some InExponent) None) (Some m) e) [
  | inl h ↦ record { x = b ∷ []; v = x; first = present h.0; then = to_num AfterSign m x h.1 r; whole = refl }
  | inr h ↦ (let i = cond_some (is_digit b) InExponent m h.1 in record { x = []; v = b ∷ x; first = absent; then = digits i.0 (subst (λ (w : NumberAt). NumRest w x) (sym i.1) r); whole = refl })
]
num_sound AfterSign m b x e r = (let i = cond_some (is_digit b) InExponent m e in digits i.0 (subst (λ (w : NumberAt). NumRest w x) (sym i.1) r))
num_sound InExponent m b x e r = (let i = cond_some (is_digit b) InExponent m e in (i.0, subst (λ (w : NumberAt). NumRest w x) (sym i.1) r))
