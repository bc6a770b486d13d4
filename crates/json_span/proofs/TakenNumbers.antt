-- Numbers are taken whole.
use Rattle.std.proofs.Common.{◌≡◌, ℕ, suc, Bool, true, false, cond, eqb, List, [], ◌∷◌, ◌++◌, Option, Some, None, refl, sym, ap, subst, ◌∙◌, append_assoc, arith, inl, inr}
use Rattle.std.proofs.lemmas.Bool.Decides.{nat_tests}
use Rattle.json_span.specs.Grammar.{Each, is_space, is_digit, is_sign, is_exponent_letter, Digits, Integer, Optional, Fraction, Exponent, digits, zero_digit, no_zero_first, absent, present, no_fraction, point_digits, no_exponent, exponent_digits, close_of}
use Rattle.json_span.specs.Machine.{◌>>=◌, State, go_to, number_step, may_end, after_step, step}
use Rattle.json_span.specs.Nest.{is_deep}
use Rattle.json_span.specs.Machine.{read, within, marked, finished, also, no_marks, span_to}
use Rattle.json_span.specs.declared.marks.Within.{Within}
use Rattle.json_span.specs.declared.marks.Within.TheVariants.{Outside, InNumber, InValue}
use Rattle.json_span.specs.declared.marks.Marks.{Marks}
use Rattle.std.specs.Option.{option_map}
use Rattle.json_span.specs.declared.Member.{Member}
use Rattle.json_span.specs.declared.state.Kind.{Kind}
use Rattle.json_span.specs.declared.state.NumberAt.{NumberAt}
use Rattle.json_span.specs.declared.state.NumberAt.TheVariants.{AfterMinus, AfterZero, InInteger, AfterPoint, InFraction, AfterE, AfterSign, InExponent}
use Rattle.json_span.specs.declared.state.At.{At}
use Rattle.json_span.specs.declared.state.At.TheVariants.{Part, After, Number}
use Rattle.std.proofs.lemmas.Option.{cond_some}
use Rattle.json_span.proofs.BasicLaws.{some_is, chosen, not_true}
use Rattle.json_span.proofs.TakenLaws.{Takes, S, place_of, step_read, takes_event, takes_on, settled, ended}

-- ---- what follows a number

-- a byte follows with which no number goes on
pub record Tail (v : List ℕ) : Type 0 where
  pub c : ℕ
  pub cs : List ℕ
  pub at : v ≡ c ∷ cs
  pub no_digit : is_digit c ≡ false
  pub no_point : eqb c 46 ≡ false
  pub no_exponent : is_exponent_letter c ≡ false

num_on : (n m : NumberAt) (ks : List Kind) (d b : ℕ) → number_step n b ≡ Some m → step (Number n) ks d b ≡ go_to (Number m) ks d
unfolding step
num_on n m ks d b e = rw e refl

num_off : (n : NumberAt) (ks : List Kind) (d b : ℕ) → number_step n b ≡ None → may_end n ≡ true → step (Number n) ks d b ≡ after_step ks d b
unfolding step
num_off n ks d b e f = rw (e, f) refl

after_on : (ks : List Kind) (d b : ℕ) → step After ks d b ≡ after_step ks d b
unfolding step
after_on ks d b = refl

num_stops : (n : NumberAt) (c : ℕ) → may_end n ≡ true → is_digit c ≡ false → eqb c 46 ≡ false → is_exponent_letter c ≡ false → number_step n c ≡ None
unfolding number_step
num_stops AfterMinus c e p q r = absurd cc
num_stops AfterZero c e p q r = rw (q, r) refl
num_stops InInteger c e p q r = rw (p, q, r) refl
num_stops AfterPoint c e p q r = absurd cc
num_stops InFraction c e p q r = rw (p, r) refl
num_stops AfterE c e p q r = absurd cc
num_stops AfterSign c e p q r = absurd cc
num_stops InExponent c e p q r = rw p refl

-- behind a value of the outermost list no byte leads into a part
after_outside : (ks : List Kind) (d b : ℕ) (t : State) → is_deep ks ≡ false → after_step ks d b ≡ Some t → within t.at t.kinds ≡ Outside
unfolding after_step
after_outside [] d b t flat e = let i = cond_some (is_space b) (S After [] d) t e in sym (ap (λ (x : State). within x.at x.kinds) i.1)
after_outside (k ∷ []) d b t flat e = elim (chosen (is_space b) (go_to After (k ∷ []) d) _ (Some t) e) [
  | inl h ↦ sym (ap (λ (x : State). within x.at x.kinds) (some_is (S After (k ∷ []) d) t h.1))
  | inr h ↦ elim (chosen (eqb b 44) (go_to Part (k ∷ []) d) _ (Some t) h.1) [
    | inl i ↦ sym (ap (λ (x : State). within x.at x.kinds) (some_is (S Part (k ∷ []) d) t i.1))
    | inr i ↦ (let j = cond_some (eqb b (close_of k)) (S After [] (suc d)) t i.1 in sym (ap (λ (x : State). within x.at x.kinds) j.1))
  ]
]
after_outside (k ∷ l ∷ ks) d b t flat e = absurd cc

-- the state behind a byte and what it takes
record On (n : ℕ) (at : At) (ks : List Kind) (d : ℕ) (m : Marks) (b : ℕ) (u : List ℕ) (out : List Member) : Type 0 where
  t : State
  is : step at ks d b ≡ Some t
  reads : option_map (also (finished (place_of n (b ∷ u)) (place_of n u) (within at ks) (within t.at t.kinds) m)) (read n t (marked (place_of n (b ∷ u)) (place_of n u) (within at ks) (within t.at t.kinds) m) u) ≡ Some out

on_of : (n : ℕ) (at : At) (ks : List Kind) (d : ℕ) (m : Marks) (b : ℕ) (u : List ℕ) (out : List Member) → Takes n (S at ks d) m (b ∷ u) out → On n at ks d m b u out
unfolding read
on_of n at ks d m b u out a = go (step at ks d b) refl a.is
  where
    go : (o : Option State) → step at ks d b ≡ o
        → (o >>= λ t. option_map (also (finished (place_of n (b ∷ u)) (place_of n u) (within at ks) (within t.at t.kinds) m)) (read n t (marked (place_of n (b ∷ u)) (place_of n u) (within at ks) (within t.at t.kinds) m) u)) ≡ Some out → On n at ks d m b u out
    go None e r = absurd cc
    go (Some t) e r = record { t = t; is = e; reads = r }

-- Nothing in front of parts leaves them.
pub whole_of : (o : Option (List Member)) → option_map (also None) o ≡ o
whole_of None = refl
whole_of (Some x) = refl

deep_number : (n : ℕ) (num : NumberAt) (ks : List Kind) (d : ℕ) (m : Marks) (c : ℕ) (cs : List ℕ) (out : List Member) → step (Number num) ks d c ≡ step After ks d c → is_deep ks ≡ true → On n After ks d m c cs out → Takes n (S (Number num) ks d) m (c ∷ cs) out
deep_number n num ks d m c cs out e deep on =
    let p = place_of n (c ∷ cs) in
    let q = place_of n cs in
    let w : within (Number num) ks ≡ within After ks = ap (λ (x : Bool). cond x InValue InNumber) deep ∙ sym (ap (λ (x : Bool). cond x InValue Outside) deep) in
    record { is = step_read n (S (Number num) ks d) on.t m c cs (e ∙ on.is) ∙ ap (λ (x : Within). option_map (also (finished p q x (within on.t.at on.t.kinds) m)) (read n on.t (marked p q x (within on.t.at on.t.kinds) m) cs)) w ∙ on.reads }

flat_number : (n : ℕ) (num : NumberAt) (ks : List Kind) (d : ℕ) (m : Marks) (c : ℕ) (cs : List ℕ) (out : List Member) → step (Number num) ks d c ≡ step After ks d c → is_deep ks ≡ false → On n After ks d no_marks c cs out
    → Takes n (S (Number num) ks d) m (c ∷ cs) (record { name = m.name; value = span_to m.from (place_of n (c ∷ cs)) } ∷ out)
flat_number n num ks d m c cs out e flat on =
    let p = place_of n (c ∷ cs) in
    let q = place_of n cs in
    let w : within After ks ≡ Outside = ap (λ (x : Bool). cond x InValue Outside) flat in
    let v : within (Number num) ks ≡ InNumber = ap (λ (x : Bool). cond x InValue InNumber) flat in
    let t : within on.t.at on.t.kinds ≡ Outside = after_outside ks d c on.t flat (sym (after_on ks d c) ∙ on.is) in
    let reads : option_map (also None) (read n on.t no_marks cs) ≡ Some out =
    sym (ap (λ (x : Within). option_map (also (finished p q x (within on.t.at on.t.kinds) no_marks)) (read n on.t (marked p q x (within on.t.at on.t.kinds) no_marks) cs)) w
    ∙ ap (λ (x : Within). option_map (also (finished p q Outside x no_marks)) (read n on.t (marked p q Outside x no_marks) cs)) t) ∙ on.reads in
    takes_event n (Number num) ks d c on.t m no_marks (Some (record { name = m.name; value = span_to m.from p })) cs out (e ∙ on.is)
    (ap (λ (x : Within). marked p q x (within on.t.at on.t.kinds) m) v ∙ ap (λ (x : Within). marked p q InNumber x m) t)
    (ap (λ (x : Within). finished p q x (within on.t.at on.t.kinds) m) v ∙ ap (λ (x : Within). finished p q InNumber x m) t)
    (record { is = sym (whole_of (read n on.t no_marks cs)) ∙ reads })

-- a byte that ends a number leads where it leads behind a value
pub takes_behind : (n : ℕ) (num : NumberAt) (ks : List Kind) (d : ℕ) (m : Marks) (v : List ℕ) (out : List Member) → may_end num ≡ true → Tail v → Takes n (S After ks d) (settled ks m) v out → Takes n (S (Number num) ks d) m v (ended ks m (place_of n v) out)
takes_behind n num ks d m v out e tail a = subst (λ (x : List ℕ). Takes n (S (Number num) ks d) m x (ended ks m (place_of n x) out)) (sym tail.at)
    (go (is_deep ks) refl (num_off num ks d tail.c (num_stops num tail.c e tail.no_digit tail.no_point tail.no_exponent) e ∙ sym (after_on ks d tail.c))
    (subst (λ (x : List ℕ). Takes n (S After ks d) (settled ks m) x out) tail.at a))
  where
    go : (deep : Bool) → is_deep ks ≡ deep → step (Number num) ks d tail.c ≡ step After ks d tail.c → Takes n (S After ks d) (settled ks m) (tail.c ∷ tail.cs) out → Takes n (S (Number num) ks d) m (tail.c ∷ tail.cs) (ended ks m (place_of n (tail.c ∷ tail.cs)) out)
    go true is same a =
        subst (λ (x : List Member). Takes n (S (Number num) ks d) m (tail.c ∷ tail.cs) x) (sym (ap (λ (x : Bool). cond x out (record { name = m.name; value = span_to m.from (place_of n (tail.c ∷ tail.cs)) } ∷ out)) is))
        (deep_number n num ks d m tail.c tail.cs out same is (on_of n After ks d m tail.c tail.cs out (subst (λ (x : Marks). Takes n (S After ks d) x (tail.c ∷ tail.cs) out) (ap (λ (x : Bool). cond x m no_marks) is) a)))
    go false is same a =
        subst (λ (x : List Member). Takes n (S (Number num) ks d) m (tail.c ∷ tail.cs) x) (sym (ap (λ (x : Bool). cond x out (record { name = m.name; value = span_to m.from (place_of n (tail.c ∷ tail.cs)) } ∷ out)) is))
        (flat_number n num ks d m tail.c tail.cs out same is (on_of n After ks d no_marks tail.c tail.cs out (subst (λ (x : Marks). Takes n (S After ks d) x (tail.c ∷ tail.cs) out) (ap (λ (x : Bool). cond x m no_marks) is) a)))

-- ---- digits

takes_digits : (n : ℕ) (num : NumberAt) (ks : List Kind) (d : ℕ) (m : Marks) (out : List Member) → ((b : ℕ) → is_digit b ≡ true → number_step num b ≡ Some num) → (x v : List ℕ) → Each is_digit x → Takes n (S (Number num) ks d) m v out → Takes n (S (Number num) ks d) m (x ++ v) out
takes_digits n num ks d m out self [] v each a = a
takes_digits n num ks d m out self (b ∷ bs) v each a = takes_on n (Number num) ks d b (S (Number num) ks d) m (bs ++ v) out (num_on num num ks d b (self b each.0)) refl (takes_digits n num ks d m out self bs v each.1 a)

int_self : (b : ℕ) → is_digit b ≡ true → number_step InInteger b ≡ Some InInteger
unfolding number_step
int_self b t = rw t refl

frac_self : (b : ℕ) → is_digit b ≡ true → number_step InFraction b ≡ Some InFraction
unfolding number_step
frac_self b t = rw t refl

power_self : (b : ℕ) → is_digit b ≡ true → number_step InExponent b ≡ Some InExponent
unfolding number_step
power_self b t = rw t refl

dot_digit : (b : ℕ) → is_digit b ≡ true → number_step AfterPoint b ≡ Some InFraction
unfolding number_step
dot_digit b t = rw t refl

sign_digit : (b : ℕ) → is_digit b ≡ true → number_step AfterSign b ≡ Some InExponent
unfolding number_step
sign_digit b t = rw t refl

digit_not_sign : (b : ℕ) → is_digit b ≡ true → is_sign b ≡ false
digit_not_sign b t = grind (arith, nat_tests)

exp_digit : (b : ℕ) → is_digit b ≡ true → number_step AfterE b ≡ Some InExponent
unfolding number_step
exp_digit b t = let f = digit_not_sign b t in subst (λ (x : Bool). cond x (Some AfterSign) (cond (is_digit b) (Some InExponent) None) ≡ Some InExponent) (sym f) (rw t refl)

exp_sign : (b : ℕ) → is_sign b ≡ true → number_step AfterE b ≡ Some AfterSign
unfolding number_step
exp_sign b t = rw t refl

power_tests : (b : ℕ) → is_exponent_letter b ≡ true → (is_digit b ≡ false) × (eqb b 46 ≡ false)
power_tests b t = (grind (arith, nat_tests), grind (arith, nat_tests))

frac_power : (b : ℕ) → is_exponent_letter b ≡ true → number_step InFraction b ≡ Some AfterE
unfolding number_step
frac_power b t = let p = power_tests b t in subst (λ (x : Bool). cond x (Some InFraction) (cond (is_exponent_letter b) (Some AfterE) None) ≡ Some AfterE) (sym p.0) (rw t refl)

tail_power : (b : ℕ) → is_exponent_letter b ≡ true → cond (eqb b 46) (Some AfterPoint) (cond (is_exponent_letter b) (Some AfterE) None) ≡ Some AfterE
tail_power b t = let p = power_tests b t in subst (λ (x : Bool). cond x (Some AfterPoint) (cond (is_exponent_letter b) (Some AfterE) None) ≡ Some AfterE) (sym p.1) (rw t refl)

zero_power : (b : ℕ) → is_exponent_letter b ≡ true → number_step AfterZero b ≡ Some AfterE
unfolding number_step
zero_power b t = tail_power b t

int_power : (b : ℕ) → is_exponent_letter b ≡ true → number_step InInteger b ≡ Some AfterE
unfolding number_step
int_power b t = let p = power_tests b t in subst (λ (x : Bool). cond x (Some InInteger) (cond (eqb b 46) (Some AfterPoint) (cond (is_exponent_letter b) (Some AfterE) None)) ≡ Some AfterE) (sym p.0) (tail_power b t)

zero_dot : number_step AfterZero 46 ≡ Some AfterPoint
unfolding number_step
zero_dot = refl

int_dot : number_step InInteger 46 ≡ Some AfterPoint
unfolding number_step
int_dot = refl

-- ---- the parts of a number

-- wherever a number may end, the rest is taken
abbrev pub EndsHere : ℕ → List Kind → ℕ → Marks → List ℕ → List Member → Type 0
EndsHere n ks d m v out = (num : NumberAt) → may_end num ≡ true → Takes n (S (Number num) ks d) m v out

takes_exponent_digits : (n : ℕ) (num : NumberAt) (ks : List Kind) (d : ℕ) (m : Marks) (out : List Member) → ((b : ℕ) → is_digit b ≡ true → number_step num b ≡ Some InExponent) → (x v : List ℕ) → Digits x → EndsHere n ks d m v out → Takes n (S (Number num) ks d) m (x ++ v) out
takes_exponent_digits n num ks d m out first x v (digits {b} {t} is each) here =
    takes_on n (Number num) ks d b (S (Number InExponent) ks d) m (t ++ v) out (num_on num InExponent ks d b (first b is)) refl (takes_digits n InExponent ks d m out power_self t v each (here InExponent refl))

takes_signed : (n : ℕ) (ks : List Kind) (d : ℕ) (m : Marks) (out : List Member) (sign x v : List ℕ) → Optional is_sign sign → Digits x → EndsHere n ks d m v out → Takes n (S (Number AfterE) ks d) m (sign ++ (x ++ v)) out
takes_signed n ks d m out sign x v absent ds here = takes_exponent_digits n AfterE ks d m out exp_digit x v ds here
takes_signed n ks d m out sign x v (present {b} is) ds here =
    takes_on n (Number AfterE) ks d b (S (Number AfterSign) ks d) m (x ++ v) out (num_on AfterE AfterSign ks d b (exp_sign b is)) refl (takes_exponent_digits n AfterSign ks d m out sign_digit x v ds here)

takes_exponent : (n : ℕ) (num : NumberAt) (ks : List Kind) (d : ℕ) (m : Marks) (out : List Member) → may_end num ≡ true → ((b : ℕ) → is_exponent_letter b ≡ true → number_step num b ≡ Some AfterE) → (x v : List ℕ) → Exponent x → EndsHere n ks d m v out → Takes n (S (Number num) ks d) m (x ++ v) out
takes_exponent n num ks d m out e go x v no_exponent here = here num e
takes_exponent n num ks d m out e go x v (exponent_digits {b} {sign} {t} is sg ds) here =
    takes_on n (Number num) ks d b (S (Number AfterE) ks d) m ((sign ++ t) ++ v) out (num_on num AfterE ks d b (go b is)) refl
    (subst (λ (y : List ℕ). Takes n (S (Number AfterE) ks d) m y out) (sym (append_assoc sign t v)) (takes_signed n ks d m out sign t v sg ds here))

takes_fraction : (n : ℕ) (num : NumberAt) (ks : List Kind) (d : ℕ) (m : Marks) (out : List Member) → may_end num ≡ true → number_step num 46 ≡ Some AfterPoint → ((b : ℕ) → is_exponent_letter b ≡ true → number_step num b ≡ Some AfterE)
    → (x y v : List ℕ) → Fraction x → Exponent y → EndsHere n ks d m v out → Takes n (S (Number num) ks d) m (x ++ (y ++ v)) out
takes_fraction n num ks d m out e dot go x y v no_fraction p here = takes_exponent n num ks d m out e go y v p here
takes_fraction n num ks d m out e dot go x y v (point_digits {t} ds) p here = takes_on n (Number num) ks d 46 (S (Number AfterPoint) ks d) m (t ++ (y ++ v)) out (num_on num AfterPoint ks d 46 dot) refl (dotted t ds)
  where
    dotted : (t : List ℕ) → Digits t → Takes n (S (Number AfterPoint) ks d) m (t ++ (y ++ v)) out
    dotted t (digits {b} {t = u} is each) =
        takes_on n (Number AfterPoint) ks d b (S (Number InFraction) ks d) m (u ++ (y ++ v)) out (num_on AfterPoint InFraction ks d b (dot_digit b is)) refl
        (takes_digits n InFraction ks d m out frac_self u (y ++ v) each (takes_exponent n InFraction ks d m out refl frac_power y v p here))

-- What follows a number's zero is passed.
pub takes_zero : (n : ℕ) (ks : List Kind) (d : ℕ) (m : Marks) (out : List Member) (f e v : List ℕ) → Fraction f → Exponent e → EndsHere n ks d m v out → Takes n (S (Number AfterZero) ks d) m (f ++ (e ++ v)) out
takes_zero n ks d m out f e v fr po here = takes_fraction n AfterZero ks d m out refl zero_dot zero_power f e v fr po here

-- The rest of a number's integer is passed.
pub takes_integer : (n : ℕ) (ks : List Kind) (d : ℕ) (m : Marks) (out : List Member) (x f e v : List ℕ) → Each is_digit x → Fraction f → Exponent e → EndsHere n ks d m v out → Takes n (S (Number InInteger) ks d) m (x ++ (f ++ (e ++ v))) out
takes_integer n ks d m out x f e v each fr po here = takes_digits n InInteger ks d m out int_self x (f ++ (e ++ v)) each (takes_fraction n InInteger ks d m out refl int_dot int_power f e v fr po here)

minus_zero : number_step AfterMinus 48 ≡ Some AfterZero
unfolding number_step
minus_zero = refl

minus_digit : (b : ℕ) → is_digit b ≡ true → eqb b 48 ≡ false → number_step AfterMinus b ≡ Some InInteger
unfolding number_step
minus_digit b t z = rw (z, t) refl

-- What follows a number's minus is passed.
pub takes_minus : (n : ℕ) (ks : List Kind) (d : ℕ) (m : Marks) (out : List Member) (i f e v : List ℕ) → Integer i → Fraction f → Exponent e → EndsHere n ks d m v out → Takes n (S (Number AfterMinus) ks d) m (i ++ (f ++ (e ++ v))) out
takes_minus n ks d m out i f e v zero_digit fr po here = takes_on n (Number AfterMinus) ks d 48 (S (Number AfterZero) ks d) m (f ++ (e ++ v)) out (num_on AfterMinus AfterZero ks d 48 minus_zero) refl (takes_zero n ks d m out f e v fr po here)
takes_minus n ks d m out i f e v (no_zero_first {b} {t} is ne each) fr po here =
    takes_on n (Number AfterMinus) ks d b (S (Number InInteger) ks d) m (t ++ (f ++ (e ++ v))) out (num_on AfterMinus InInteger ks d b (minus_digit b is (not_true (eqb b 48) ne))) refl (takes_integer n ks d m out t f e v each fr po here)
