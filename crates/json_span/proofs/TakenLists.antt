-- Values are taken whole, and so are lists with their parts.
use Rattle.std.proofs.Common.{◌≡◌, ℕ, zero, suc, true, false, cond, eqb, List, [], ◌∷◌, ◌++◌, Some, refl, sym, ap, subst, ◌∙◌, append_assoc, arith, inl, inr}
use Rattle.std.specs.List.{AllByRecursion}
use Rattle.std.specs.Prelude.{codes}
use Rattle.std.proofs.lemmas.Bool.{eqb-true}
use Rattle.std.proofs.lemmas.Bool.Decides.{nat_tests}
use Rattle.json_span.specs.Grammar.{Each, is_space, is_digit, is_exponent_letter, is_minus, Scalar, Integer, Optional, Fraction, Exponent, zero_digit, no_zero_first, absent, present, string_text, number_text, true_text, false_text, null_text, open_of, close_of, Piece, piece_text, IsColon, IsNamed, IsPiece, commas, Inside, IsList, ValueWithin}
use Rattle.json_span.specs.Machine.{State, go_to, scalar_begin, push, value_begin, part_begin, fresh_step, after_step, begin_step, step}
use Rattle.json_span.specs.Nest.{is_deep}
use Rattle.json_span.specs.Machine.{within, no_marks, span_to}
use Rattle.json_span.specs.declared.marks.Within.TheVariants.{Outside, InValue}
use Rattle.json_span.specs.declared.marks.Marks.{Marks}
use Rattle.json_span.specs.declared.Member.{Member}
use Rattle.json_span.specs.declared.state.Kind.{Kind}
use Rattle.json_span.specs.declared.state.Kind.TheVariants.{Array, Object}
use Rattle.json_span.specs.declared.state.Role.TheVariants.{Key, Item}
use Rattle.json_span.specs.declared.state.StringAt.TheVariants.{Plain}
use Rattle.json_span.specs.declared.state.NumberAt.TheVariants.{AfterMinus, AfterZero, InInteger}
use Rattle.json_span.specs.declared.state.LiteralAt.TheVariants.{Rue, Ue, Alse, Lse, Se, E, Ull, Ll, L}
use Rattle.json_span.specs.declared.state.At.{At}
use Rattle.json_span.specs.declared.state.At.TheVariants.{Fresh, Part, Colon, Value, After, Text, Number, Literal}
use Rattle.json_span.proofs.BasicLaws.{not_true}
use Rattle.json_span.proofs.TakenLaws.{Takes, S, place_of, takes_on, begun, named as after_name, settled, ended, InPart, in_value, in_number, in_name, takes_begin, takes_end, takes_spaces, fresh_self, part_self, value_self, colon_self, after_self}
use Rattle.json_span.proofs.TakenStrings.{takes_chars, both_value, takes_item, takes_key, takes_letter, takes_last}
use Rattle.json_span.proofs.TakenNumbers.{Tail, takes_behind, EndsHere, takes_zero, takes_integer, takes_minus}

-- ---- the first byte of a value

-- A value stands at the front: its first byte leads to a state from which the rest is taken.
pub record Start (n : ℕ) (ks : List Kind) (d : ℕ) (m : Marks) (u : List ℕ) (out : List Member) : Type 0 where
  pub b : ℕ
  pub bs : List ℕ
  pub at : u ≡ b ∷ bs
  pub no_space : is_space b ≡ false
  pub no_array : eqb b 93 ≡ false
  pub no_object : eqb b 125 ≡ false
  pub t : State
  pub is : value_begin ks d b ≡ Some t
  pub part : InPart ks (within t.at t.kinds)
  pub acc : Takes n t m bs out

moved : (n : ℕ) (ks : List Kind) (d : ℕ) (m : Marks) (u w : List ℕ) (out : List Member) → u ≡ w → Start n ks d m w out → Start n ks d m u out
moved n ks d m u w out e s = subst (λ (x : List ℕ). Start n ks d m x out) (sym e) s

quote_begins : (ks : List Kind) (d : ℕ) → value_begin ks d 34 ≡ go_to (Text Item Plain) ks d
unfolding value_begin scalar_begin
quote_begins ks d = refl

minus_begins : (ks : List Kind) (d : ℕ) → value_begin ks d 45 ≡ go_to (Number AfterMinus) ks d
unfolding value_begin scalar_begin
minus_begins ks d = refl

zero_begins : (ks : List Kind) (d : ℕ) → value_begin ks d 48 ≡ go_to (Number AfterZero) ks d
unfolding value_begin scalar_begin
zero_begins ks d = refl

true_begins : (ks : List Kind) (d : ℕ) → value_begin ks d 116 ≡ go_to (Literal Rue) ks d
unfolding value_begin scalar_begin
true_begins ks d = refl

false_begins : (ks : List Kind) (d : ℕ) → value_begin ks d 102 ≡ go_to (Literal Alse) ks d
unfolding value_begin scalar_begin
false_begins ks d = refl

null_begins : (ks : List Kind) (d : ℕ) → value_begin ks d 110 ≡ go_to (Literal Ull) ks d
unfolding value_begin scalar_begin
null_begins ks d = refl

record DigitTests (b : ℕ) : Type 0 where
  a : eqb b 91 ≡ false
  o : eqb b 123 ≡ false
  q : eqb b 34 ≡ false
  m : eqb b 45 ≡ false
  t : eqb b 116 ≡ false
  f : eqb b 102 ≡ false
  n : eqb b 110 ≡ false
  s : is_space b ≡ false
  ca : eqb b 93 ≡ false
  co : eqb b 125 ≡ false

digit_tests : (b : ℕ) → is_digit b ≡ true → DigitTests b
digit_tests b t = record { a = grind (arith, nat_tests); o = grind (arith, nat_tests); q = grind (arith, nat_tests); m = grind (arith, nat_tests); t = grind (arith, nat_tests); f = grind (arith, nat_tests); n = grind (arith, nat_tests); s = grind (arith, nat_tests); ca = grind (arith, nat_tests); co = grind (arith, nat_tests) }

scalar_digit : (b : ℕ) → is_digit b ≡ true → eqb b 48 ≡ false → scalar_begin b ≡ Some (Number InInteger)
unfolding scalar_begin
scalar_digit b is z = let g = digit_tests b is in let q = g.q in let m = g.m in let t = g.t in let f = g.f in let n = g.n in rw (q, m, z, t, f, n, is) refl

digit_begins : (ks : List Kind) (d b : ℕ) → is_digit b ≡ true → eqb b 48 ≡ false → value_begin ks d b ≡ go_to (Number InInteger) ks d
unfolding value_begin
digit_begins ks d b t z = let g = digit_tests b t in let a = g.a in let o = g.o in let sc = scalar_digit b t z in rw (a, o, sc) refl

number_start : (n : ℕ) (ks : List Kind) (d : ℕ) (m : Marks) (out : List Member) (s i f e v : List ℕ) → Optional is_minus s → Integer i → Fraction f → Exponent e → EndsHere n ks d m v out → Start n ks d m (s ++ (i ++ (f ++ (e ++ v)))) out
number_start n ks d m out s i f e v absent zero_digit fr po here =
    record { b = 48; bs = f ++ (e ++ v); at = refl; no_space = refl; no_array = refl; no_object = refl; t = S (Number AfterZero) ks d; is = zero_begins ks d; part = in_number refl; acc = takes_zero n ks d m out f e v fr po here }
number_start n ks d m out s i f e v absent (no_zero_first {b} {t} is ne each) fr po here =
    let g = digit_tests b is in
    record { b = b; bs = t ++ (f ++ (e ++ v)); at = refl; no_space = g.s; no_array = g.ca; no_object = g.co; t = S (Number InInteger) ks d; is = digit_begins ks d b is (not_true (eqb b 48) ne); part = in_number refl; acc = takes_integer n ks d m out t f e v each fr po here }
number_start n ks d m out s i f e v (present {b = c} ism) w fr po here =
    let at : c ≡ 45 = eqb-true c 45 ism in
    moved n ks d m (c ∷ (i ++ (f ++ (e ++ v)))) (45 ∷ (i ++ (f ++ (e ++ v)))) out (ap (λ (x : ℕ). x ∷ (i ++ (f ++ (e ++ v)))) at)
    (record { b = 45; bs = i ++ (f ++ (e ++ v)); at = refl; no_space = refl; no_array = refl; no_object = refl; t = S (Number AfterMinus) ks d; is = minus_begins ks d; part = in_number refl; acc = takes_minus n ks d m out i f e v w fr po here })

number_grouped : (a b c d e : List ℕ) → (a ++ (b ++ (c ++ d))) ++ e ≡ a ++ (b ++ (c ++ (d ++ e)))
number_grouped a b c d e = simp append_assoc

scalar_start : (n : ℕ) (ks : List Kind) (d : ℕ) (m : Marks) (a v : List ℕ) (out : List Member) → Scalar a → Tail v → Takes n (S After ks d) (settled ks m) v out → Start n ks d m (a ++ v) (ended ks m (place_of n v) out)
scalar_start n ks d m a v out (string_text is) tail acc =
    moved n ks d m (a ++ v) (34 ∷ (is.inner ++ 34 ∷ v)) (ended ks m (place_of n v) out) (ap (λ (x : List ℕ). x ++ v) is.whole ∙ ap (λ (x : List ℕ). 34 ∷ x) (append_assoc is.inner (34 ∷ []) v))
    (record {
      b = 34;
      bs = is.inner ++ 34 ∷ v;
      at = refl;
      no_space = refl;
      no_array = refl;
      no_object = refl;
      t = S (Text Item Plain) ks d;
      is = quote_begins ks d;
      part = in_value (both_value (is_deep ks));
      acc = takes_chars n Item ks d is.inner v m (ended ks m (place_of n v) out) is.chars (takes_item n ks d m v out acc);
    })
scalar_start n ks d m a v out (number_text is) tail acc =
    moved n ks d m (a ++ v) (is.sign ++ (is.integer ++ (is.fraction ++ (is.exponent ++ v)))) (ended ks m (place_of n v) out) (ap (λ (x : List ℕ). x ++ v) is.whole ∙ number_grouped is.sign is.integer is.fraction is.exponent v)
    (number_start n ks d m (ended ks m (place_of n v) out) is.sign is.integer is.fraction is.exponent v is.is_sign is.is_integer is.is_fraction is.is_exponent (λ num e. takes_behind n num ks d m v out e tail acc))
scalar_start n ks d m a v out true_text tail acc =
    record {
      b = 116;
      bs = codes "rue" ++ v;
      at = refl;
      no_space = refl;
      no_array = refl;
      no_object = refl;
      t = S (Literal Rue) ks d;
      is = true_begins ks d;
      part = in_value (both_value (is_deep ks));
      acc = takes_letter n Rue Ue ks d m (codes "ue" ++ v) (ended ks m (place_of n v) out) refl (takes_letter n Ue E ks d m (codes "e" ++ v) (ended ks m (place_of n v) out) refl (takes_last n E ks d m v out refl acc));
    }
scalar_start n ks d m a v out false_text tail acc =
    record {
      b = 102;
      bs = codes "alse" ++ v;
      at = refl;
      no_space = refl;
      no_array = refl;
      no_object = refl;
      t = S (Literal Alse) ks d;
      is = false_begins ks d;
      part = in_value (both_value (is_deep ks));
      acc = takes_letter n Alse Lse ks d m (codes "lse" ++ v) (ended ks m (place_of n v) out) refl (takes_letter n Lse Se ks d m (codes "se" ++ v) (ended ks m (place_of n v) out) refl (takes_letter n Se E ks d m (codes "e" ++ v) (ended ks m (place_of n v) out) refl (takes_last n E ks d m v out refl acc)));
    }
scalar_start n ks d m a v out null_text tail acc =
    record {
      b = 110;
      bs = codes "ull" ++ v;
      at = refl;
      no_space = refl;
      no_array = refl;
      no_object = refl;
      t = S (Literal Ull) ks d;
      is = null_begins ks d;
      part = in_value (both_value (is_deep ks));
      acc = takes_letter n Ull Ll ks d m (codes "ll" ++ v) (ended ks m (place_of n v) out) refl (takes_letter n Ll L ks d m (codes "l" ++ v) (ended ks m (place_of n v) out) refl (takes_last n L ks d m v out refl acc));
    }

-- ---- the front of a part

-- a state from which a part may begin
record Opening (at : At) : Type 0 where
  on : (k : Kind) (ks : List Kind) (d b : ℕ) → is_space b ≡ false → eqb b (close_of k) ≡ false → step at (k ∷ ks) d b ≡ part_begin (k ∷ ks) d b
  self : (ks : List Kind) (d b : ℕ) → is_space b ≡ true → step at ks d b ≡ go_to at ks d
  between : (ks : List Kind) → within at ks ≡ cond (is_deep ks) InValue Outside

fresh_on : (k : Kind) (ks : List Kind) (d b : ℕ) → is_space b ≡ false → eqb b (close_of k) ≡ false → step Fresh (k ∷ ks) d b ≡ part_begin (k ∷ ks) d b
unfolding step begin_step fresh_step
fresh_on k ks d b p q = rw (p, q) refl

part_on : (k : Kind) (ks : List Kind) (d b : ℕ) → is_space b ≡ false → eqb b (close_of k) ≡ false → step Part (k ∷ ks) d b ≡ part_begin (k ∷ ks) d b
unfolding step begin_step
part_on k ks d b p q = rw p refl

opening_fresh : Opening Fresh
opening_fresh = record { on = fresh_on; self = fresh_self; between = λ ks. refl }

opening_part : Opening Part
opening_part = record { on = part_on; self = part_self; between = λ ks. refl }

array_begins : (ks : List Kind) (d b : ℕ) → part_begin (Array ∷ ks) d b ≡ value_begin (Array ∷ ks) d b
unfolding part_begin
array_begins ks d b = refl

object_begins : (ks : List Kind) (d : ℕ) → part_begin (Object ∷ ks) d 34 ≡ go_to (Text Key Plain) (Object ∷ ks) d
unfolding part_begin
object_begins ks d = refl

value_on : (ks : List Kind) (d b : ℕ) → is_space b ≡ false → step Value ks d b ≡ value_begin ks d b
unfolding step begin_step
value_on ks d b p = rw p refl

-- Before a value a digit but for zero begins a number.
pub value_digit : (ks : List Kind) (d b : ℕ) → is_digit b ≡ true → eqb b 48 ≡ false → step Value ks d b ≡ go_to (Number InInteger) ks d
value_digit ks d b is no_zero = value_on ks d b (digit_tests b is).s ∙ digit_begins ks d b is no_zero

colon_on : (ks : List Kind) (d : ℕ) → step Colon ks d 58 ≡ go_to Value ks d
unfolding step begin_step
colon_on ks d = refl

takes_value : (n : ℕ) (ks : List Kind) (d : ℕ) (m : Marks) (u : List ℕ) (out : List Member) → Start n ks d (begun ks (place_of n u) m) u out → Takes n (S Value ks d) m u out
takes_value n ks d m u out s =
    subst (λ (x : List ℕ). Takes n (S Value ks d) m x out) (sym s.at)
    (takes_begin n Value ks d s.b s.t m s.bs out (value_on ks d s.b s.no_space ∙ s.is) refl s.part (subst (λ (x : List ℕ). Takes n s.t (begun ks (place_of n x) m) s.bs out) s.at s.acc))

takes_colon : (n : ℕ) (ks : List Kind) (d : ℕ) (m : Marks) (middle u : List ℕ) (out : List Member) → IsColon middle → Start n ks d (begun ks (place_of n u) m) u out → Takes n (S Colon ks d) m (middle ++ u) out
takes_colon n ks d m middle u out c s =
    subst (λ (x : List ℕ). Takes n (S Colon ks d) m x out) (sym (ap (λ (x : List ℕ). x ++ u) c.whole ∙ append_assoc c.before (58 ∷ c.after) u))
    (takes_spaces n Colon ks d (colon_self ks d) c.before (58 ∷ (c.after ++ u)) m out c.is_before
    (takes_on n Colon ks d 58 (S Value ks d) m (c.after ++ u) out (colon_on ks d) refl (takes_spaces n Value ks d (value_self ks d) c.after u m out c.is_after (takes_value n ks d m u out s))))

-- the marks where a part's value has begun: where its name began and ended, and where the value began
abbrev part_marks : Kind → List Kind → ℕ → ℕ → ℕ → Marks → Marks
part_marks Array ks p q r m = begun ks r m
part_marks Object ks p q r m = begun ks r (after_name ks q (begun ks p m))

takes_front : (n : ℕ) (at : At) → Opening at → (k : Kind) (ks : List Kind) (d : ℕ) (m : Marks) (name middle u : List ℕ) (out : List Member) → IsNamed k name middle
    → Start n (k ∷ ks) d (part_marks k (k ∷ ks) (place_of n (name ++ (middle ++ u))) (place_of n (middle ++ u)) (place_of n u) m) u out → Takes n (S at (k ∷ ks) d) m (name ++ (middle ++ u)) out
takes_front n at o Array ks d m name middle u out named s =
    subst (λ (x : List ℕ). Takes n (S at (Array ∷ ks) d) m (x ++ (middle ++ u)) out) (sym named.0) (subst (λ (x : List ℕ). Takes n (S at (Array ∷ ks) d) m (x ++ u) out) (sym named.1)
    (subst (λ (x : List ℕ). Takes n (S at (Array ∷ ks) d) m x out) (sym s.at)
    (takes_begin n at (Array ∷ ks) d s.b s.t m s.bs out (o.on Array ks d s.b s.no_space s.no_array ∙ array_begins ks d s.b ∙ s.is) (o.between (Array ∷ ks)) s.part (subst (λ (x : List ℕ). Takes n s.t (begun (Array ∷ ks) (place_of n x) m) s.bs out) s.at s.acc))))
takes_front n at o Object ks d m name middle u out named s =
    let q = named.0 in
    let e : name ++ (middle ++ u) ≡ 34 ∷ (q.inner ++ 34 ∷ (middle ++ u)) = ap (λ (x : List ℕ). x ++ (middle ++ u)) q.whole ∙ ap (λ (x : List ℕ). 34 ∷ x) (append_assoc q.inner (34 ∷ []) (middle ++ u)) in
    subst (λ (x : List ℕ). Takes n (S at (Object ∷ ks) d) m x out) (sym e)
    (takes_begin n at (Object ∷ ks) d 34 (S (Text Key Plain) (Object ∷ ks) d) m (q.inner ++ 34 ∷ (middle ++ u)) out (o.on Object ks d 34 refl refl ∙ object_begins ks d) (o.between (Object ∷ ks)) (in_name refl)
    (subst (λ (x : List ℕ). Takes n (S (Text Key Plain) (Object ∷ ks) d) (begun (Object ∷ ks) (place_of n x) m) (q.inner ++ 34 ∷ (middle ++ u)) out) e
    (takes_chars n Key (Object ∷ ks) d q.inner (middle ++ u) (begun (Object ∷ ks) (place_of n (name ++ (middle ++ u))) m) out q.chars
    (takes_key n (Object ∷ ks) d (begun (Object ∷ ks) (place_of n (name ++ (middle ++ u))) m) (middle ++ u) out
    (takes_colon n (Object ∷ ks) d (after_name (Object ∷ ks) (place_of n (middle ++ u)) (begun (Object ∷ ks) (place_of n (name ++ (middle ++ u))) m)) middle u out named.1 s)))))

-- ---- parts

space_stops : (b : ℕ) → is_space b ≡ true → (is_digit b ≡ false) × (eqb b 46 ≡ false) × (is_exponent_letter b ≡ false)
space_stops b t = (grind (arith, nat_tests), grind (arith, nat_tests), grind (arith, nat_tests))

tail_of : (k : Kind) (before : List ℕ) (ps : List Piece) (v : List ℕ) → Each is_space before → Tail (before ++ (commas ps ++ close_of k ∷ v))
tail_of Array [] [] v each = record { c = 93; cs = v; at = refl; no_digit = refl; no_point = refl; no_exponent = refl }
tail_of Object [] [] v each = record { c = 125; cs = v; at = refl; no_digit = refl; no_point = refl; no_exponent = refl }
tail_of k [] (p ∷ ps) v each = record { c = 44; cs = (piece_text p ++ commas ps) ++ close_of k ∷ v; at = refl; no_digit = refl; no_point = refl; no_exponent = refl }
tail_of k (b ∷ bs) ps v each = let t = space_stops b each.0 in record { c = b; cs = bs ++ (commas ps ++ close_of k ∷ v); at = refl; no_digit = t.0; no_point = t.1; no_exponent = t.2 }

-- a value stands at the front, with any text behind it with which no number goes on
abbrev pub ValueStarts : ℕ → ℕ → Type 0
ValueStarts n d = (a : List ℕ) → ValueWithin d a → (k : Kind) (ks : List Kind) (m : Marks) (v : List ℕ) (out : List Member) → Tail v → Takes n (S After (k ∷ ks) d) (settled (k ∷ ks) m) v out → Start n (k ∷ ks) d m (a ++ v) (ended (k ∷ ks) m (place_of n v) out)

after_closes : (k : Kind) (ks : List Kind) (d : ℕ) → step After (k ∷ ks) d (close_of k) ≡ go_to After ks (suc d)
unfolding step after_step
after_closes Array ks d = refl
after_closes Object ks d = refl

fresh_closes : (k : Kind) (ks : List Kind) (d : ℕ) → step Fresh (k ∷ ks) d (close_of k) ≡ go_to After ks (suc d)
unfolding step begin_step fresh_step
fresh_closes Array ks d = refl
fresh_closes Object ks d = refl

after_goes_on : (k : Kind) (ks : List Kind) (d : ℕ) → step After (k ∷ ks) d 44 ≡ go_to Part (k ∷ ks) d
unfolding step after_step
after_goes_on k ks d = refl

piece_regrouped : (p : Piece) (c w : List ℕ) → (piece_text p ++ c) ++ w ≡ p.before ++ (p.name ++ (p.middle ++ (p.value ++ (p.after ++ (c ++ w)))))
piece_regrouped p c w = go p.before p.name p.middle p.value p.after
  where
    go : (a b m x e : List ℕ) → ((a ++ (b ++ (m ++ (x ++ e)))) ++ c) ++ w ≡ a ++ (b ++ (m ++ (x ++ (e ++ (c ++ w)))))
    go a b m x e = simp append_assoc

-- the marks at a piece's value, with a text behind the piece's value
abbrev pub piece_marks : ℕ → List Kind → Kind → Piece → List ℕ → Marks → Marks
piece_marks n ks k p r m = part_marks k ks (place_of n (p.name ++ (p.middle ++ (p.value ++ r)))) (place_of n (p.middle ++ (p.value ++ r))) (place_of n (p.value ++ r)) m

-- a piece, from the state where it begins, and what follows it
takes_piece : (n : ℕ) (at : At) → Opening at → (d : ℕ) → ValueStarts n d → (k : Kind) (ks : List Kind) (p : Piece) (ps : List Piece) (v : List ℕ) (m : Marks) (out : List Member) → IsPiece k (ValueWithin d) p
    → Takes n (S After (k ∷ ks) d) (settled (k ∷ ks) (piece_marks n (k ∷ ks) k p (p.after ++ (commas ps ++ close_of k ∷ v)) m)) (p.after ++ (commas ps ++ close_of k ∷ v)) out
    → Takes n (S at (k ∷ ks) d) m ((piece_text p ++ commas ps) ++ close_of k ∷ v) (ended (k ∷ ks) (piece_marks n (k ∷ ks) k p (p.after ++ (commas ps ++ close_of k ∷ v)) m) (place_of n (p.after ++ (commas ps ++ close_of k ∷ v))) out)
takes_piece n at o d ih k ks p ps v m out is acc =
    let w = p.after ++ (commas ps ++ close_of k ∷ v) in
    let m2 = piece_marks n (k ∷ ks) k p w m in
    let out2 = ended (k ∷ ks) m2 (place_of n w) out in
    subst (λ (x : List ℕ). Takes n (S at (k ∷ ks) d) m x out2) (sym (piece_regrouped p (commas ps) (close_of k ∷ v)))
    (takes_spaces n at (k ∷ ks) d (o.self (k ∷ ks) d) p.before (p.name ++ (p.middle ++ (p.value ++ w))) m out2 is.before
    (takes_front n at o k ks d m p.name p.middle (p.value ++ w) out2 is.named (ih p.value is.value k ks m2 w out (tail_of k p.after ps v is.after) acc)))

-- ---- lists within a part of the outermost

deep_marks : (n : ℕ) (k l : Kind) (ks : List Kind) (p : Piece) (r : List ℕ) (m : Marks) → piece_marks n (k ∷ l ∷ ks) k p r m ≡ m
deep_marks n Array l ks p r m = refl
deep_marks n Object l ks p r m = refl

deep_piece : (n : ℕ) (at : At) → Opening at → (d : ℕ) → ValueStarts n d → (k l : Kind) (ks : List Kind) (p : Piece) (ps : List Piece) (v : List ℕ) (m : Marks) (out : List Member) → IsPiece k (ValueWithin d) p
    → Takes n (S After (k ∷ l ∷ ks) d) m (p.after ++ (commas ps ++ close_of k ∷ v)) out → Takes n (S at (k ∷ l ∷ ks) d) m ((piece_text p ++ commas ps) ++ close_of k ∷ v) out
deep_piece n at o d ih k l ks p ps v m out is acc =
    let w = p.after ++ (commas ps ++ close_of k ∷ v) in
    takes_piece n at o d ih k (l ∷ ks) p ps v m out is (subst (λ (x : Marks). Takes n (S After (k ∷ l ∷ ks) d) x w out) (sym (deep_marks n k l ks p w m)) acc)

deep_tail : (n d : ℕ) → ValueStarts n d → (k l : Kind) (ks : List Kind) (v : List ℕ) (m : Marks) (out : List Member) → Takes n (S After (l ∷ ks) (suc d)) (settled (l ∷ ks) m) v out
    → (ps : List Piece) (sp : List ℕ) → Each is_space sp → AllByRecursion (IsPiece k (ValueWithin d)) ps → Takes n (S After (k ∷ l ∷ ks) d) m (sp ++ (commas ps ++ close_of k ∷ v)) (ended (l ∷ ks) m (place_of n v) out)
deep_tail n d ih k l ks v m out acc [] sp each all =
    takes_spaces n After (k ∷ l ∷ ks) d (after_self (k ∷ l ∷ ks) d) sp (close_of k ∷ v) m (ended (l ∷ ks) m (place_of n v) out) each
    (takes_end n After (k ∷ l ∷ ks) (l ∷ ks) (suc d) d (close_of k) m v out (after_closes k (l ∷ ks) d) refl acc)
deep_tail n d ih k l ks v m out acc (p ∷ ps) sp each all =
    takes_spaces n After (k ∷ l ∷ ks) d (after_self (k ∷ l ∷ ks) d) sp (44 ∷ ((piece_text p ++ commas ps) ++ close_of k ∷ v)) m (ended (l ∷ ks) m (place_of n v) out) each
    (takes_on n After (k ∷ l ∷ ks) d 44 (S Part (k ∷ l ∷ ks) d) m ((piece_text p ++ commas ps) ++ close_of k ∷ v) (ended (l ∷ ks) m (place_of n v) out) (after_goes_on k (l ∷ ks) d) refl
    (deep_piece n Part opening_part d ih k l ks p ps v m (ended (l ∷ ks) m (place_of n v) out) all.0 (deep_tail n d ih k l ks v m out acc ps p.after all.0.after all.1)))

deep_inside : (n d : ℕ) → ValueStarts n d → (k l : Kind) (ks : List Kind) (v : List ℕ) (m : Marks) (out : List Member) → Takes n (S After (l ∷ ks) (suc d)) (settled (l ∷ ks) m) v out
    → (inner : List ℕ) (ps : List Piece) → Inside k (ValueWithin d) inner ps → Takes n (S Fresh (k ∷ l ∷ ks) d) m (inner ++ close_of k ∷ v) (ended (l ∷ ks) m (place_of n v) out)
deep_inside n d ih k l ks v m out acc inner [] is =
    takes_spaces n Fresh (k ∷ l ∷ ks) d (fresh_self (k ∷ l ∷ ks) d) inner (close_of k ∷ v) m (ended (l ∷ ks) m (place_of n v) out) is
    (takes_end n Fresh (k ∷ l ∷ ks) (l ∷ ks) (suc d) d (close_of k) m v out (fresh_closes k (l ∷ ks) d) refl acc)
deep_inside n d ih k l ks v m out acc inner (p ∷ ps) is =
    subst (λ (x : List ℕ). Takes n (S Fresh (k ∷ l ∷ ks) d) m (x ++ close_of k ∷ v) (ended (l ∷ ks) m (place_of n v) out)) (sym is.2)
    (deep_piece n Fresh opening_fresh d ih k l ks p ps v m (ended (l ∷ ks) m (place_of n v) out) is.0 (deep_tail n d ih k l ks v m out acc ps p.after is.0.after is.1))

list_begins : (k : Kind) (ks : List Kind) (d : ℕ) → value_begin ks (suc d) (open_of k) ≡ go_to Fresh (k ∷ ks) d
unfolding value_begin push
list_begins Array ks d = refl
list_begins Object ks d = refl

list_start : (n d : ℕ) → ValueStarts n d → (k : Kind) (a : List ℕ) → IsList k (ValueWithin d) a → (l : Kind) (ks : List Kind) (m : Marks) (v : List ℕ) (out : List Member)
    → Takes n (S After (l ∷ ks) (suc d)) (settled (l ∷ ks) m) v out → Start n (l ∷ ks) (suc d) m (a ++ v) (ended (l ∷ ks) m (place_of n v) out)
list_start n d ih Array a is l ks m v out acc =
    moved n (l ∷ ks) (suc d) m (a ++ v) (91 ∷ (is.inner ++ 93 ∷ v)) (ended (l ∷ ks) m (place_of n v) out) (ap (λ (x : List ℕ). x ++ v) is.whole ∙ ap (λ (x : List ℕ). 91 ∷ x) (append_assoc is.inner (93 ∷ []) v))
    (record { b = 91; bs = is.inner ++ 93 ∷ v; at = refl; no_space = refl; no_array = refl; no_object = refl; t = S Fresh (Array ∷ l ∷ ks) d; is = list_begins Array (l ∷ ks) d; part = in_value refl; acc = deep_inside n d ih Array l ks v m out acc is.inner is.pieces is.inside })
list_start n d ih Object a is l ks m v out acc =
    moved n (l ∷ ks) (suc d) m (a ++ v) (123 ∷ (is.inner ++ 125 ∷ v)) (ended (l ∷ ks) m (place_of n v) out) (ap (λ (x : List ℕ). x ++ v) is.whole ∙ ap (λ (x : List ℕ). 123 ∷ x) (append_assoc is.inner (125 ∷ []) v))
    (record { b = 123; bs = is.inner ++ 125 ∷ v; at = refl; no_space = refl; no_array = refl; no_object = refl; t = S Fresh (Object ∷ l ∷ ks) d; is = list_begins Object (l ∷ ks) d; part = in_value refl; acc = deep_inside n d ih Object l ks v m out acc is.inner is.pieces is.inside })

-- A value text is passed from its first byte on.
pub value_starts : (n d : ℕ) → ValueStarts n d
value_starts n zero a is k ks m v out tail acc = scalar_start n (k ∷ ks) zero m a v out is tail acc
value_starts n (suc d) a (inl is) k ks m v out tail acc = scalar_start n (k ∷ ks) (suc d) m a v out is tail acc
value_starts n (suc d) a (inr (l, is)) k ks m v out tail acc = list_start n d (value_starts n d) l a is k ks m v out acc

-- ---- the outermost list

-- the parts that end in the pieces, with a text behind them
abbrev pub placed : ℕ → Kind → List Piece → List ℕ → List Member
placed n k [] w = []
placed n k (p ∷ ps) w =
    let r = p.after ++ (commas ps ++ w) in
    let m = piece_marks n (k ∷ []) k p r no_marks in
    record { name = m.name; value = span_to m.from (place_of n r) } ∷ placed n k ps w

top_tail : (n d : ℕ) → ValueStarts n d → (k : Kind) (v : List ℕ) → Takes n (S After [] (suc d)) no_marks v []
    → (ps : List Piece) (sp : List ℕ) → Each is_space sp → AllByRecursion (IsPiece k (ValueWithin d)) ps → Takes n (S After (k ∷ []) d) no_marks (sp ++ (commas ps ++ close_of k ∷ v)) (placed n k ps (close_of k ∷ v))
top_tail n d ih k v acc [] sp each all =
    takes_spaces n After (k ∷ []) d (after_self (k ∷ []) d) sp (close_of k ∷ v) no_marks [] each (takes_on n After (k ∷ []) d (close_of k) (S After [] (suc d)) no_marks v [] (after_closes k [] d) refl acc)
top_tail n d ih k v acc (p ∷ ps) sp each all =
    takes_spaces n After (k ∷ []) d (after_self (k ∷ []) d) sp (44 ∷ ((piece_text p ++ commas ps) ++ close_of k ∷ v)) no_marks (placed n k (p ∷ ps) (close_of k ∷ v)) each
    (takes_on n After (k ∷ []) d 44 (S Part (k ∷ []) d) no_marks ((piece_text p ++ commas ps) ++ close_of k ∷ v) (placed n k (p ∷ ps) (close_of k ∷ v)) (after_goes_on k [] d) refl
    (takes_piece n Part opening_part d ih k [] p ps v no_marks (placed n k ps (close_of k ∷ v)) all.0 (top_tail n d ih k v acc ps p.after all.0.after all.1)))

-- What stands between the outermost brackets is read to its pieces.
pub top_inside : (n d : ℕ) → ValueStarts n d → (k : Kind) (v : List ℕ) → Takes n (S After [] (suc d)) no_marks v []
    → (inner : List ℕ) (ps : List Piece) → Inside k (ValueWithin d) inner ps → Takes n (S Fresh (k ∷ []) d) no_marks (inner ++ close_of k ∷ v) (placed n k ps (close_of k ∷ v))
top_inside n d ih k v acc inner [] is =
    takes_spaces n Fresh (k ∷ []) d (fresh_self (k ∷ []) d) inner (close_of k ∷ v) no_marks [] is (takes_on n Fresh (k ∷ []) d (close_of k) (S After [] (suc d)) no_marks v [] (fresh_closes k [] d) refl acc)
top_inside n d ih k v acc inner (p ∷ ps) is =
    subst (λ (x : List ℕ). Takes n (S Fresh (k ∷ []) d) no_marks (x ++ close_of k ∷ v) (placed n k (p ∷ ps) (close_of k ∷ v))) (sym is.2)
    (takes_piece n Fresh opening_fresh d ih k [] p ps v no_marks (placed n k ps (close_of k ∷ v)) is.0 (top_tail n d ih k v acc ps p.after is.0.after is.1))
