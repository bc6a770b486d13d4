-- What completes the state behind a byte completes, behind that byte, the state before it.
use Rattle.std.proofs.Common.{◌≡◌, ℕ, zero, suc, true, eqb, List, [], ◌∷◌, ◌++◌, Option, Some, None, refl, sym, ap, subst, ◌∙◌, append_assoc, inl, inr}
use Rattle.std.proofs.lemmas.Bool.{eqb-true}
use Rattle.json_span.specs.Grammar.{Each, is_space, is_digit, is_minus, Scalar, Integer, Optional, Fraction, Exponent, IsNumber, zero_digit, no_zero_first, absent, present, string_text, number_text, true_text, false_text, null_text, open_of, close_of, Piece, piece_text, IsColon, commas, ValueWithin}
use Rattle.json_span.specs.Machine.{◌>>=◌, State, go_to, string_step, ends_string, behind, number_step, may_end, letter, next_letters, scalar_begin, push, value_begin, part_begin, fresh_step, after_step, number_goes, literal_goes, literal_step, begin_step, step}
use Rattle.json_span.specs.declared.state.Kind.{Kind}
use Rattle.json_span.specs.declared.state.Kind.TheVariants.{Array, Object}
use Rattle.json_span.specs.declared.state.Role.{Role}
use Rattle.json_span.specs.declared.state.Role.TheVariants.{Key, Item}
use Rattle.json_span.specs.declared.state.StringAt.TheVariants.{Plain}
use Rattle.json_span.specs.declared.state.NumberAt.{NumberAt}
use Rattle.json_span.specs.declared.state.NumberAt.TheVariants.{AfterMinus, AfterZero, InInteger}
use Rattle.json_span.specs.declared.state.LiteralAt.{LiteralAt}
use Rattle.json_span.specs.declared.state.LiteralAt.TheVariants.{Rue, Ue, Alse, Lse, Se, E, Ull, Ll, L}
use Rattle.json_span.specs.declared.state.At.{At}
use Rattle.json_span.specs.declared.state.At.TheVariants.{Begin, Fresh, Part, Colon, Value, After, Text, Number, Literal}
use Rattle.std.proofs.lemmas.Option.{cond_some}
use Rattle.json_span.proofs.BasicLaws.{bind_some, some_is, chosen}
use Rattle.json_span.proofs.StringLaws.{step_completes, ends_plain}
use Rattle.json_span.proofs.Completions.{Afters, Values, Parts, Freshes, Spaced, Then, Byte, NumRest, letters_of, Colons, Closing, Opens, Completes}
use Rattle.json_span.proofs.NumberLaws.{num_ended, num_sound}

comma_grouped : (after before name middle a after2 c w : List ℕ)
    → (after ++ 44 ∷ before) ++ (name ++ (middle ++ (a ++ (after2 ++ (c ++ w))))) ≡ after ++ ((44 ∷ (before ++ (name ++ (middle ++ (a ++ after2)))) ++ c) ++ w)
comma_grouped after before name middle a after2 c w = simp append_assoc

after_comma : (d : ℕ) (k : Kind) (ks : List Kind) (after before u : List ℕ) → Each is_space after → Each is_space before → Parts d (k ∷ ks) u → Afters d (k ∷ ks) ((after ++ 44 ∷ before) ++ u)
after_comma d k ks after before u sa sb (name, middle, w, named, (a, x, is, (after2, ps, v, sa2, each, rest, e3), e2), e1) =
    let p : Piece = record { before = before; name = name; middle = middle; value = a; after = after2 } in (
      after,
      p ∷ ps,
      v,
      sa,
      (record { before = sb; named = named; value = is; after = sa2 }, each),
      rest,
      ap (λ (t : List ℕ). (after ++ 44 ∷ before) ++ t) (e1 ∙ ap (λ (t : List ℕ). name ++ (middle ++ t)) (e2 ∙ ap (λ (t : List ℕ). a ++ t) e3)) ∙ comma_grouped after before name middle a after2 (commas ps) (close_of k ∷ v),
    )

after_close : (d : ℕ) (k : Kind) (ks : List Kind) (after u : List ℕ) → Each is_space after → Afters (suc d) ks u → Afters d (k ∷ ks) ((after ++ close_of k ∷ []) ++ u)
after_close d k ks after u sa is = (after, [], u, sa, tt, is, append_assoc after (close_of k ∷ []) u)

open_grouped : (b before name middle a after c v : List ℕ) (o e : ℕ)
    → (o ∷ before) ++ (name ++ (middle ++ (a ++ (after ++ (c ++ e ∷ v))))) ≡ (o ∷ ((before ++ (name ++ (middle ++ (a ++ after)))) ++ c) ++ e ∷ []) ++ v
open_grouped b before name middle a after c v o e = simp append_assoc

value_open : (d : ℕ) (k : Kind) (ks : List Kind) (before u : List ℕ) → Each is_space before → Freshes d (k ∷ ks) u → Values (suc d) ks ((open_of k ∷ before) ++ u)
value_open d k ks before u sb (inl (v, rest, e)) = (
  open_of k ∷ before ++ close_of k ∷ [],
  v,
  inr (k, record { inner = before; pieces = []; inside = sb; whole = refl }),
  rest,
  ap (λ (t : List ℕ). open_of k ∷ before ++ t) e ∙ ap (λ (t : List ℕ). open_of k ∷ t) (sym (append_assoc before (close_of k ∷ []) v)),
)
value_open d k ks before u sb (inr (name, middle, w, named, (a, x, is, (after, ps, v, sa, each, rest, e3), e2), e1)) =
    let p : Piece = record { before = before; name = name; middle = middle; value = a; after = after } in (
      open_of k ∷ (piece_text p ++ commas ps) ++ close_of k ∷ [],
      v,
      inr (k, record { inner = piece_text p ++ commas ps; pieces = p ∷ ps; inside = (record { before = sb; named = named; value = is; after = sa }, each, refl); whole = refl }),
      rest,
      ap (λ (t : List ℕ). (open_of k ∷ before) ++ t) (e1 ∙ ap (λ (t : List ℕ). name ++ (middle ++ t)) (e2 ∙ ap (λ (t : List ℕ). a ++ t) e3)) ∙ open_grouped [] before name middle a after (commas ps) v (open_of k) (close_of k),
    )

-- a value that is no list, at any depth
pub scalar_value : (d : ℕ) (a : List ℕ) → Scalar a → ValueWithin d a
scalar_value zero a is = is
scalar_value (suc d) a is = inl is

-- ---- each step keeps what completes

space_more : (P : List ℕ → Type 0) (b : ℕ) (u : List ℕ) → is_space b ≡ true → Spaced P u → Spaced P (b ∷ u)
space_more P b u t s = record { sp = b ∷ s.sp; v = s.v; each = (t, s.each); is = s.is; whole = ap (λ (x : List ℕ). b ∷ x) s.whole }

-- No white space needs to stand before a text.
pub no_space : (P : List ℕ → Type 0) (u : List ℕ) → P u → Spaced P u
no_space P u p = record { sp = []; v = u; each = tt; is = p; whole = refl }

goes : (at : At) (ks : List Kind) (room : ℕ) (s : State) (u : List ℕ) → go_to at ks room ≡ Some s → Completes s.at s.room s.kinds u → Completes at room ks u
goes at ks room s u e c = subst (λ (w : State). Completes w.at w.room w.kinds u) (sym (some_is (record { at = at; kinds = ks; room = room }) s e)) c

-- ---- each step is sound

after_space : (d : ℕ) (ks : List Kind) (b : ℕ) (u : List ℕ) → is_space b ≡ true → Afters d ks u → Afters d ks (b ∷ u)
after_space d [] b u t each = (t, each)
after_space d (k ∷ ks) b u t (before, ps, v, sa, each, rest, e) = (b ∷ before, ps, v, (t, sa), each, rest, ap (λ (x : List ℕ). b ∷ x) e)

spaced_comma : (d : ℕ) (k : Kind) (ks : List Kind) (u : List ℕ) → Spaced (Parts d (k ∷ ks)) u → Afters d (k ∷ ks) (44 ∷ u)
spaced_comma d k ks u s = subst (λ (x : List ℕ). Afters d (k ∷ ks) (44 ∷ x)) (sym s.whole) (after_comma d k ks [] s.sp s.v tt s.each s.is)

after_sound : (ks : List Kind) (d b : ℕ) (s : State) (u : List ℕ) → after_step ks d b ≡ Some s → Completes s.at s.room s.kinds u → Afters d ks (b ∷ u)
unfolding after_step
after_sound [] d b s u e c = (let i = cond_some (is_space b) (record { at = After; kinds = []; room = d }) s e in after_space d [] b u i.0 (subst (λ (w : State). Completes w.at w.room w.kinds u) (sym i.1) c))
after_sound (k ∷ ks) d b s u e c = elim (chosen (is_space b) (go_to After (k ∷ ks) d) _ (Some s) e) [
  | inl h ↦ after_space d (k ∷ ks) b u h.0 (goes After (k ∷ ks) d s u h.1 c)
  | inr h ↦ elim (chosen (eqb b 44) (go_to Part (k ∷ ks) d) _ (Some s) h.1) [
    | inl i ↦ (let at : b ≡ 44 = eqb-true b 44 i.0 in subst (λ (x : ℕ). Afters d (k ∷ ks) (x ∷ u)) (sym at) (spaced_comma d k ks u (goes Part (k ∷ ks) d s u i.1 c)))
    | inr i ↦ (let j = cond_some (eqb b (close_of k)) (record { at = After; kinds = ks; room = suc d }) s i.1 in let at : b ≡ close_of k = eqb-true b (close_of k) j.0 in
        subst (λ (x : ℕ). Afters d (k ∷ ks) (x ∷ u)) (sym at) (after_close d k ks [] u tt (subst (λ (w : State). Completes w.at w.room w.kinds u) (sym j.1) c)))
  ]
]

push_sound : (k : Kind) (ks : List Kind) (d : ℕ) (s : State) (u : List ℕ) → push k ks d ≡ Some s → Completes s.at s.room s.kinds u → Values d ks (open_of k ∷ u)
unfolding push
push_sound k ks zero s u e c = absurd cc
push_sound k ks (suc d) s u e c =
    let f = goes Fresh (k ∷ ks) d s u e c in
    subst (λ (x : List ℕ). Values (suc d) ks (open_of k ∷ x)) (sym f.whole) (value_open d k ks f.sp f.v f.each f.is)

number_made : (sign integer x : List ℕ) → Optional is_minus sign → Integer integer → (r : Then Fraction Exponent x) → IsNumber (sign ++ (integer ++ x))
number_made sign integer x s w r = record { sign = sign; integer = integer; fraction = r.x; exponent = r.v; is_sign = s; is_integer = w; is_fraction = r.first; is_exponent = r.then; whole = ap (λ (y : List ℕ). sign ++ (integer ++ y)) r.whole }

-- a scalar in front of what follows it
scalar_then : (d : ℕ) (ks : List Kind) (b : ℕ) (x v u : List ℕ) → Scalar (b ∷ x) → Afters d ks v → u ≡ x ++ v → Values d ks (b ∷ u)
scalar_then d ks b x v u is then whole = (b ∷ x, v, scalar_value d (b ∷ x) is, then, ap (λ (y : List ℕ). b ∷ y) whole)

letters_then : (d : ℕ) (ks : List Kind) (b : ℕ) (l : LiteralAt) (u : List ℕ) → Scalar (b ∷ letters_of l) → Completes (Literal l) d ks u → Values d ks (b ∷ u)
letters_then d ks b l u is c = scalar_then d ks b (letters_of l) c.v u is c.then (c.whole ∙ ap (λ (y : List ℕ). y ++ c.v) c.first)

at_byte : (P : List ℕ → Type 0) (b a : ℕ) (u : List ℕ) → eqb b a ≡ true → P (a ∷ u) → P (b ∷ u)
at_byte P b a u e p = subst (λ (x : ℕ). P (x ∷ u)) (sym (eqb-true b a e)) p

-- a scalar whose first byte leads to a state
begun : (at : At) (d : ℕ) (ks : List Kind) (b : ℕ) (u : List ℕ) → scalar_begin b ≡ Some at → Completes at d ks u → Values d ks (b ∷ u)
unfolding scalar_begin
begun at d ks b u e c = elim (chosen (eqb b 34) (Some (Text Item Plain)) _ (Some at) e) [
  | inl h ↦ at_byte (Values d ks) b 34 u h.0 (let q : Completes (Text Item Plain) d ks u = subst (λ (x : At). Completes x d ks u) (sym (some_is (Text Item Plain) at h.1)) c in
      scalar_then d ks 34 (q.x ++ 34 ∷ []) q.then.v u (string_text (record { inner = q.x; chars = q.first; whole = refl })) q.then.then (q.whole ∙ ap (λ (y : List ℕ). q.x ++ y) q.then.whole ∙ sym (append_assoc q.x (34 ∷ []) q.then.v)))
  | inr h ↦ elim (chosen (eqb b 45) (Some (Number AfterMinus)) _ (Some at) h.1) [
    | inl i ↦ at_byte (Values d ks) b 45 u i.0 (let q : Completes (Number AfterMinus) d ks u = subst (λ (x : At). Completes x d ks u) (sym (some_is (Number AfterMinus) at i.1)) c in
        scalar_then d ks 45 q.x q.v u (number_text (subst (λ (y : List ℕ). IsNumber (45 ∷ y)) (sym q.first.whole) (number_made (45 ∷ []) q.first.x q.first.v (present refl) q.first.first q.first.then))) q.then q.whole)
    | inr i ↦ elim (chosen (eqb b 48) (Some (Number AfterZero)) _ (Some at) i.1) [
      | inl j ↦ at_byte (Values d ks) b 48 u j.0 (let q : Completes (Number AfterZero) d ks u = subst (λ (x : At). Completes x d ks u) (sym (some_is (Number AfterZero) at j.1)) c in
          scalar_then d ks 48 q.x q.v u (number_text (number_made [] (48 ∷ []) q.x absent zero_digit q.first)) q.then q.whole)
      | inr j ↦ elim (chosen (eqb b 116) (Some (Literal Rue)) _ (Some at) j.1) [
        | inl l ↦ at_byte (Values d ks) b 116 u l.0 (letters_then d ks 116 Rue u true_text (subst (λ (x : At). Completes x d ks u) (sym (some_is (Literal Rue) at l.1)) c))
        | inr l ↦ elim (chosen (eqb b 102) (Some (Literal Alse)) _ (Some at) l.1) [
          | inl m ↦ at_byte (Values d ks) b 102 u m.0 (letters_then d ks 102 Alse u false_text (subst (λ (x : At). Completes x d ks u) (sym (some_is (Literal Alse) at m.1)) c))
          | inr m ↦ elim (chosen (eqb b 110) (Some (Literal Ull)) _ (Some at) m.1) [
            | inl n ↦ at_byte (Values d ks) b 110 u n.0 (letters_then d ks 110 Ull u null_text (subst (λ (x : At). Completes x d ks u) (sym (some_is (Literal Ull) at n.1)) c))
            | inr n ↦ (let k = cond_some (is_digit b) (Number InInteger) at n.1 in let q : Completes (Number InInteger) d ks u = subst (λ (x : At). Completes x d ks u) (sym k.1) c in
                scalar_then d ks b q.x q.v u (number_text (subst (λ (y : List ℕ). IsNumber (b ∷ y)) (sym q.first.whole) (number_made [] (b ∷ q.first.x) q.first.v absent (no_zero_first k.0 (λ same. absurd (let f = j.0 in cc)) q.first.first) q.first.then))) q.then q.whole)
          ]
        ]
      ]
    ]
  ]
]

scalar_sound : (ks : List Kind) (d b : ℕ) (s : State) (u : List ℕ) → (scalar_begin b >>= λ at. go_to at ks d) ≡ Some s → Completes s.at s.room s.kinds u → Values d ks (b ∷ u)
scalar_sound ks d b s u e c = let t = bind_some (scalar_begin b) (λ at. go_to at ks d) s e in begun t.0 d ks b u t.1 (goes t.0 ks d s u t.2 c)

value_sound : (ks : List Kind) (d b : ℕ) (s : State) (u : List ℕ) → value_begin ks d b ≡ Some s → Completes s.at s.room s.kinds u → Values d ks (b ∷ u)
unfolding value_begin
value_sound ks d b s u e c = elim (chosen (eqb b 91) (push Array ks d) _ (Some s) e) [
  | inl h ↦ at_byte (Values d ks) b 91 u h.0 (push_sound Array ks d s u h.1 c)
  | inr h ↦ elim (chosen (eqb b 123) (push Object ks d) _ (Some s) h.1) [
    | inl i ↦ at_byte (Values d ks) b 123 u i.0 (push_sound Object ks d s u i.1 c)
    | inr i ↦ scalar_sound ks d b s u i.1 c
  ]
]

colon_made : (d : ℕ) (ks : List Kind) (u : List ℕ) → Colons d ks u → (middle w : List ℕ) × IsColon middle × Values d ks w × (u ≡ middle ++ w)
colon_made d ks u c =
    let b = c.is in
    let t = b.then in (
      c.sp ++ 58 ∷ t.sp,
      t.v,
      record { before = c.sp; after = t.sp; is_before = c.each; is_after = t.each; whole = refl },
      t.is,
      c.whole ∙ ap (λ (y : List ℕ). c.sp ++ y) (b.whole ∙ ap (λ (y : List ℕ). 58 ∷ y) t.whole) ∙ sym (append_assoc c.sp (58 ∷ t.sp) t.v),
    )

part_sound : (ks : List Kind) (d b : ℕ) (s : State) (u : List ℕ) → part_begin ks d b ≡ Some s → Completes s.at s.room s.kinds u → Parts d ks (b ∷ u)
unfolding part_begin
part_sound [] d b s u e c = absurd cc
part_sound (Array ∷ ks) d b s u e c = ([], [], b ∷ u, (refl, refl), value_sound (Array ∷ ks) d b s u e c, refl)
part_sound (Object ∷ ks) d b s u e c =
    let i = cond_some (eqb b 34) (record { at = Text Key Plain; kinds = Object ∷ ks; room = d }) s e in
    let q : Completes (Text Key Plain) d (Object ∷ ks) u = subst (λ (w : State). Completes w.at w.room w.kinds u) (sym i.1) c in
    let m = colon_made d (Object ∷ ks) q.then.v q.then.then in
    at_byte (Parts d (Object ∷ ks)) b 34 u i.0 (
      34 ∷ q.x ++ 34 ∷ [],
      m.0,
      m.1,
      (record { inner = q.x; chars = q.first; whole = refl }, m.2),
      m.3,
      ap (λ (y : List ℕ). 34 ∷ y) (q.whole ∙ ap (λ (y : List ℕ). q.x ++ y) (q.then.whole ∙ ap (λ (y : List ℕ). 34 ∷ y) m.4) ∙ sym (append_assoc q.x (34 ∷ []) (m.0 ++ m.1))),
    )

fresh_sound : (ks : List Kind) (d b : ℕ) (s : State) (u : List ℕ) → fresh_step ks d b ≡ Some s → Completes s.at s.room s.kinds u → Freshes d ks (b ∷ u)
unfolding fresh_step
fresh_sound [] d b s u e c = absurd cc
fresh_sound (k ∷ ks) d b s u e c = elim (chosen (eqb b (close_of k)) (go_to After ks (suc d)) _ (Some s) e) [
  | inl h ↦ inl (u, goes After ks (suc d) s u h.1 c, ap (λ (y : ℕ). y ∷ u) (eqb-true b (close_of k) h.0))
  | inr h ↦ inr (part_sound (k ∷ ks) d b s u h.1 c)
]

number_goes_sound : (n : NumberAt) (ks : List Kind) (d b : ℕ) (o : Option NumberAt) (s : State) (u : List ℕ) → number_step n b ≡ o → number_goes n ks d b o ≡ Some s → Completes s.at s.room s.kinds u → Then (NumRest n) (Afters d ks) (b ∷ u)
number_goes_sound n ks d b (Some m) s u at e c = (let q = goes (Number m) ks d s u e c in record { x = b ∷ q.x; v = q.v; first = num_sound n m b q.x at q.first; then = q.then; whole = ap (λ (y : List ℕ). b ∷ y) q.whole })
number_goes_sound n ks d b None s u at e c = elim (chosen (may_end n) (after_step ks d b) None (Some s) e) [
  | inl h ↦ record { x = []; v = b ∷ u; first = num_ended n h.0; then = after_sound ks d b s u h.1 c; whole = refl }
  | inr h ↦ absurd cc
]

-- the letters that come behind the next
abbrev letters_behind : Option LiteralAt → List ℕ
letters_behind None = []
letters_behind (Some l) = letters_of l

letters_are : (l : LiteralAt) → letters_of l ≡ letter l ∷ letters_behind (next_letters l)
letters_are Rue = refl
letters_are Ue = refl
letters_are Alse = refl
letters_are Lse = refl
letters_are Se = refl
letters_are E = refl
letters_are Ull = refl
letters_are Ll = refl
letters_are L = refl

letters_gone : (o : Option LiteralAt) (ks : List Kind) (d : ℕ) (s : State) (u : List ℕ) → literal_goes o ks d ≡ Some s → Completes s.at s.room s.kinds u → Then (λ t. t ≡ letters_behind o) (Afters d ks) u
letters_gone None ks d s u e c = record { x = []; v = u; first = refl; then = goes After ks d s u e c; whole = refl }
letters_gone (Some l) ks d s u e c = goes (Literal l) ks d s u e c

literal_sound : (l : LiteralAt) (ks : List Kind) (d b : ℕ) (s : State) (u : List ℕ) → literal_step l ks d b ≡ Some s → Completes s.at s.room s.kinds u → Completes (Literal l) d ks (b ∷ u)
literal_sound l ks d b s u e c = elim (chosen (eqb b (letter l)) (literal_goes (next_letters l) ks d) None (Some s) e) [
  | inl h ↦ (let q = letters_gone (next_letters l) ks d s u h.1 c in
      record { x = letter l ∷ q.x; v = q.v; first = ap (λ (z : List ℕ). letter l ∷ z) q.first ∙ sym (letters_are l); then = q.then; whole = ap (λ (z : ℕ). z ∷ u) (eqb-true b (letter l) h.0) ∙ ap (λ (z : List ℕ). letter l ∷ z) q.whole })
  | inr h ↦ absurd cc
]

closing_goes : (role : Role) (d : ℕ) (ks : List Kind) (s : State) (u : List ℕ) → go_to (behind role) ks d ≡ Some s → Completes s.at s.room s.kinds u → Closing role d ks u
closing_goes Key d ks s u e c = goes Colon ks d s u e c
closing_goes Item d ks s u e c = goes After ks d s u e c

-- a state before which white space may stand, by what follows that
abbrev Beginning : At → ℕ → List Kind → List ℕ → Type 0
Beginning Fresh d ks u = Freshes d ks u
Beginning Part d ks u = Parts d ks u
Beginning Value d ks u = Values d ks u
Beginning Colon d ks u = Byte 58 (Spaced (Values d ks)) u
Beginning (Begin k) d ks u = Opens k d ks u
Beginning _ d ks u = ⊥

open_sound : (k : Kind) (ks : List Kind) (d : ℕ) (s : State) (u : List ℕ) → push k ks d ≡ Some s → Completes s.at s.room s.kinds u → Opens k d ks (open_of k ∷ u)
unfolding push
open_sound k ks zero s u e c = absurd cc
open_sound k ks (suc d) s u e c = record { v = u; then = goes Fresh (k ∷ ks) d s u e c; whole = refl }

begin_sound : (at : At) (ks : List Kind) (d b : ℕ) (s : State) (u : List ℕ) → begin_step at ks d b ≡ Some s → Completes s.at s.room s.kinds u → Beginning at d ks (b ∷ u)
unfolding begin_step
begin_sound Fresh ks d b s u e c = fresh_sound ks d b s u e c
begin_sound Part ks d b s u e c = part_sound ks d b s u e c
begin_sound Value ks d b s u e c = value_sound ks d b s u e c
begin_sound Colon ks d b s u e c = let i = cond_some (eqb b 58) (record { at = Value; kinds = ks; room = d }) s e in
    record { v = u; then = subst (λ (w : State). Completes w.at w.room w.kinds u) (sym i.1) c; whole = ap (λ (z : ℕ). z ∷ u) (eqb-true b 58 i.0) }
begin_sound (Begin k) ks d b s u e c = elim (chosen (eqb b (open_of k)) (push k ks d) None (Some s) e) [
  | inl h ↦ at_byte (Opens k d ks) b (open_of k) u h.0 (open_sound k ks d s u h.1 c)
  | inr h ↦ absurd cc
]
begin_sound After ks d b s u e c = absurd cc
begin_sound (Text role a) ks d b s u e c = absurd cc
begin_sound (Number n) ks d b s u e c = absurd cc
begin_sound (Literal l) ks d b s u e c = absurd cc

-- What completes a text behind a byte completes it before the byte.
pub step_sound : (at : At) (ks : List Kind) (d b : ℕ) (s : State) (u : List ℕ) → step at ks d b ≡ Some s → Completes s.at s.room s.kinds u → Completes at d ks (b ∷ u)
unfolding step
step_sound Fresh ks d b s u e c = elim (chosen (is_space b) (go_to Fresh ks d) _ (Some s) e) [
  | inl h ↦ space_more (Freshes d ks) b u h.0 (goes Fresh ks d s u h.1 c)
  | inr h ↦ no_space (Freshes d ks) (b ∷ u) (begin_sound Fresh ks d b s u h.1 c)
]
step_sound Part ks d b s u e c = elim (chosen (is_space b) (go_to Part ks d) _ (Some s) e) [
  | inl h ↦ space_more (Parts d ks) b u h.0 (goes Part ks d s u h.1 c)
  | inr h ↦ no_space (Parts d ks) (b ∷ u) (begin_sound Part ks d b s u h.1 c)
]
step_sound Value ks d b s u e c = elim (chosen (is_space b) (go_to Value ks d) _ (Some s) e) [
  | inl h ↦ space_more (Values d ks) b u h.0 (goes Value ks d s u h.1 c)
  | inr h ↦ no_space (Values d ks) (b ∷ u) (begin_sound Value ks d b s u h.1 c)
]
step_sound Colon ks d b s u e c = elim (chosen (is_space b) (go_to Colon ks d) _ (Some s) e) [
  | inl h ↦ space_more (Byte 58 (Spaced (Values d ks))) b u h.0 (goes Colon ks d s u h.1 c)
  | inr h ↦ no_space (Byte 58 (Spaced (Values d ks))) (b ∷ u) (begin_sound Colon ks d b s u h.1 c)
]
step_sound (Begin k) ks d b s u e c = elim (chosen (is_space b) (go_to (Begin k) ks d) _ (Some s) e) [
  | inl h ↦ space_more (Opens k d ks) b u h.0 (goes (Begin k) ks d s u h.1 c)
  | inr h ↦ no_space (Opens k d ks) (b ∷ u) (begin_sound (Begin k) ks d b s u h.1 c)
]
step_sound After ks d b s u e c = after_sound ks d b s u e c
step_sound (Text role a) ks d b s u e c = elim (chosen (ends_string a b) (go_to (behind role) ks d) _ (Some s) e) [
  | inl h ↦ (let p = ends_plain a b h.0 in record { x = []; v = b ∷ u; first = p.1; then = record { v = u; then = closing_goes role d ks s u h.1 c; whole = ap (λ (z : ℕ). z ∷ u) p.0 }; whole = refl })
  | inr h ↦ (let t = bind_some (string_step a b) (λ x. go_to (Text role x) ks d) s h.1 in let q = goes (Text role t.0) ks d s u t.2 c in
      record { x = b ∷ q.x; v = q.v; first = step_completes a t.0 b q.x t.1 q.first; then = q.then; whole = ap (λ (y : List ℕ). b ∷ y) q.whole })
]
step_sound (Number n) ks d b s u e c = number_goes_sound n ks d b (number_step n b) s u refl e c
step_sound (Literal l) ks d b s u e c = literal_sound l ks d b s u e c
