-- The inside of a string, byte by byte.
use Rattle.std.proofs.Common.{◌≡◌, ℕ, zero, suc, Bool, true, false, cond, eqb, List, [], ◌∷◌, Some, None, refl, sym, subst, arith, inl, inr}
use Rattle.std.proofs.lemmas.Bool.{eqb-true}
use Rattle.std.proofs.lemmas.Bool.Decides.{nat_tests}
use Rattle.json_span.specs.Grammar.{is_plain, is_escape, is_hex, Chars, no_chars, plain_char, escaped_char, unicode_char}
use Rattle.json_span.specs.Machine.{string_step, ends_string}
use Rattle.json_span.specs.declared.state.StringAt.{StringAt}
use Rattle.json_span.specs.declared.state.StringAt.TheVariants.{Plain, Escaped, Four, Three, Two, One}
use Rattle.std.proofs.lemmas.Option.{cond_some}
use Rattle.json_span.proofs.BasicLaws.{some_is, chosen}

-- A byte that stands for itself is no quote and no backslash.
pub plain_test : (b : ℕ) → is_plain b ≡ true → (eqb b 34 ≡ false) × (eqb b 92 ≡ false)
plain_test b e = (grind (arith, nat_tests), grind (arith, nat_tests))

-- A letter of a short escape is no `u`.
pub escape_test : (b : ℕ) → is_escape b ≡ true → eqb b 117 ≡ false
escape_test b e = grind (arith, nat_tests)

-- A byte that stands for itself leaves a string where it was.
pub plain_step : (b : ℕ) → is_plain b ≡ true → string_step Plain b ≡ Some Plain
unfolding string_step
plain_step b is = subst (λ (x : Bool). cond x (Some Escaped) (cond (is_plain b) (Some Plain) None) ≡ Some Plain) (sym (plain_test b is).1) (rw is refl)

-- so many digits of four, and what may follow them
abbrev pub Hexes : ℕ → List ℕ → Type 0
Hexes zero u = Chars u
Hexes (suc n) [] = ⊥
Hexes (suc n) (h ∷ t) = (is_hex h ≡ true) × Hexes n t

-- what completes the inside of a string
abbrev pub InString : StringAt → List ℕ → Type 0
InString Plain u = Chars u
InString Escaped u = Chars (92 ∷ u)
InString Four u = Hexes 4 u
InString Three u = Hexes 3 u
InString Two u = Hexes 2 u
InString One u = Hexes 1 u

four : (u : List ℕ) → Hexes 4 u → Chars (92 ∷ 117 ∷ u)
four [] h = absurd h
four (a ∷ []) h = absurd h.1
four (a ∷ b ∷ []) h = absurd h.1.1
four (a ∷ b ∷ c ∷ []) h = absurd h.1.1.1
four (a ∷ b ∷ c ∷ d ∷ t) h = unicode_char h.0 h.1.0 h.1.1.0 h.1.1.1.0 h.1.1.1.1

-- What completes a string behind a byte completes it before the byte.
pub step_completes : (s t : StringAt) (b : ℕ) (u : List ℕ) → string_step s b ≡ Some t → InString t u → InString s (b ∷ u)
unfolding string_step
step_completes Plain t b u e c = elim (chosen (eqb b 92) (Some Escaped) (cond (is_plain b) (Some Plain) None) (Some t) e) [
  | inl h ↦ (let same : Escaped ≡ t = some_is Escaped t h.1 in let at : b ≡ 92 = eqb-true b 92 h.0 in rw at (subst (λ (x : StringAt). InString x u) (sym same) c))
  | inr h ↦ (let i = cond_some (is_plain b) Plain t h.1 in plain_char i.0 (subst (λ (x : StringAt). InString x u) (sym i.1) c))
]
step_completes Escaped t b u e c = elim (chosen (eqb b 117) (Some Four) (cond (is_escape b) (Some Plain) None) (Some t) e) [
  | inl h ↦ (let same : Four ≡ t = some_is Four t h.1 in let at : b ≡ 117 = eqb-true b 117 h.0 in rw at (four u (subst (λ (x : StringAt). InString x u) (sym same) c)))
  | inr h ↦ (let i = cond_some (is_escape b) Plain t h.1 in escaped_char i.0 (subst (λ (x : StringAt). InString x u) (sym i.1) c))
]
step_completes Four t b u e c = let i = cond_some (is_hex b) Three t e in (i.0, subst (λ (x : StringAt). InString x u) (sym i.1) c)
step_completes Three t b u e c = let i = cond_some (is_hex b) Two t e in (i.0, subst (λ (x : StringAt). InString x u) (sym i.1) c)
step_completes Two t b u e c = let i = cond_some (is_hex b) One t e in (i.0, subst (λ (x : StringAt). InString x u) (sym i.1) c)
step_completes One t b u e c = let i = cond_some (is_hex b) Plain t e in (i.0, subst (λ (x : StringAt). InString x u) (sym i.1) c)

-- A byte that ends a string is a quote behind a whole character.
pub ends_plain : (s : StringAt) (b : ℕ) → ends_string s b ≡ true → (b ≡ 34) × InString s []
ends_plain Plain b e = (eqb-true b 34 e, no_chars)
ends_plain Escaped b e = absurd cc
ends_plain Four b e = absurd cc
ends_plain Three b e = absurd cc
ends_plain Two b e = absurd cc
ends_plain One b e = absurd cc
