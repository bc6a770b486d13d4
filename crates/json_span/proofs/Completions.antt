-- The texts that complete what a state has read.
use Rattle.std.proofs.Common.{◌≡◌, ℕ, zero, suc, List, [], ◌∷◌, ◌++◌, ◌⊎◌}
use Rattle.std.specs.List.{AllByRecursion}
use Rattle.std.specs.Prelude.{codes}
use Rattle.json_span.specs.Grammar.{Each, is_space, is_digit, is_sign, Digits, Integer, Optional, Fraction, Exponent, open_of, close_of, Piece, IsNamed, IsPiece, commas, ValueWithin}
use Rattle.json_span.specs.declared.state.Kind.{Kind}
use Rattle.json_span.specs.declared.state.Role.{Role}
use Rattle.json_span.specs.declared.state.Role.TheVariants.{Key, Item}
use Rattle.json_span.specs.declared.state.NumberAt.{NumberAt}
use Rattle.json_span.specs.declared.state.NumberAt.TheVariants.{AfterMinus, AfterZero, InInteger, AfterPoint, InFraction, AfterE, AfterSign, InExponent}
use Rattle.json_span.specs.declared.state.LiteralAt.{LiteralAt}
use Rattle.json_span.specs.declared.state.LiteralAt.TheVariants.{Rue, Ue, Alse, Lse, Se, E, Ull, Ll, L}
use Rattle.json_span.specs.declared.state.At.{At}
use Rattle.json_span.specs.declared.state.At.TheVariants.{Begin, Fresh, Part, Colon, Value, After, Text, Number, Literal}
use Rattle.json_span.proofs.StringLaws.{InString}

-- ---- what completes the open brackets, the innermost first

-- what completes a text behind a value
abbrev pub Afters : ℕ → List Kind → List ℕ → Type 0
Afters d [] u = Each is_space u
Afters d (k ∷ ks) u = (after : List ℕ) × (ps : List Piece) × (v : List ℕ) × Each is_space after × AllByRecursion (IsPiece k (ValueWithin d)) ps × Afters (suc d) ks v × (u ≡ after ++ (commas ps ++ close_of k ∷ v))

-- what completes a text before a value
abbrev pub Values : ℕ → List Kind → List ℕ → Type 0
Values d ks u = (a : List ℕ) × (w : List ℕ) × ValueWithin d a × Afters d ks w × (u ≡ a ++ w)

-- what completes a text before a part behind a comma
abbrev pub Parts : ℕ → List Kind → List ℕ → Type 0
Parts d [] u = ⊥
Parts d (k ∷ ks) u = (name : List ℕ) × (middle : List ℕ) × (w : List ℕ) × IsNamed k name middle × Values d (k ∷ ks) w × (u ≡ name ++ (middle ++ w))

-- what completes a text behind a bracket that opens a list
abbrev pub Freshes : ℕ → List Kind → List ℕ → Type 0
Freshes d [] u = ⊥
Freshes d (k ∷ ks) u = ((v : List ℕ) × Afters (suc d) ks v × (u ≡ close_of k ∷ v)) ⊎ Parts d (k ∷ ks) u

-- ---- what completes a state

-- behind white space
pub record Spaced (P : List ℕ → Type 0) (u : List ℕ) : Type 0 where
  pub sp : List ℕ
  pub v : List ℕ
  pub each : Each is_space sp
  pub is : P v
  pub whole : u ≡ sp ++ v

-- P and then Q
pub record Then (P Q : List ℕ → Type 0) (u : List ℕ) : Type 0 where
  pub x : List ℕ
  pub v : List ℕ
  pub first : P x
  pub then : Q v
  pub whole : u ≡ x ++ v

-- a byte and then Q
pub record Byte (b : ℕ) (Q : List ℕ → Type 0) (u : List ℕ) : Type 0 where
  pub v : List ℕ
  pub then : Q v
  pub whole : u ≡ b ∷ v

-- what completes a number
abbrev pub NumRest : NumberAt → List ℕ → Type 0
NumRest AfterMinus u = Then Integer (Then Fraction Exponent) u
NumRest AfterZero u = Then Fraction Exponent u
NumRest InInteger u = Then (Each is_digit) (Then Fraction Exponent) u
NumRest AfterPoint u = Then Digits Exponent u
NumRest InFraction u = Then (Each is_digit) Exponent u
NumRest AfterE u = Then (Optional is_sign) Digits u
NumRest AfterSign u = Digits u
NumRest InExponent u = Each is_digit u

-- the letters of a literal that are to come
abbrev pub letters_of : LiteralAt → List ℕ
letters_of Rue = codes "rue"
letters_of Ue = codes "ue"
letters_of Alse = codes "alse"
letters_of Lse = codes "lse"
letters_of Se = codes "se"
letters_of E = codes "e"
letters_of Ull = codes "ull"
letters_of Ll = codes "ll"
letters_of L = codes "l"

-- a colon and a value
abbrev pub Colons : ℕ → List Kind → List ℕ → Type 0
Colons d ks u = Spaced (Byte 58 (Spaced (Values d ks))) u

-- what completes a text behind a string, by what the string is
abbrev pub Closing : Role → ℕ → List Kind → List ℕ → Type 0
Closing Key d ks u = Colons d ks u
Closing Item d ks u = Afters d ks u

-- a bracket and what completes its list
abbrev pub Opens : Kind → ℕ → List Kind → List ℕ → Type 0
Opens k zero ks u = ⊥
Opens k (suc d) ks u = Byte (open_of k) (Spaced (Freshes d (k ∷ ks))) u

-- what completes a state, with so much room for brackets
abbrev pub Completes : At → ℕ → List Kind → List ℕ → Type 0
Completes Fresh d ks u = Spaced (Freshes d ks) u
Completes Part d ks u = Spaced (Parts d ks) u
Completes Value d ks u = Spaced (Values d ks) u
Completes After d ks u = Afters d ks u
Completes Colon d ks u = Colons d ks u
Completes (Text role c) d ks u = Then (InString c) (Byte 34 (Closing role d ks)) u
Completes (Number n) d ks u = Then (NumRest n) (Afters d ks) u
Completes (Literal l) d ks u = Then (λ t. t ≡ letters_of l) (Afters d ks) u
Completes (Begin k) d ks u = Spaced (Opens k d ks) u
