-- A quote that is not closed.
use Rattle.std.specs.Prelude.{◌≡◌, ◌≢◌, ℕ, suc, ◌%◌, ◌<◌, ◌==◌, if◌then◌else◌, List, [], ◌∷◌, length, slice_index, Option, Some, None}

-- how many double quotes a text has
abbrev pub quotes : List ℕ → ℕ
quotes [] = 0
quotes (b ∷ bs) = if b == 34 then suc (quotes bs) else quotes bs

-- the number of quotes is odd, and the last of them is at the place
pub record IsOpenQuote (text : List ℕ) (place : ℕ) : Type 0 where
  pub odd : quotes text % 2 ≡ 1
  pub within : place < length text
  pub is : slice_index text place ≡ 34
  pub last : (k : ℕ) → place < k → k < length text → slice_index text k ≢ 34

-- an open quote at this place, or an even number of quotes
abbrev pub IsQuoteAnswer : List ℕ → Option ℕ → Type 0
IsQuoteAnswer text None = quotes text % 2 ≡ 0
IsQuoteAnswer text (Some place) = IsOpenQuote text place
