-- Where a text is cut, as relations apart from how it is read.
use Rattle.std.specs.Prelude.{◌≡◌, ◌⊎◌, ℕ, ◌+◌, Bool, true, false, not, ◌&&◌, ◌==◌, List, [], ◌∷◌, ◌++◌, length}
use Rattle.std.specs.List.{list_all}
use Rattle.query.specs.Words.{Word, cuts, is_blank, turned}

-- no byte is a blank outside quotes
abbrev pub is_unbroken : Bool → List ℕ → Bool
is_unbroken inside [] = true
is_unbroken inside (b ∷ bs) = not (cuts inside b) && is_unbroken (turned inside b) bs

-- the text is empty or begins with a blank
abbrev pub BeginsBlank : List ℕ → Type 0
BeginsBlank text = (text ≡ []) ⊎ ((b : ℕ) × (bs : List ℕ) × (text ≡ b ∷ bs) × (is_blank b ≡ true))

-- the text that begins at a place has this word first: blanks alone are before it, it has no blank
-- outside quotes, and a blank or the end is after it
pub record HasWord (at : ℕ) (text : List ℕ) (word : Word) (rest : List ℕ) : Type 0 where
  pub blanks : List ℕ
  pub is : text ≡ blanks ++ (word.text ++ rest)
  pub before : list_all is_blank blanks ≡ true
  pub unbroken : is_unbroken false word.text ≡ true
  pub after : BeginsBlank rest
  pub place : word.at ≡ at + length blanks

-- the text that begins at a place has these words, with blanks alone between them
abbrev pub HasWords : ℕ → List ℕ → List Word → Type 0
HasWords at text [] = list_all is_blank text ≡ true
HasWords at text (word ∷ words) = (rest : List ℕ) × HasWord at text word rest × HasWords (word.at + length word.text) rest words

-- no colon is outside quotes, and the end is
abbrev pub is_whole : Bool → List ℕ → Bool
is_whole inside [] = not inside
is_whole inside (b ∷ bs) = not (not inside && b == 58) && is_whole (turned inside b) bs

-- the value is these two parts with a colon between them, its first outside quotes
pub record IsCutAtColon (value front back : List ℕ) : Type 0 where
  pub is : value ≡ front ++ 58 ∷ back
  pub first : is_whole false front ≡ true
