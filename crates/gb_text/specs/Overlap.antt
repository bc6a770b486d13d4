-- Folders that overlap: one's steps begin with the other's.
use Rattle.std.specs.Prelude.{◌≡◌, ◌⊎◌, ℕ, List, ◌++◌, filter}
use Rattle.gb_text.specs.Folder.{is_rooted, parts_of, counts}

-- the parts of a word that name a step down
abbrev pub steps_of : List ℕ → List (List ℕ)
steps_of word = filter counts (parts_of word)

-- the second list begins with the first
abbrev pub IsFront : List (List ℕ) → List (List ℕ) → Type 0
IsFront front whole = (rest : List (List ℕ)) × (whole ≡ front ++ rest)

-- both are rooted or neither is, and the steps of one begin with those of the other
pub record Overlap (one two : List ℕ) : Type 0 where
  pub same_root : is_rooted one ≡ is_rooted two
  pub front : IsFront (steps_of one) (steps_of two) ⊎ IsFront (steps_of two) (steps_of one)
