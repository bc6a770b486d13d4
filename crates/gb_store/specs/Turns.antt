-- Steps of a call, one after another, each from what the one before it left.
use Rattle.std.specs.Prelude.{◌≡◌, List, [], ◌∷◌, ◌++◌}
use Rattle.gb_store.specs.Files.{History}

-- each step was made, in this order
abbrev pub InTurn : {A : Type 0} → (A → History → History → Type 0) → List A → History → History → Type 0
InTurn Step [] old new = new ≡ old
InTurn Step (next ∷ later) old new = (mid : History) × Step next old mid × InTurn Step later mid new

-- the steps before one of them were made, and the call stopped at that one
pub record StoppedInTurn {A : Type 0} (Step Stops : A → History → History → Type 0) (all : List A) (old new : History) : Type 0 where
  pub done : List A
  pub at : A
  pub rest : List A
  pub are : all ≡ done ++ at ∷ rest
  pub mid : History
  pub before : InTurn Step done old mid
  pub stopped : Stops at mid new
