-- The world that arguments ask for.
use Rattle.std.specs.Prelude.{◌≡◌, ℕ, ◌≤◌, ◌||◌, nat_lt, if◌then◌else◌, List, [], ◌∷◌, Option, Some, None, option_and_then}
use Rattle.gb_text.specs.Decimal.{IsDecimal, decimal_of}
use Rattle.world_texts.specs.declared.asked.Asked.{Asked}

-- 2 to 16 folders, and from as many events as folders to 100,000
pub record IsInBounds (asked : Asked) : Type 0 where
  pub some : 2 ≤ asked.folders
  pub most : asked.folders ≤ 16
  pub enough : asked.folders ≤ asked.events
  pub few : asked.events ≤ 100000

-- the world with these numbers, if they are in their bounds
abbrev pub bounded : ℕ → ℕ → ℕ → Option Asked
bounded number folders events =
    if nat_lt folders 2 || nat_lt 16 folders then None
    else if nat_lt events folders || nat_lt 100000 events then None
    else Some (record { number = number; folders = folders; events = events })

-- the world that arguments ask for, if they are three plain decimals in their bounds
abbrev pub asked_of : List (List ℕ) → Option Asked
asked_of (number ∷ folders ∷ events ∷ []) =
    option_and_then (λ n. option_and_then (λ f. option_and_then (λ e. bounded n f e) (decimal_of events)) (decimal_of folders)) (decimal_of number)
asked_of _ = None

-- the arguments are the decimals of the world's numbers, which are in their bounds
pub record IsAskedBy (words : List (List ℕ)) (asked : Asked) : Type 0 where
  pub number : List ℕ
  pub folders : List ℕ
  pub events : List ℕ
  pub are : words ≡ number ∷ folders ∷ events ∷ []
  pub of_number : IsDecimal number asked.number
  pub of_folders : IsDecimal folders asked.folders
  pub of_events : IsDecimal events asked.events
  pub bounds : IsInBounds asked
