-- How the arguments after the name of a command are read.
use Rattle.std.specs.Prelude.{◌≡◌, ◌≢◌, ◌⊎◌, ◌++◌, ℕ, Bool, false, List, [], ◌∷◌, codes, Option, Some, None, option_map, if◌then◌else◌, ◌==◌}
use Rattle.std.specs.List.{AllByRecursion}
use Rattle.std.specs.Str.{bytes_eq}

-- ---- the reading

-- the argument is `--`, which is dropped; those after it are taken as they are
abbrev pub is_separator : List ℕ → Bool
is_separator argument = bytes_eq argument (codes "--")

-- it begins with `-` and is longer
abbrev pub is_dashed : List ℕ → Bool
is_dashed [] = false
is_dashed (first ∷ []) = false
is_dashed (first ∷ second ∷ more) = first == 45

-- the arguments that these give, or none where one of them is refused
abbrev pub arguments_of : List (List ℕ) → Option (List (List ℕ))
arguments_of [] = Some []
arguments_of (argument ∷ rest) =
    if is_separator argument then Some rest
    else if is_dashed argument then None
    else option_map (λ others. argument ∷ others) (arguments_of rest)

-- ---- as the laws say it

-- an argument that is taken as it is: `-`, or one that does not begin with `-`
abbrev pub IsPlain : List ℕ → Type 0
IsPlain argument = (argument ≡ codes "-") ⊎ ((more : List ℕ) → argument ≢ codes "-" ++ more)

-- one that is refused: it begins with `-`, and is neither `-` nor `--`
pub record IsFlag (argument : List ℕ) : Type 0 where
  pub more : List ℕ
  pub begins : argument ≡ codes "-" ++ more
  pub longer : argument ≢ codes "-"
  pub other : argument ≢ codes "--"

-- Arguments begin with plain ones. Then they end, or `--` comes, or one that is refused.
pub data Shape (given : List (List ℕ)) : Type 0 where
  plain : AllByRecursion IsPlain given → Shape given
  separated : (before after : List (List ℕ)) → AllByRecursion IsPlain before → given ≡ before ++ codes "--" ∷ after → Shape given
  refused : (before after : List (List ℕ)) (flag : List ℕ) → AllByRecursion IsPlain before → IsFlag flag → given ≡ before ++ flag ∷ after → Shape given
