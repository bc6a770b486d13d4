-- Lists without repetition.
use Rattle.std.specs.Prelude.{◌≢◌, List}
use Rattle.std.specs.List.{AllPairs}

-- no element comes twice
abbrev pub AreDistinct : {X : Type 0} → List X → Type 0
AreDistinct {X = X} xs = AllPairs (λ (one other : X). one ≢ other) xs
