use Rattle.std.proofs.Common.{◌≡◌, ℕ, List, ◌+◌, ◌-◌, ◌++◌, length, take, drop}
use Rattle.combined_id.specs.Combined.{combined_from, combined_of}
use Rattle.combined_id.proofs.places.mix.Given as goal

pub record Mixed (whole text one two : List ℕ) (place first second : ℕ) : Type 0 where
  pub sum : first + second ≡ place
  pub sized : length text ≡ 64
  pub so_far : whole ≡ take place text ++ combined_from (64 - place) place (drop first one) (drop second two)

abbrev pub invariant-loop-place : goal.invariant-loop-place
invariant-loop-place l = Mixed (combined_of l.primary l.secondary) l.digits l.primary l.secondary l.place l.first l.second
