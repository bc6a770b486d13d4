use Rattle.std.proofs.Common.{◌≡◌, ℕ, ◌≤◌, Bool, List, length, take}
use Rattle.combined_id.specs.Combined.{digits_at}
use Rattle.combined_id.specs.Split.{takes}
use Rattle.combined_id.proofs.split.part.Given as goal

pub record Parted (second : Bool) (all : ℕ) (text digits : List ℕ) (place count : ℕ) : Type 0 where
  pub within : place ≤ all
  pub few : count ≤ place
  pub sized : length digits ≡ 64
  pub so_far : take count digits ≡ digits_at (takes second) 0 (take place text)

abbrev pub invariant-loop-place : goal.invariant-loop-place
invariant-loop-place l = Parted l.second l.prefix.count l.prefix.digits l.digits l.place l.count
