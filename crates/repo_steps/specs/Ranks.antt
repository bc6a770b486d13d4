-- The one order of refusals: which cause is reported if several hold.
use Rattle.std.specs.Prelude.{◌⊎◌, ℕ, List, [], ◌∷◌, Option, Some, None}
use Rattle.repo_steps.specs.declared.refusal.Refusal.{Refusal}
use Rattle.repo_steps.specs.declared.refusal.Refusal.TheVariants as refusal
use Rattle.repo_steps.specs.Checks.{Check}

-- The place of a refusal in it. Damage has none, since it is told where the file is read.
abbrev pub rank_of : Refusal → Option ℕ
rank_of refusal.NoUser = Some 3
rank_of refusal.NotFound = Some 4
rank_of (refusal.Ambiguous least next) = Some 4
rank_of refusal.NoLabelChange = Some 5
rank_of refusal.SameStatus = Some 5
rank_of (refusal.ClockFull name) = Some 6
rank_of (refusal.TooLarge count) = Some 7
rank_of (refusal.EntityExists id) = Some 8
rank_of (refusal.RepeatedOperation id) = Some 8
rank_of (refusal.NameTaken name) = Some 9
rank_of (refusal.Damaged path) = None

-- some check of these fails with this refusal
abbrev pub SomeFails : List Check → Refusal → Type 0
SomeFails [] r = ⊥
SomeFails (check ∷ checks) r = check.Fails r ⊎ SomeFails checks r
