-- Clean folders, and the lines of merges that tell limits.
use Rattle.std.specs.Prelude.{◌≡◌, ℕ, List, [], Contains}
use Rattle.gb_store.specs.Files.{History}
use Rattle.dag_entity.specs.declared.fault.EntityFault.{EntityFault}
use Rattle.merge_steps.specs.declared.line.MergeLine.{MergeLine}
use Rattle.merge_steps.specs.declared.line.MergeOutcome.TheVariants.{InvalidBug}
use Rattle.merge_steps.specs.declared.line.Pulled.{Pulled}
use Rattle.bug_run.specs.Runs.{AreApart}
use Rattle.exchange_runs.specs.Takes.{RunsAmong}
use Rattle.operation_origins.specs.Limits.{IsLimit}
use Rattle.clean_folders.specs.Seeds.{HaveNoCollision, HaveUnlikeSeeds}

-- folders of which no two overlap, after runs from no files that take commits into them from them alone: with unlike seeds and no collision
pub record AreClean (folders : List (List ℕ)) (files : History) : Type 0 where
  pub apart : AreApart folders
  pub runs : RunsAmong folders [] files
  pub seeds : HaveUnlikeSeeds folders [] files runs
  pub no_collision : HaveNoCollision folders [] files runs

-- a line of a merge refuses a bug for a limit
pub record TellsLimit (line : MergeLine) : Type 0 where
  pub why : EntityFault
  pub told : line.outcome ≡ InvalidBug why
  pub limit : IsLimit why

-- no line of the merge of a pull does
abbrev pub TellsNoLimit : Pulled → Type 0
TellsNoLimit pulled = (line : MergeLine) → Contains pulled.merged line → TellsLimit line → ⊥
