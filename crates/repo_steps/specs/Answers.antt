-- The answers to a command that edits, with what was written.
use Rattle.std.specs.Prelude.{◌≡◌, ◌⊎◌, ⊤, ◌++◌, reverse, Some, Result, Ok, Err}
use Rattle.gb_text.specs.declared.id.Id.{Id}
use Rattle.gb_store.specs.Files.{History}
use Rattle.gb_store.specs.Moments.{WroteSome}
use Rattle.repo_steps.specs.declared.refusal.Stop.{Stop}
use Rattle.repo_steps.specs.declared.refusal.Stop.TheVariants as stop
use Rattle.repo_steps.specs.Checks.{AllPass, FirstFails}
use Rattle.repo_steps.specs.Doing.{Doing}
use Rattle.repo_steps.specs.declared.plan.Plan.{Plan}

-- the answer to what a command is to write
abbrev pub Plans : Doing → Result Plan Stop → Type 0
Plans doing (Ok plan) = AllPass doing.checks × (plan.writes ≡ doing.writes) × (doing.told ≡ Some plan.id)
Plans doing (Err stop.Memory) = ⊤
Plans doing (Err stop.Disk) = ⊤
Plans doing (Err (stop.Refused r)) = FirstFails doing.checks r

-- the command was done: nothing kept it from being done, it wrote what it writes, and tells its id
pub record IsDone (doing : Doing) (old new : History) (id : Id) : Type 0 where
  pub may : AllPass doing.checks
  pub writes : new ≡ reverse doing.writes ++ old
  pub told : doing.told ≡ Some id

-- nothing was written, or nothing kept the command from being done, and the first of its writes were made
abbrev pub IsStopped : Doing → History → History → Type 0
IsStopped doing old new = (new ≡ old) ⊎ (AllPass doing.checks × WroteSome doing.writes old new)

-- the answer to a command, with what was written: all, the first, or nothing where it is refused
abbrev pub DoingAnswers : Doing → History → History → Result Id Stop → Type 0
DoingAnswers doing old new (Ok id) = IsDone doing old new id
DoingAnswers doing old new (Err stop.Memory) = IsStopped doing old new
DoingAnswers doing old new (Err stop.Disk) = IsStopped doing old new
DoingAnswers doing old new (Err (stop.Refused r)) = FirstFails doing.checks r × (new ≡ old)
