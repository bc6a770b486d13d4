-- The answer to a plan whose writes are made.
use Rattle.std.specs.Prelude.{◌≡◌, ◌++◌, reverse, Result, Ok, Err}
use Rattle.gb_text.specs.declared.id.Id.{Id}
use Rattle.gb_store.specs.Files.{History}
use Rattle.gb_store.specs.Moments.{WroteSome}
use Rattle.repo_steps.specs.declared.refusal.Stop.{Stop}
use Rattle.repo_steps.specs.declared.refusal.Stop.TheVariants as stop
use Rattle.repo_steps.specs.declared.plan.Plan.{Plan}

-- all writes were made, and the plan's id is told; or the first were
abbrev pub Carries : Plan → History → History → Result Id Stop → Type 0
Carries plan old new (Ok id) = (id ≡ plan.id) × (new ≡ reverse plan.writes ++ old)
Carries plan old new (Err stop.Memory) = WroteSome plan.writes old new
Carries plan old new (Err stop.Disk) = WroteSome plan.writes old new
Carries plan old new (Err (stop.Refused r)) = ⊥
