-- What a command answers that packs the refs of a folder.
use Rattle.std.specs.Prelude.{◌≡◌, ◌⊎◌, ℕ, List, Result, Ok, Err}
use Rattle.gb_store.specs.Files.{Files, History, files_of}
use Rattle.ref_packing.specs.Answers.{IsBadAt, IsTooLong, MaybePacks, Packs}
use Rattle.ref_packing.specs.declared.fault.PackFault.{PackFault}
use Rattle.ref_packing.specs.declared.fault.PackFault.TheVariants as fault
use Rattle.repo_steps.specs.declared.refusal.Refusal.{Refusal}
use Rattle.repo_steps.specs.declared.refusal.Refusal.TheVariants as refusal
use Rattle.repo_steps.specs.declared.refusal.Stop.{Stop}
use Rattle.repo_steps.specs.declared.refusal.Stop.TheVariants as stop

-- how a pack stops a command
abbrev pub stop_of_pack : PackFault → Stop
stop_of_pack fault.Memory = stop.Memory
stop_of_pack fault.Disk = stop.Disk
stop_of_pack (fault.BadRef at) = stop.Refused (refusal.Damaged at)
stop_of_pack (fault.TooLarge bytes) = stop.Refused (refusal.TooLarge bytes)

-- why refs are not packed: a ref is bad, or the packed refs are, or they would be too long
abbrev pub WhyNotPacked : List ℕ → Files → Refusal → Type 0
WhyNotPacked folder files r =
    ((at : List ℕ) × (r ≡ refusal.Damaged at) × IsBadAt folder files at) ⊎ ((r ≡ refusal.TooLarge 16777217) × IsTooLong folder files)

-- the number of refs that were packed; nothing was written where it is refused
abbrev pub PackRefsAnswers : List ℕ → History → History → Result ℕ Stop → Type 0
PackRefsAnswers folder old new (Ok count) = Packs folder old new count
PackRefsAnswers folder old new (Err stop.Memory) = MaybePacks folder old new
PackRefsAnswers folder old new (Err stop.Disk) = MaybePacks folder old new
PackRefsAnswers folder old new (Err (stop.Refused r)) = (new ≡ old) × WhyNotPacked folder (files_of old) r
