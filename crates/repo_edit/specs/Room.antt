-- Whether a chain has room for one version more.
use Rattle.std.specs.Prelude.{◌≡◌, ◌+◌, ◌<◌, ⊤, ℕ, List, length, Result, Ok, Err}
use Rattle.gb_text.specs.Folder.{joined}
use Rattle.gb_text.specs.declared.id.Id.{Id}
use Rattle.gb_store.specs.Files.{Files}
use Rattle.object_store.specs.Held.{objects_in}
use Rattle.commit_walk.specs.declared.below.TheConstants.{MOST_COMMITS}
use Rattle.identity.specs.Persons.{IdentityFaultHolds, IsChain}
use Rattle.identity.specs.declared.fault.IdentityFault.{IdentityFault}
use Rattle.identity.specs.declared.fault.IdentityFault.TheVariants as fault
use Rattle.repo_state.specs.Answers.{DamagedRef}
use Rattle.repo_state.specs.Sides.{ref_place}
use Rattle.repo_steps.specs.declared.refusal.Refusal.TheVariants as refusal
use Rattle.repo_steps.specs.declared.refusal.Stop.{Stop}
use Rattle.repo_steps.specs.declared.refusal.Stop.TheVariants as stop
use Rattle.repo_state.specs.declared.side.HeadEntry.{HeadEntry}
use Rattle.repo_state.specs.declared.side.Side.TheVariants as side
use Rattle.repo_state.specs.declared.stop.ReadStop.{ReadStop}
use Rattle.repo_state.specs.declared.stop.ReadStop.TheVariants as read

-- the chain from an identity's head has no fault and fewer than 65,536 versions
abbrev pub HasRoom : Files → List ℕ → HeadEntry → Result Unit Stop → Type 0
HasRoom files folder entry (Ok _) = (chain : IsChain (objects_in files folder) entry.id entry.name) × (length chain.walk < MOST_COMMITS)
HasRoom files folder entry (Err stop.Memory) = ⊤
HasRoom files folder entry (Err stop.Disk) = ⊤
HasRoom files folder entry (Err (stop.Refused (refusal.Damaged path))) =
    (path ≡ joined folder (ref_place side.Identities entry.id)) × (fault : IdentityFault) × IdentityFaultHolds (objects_in files folder) entry.id entry.name fault
HasRoom files folder entry (Err (stop.Refused (refusal.TooLarge count))) =
    (count ≡ MOST_COMMITS + 1) × (chain : IsChain (objects_in files folder) entry.id entry.name) × (length chain.walk ≡ MOST_COMMITS)
HasRoom files folder entry (Err (stop.Refused _)) = ⊥

-- why no chain was read, by its fault: damage of the ref, but for the faults of the store and want of memory
abbrev pub ChainStops : List ℕ → Id → IdentityFault → ReadStop → Type 0
ChainStops folder id fault.Memory s = s ≡ read.Memory
ChainStops folder id fault.Disk s = s ≡ read.Disk
ChainStops folder id _ s = DamagedRef folder side.Identities id s
