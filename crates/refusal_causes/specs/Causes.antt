-- The cause of each refusal of a command in one folder, at entry, where no earlier check fails.
use Rattle.std.specs.Prelude.{◌≡◌, ◌⊎◌, ℕ, true, false, List}
use Rattle.gb_text.specs.Folder.{joined}
use Rattle.gb_text.specs.declared.id.Id.{Id}
use Rattle.gb_store.specs.Files.{Files, History, files_of}
use Rattle.ref_store.specs.Refs.{packed_place, packed_reads}
use Rattle.repo_edit.specs.Packing.{WhyNotPacked}
use Rattle.repo_state.specs.Answers.{HasBadPerson, IsBadUser}
use Rattle.repo_state.specs.Bugs.{IsDamagedBug}
use Rattle.repo_state.specs.Finds.{Finds, FindsNoId, One}
use Rattle.repo_state.specs.Sides.{ref_place}
use Rattle.repo_state.specs.declared.side.Side.TheVariants as side
use Rattle.repo_state.specs.declared.stop.Missed.{Missed}
use Rattle.repo_steps.specs.Doings.{Refused}
use Rattle.repo_steps.specs.Stops.{of_missed}
use Rattle.repo_steps.specs.declared.env.Env.{Env}
use Rattle.repo_steps.specs.declared.refusal.Refusal.{Refusal}
use Rattle.repo_steps.specs.declared.refusal.Refusal.TheVariants as refusal
use Rattle.bug_run.specs.Headline.{IsFault}
use Rattle.bug_run.specs.declared.status.Refused.TheVariants.{ByCommand}
use Rattle.bug_run.specs.declared.status.Status.{Status}
use Rattle.bug_run.specs.declared.status.Status.TheVariants as status
use Rattle.words.specs.declared.words.Command.{Command}
use Rattle.words.specs.declared.words.Command.TheVariants.{Edit, Log, PackRefs, Show, Users}

-- ---- what is told

-- this refusal was told, or memory ran out, or the disk or the output failed
abbrev pub IsRefusedOrFault : Refusal → Status → Type 0
IsRefusedOrFault r answer = (answer ≡ status.Refused (ByCommand r)) ⊎ IsFault answer

-- a refusal was told of which this is so, or there was such a fault
abbrev pub IsRefusedSo : (Refusal → Type 0) → Status → Type 0
IsRefusedSo IsSo answer = ((r : Refusal) × (answer ≡ status.Refused (ByCommand r)) × IsSo r) ⊎ IsFault answer

-- ---- the packed refs

-- the packed refs of a folder do not read
abbrev pub IsUnread : Files → List ℕ → Refusal → Type 0
IsUnread files folder r = (packed_reads files folder ≡ false) × (r ≡ refusal.Damaged (joined folder packed_place))

-- that is the cause; or they read, and this is it
abbrev pub LooksFirst : Files → List ℕ → (Refusal → Type 0) → Refusal → Type 0
LooksFirst files folder Cause r = IsUnread files folder r ⊎ ((packed_reads files folder ≡ true) × Cause r)

-- ---- commands that read

-- an identity is damaged, and this is the first; or none is, and the user file names no local identity
abbrev pub UsersCause : Files → List ℕ → Refusal → Type 0
UsersCause files folder r =
    (path : List ℕ) × (r ≡ refusal.Damaged path)
    × (HasBadPerson files folder path ⊎ (((other : List ℕ) → HasBadPerson files folder other → ⊥) × IsBadUser files folder path))

-- the argument finds no bug, or several
abbrev pub MissedCause : Files → List ℕ → List ℕ → Refusal → Type 0
MissedCause files folder word r = (why : Missed) × FindsNoId files folder side.Bugs word why × (r ≡ of_missed why)

-- it finds one that is damaged
abbrev pub DamagedCause : Files → List ℕ → List ℕ → Refusal → Type 0
DamagedCause files folder word r =
    (id : Id) × Finds files folder side.Bugs word (One id) × IsDamagedBug files folder id × (r ≡ refusal.Damaged (joined folder (ref_place side.Bugs id)))

-- it finds one that is not, and an identity is damaged, of which this is the first
abbrev pub PersonCause : Files → List ℕ → List ℕ → Refusal → Type 0
PersonCause files folder word r =
    (id : Id) × Finds files folder side.Bugs word (One id) × (IsDamagedBug files folder id → ⊥)
    × ((path : List ℕ) × HasBadPerson files folder path × (r ≡ refusal.Damaged path))

abbrev pub LogCause : Files → List ℕ → List ℕ → Refusal → Type 0
LogCause files folder word r = MissedCause files folder word r ⊎ DamagedCause files folder word r

abbrev pub ShowCause : Files → List ℕ → List ℕ → Refusal → Type 0
ShowCause files folder word r = MissedCause files folder word r ⊎ (DamagedCause files folder word r ⊎ PersonCause files folder word r)

-- ---- a command in one folder

-- of a command: of an edit, that the first of its checks that does not pass fails so; of a pack, that a ref is bad, or the file would be
-- too long
abbrev pub CommandCause : Env → Command → History → Refusal → Type 0
CommandCause env Users old r = UsersCause (files_of old) env.folder r
CommandCause env (Show word) old r = ShowCause (files_of old) env.folder word r
CommandCause env (Log word) old r = LogCause (files_of old) env.folder word r
CommandCause env (Edit edit) old r = Refused env edit old r
CommandCause env PackRefs old r = WhyNotPacked env.folder (files_of old) r

-- of a request: the packed refs come before all else
abbrev pub RequestCause : Env → Command → History → Refusal → Type 0
RequestCause env command old r = LooksFirst (files_of old) env.folder (CommandCause env command old) r
