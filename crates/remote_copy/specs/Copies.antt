-- The answer to a copy.
use Rattle.std.specs.Prelude.{◌≡◌, ◌⊎◌, ◌≤◌, ◌+◌, Bool, ℕ, List, Contains, length, map, Result, Ok, Err, ⊤}
use Rattle.gb_text.specs.declared.id.Name.{Name}
use Rattle.object_store.specs.Held.{Objects}
use Rattle.object_batch.specs.Needs.{Reference}
use Rattle.remote_copy.specs.Causes.{CauseHolds}
use Rattle.commit_walk.specs.Distinct.{AreDistinct}
use Rattle.remote_copy.specs.Closure.{IsAsked, IsFollowed, IsLeft, StandsAlike, commit_named}
use Rattle.remote_copy.specs.Copying.{IsCopying}
use Rattle.remote_copy.specs.Index.{IsMet, WasOpened}
use Rattle.remote_copy.specs.Opens.{ref_of}
use Rattle.remote_copy.specs.declared.fault.CopyFault.{CopyFault}
use Rattle.remote_copy.specs.declared.fault.CopyFault.TheVariants as fault
use Rattle.remote_copy.specs.declared.index.Index.{Index}
use Rattle.remote_copy.specs.declared.need.Need.{Need}
use Rattle.remote_copy.specs.declared.work.Work.{Work}

-- nothing keeps the part that is followed from being copied
abbrev pub HasNoCause : Bool → Objects → Objects → Name → Type 0
HasNoCause closed source target head = (f : CopyFault) → CauseHolds closed source target head f → ⊥

-- the part is copied, where nothing keeps it from being; or why it is not, where memory and the disk have no cause there
abbrev pub CopyAnswers : Bool → Objects → Objects → Name → Result ℕ CopyFault → Type 0
CopyAnswers closed source target head (Ok put) = HasNoCause closed source target head
CopyAnswers closed source target head (Err fault.Memory) = ⊤
CopyAnswers closed source target head (Err fault.Disk) = ⊤
CopyAnswers closed source target head (Err e) = CauseHolds closed source target head e

-- all of the part stands in the target
abbrev pub IsCopied : Bool → Objects → Objects → Objects → Name → Type 0
IsCopied closed source entry target head = (one : Reference) → IsFollowed closed source entry head one → StandsAlike source target one

-- the names of some objects
abbrev pub names_of : List Reference → List Name
names_of them = map (λ (one : Reference). one.name) them

-- the same, of what the code names
abbrev pub need_names : List Need → List Name
need_names them = map (λ (need : Need). need.name) them

-- at most one object was read in the target for each of some objects that the copy asks for, and one in the source for each
-- of the names of those that it follows: no two of what was read there have one name, whatever their kinds
pub record ReadsEach (closed : Bool) (source target : Objects) (head : Name) (before after : ℕ) : Type 0 where
  pub them : List Reference
  pub once : AreDistinct them
  pub each : (one : Reference) → Contains them one → IsAsked closed source target head one
  pub opened : List Reference
  pub opened_once : AreDistinct (names_of opened)
  pub opened_each : (one : Reference) → Contains opened one → Contains them one × IsFollowed closed source target head one
  pub few : after ≤ before + length them + length opened

-- what was met so far, with as many reads
pub record AreRead (closed : Bool) (source entry : Objects) (head : Name) (index : Index) (before now : ℕ) : Type 0 where
  pub them : List Need
  pub once : AreDistinct them
  pub each : (need : Need) → Contains them need → IsMet index need × IsAsked closed source entry head (ref_of need)
  pub opened : List Need
  pub opened_once : AreDistinct (need_names opened)
  pub opened_each : (need : Need) → Contains opened need → Contains them need × IsFollowed closed source entry head (ref_of need) × WasOpened index need.name
  pub few : now ≤ before + length them + length opened

-- the reads up to a step
abbrev pub StepReads : Bool → Objects → Objects → Name → Index → ℕ → ℕ → Result Unit CopyFault → Type 0
StepReads closed source entry head index before now (Ok _) = AreRead closed source entry head index before now
StepReads closed source entry head index before now (Err _) = ReadsEach closed source entry head before now

-- a copy began, with nothing put; its head was opened, if it is not left
abbrev pub StartAnswers : Bool → Objects → Objects → Name → Result Work CopyFault → Type 0
StartAnswers closed source target head (Ok work) =
    IsCopying closed source target target head work work.stack.items × (work.put ≡ 0) × (IsLeft closed target (commit_named head) ⊎ WasOpened work.index head)
StartAnswers closed source target head (Err fault.Memory) = ⊤
StartAnswers closed source target head (Err fault.Disk) = ⊤
StartAnswers closed source target head (Err e) = CauseHolds closed source target head e
