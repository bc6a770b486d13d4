-- How a remote head of an identity is taken up beside the local one.
use Rattle.std.specs.Prelude.{◌≡◌, ⊤, Option, Some, None, Result, Ok, Err}
use Rattle.gb_text.specs.declared.id.Id.{Id}
use Rattle.gb_text.specs.declared.id.Name.{Name}
use Rattle.gb_store.specs.declared.fault.StoreFault.{StoreFault}
use Rattle.gb_store.specs.declared.fault.StoreFault.TheVariants as store
use Rattle.object_store.specs.Held.{Objects}
use Rattle.commit_walk.specs.Chain.{Meets}
use Rattle.identity.specs.Persons.{IdentityFaultHolds, IsChain}
use Rattle.identity.specs.declared.advancing.AdvanceFault.{AdvanceFault}
use Rattle.identity.specs.declared.advancing.AdvanceFault.TheVariants as stop
use Rattle.identity.specs.declared.advancing.Step.{Step}
use Rattle.identity.specs.declared.advancing.Step.TheVariants as step
use Rattle.identity.specs.declared.fault.IdentityFault.{IdentityFault}
use Rattle.identity.specs.declared.fault.IdentityFault.TheVariants as fault

-- of what is wrong with the remote chain
abbrev pub stop_of_fault : IdentityFault → AdvanceFault
stop_of_fault fault.Memory = stop.Memory
stop_of_fault fault.Disk = stop.Disk
stop_of_fault f = stop.Invalid f

-- of what stops the search in the local chain
abbrev pub stop_of_store : StoreFault → AdvanceFault
stop_of_store store.Memory = stop.Memory
stop_of_store store.Failed = stop.Disk

-- a name is in the chain from the local head, if there is one
abbrev pub IsInLocal : Objects → Option Name → Name → Type 0
IsInLocal objects None name = ⊥
IsInLocal objects (Some local) name = Meets objects local name

-- there is a local head, and it is in the chain from the remote one
abbrev pub HasLocal : Objects → Option Name → Name → Type 0
HasLocal objects None remote = ⊥
HasLocal objects (Some local) remote = Meets objects remote local

-- the remote head is not in the local chain, and its own is one of the identity with this id
abbrev pub IsNewChain : Objects → Id → Option Name → Name → Type 0
IsNewChain objects id local remote = (IsInLocal objects local remote → ⊥) × IsChain objects id remote

-- How a remote head is taken up, each word with what is so of both heads; or why it is not.
abbrev pub AdvanceAnswers : Objects → Id → Option Name → Name → Result Step AdvanceFault → Type 0
AdvanceAnswers objects id local remote (Ok step.Nothing) = IsInLocal objects local remote
AdvanceAnswers objects id local remote (Ok step.New) = (local ≡ None) × IsChain objects id remote
AdvanceAnswers objects id local remote (Ok step.Forward) = IsNewChain objects id local remote × HasLocal objects local remote
AdvanceAnswers objects id local remote (Err stop.Memory) = ⊤
AdvanceAnswers objects id local remote (Err stop.Disk) = ⊤
AdvanceAnswers objects id local remote (Err (stop.Invalid f)) = (IsInLocal objects local remote → ⊥) × IdentityFaultHolds objects id remote f
AdvanceAnswers objects id local remote (Err (stop.NotForward one two)) =
    IsNewChain objects id local remote × (HasLocal objects local remote → ⊥) × (local ≡ Some one) × (two ≡ remote)
