-- How a remote head is taken up, by the search in the local chain and the reading of the remote one.
use Rattle.std.proofs.Common.{◌≡◌, List, Option, Some, None, Err, Ok, refl, sym, subst}
use Rattle.std.specs.Prelude.{Contains}
use Rattle.gb_text.specs.declared.id.Id.{Id}
use Rattle.gb_text.specs.declared.id.Name.{Name}
use Rattle.object_store.specs.Held.{Objects}
use Rattle.commit_walk.specs.Chain.{Meets, Passes}
use Rattle.commit_walk.specs.declared.chain.Link.{Link}
use Rattle.commit_walk.proofs.ChainPassLemmas.{met_at, walk_passes}
use Rattle.identity.specs.Advancing.{AdvanceAnswers, IsInLocal, stop_of_fault}
use Rattle.identity.specs.Answers.{HasChain}
use Rattle.identity.specs.Faults.{Refused}
use Rattle.identity.specs.Persons.{IdentityFaultHolds}
use Rattle.identity.specs.declared.version.Version.{Version}
use Rattle.identity.specs.declared.advancing.Step.TheVariants as step
use Rattle.identity.specs.declared.advancing.AdvanceFault.TheVariants as stop
use Rattle.identity.specs.declared.fault.IdentityFault.{IdentityFault}
use Rattle.identity.specs.declared.fault.IdentityFault.TheVariants as fault

module _ (objects : Objects) (id : Id) (local : Option Name) (remote : Name) (unknown : IsInLocal objects local remote → ⊥) where
  -- a fault of the remote chain refuses, where its head is not known
  pub advance_refused : (f : IdentityFault) → Refused (IdentityFaultHolds objects id remote) f → AdvanceAnswers objects id local remote (Err (stop_of_fault f))
  advance_refused fault.Memory holds = tt
  advance_refused fault.Disk holds = tt
  advance_refused f holds = (unknown, holds)

module _ (objects : Objects) (id : Id) (local remote : Name) (walk : List Link) (last : Version) (unknown : Meets objects local remote → ⊥) (has : HasChain objects id remote walk last) where
  -- the local head is a commit of the remote chain
  pub goes_forward : Passes walk local → AdvanceAnswers objects id (Some local) remote (Ok step.Forward)
  goes_forward passed =
      let at : Contains has.chain.walk passed.link = subst (λ (links : List Link). Contains links passed.link) has.walks passed.at in
      ((unknown, has.chain), subst (Meets objects remote) passed.is (met_at objects remote has.chain.walk passed.link has.chain.walked has.chain.within at).0)

  -- it is none of them
  pub goes_apart : (Passes walk local → ⊥) → AdvanceAnswers objects id (Some local) remote (Err (stop.NotForward local remote))
  goes_apart none = (
    (unknown, has.chain),
    λ met. none (subst (λ (links : List Link). Passes links local) (sym has.walks) (walk_passes objects remote local has.chain.walk has.chain.walked met)),
    refl,
    refl,
  )
