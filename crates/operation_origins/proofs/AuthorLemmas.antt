-- Whom a merge has as local identities, once the identities had their turns: those that it had, and each tracked one whose chain has no fault.
use Rattle.std.proofs.Common.{◌≡◌, ◌⊎◌, ◌<◌, ◌^◌, inl, inr, refl, sym, ◌∙◌, ap, subst, ℕ, List, Contains, IsTrue, Option, Some, Ok}
use Rattle.std.proofs.lemmas.Option.{same_Some}
use Rattle.gb_text.specs.declared.id.Id.{Id}
use Rattle.gb_text.specs.declared.id.Name.{Name}
use Rattle.gb_store.specs.Files.{Files, History, files_of}
use Rattle.gb_store.specs.Moments.{IsMoment, Wrote}
use Rattle.gb_store.proofs.MomentLemmas.{AllMoments-from_Wrote, IsMoment-of_first, IsMoment-of_second}
use Rattle.object_store.specs.Growth.{OnlyGrew}
use Rattle.object_store.specs.Held.{objects_after}
use Rattle.identity.specs.Persons.{IsChain}
use Rattle.identity.proofs.ExtendLemmas.{chain_stays}
use Rattle.identity.proofs.NoFaultLemmas.{no_fault}
use Rattle.ref_store.specs.Refs.{Head}
use Rattle.remote_name.specs.declared.remote.RemoteName.{RemoteName}
use Rattle.repo_state.specs.Answers.{IsHeadAt}
use Rattle.repo_state.specs.Bugs.{IsLocal}
use Rattle.repo_state.specs.Sides.{has_ref, head_at, is_there}
use Rattle.repo_state.specs.declared.refs.EntityRef.{EntityRef}
use Rattle.repo_state.specs.declared.side.Side.TheVariants as side
use Rattle.repo_state.proofs.ListingLemmas.{Contains-from_map}
use Rattle.repo_writes.specs.Kinds.{IsWrite}
use Rattle.repo_writes.proofs.KeptLemmas.{loses_nothing}
use Rattle.repo_writes.proofs.SoundLemmas.{identity-after}
use Rattle.merge_steps.specs.Merging.{MergeTurn, MergesBug, MergesPerson, PersonOutcome}
use Rattle.merge_steps.specs.Turns.{IsMerged}
use Rattle.merge_steps.specs.declared.line.MergeLine.{MergeLine}
use Rattle.merge_steps.specs.declared.line.MergeOutcome.{MergeOutcome}
use Rattle.merge_steps.specs.declared.line.MergeOutcome.TheVariants as outcome
use Rattle.merge_steps.proofs.MergeWriteLemmas.{ids_of_turns, merge_wrote}
use Rattle.merge_steps.proofs.PersonLeftLemmas.{later_outcome}
use Rattle.merge_steps.proofs.TouchLemmas.{bug_touches, person_touches}
use Rattle.merge_steps.proofs.TurnOfLemmas.{AtTurn, at_turn, once_of_refs, turns_grew}
use Rattle.operation_origins.specs.Tracked.{IsTrackedPerson}

-- a ref that has a head is one that exists
stands_at : (files : Files) (folder : List ℕ) (id : Id) (name : Name) → head_at files folder side.Identities id ≡ Head name → IsTrue (has_ref files folder side.Identities id)
stands_at files folder id name at = ap is_there at

-- after the turn of an identity whose tracked chain has no fault it is local, whatever came of it
person_stands : (folder : List ℕ) (id : Id) (local : Option Name) (tracked : Name) (out : MergeOutcome) (before after : History) → IsHeadAt (files_of before) folder side.Identities id local
    → IsChain (objects_after before folder) id tracked → PersonOutcome folder id local tracked out before after → IsTrue (has_ref (files_of after) folder side.Identities id)
person_stands folder id local tracked outcome.Nothing before after at chain is =
    let left = later_outcome folder id before local tracked outcome.Nothing after at refl is in stands_at (files_of after) folder id left.head left.is_head
person_stands folder id local tracked outcome.New before after at chain is =
    let left = later_outcome folder id before local tracked outcome.New after at refl is in stands_at (files_of after) folder id left.head left.is_head
person_stands folder id local tracked outcome.Forward before after at chain is =
    let left = later_outcome folder id before local tracked outcome.Forward after at refl is in stands_at (files_of after) folder id left.head left.is_head
person_stands folder id local tracked outcome.Joined before after at chain is = absurd is
person_stands folder id local tracked (outcome.InvalidBug f) before after at chain is = absurd is
person_stands folder id local tracked (outcome.InvalidIdentity f) before after at chain is = absurd (no_fault (objects_after before folder) id tracked f chain is.0.1)
person_stands folder id local tracked (outcome.NotForward name) before after at chain is =
    let there : head_at (files_of before) folder side.Identities id ≡ Head is.0 = subst (IsHeadAt (files_of before) folder side.Identities id) is.1.2 at in
    stands_at (files_of after) folder id is.0 (ap (λ (h : History). head_at (files_of h) folder side.Identities id) is.2 ∙ there)

module _ (folder : List ℕ) (remote : RemoteName) (now : ℕ) (moment : now < 2 ^ 64) (old new : History) (lines : List MergeLine) (done : IsMerged folder remote now lines old new) where
  pub wrote : Wrote (IsWrite folder) old new
  wrote = merge_wrote folder remote now old new (Ok lines) moment done

  -- objects only grow up to each moment
  pub grew : (mid : History) → IsMoment old new mid → OnlyGrew (objects_after old folder) (objects_after mid folder)
  grew mid is = ((loses_nothing folder old new wrote).each mid is).objects

  people_grew : IsMoment old done.mid old
  people_grew = turns_grew folder side.Identities (MergesPerson folder) (person_touches folder) done.first.turns old done.mid done.first.went.each

  bugs_grew : IsMoment done.mid new done.mid
  bugs_grew =
      turns_grew folder side.Bugs (MergesBug folder done.tracked.user done.first.authors now) (bug_touches folder done.tracked.user done.first.authors now) done.turns done.mid new done.then.each

  -- a local identity stays one
  local_stays : (id : Id) → IsLocal (files_of old) folder id → IsLocal (files_of done.mid) folder id
  local_stays id local = record {
    is_id = local.is_id;
    stands = (AllMoments-from_Wrote (IsWrite folder) (λ (files : Files). IsTrue (has_ref files folder side.Identities id))
        (λ files change stood write. elim (identity-after folder files change id local.is_id write) [
          | inl same ↦ ap is_there same ∙ stood
          | inr set ↦ ap is_there set.2
        ]) old new local.stands wrote).each done.mid (IsMoment-of_second old done.mid new done.mid people_grew bugs_grew);
  }

  -- a tracked one whose chain has no fault becomes one
  tracked_local : (id : Id) → IsTrackedPerson (files_of old) folder remote id → IsLocal (files_of done.mid) folder id
  tracked_local id person = record { is_id = person.is_id; stands = subst (λ (one : Id). IsTrue (has_ref (files_of done.mid) folder side.Identities one)) same_id (ap is_there at.later ∙ then) }
    where
      entity : EntityRef
      entity = record { id = id; head = Some person.head }

      from : (turn : MergeTurn) × Contains done.first.turns turn × (turn.entity ≡ entity)
      from = Contains-from_map (λ (t : MergeTurn). t.entity) done.first.turns entity
          (subst (λ (es : List EntityRef). Contains es entity) (sym done.first.went.are) ((done.tracked.are_people.members entity).1 (person.is_id, person.is_head)))

      turn : MergeTurn
      turn = from.0

      same_id : turn.entity.id ≡ id
      same_id = ap (λ (e : EntityRef). e.id) from.2

      at : AtTurn folder side.Identities (MergesPerson folder) turn old done.mid
      at = at_turn folder side.Identities (MergesPerson folder) (person_touches folder) done.first.turns
          (ids_of_turns (files_of old) folder (side.RemoteIdentities remote) done.tracked.people done.first.turns done.tracked.are_people done.first.went.are)
          (once_of_refs (files_of old) folder (side.RemoteIdentities remote) done.tracked.people done.first.turns done.tracked.are_people done.first.went.are)
          turn from.1 old done.mid done.first.went.each

      same_head : at.step.tracked ≡ person.head
      same_head = same_Some at.step.tracked person.head (sym at.step.is_tracked ∙ ap (λ (e : EntityRef). e.head) from.2)

      chain : IsChain (objects_after at.before folder) turn.entity.id at.step.tracked
      chain =
          let then = (chain_stays (objects_after old folder) (objects_after at.before folder) (grew at.before (IsMoment-of_first old done.mid new at.before at.came bugs_grew)) id person.head person.chain).0 in
          subst (IsChain (objects_after at.before folder) turn.entity.id) (sym same_head) (subst (λ (one : Id). IsChain (objects_after at.before folder) one person.head) (sym same_id) then)

      then : IsTrue (has_ref (files_of at.after) folder side.Identities turn.entity.id)
      then = person_stands folder turn.entity.id at.step.local at.step.tracked turn.outcome at.before at.after at.step.is_local chain at.step.is

  -- so a merge knows the authors that are either
  pub known_author : (id : Id) → IsLocal (files_of old) folder id ⊎ IsTrackedPerson (files_of old) folder remote id → Contains done.first.authors id
  known_author id either = among (elim either [ inl local ↦ local_stays id local | inr person ↦ tracked_local id person ])
    where
      among : IsLocal (files_of done.mid) folder id → Contains done.first.authors id
      among local = (done.first.are_authors.members id).1 (local.is_id, local.stands)
