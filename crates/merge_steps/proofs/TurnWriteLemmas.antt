-- Each write of a turn is of its kind.
use Rattle.std.proofs.Common.{◌≡◌, ◌<◌, ◌^◌, ℕ, List, ◌∷◌, ◌++◌, reverse, Contains, Option, Some, None, inl, inr, refl, sym, ◌∙◌, ap, subst}
use Rattle.git_object.proofs.NameLaws.{IsName-object_name}
use Rattle.object_store.proofs.HeldLemmas.{object_at-is}
use Rattle.identity.specs.Advancing.{HasLocal}
use Rattle.identity.specs.Persons.{IsChain}
use Rattle.identity.proofs.MadeLemmas.{head_held}
use Rattle.gb_store.specs.Moments.{at_moment}
use Rattle.entity_merge.specs.declared.word.Merged.TheVariants as merged
use Rattle.repo_state.specs.declared.side.Side.TheVariants as side
use Rattle.repo_writes.specs.Kinds.{IsBelow as IsMet, an_identity_head}
use Rattle.merge_steps.specs.Merging.{BugCutOff, BugOutcome, BugStops, GetsHead, PersonCutOff, PersonOutcome, PersonStops}
use Rattle.merge_steps.specs.declared.line.MergeOutcome.TheVariants as outcome
use Rattle.merge_steps.specs.declared.stop.TurnStop.{TurnStop}
use Rattle.merge_steps.specs.declared.stop.TurnStop.TheVariants as stop
use Rattle.merge_steps.proofs.Names.{IsId, IsName, Id, Name, History, files_of, Wrote, WroteSome, Change, Wrote-none, Wrote-one, WroteBy-before, WroteSome-there, Objects, objects_after, ref_write, IsHeadAt, EachIsLocal, ref_place, EntityRef, Side, MergeTurn, MergesBug, MergesPerson, merged_writes, MergeOutcome, Merged, IsWrite, head_of}
use Rattle.merge_steps.proofs.HeadLemmas.{behind, is_ref_to, ready_wrote}
use Rattle.merge_steps.proofs.ReadyLemmas.{ready}

-- the first of some writes are of their kinds where all are
some_wrote : (folder : List ℕ) (writes : List Change) (old new : History) → Wrote (IsWrite folder) old (reverse writes ++ old) → WroteSome writes old new → Wrote (IsWrite folder) old new
some_wrote folder writes old new wrote some =
    let front = WroteSome-there writes old new some in
    WroteBy-before (at_moment (IsWrite folder)) old (reverse writes ++ old) new wrote (record {
      later = reverse front.1;
      done = reverse front.0;
      before = front.3;
      after = ap (λ (ws : List Change). reverse ws ++ old) front.2 ∙ behind front.0 front.1 old ∙ ap (λ (h : History). reverse front.1 ++ h) (sym front.3);
    })

-- ---- turns of identities

-- the head of a chain is a name
pub chain_name : (objects : Objects) (id : Id) (head : Name) → IsChain objects id head → IsName head
chain_name objects id head chain =
    let held = head_held objects id head chain in
    let is = object_at-is objects head held.object held.is in
    subst IsName is.is_named (IsName-object_name is.text)

-- nothing is below where there is no head
pub met_none : (objects : Objects) (local : Option Name) (head : Name) → local ≡ None → IsMet objects local head
met_none objects None head e = tt
met_none objects (Some low) head e = absurd (cc e)

pub met_local : (objects : Objects) (local : Option Name) (head : Name) → HasLocal objects local head → IsMet objects local head
met_local objects None head has = absurd has
met_local objects (Some low) head has = has

module _ (folder : List ℕ) where
  sets_person : (id : Id) (local : Option Name) (tracked : Name) (old new : History) → IsHeadAt (files_of old) folder side.Identities id local → IsMet (objects_after old folder) local tracked
      → IsChain (objects_after old folder) id tracked → new ≡ ref_write folder (ref_place side.Identities id) tracked ∷ old → Wrote (IsWrite folder) old new
  sets_person id local tracked old new is_local below chain grew = Wrote-one (IsWrite folder) (ref_write folder (ref_place side.Identities id) tracked) old new
      (an_identity_head (record {
        id = id;
        head = tracked;
        is_name = chain_name (objects_after old folder) id tracked chain;
        present = local;
        is_present = is_ref_to old folder side.Identities id local is_local;
        below = below;
        chain = chain;
        write = refl;
      })) (inr grew)

  person_outcome : (id : Id) (local : Option Name) (tracked : Name) (out : MergeOutcome) (old new : History) → IsHeadAt (files_of old) folder side.Identities id local
      → PersonOutcome folder id local tracked out old new → Wrote (IsWrite folder) old new
  person_outcome id local tracked outcome.Nothing old new at is = Wrote-none (IsWrite folder) old new is.1
  person_outcome id local tracked outcome.New old new at is = sets_person id local tracked old new at (met_none (objects_after old folder) local tracked is.0.0) is.0.1 is.1
  person_outcome id local tracked outcome.Forward old new at is = sets_person id local tracked old new at (met_local (objects_after old folder) local tracked is.0.1) is.0.0.1 is.1
  person_outcome id local tracked (outcome.InvalidIdentity f) old new at is = Wrote-none (IsWrite folder) old new is.1
  person_outcome id local tracked (outcome.NotForward name) old new at is = Wrote-none (IsWrite folder) old new is.2
  person_outcome id local tracked outcome.Joined old new at is = absurd is
  person_outcome id local tracked (outcome.InvalidBug f) old new at is = absurd is

  pub person_wrote : (turn : MergeTurn) (old new : History) → MergesPerson folder turn old new → Wrote (IsWrite folder) old new
  person_wrote turn old new is = person_outcome turn.entity.id is.local is.tracked turn.outcome old new is.is_local is.is

  person_cut : (entity : EntityRef) (old new : History) → PersonCutOff folder entity old new → Wrote (IsWrite folder) old new
  person_cut entity old new (inl same) = Wrote-none (IsWrite folder) old new same
  person_cut entity old new (inr (out, is)) = person_wrote (record { entity = entity; outcome = out }) old new is

  -- and what ended the call at one
  pub person_stop_wrote : (tracked : Side) (why : TurnStop) (entity : EntityRef) (old new : History) → PersonStops folder tracked why entity old new → Wrote (IsWrite folder) old new
  person_stop_wrote tracked stop.Memory entity old new is = person_cut entity old new is
  person_stop_wrote tracked stop.Disk entity old new is = person_cut entity old new is
  person_stop_wrote tracked (stop.Damaged path) entity old new is = Wrote-none (IsWrite folder) old new is.1
  person_stop_wrote tracked (stop.Taken name) entity old new is = absurd is

-- ---- turns of bugs

module _ (folder : List ℕ) (user : Id) (authors : List Id) (now : ℕ) (is_user : IsId user) (moment : now < 2 ^ 64) (known : Contains authors user) where
  module _ (id : Id) (is_id : IsId id) (local : Option Name) (tracked : Name) (old new : History) (locals : EachIsLocal (files_of old) folder authors) (at : IsHeadAt (files_of old) folder side.Bugs id local) where
    gets_wrote : (word : Merged) (head : Name) → Some head ≡ head_of local word → (word ≡ merged.Nothing → ⊥) → GetsHead folder user authors now id local tracked word head old new → Wrote (IsWrite folder) old new
    gets_wrote word head is other gets =
        subst (Wrote (IsWrite folder) old) (sym gets.wrote)
        (ready_wrote folder id head gets.edit gets.create gets.texts old is_id local at authors locals
        (ready folder user authors now is_user moment known id old local tracked word head gets.edit gets.create gets.texts gets.plan gets.free is other))

    bug_outcome : (out : MergeOutcome) → BugOutcome folder user authors now id local tracked out old new → Wrote (IsWrite folder) old new
    bug_outcome outcome.Nothing is = Wrote-none (IsWrite folder) old new is.1
    bug_outcome outcome.New is = gets_wrote (merged.New tracked) tracked refl (λ e. cc e) is
    bug_outcome outcome.Forward is = gets_wrote (merged.Forward tracked) tracked refl (λ e. cc e) is
    bug_outcome outcome.Joined is = gets_wrote (merged.Joined is.0) is.0 refl (λ e. cc e) is.1
    bug_outcome (outcome.InvalidBug f) is = Wrote-none (IsWrite folder) old new is.2
    bug_outcome (outcome.InvalidIdentity f) is = absurd is
    bug_outcome (outcome.NotForward name) is = absurd is

  pub bug_wrote : (turn : MergeTurn) (old new : History) → IsId turn.entity.id → EachIsLocal (files_of old) folder authors → MergesBug folder user authors now turn old new → Wrote (IsWrite folder) old new
  bug_wrote turn old new is_id locals is = bug_outcome turn.entity.id is_id is.local is.tracked old new locals is.is_local turn.outcome is.is

  bug_cut : (entity : EntityRef) (old new : History) → IsId entity.id → EachIsLocal (files_of old) folder authors → BugCutOff folder user authors now entity old new → Wrote (IsWrite folder) old new
  bug_cut entity old new is_id locals (inl same) = Wrote-none (IsWrite folder) old new same
  bug_cut entity old new is_id locals (inr cut) =
      some_wrote folder (merged_writes folder entity.id cut.head cut.edit cut.create cut.texts (files_of old)) old new
      (ready_wrote folder entity.id cut.head cut.edit cut.create cut.texts old is_id cut.local cut.is_local authors locals
      (ready folder user authors now is_user moment known entity.id old cut.local cut.tracked cut.word cut.head cut.edit cut.create cut.texts cut.plan cut.free cut.is_head cut.is_new))
      cut.wrote

  -- and what ended the call at one
  pub bug_stop_wrote : (tracked : Side) (why : TurnStop) (entity : EntityRef) (old new : History) → IsId entity.id → EachIsLocal (files_of old) folder authors
      → BugStops folder user authors now tracked why entity old new → Wrote (IsWrite folder) old new
  bug_stop_wrote tracked stop.Memory entity old new is_id locals is = bug_cut entity old new is_id locals is
  bug_stop_wrote tracked stop.Disk entity old new is_id locals is = bug_cut entity old new is_id locals is
  bug_stop_wrote tracked (stop.Damaged path) entity old new is_id locals is = Wrote-none (IsWrite folder) old new is.1
  bug_stop_wrote tracked (stop.Taken name) entity old new is_id locals is = Wrote-none (IsWrite folder) old new is.same
