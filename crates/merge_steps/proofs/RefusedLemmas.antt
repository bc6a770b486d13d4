-- What is so of each entity that a merge refuses.
use Rattle.std.proofs.Common.{◌≡◌, ◌⊎◌, ℕ, true, List, Contains, Option, Some, inl, inr, sym, ◌∙◌, ap, subst}
use Rattle.std.proofs.lemmas.Option.{same_Some}
use Rattle.gb_store.specs.Moments.{IsMoment}
use Rattle.gb_store.proofs.MomentLemmas.{IsMoment-of_second}
use Rattle.identity.specs.Advancing.{HasLocal, IsInLocal, IsNewChain}
use Rattle.identity.specs.Persons.{IdentityFaultHolds, IsChain}
use Rattle.identity.specs.declared.fault.IdentityFault.{IdentityFault}
use Rattle.identity.specs.declared.fault.IdentityFault.TheVariants as fault
use Rattle.identity.proofs.NoFaultLemmas.{no_fault}
use Rattle.repo_state.specs.Listed.{ref_with}
use Rattle.repo_state.specs.declared.side.Side.TheVariants as side
use Rattle.sync_steps.specs.Places.{local_side}
use Rattle.sync_steps.specs.declared.line.EntityWord.{EntityWord}
use Rattle.sync_steps.specs.declared.line.EntityWord.TheVariants as word
use Rattle.merge_steps.specs.MergeLines.{is_refused}
use Rattle.merge_steps.specs.Merging.{BugOutcome, PersonOutcome}
use Rattle.merge_steps.specs.Refused.{AreTwoLines, IsCause, WasRefused}
use Rattle.merge_steps.specs.Turns.{IsMerged}
use Rattle.merge_steps.specs.declared.line.MergeLine.{MergeLine}
use Rattle.merge_steps.specs.declared.line.MergeOutcome.TheVariants as outcome
use Rattle.merge_steps.proofs.Names.{Id, Name, History, files_of, Objects, objects_after, RemoteName, IsHeadAt, MergeTurn, MergesBug, MergesPerson, MergeOutcome}
use Rattle.merge_steps.proofs.DoneLemmas.{head_then}
use Rattle.merge_steps.proofs.FaultLemmas.{one_head}
use Rattle.merge_steps.proofs.TouchLemmas.{bug_touches, person_touches}
use Rattle.merge_steps.proofs.TurnOfLemmas.{TurnOf, turn_of, turns_grew}

-- ---- identities

-- want of memory is no fault of a chain, and neither is a fault of the disk
pub no_memory : (objects : Objects) (id : Id) (head : Name) (f : IdentityFault) → IdentityFaultHolds objects id head f → f ≡ fault.Memory → ⊥
no_memory objects id head fault.Memory holds same = holds.2
no_memory objects id head _ holds same = cc same

pub no_disk : (objects : Objects) (id : Id) (head : Name) (f : IdentityFault) → IdentityFaultHolds objects id head f → f ≡ fault.Disk → ⊥
no_disk objects id head fault.Disk holds same = holds.2
no_disk objects id head _ holds same = cc same

-- two heads of which neither is in the chain of the other
two_lines : (objects : Objects) (id : Id) (local : Option Name) (tracked one two : Name) → IsNewChain objects id local tracked → (HasLocal objects local tracked → ⊥) → local ≡ Some one → two ≡ tracked → AreTwoLines objects id local tracked two
two_lines objects id local tracked one two fresh not_above at told = record {
  is_told = told;
  chain = fresh.1;
  low = one;
  is_low = at;
  not_below = λ met. fresh.0 (subst (λ (l : Option Name). IsInLocal objects l tracked) (sym at) met);
  not_above = λ met. not_above (subst (λ (l : Option Name). HasLocal objects l tracked) (sym at) met);
}

person_cause : (folder : List ℕ) (authors : List Id) (id : Id) (local : Option Name) (tracked : Name) (out : MergeOutcome) (old new : History) → is_refused out ≡ true
    → PersonOutcome folder id local tracked out old new → IsCause (objects_after old folder) authors id local tracked out
person_cause folder authors id local tracked outcome.Nothing old new refused is = absurd (cc refused)
person_cause folder authors id local tracked outcome.New old new refused is = absurd (cc refused)
person_cause folder authors id local tracked outcome.Forward old new refused is = absurd (cc refused)
person_cause folder authors id local tracked outcome.Joined old new refused is = absurd is
person_cause folder authors id local tracked (outcome.InvalidBug f) old new refused is = absurd is
person_cause folder authors id local tracked (outcome.InvalidIdentity f) old new refused is = is.0.1
person_cause folder authors id local tracked (outcome.NotForward name) old new refused is =
    two_lines (objects_after old folder) id local tracked is.0 name is.1.0 is.1.1 is.1.2 is.1.3

module _ (folder : List ℕ) (turn : MergeTurn) (old new : History) (is : MergesPerson folder turn old new) where
  abbrev objects : Objects
  objects = objects_after old folder

  abbrev Outcome : MergeOutcome → Type 0
  Outcome out = PersonOutcome folder turn.entity.id is.local is.tracked out old new

  -- the chain has the fault, and nothing was written
  pub says_person_fault : (f : IdentityFault) → turn.outcome ≡ outcome.InvalidIdentity f → ((IsInLocal objects is.local is.tracked → ⊥) × IdentityFaultHolds objects turn.entity.id is.tracked f) × (new ≡ old)
  says_person_fault f refused = subst Outcome refused is.is

  -- so it is not said of a chain of the identity, nor where the tracked head is in the local chain
  pub never_said_of_chain : (f : IdentityFault) → turn.outcome ≡ outcome.InvalidIdentity f → (local : Option Name) (tracked : Name) → IsHeadAt (files_of old) folder side.Identities turn.entity.id local
      → turn.entity.head ≡ Some tracked → IsInLocal objects local tracked ⊎ IsChain objects turn.entity.id tracked → ⊥
  never_said_of_chain f refused local tracked at listed good =
      let locals : local ≡ is.local = one_head (files_of old) folder side.Identities turn.entity.id local is.local at is.is_local in
      let names : tracked ≡ is.tracked = same_Some tracked is.tracked (sym listed ∙ is.is_tracked) in
      by (subst (λ (t : Name). IsInLocal objects is.local t ⊎ IsChain objects turn.entity.id t) names
      (subst (λ (l : Option Name). IsInLocal objects l tracked ⊎ IsChain objects turn.entity.id tracked) locals good))
    where
      by : IsInLocal objects is.local is.tracked ⊎ IsChain objects turn.entity.id is.tracked → ⊥
      by (inl met) = (says_person_fault f refused).0.0 met
      by (inr chain) = no_fault objects turn.entity.id is.tracked f chain (says_person_fault f refused).0.1

  -- both heads, where neither is in the chain of the other
  pub says_two_lines : (name : Name) → turn.outcome ≡ outcome.NotForward name → AreTwoLines objects turn.entity.id is.local is.tracked name × (new ≡ old)
  says_two_lines name refused =
      let says : Outcome (outcome.NotForward name) = subst Outcome refused is.is in
      (two_lines objects turn.entity.id is.local is.tracked says.0 name says.1.0 says.1.1 says.1.2 says.1.3, says.2)

-- ---- bugs

bug_cause : (folder : List ℕ) (user : Id) (authors : List Id) (now : ℕ) (id : Id) (local : Option Name) (tracked : Name) (out : MergeOutcome) (old new : History) → is_refused out ≡ true
    → BugOutcome folder user authors now id local tracked out old new → IsCause (objects_after old folder) authors id local tracked out
bug_cause folder user authors now id local tracked outcome.Nothing old new refused is = absurd (cc refused)
bug_cause folder user authors now id local tracked outcome.New old new refused is = absurd (cc refused)
bug_cause folder user authors now id local tracked outcome.Forward old new refused is = absurd (cc refused)
bug_cause folder user authors now id local tracked outcome.Joined old new refused is = absurd (cc refused)
bug_cause folder user authors now id local tracked (outcome.InvalidBug f) old new refused is = is.1
bug_cause folder user authors now id local tracked (outcome.InvalidIdentity f) old new refused is = absurd is
bug_cause folder user authors now id local tracked (outcome.NotForward name) old new refused is = absurd is

-- ---- a whole merge

module _ (folder : List ℕ) (remote : RemoteName) (now : ℕ) (old new : History) (lines : List MergeLine) (is : IsMerged folder remote now lines old new) where
  abbrev user : Id
  user = is.tracked.user

  abbrev authors : List Id
  authors = is.first.authors

  abbrev Refused : MergeLine → Type 0
  Refused line = WasRefused folder remote line old new

  -- the bugs had their turns at moments behind those of the identities
  between : IsMoment old new is.mid
  between =
      let first = turns_grew folder side.Identities (MergesPerson folder) (person_touches folder) is.first.turns old is.mid is.first.went.each in
      let second = turns_grew folder side.Bugs (MergesBug folder user authors now) (bug_touches folder user authors now) is.turns is.mid new is.then.each in
      IsMoment-of_second old is.mid new is.mid first second

  -- by the turn of a line
  refused_of : (word : EntityWord) (Step : MergeTurn → History → History → Type 0) (line : MergeLine) (of : TurnOf folder remote word Step old new line) (local : Option Name) (tracked : Name)
      → IsHeadAt (files_of of.at.before) folder (local_side word) of.turn.entity.id local → of.turn.entity.head ≡ Some tracked
      → IsCause (objects_after of.at.before folder) authors of.turn.entity.id local tracked of.turn.outcome → Refused line
  refused_of word Step line of local tracked at listed cause = subst Refused of.is (record {
    local = local;
    is_local = head_then folder (local_side word) of.turn.entity.id (files_of of.at.before) (files_of old) local of.at.earlier at;
    tracked = tracked;
    is_tracked = of.listed.1 ∙ ap ref_with listed;
    mid = is.mid;
    is_mid = between;
    authors = authors;
    are_authors = is.first.are_authors;
    moment = of.at.before;
    is_moment = of.at.came;
    cause = cause;
  })

  pub line_refused : (line : MergeLine) → Contains lines line → is_refused line.outcome ≡ true → Refused line
  line_refused line c refused = elim (turn_of folder remote now old new lines is line c) [
    | inl of ↦
        let turn_refused = subst (λ (l : MergeLine). is_refused l.outcome ≡ true) (sym of.is) refused in
        let step = of.at.step in
        refused_of word.Identity (MergesPerson folder) line of step.local step.tracked step.is_local step.is_tracked
        (person_cause folder authors of.turn.entity.id step.local step.tracked of.turn.outcome of.at.before of.at.after turn_refused step.is)
    | inr of ↦
        let turn_refused = subst (λ (l : MergeLine). is_refused l.outcome ≡ true) (sym of.is) refused in
        let step = of.at.step in
        refused_of word.Bug (MergesBug folder user authors now) line of step.local step.tracked step.is_local step.is_tracked
        (bug_cause folder user authors now of.turn.entity.id step.local step.tracked of.turn.outcome of.at.before of.at.after turn_refused step.is)
  ]
