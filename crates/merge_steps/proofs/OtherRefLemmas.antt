-- A merge leaves each ref but the local ones, and the local refs of what it refuses.
use Rattle.std.proofs.Common.{◌≡◌, ◌≢◌, inl, inr, sym, ◌∙◌, ap, subst, ℕ, true, List, Contains, Option, Result, Ok, Err}
use Rattle.repo_state.specs.declared.side.Side.TheVariants as side
use Rattle.repo_state.proofs.KindLemmas.{head_at-other_side}
use Rattle.sync_steps.specs.Places.{local_side}
use Rattle.sync_steps.specs.declared.line.EntityWord.{EntityWord}
use Rattle.sync_steps.specs.declared.line.EntityWord.TheVariants as word
use Rattle.merge_steps.specs.MergeLines.{is_refused}
use Rattle.merge_steps.specs.Merging.{BugOutcome, PersonOutcome}
use Rattle.merge_steps.specs.Turns.{IsMerged, MergeAnswers}
use Rattle.merge_steps.specs.declared.line.MergeLine.{MergeLine}
use Rattle.merge_steps.specs.declared.line.MergeOutcome.TheVariants as outcome
use Rattle.merge_steps.specs.declared.stop.MergeStop.{MergeStop}
use Rattle.merge_steps.proofs.Names.{Id, Name, History, files_of, RemoteName, head_at, Side, MergeTurn, MergesBug, MergesPerson, MergeOutcome}
use Rattle.merge_steps.proofs.MergeWriteLemmas.{not_begun_same}
use Rattle.merge_steps.proofs.TouchLemmas.{bug_stop_touches, person_stop_touches, touch_leaves}
use Rattle.merge_steps.proofs.TurnOfLemmas.{TurnOf, bugs_stay, people_stay, turn_of}

-- a turn that refuses writes nothing
person_quiet : (folder : List ℕ) (id : Id) (local : Option Name) (tracked : Name) (out : MergeOutcome) (old new : History) → is_refused out ≡ true → PersonOutcome folder id local tracked out old new → new ≡ old
person_quiet folder id local tracked outcome.Nothing old new refused is = is.1
person_quiet folder id local tracked outcome.New old new refused is = absurd (cc refused)
person_quiet folder id local tracked outcome.Forward old new refused is = absurd (cc refused)
person_quiet folder id local tracked outcome.Joined old new refused is = absurd is
person_quiet folder id local tracked (outcome.InvalidBug f) old new refused is = absurd is
person_quiet folder id local tracked (outcome.InvalidIdentity f) old new refused is = is.1
person_quiet folder id local tracked (outcome.NotForward name) old new refused is = is.2

bug_quiet : (folder : List ℕ) (user : Id) (authors : List Id) (now : ℕ) (id : Id) (local : Option Name) (tracked : Name) (out : MergeOutcome) (old new : History) → is_refused out ≡ true
    → BugOutcome folder user authors now id local tracked out old new → new ≡ old
bug_quiet folder user authors now id local tracked outcome.Nothing old new refused is = is.1
bug_quiet folder user authors now id local tracked outcome.New old new refused is = absurd (cc refused)
bug_quiet folder user authors now id local tracked outcome.Forward old new refused is = absurd (cc refused)
bug_quiet folder user authors now id local tracked outcome.Joined old new refused is = absurd (cc refused)
bug_quiet folder user authors now id local tracked (outcome.InvalidBug f) old new refused is = is.2
bug_quiet folder user authors now id local tracked (outcome.InvalidIdentity f) old new refused is = absurd is
bug_quiet folder user authors now id local tracked (outcome.NotForward name) old new refused is = absurd is

module _ (folder : List ℕ) (remote : RemoteName) (now : ℕ) (old new : History) where
  module _ (on : Side) (id : Id) (other : (word : EntityWord) → on ≢ local_side word) where
    no_person : side.Identities ≢ on
    no_person = λ same. other word.Identity (sym same)

    no_bug : side.Bugs ≢ on
    no_bug = λ same. other word.Bug (sym same)

    -- a ref that is not local stays
    pub merge_leaves : (result : Result (List MergeLine) MergeStop) → MergeAnswers folder remote now old new result → head_at (files_of new) folder on id ≡ head_at (files_of old) folder on id
    merge_leaves (Ok lines) is =
        bugs_stay folder remote now old new is.tracked.user is.first.authors on no_bug id is.turns is.mid new is.then.each ∙ people_stay folder remote now old new on no_person id is.first.turns old is.mid is.first.went.each
    merge_leaves (Err why) (inl not) = ap (λ (h : History). head_at (files_of h) folder on id) (not_begun_same folder remote now why old new not)
    merge_leaves (Err why) (inr (inl (at, is, inl person))) =
        let ended = person.ended in
        touch_leaves folder side.Identities ended.at.id on id (λ name files. head_at-other_side files folder side.Identities on ended.at.id id name no_person) ended.mid new
        (person_stop_touches folder (side.RemoteIdentities remote) at ended.at ended.mid new ended.ended)
        ∙ people_stay folder remote now old new on no_person id ended.done old ended.mid ended.before
    merge_leaves (Err why) (inr (inl (at, is, inr bug))) =
        let ended = bug.ended in
        touch_leaves folder side.Bugs ended.at.id on id (λ name files. head_at-other_side files folder side.Bugs on ended.at.id id name no_bug) ended.mid new
        (bug_stop_touches folder bug.tracked.user bug.first.authors now (side.RemoteBugs remote) at ended.at ended.mid new ended.ended)
        ∙ bugs_stay folder remote now old new bug.tracked.user bug.first.authors on no_bug id ended.done bug.mid ended.mid ended.before
        ∙ people_stay folder remote now old new on no_person id bug.first.turns old bug.mid bug.first.went.each
    merge_leaves (Err why) (inr (inr (is, between))) = people_stay folder remote now old new on no_person id between.turns old new between.went.each

  -- the local ref of what was refused stays
  abbrev Stays : MergeLine → Type 0
  Stays line = head_at (files_of new) folder (local_side line.word) line.id ≡ head_at (files_of old) folder (local_side line.word) line.id

  still : (word : EntityWord) (Step : MergeTurn → History → History → Type 0) (line : MergeLine) (of : TurnOf folder remote word Step old new line) → of.at.after ≡ of.at.before → Stays line
  still word Step line of same =
      subst Stays of.is (of.at.later ∙ ap (λ (h : History). head_at (files_of h) folder (local_side word) of.turn.entity.id) same ∙ of.at.earlier)

  pub refused_stay : (lines : List MergeLine) (line : MergeLine) → IsMerged folder remote now lines old new → Contains lines line → is_refused line.outcome ≡ true → Stays line
  refused_stay lines line is c refused =
      let user = is.tracked.user in
      let authors = is.first.authors in
      elim (turn_of folder remote now old new lines is line c) [
        | inl of ↦
            let turn_refused = subst (λ (l : MergeLine). is_refused l.outcome ≡ true) (sym of.is) refused in
            let step = of.at.step in
            still word.Identity (MergesPerson folder) line of (person_quiet folder of.turn.entity.id step.local step.tracked of.turn.outcome of.at.before of.at.after turn_refused step.is)
        | inr of ↦
            let turn_refused = subst (λ (l : MergeLine). is_refused l.outcome ≡ true) (sym of.is) refused in
            let step = of.at.step in
            still word.Bug (MergesBug folder user authors now) line of (bug_quiet folder user authors now of.turn.entity.id step.local step.tracked of.turn.outcome of.at.before of.at.after turn_refused step.is)
      ]
