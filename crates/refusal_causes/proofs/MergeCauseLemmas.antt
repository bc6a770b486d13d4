-- A merge is refused at the first turn that fails, and what is told of it is determined, but for the name that is taken where several are.
use Rattle.std.proofs.Common.{◌≡◌, ◌⊎◌, inl, inr, ℕ, List, Result, Err, refl, sym, ◌∙◌, ap, subst}
use Rattle.gb_text.specs.declared.id.Id.{Id}
use Rattle.gb_store.specs.Files.{History, files_of}
use Rattle.gb_store.specs.Turns.{InTurn}
use Rattle.merge_steps.specs.Merging.{BugStops, MergesBug, MergesPerson, PersonStops}
use Rattle.merge_steps.specs.Stops.{stop_of_turn}
use Rattle.merge_steps.specs.Turns.{EndedAtPerson, IsFault, IsMerged, MergeAnswers, NotBegun as NotMerged, PeopleMerged, Tracked}
use Rattle.merge_steps.specs.declared.line.MergeLine.{MergeLine}
use Rattle.merge_steps.specs.declared.stop.MergeStop.{MergeStop}
use Rattle.merge_steps.specs.declared.stop.MergeStop.TheVariants as merge
use Rattle.merge_steps.specs.declared.stop.TurnStop.{TurnStop}
use Rattle.merge_steps.specs.declared.stop.TurnStop.TheVariants as turn
use Rattle.remote_name.specs.declared.remote.RemoteName.{RemoteName}
use Rattle.repo_state.specs.Sides.{AreIds}
use Rattle.repo_state.specs.Users.{User}
use Rattle.repo_state.specs.declared.refs.EntityRef.{EntityRef}
use Rattle.repo_state.specs.declared.side.Side.{Side}
use Rattle.repo_state.specs.declared.side.Side.TheVariants as side
use Rattle.repo_steps.specs.declared.refusal.Refusal.{Refusal}
use Rattle.repo_steps.specs.declared.refusal.Refusal.TheVariants as refusal
use Rattle.repo_steps.specs.declared.refusal.Stop.TheVariants as stop
use Rattle.bug_run.specs.Exchanges.{stop_of_merge}
use Rattle.refusal_causes.specs.Alike.{AreAlike}
use Rattle.refusal_causes.specs.ExchangeCauses.{UserCause}
use Rattle.refusal_causes.specs.TurnCauses.{MergeBarred}
use Rattle.refusal_causes.proofs.FirstLemmas.{ids_same, refs_same}
use Rattle.refusal_causes.proofs.MergeTurnLemmas.{BugFails, IsBar, PersonFails, bad_apart, bug_apart, bug_fixed, no_pass, one_path, person_apart, person_fixed, same_end, same_stop}

-- what is told of a stop is no fault
told_bar : (why : TurnStop) (r : Refusal) → stop.Refused r ≡ stop_of_merge (stop_of_turn why) → IsBar why
told_bar turn.Memory r e = absurd (cc e)
told_bar turn.Disk r e = absurd (cc e)
told_bar (turn.Damaged path) r e = tt
told_bar (turn.Taken name) r e = tt

-- ---- two stops of one turn

module _ (folder : List ℕ) (tracked : Side) (entity : EntityRef) (old end new : History) (r s : Refusal) where
  -- a ref that is no ref text is told alike
  bad_alike : (path at : List ℕ) → stop.Refused r ≡ stop.Refused (refusal.Damaged path) → stop.Refused s ≡ stop.Refused (refusal.Damaged at) → path ≡ at → AreAlike r s
  bad_alike path at told too same =
      let one : r ≡ refusal.Damaged path = cc told in
      let two : s ≡ refusal.Damaged at = cc too in
      inl (one ∙ ap refusal.Damaged same ∙ sym two)

  person_alike : (why other : TurnStop) → stop.Refused r ≡ stop_of_merge (stop_of_turn why) → stop.Refused s ≡ stop_of_merge (stop_of_turn other) → PersonStops folder tracked why entity old end
      → PersonStops folder tracked other entity old new → AreAlike r s
  person_alike (turn.Damaged path) (turn.Damaged at) told too stops also = bad_alike path at told too (one_path folder tracked side.Identities entity old path at end new stops also)
  person_alike (turn.Damaged path) (turn.Taken name) told too stops also = absurd also
  person_alike (turn.Taken name) other told too stops also = absurd stops
  person_alike turn.Memory other told too stops also = absurd (cc told)
  person_alike turn.Disk other told too stops also = absurd (cc told)
  person_alike (turn.Damaged path) turn.Memory told too stops also = absurd (cc too)
  person_alike (turn.Damaged path) turn.Disk told too stops also = absurd (cc too)

  bug_alike : (user : Id) (authors : List Id) (now : ℕ) (why other : TurnStop) → stop.Refused r ≡ stop_of_merge (stop_of_turn why) → stop.Refused s ≡ stop_of_merge (stop_of_turn other)
      → BugStops folder user authors now tracked why entity old end → BugStops folder user authors now tracked other entity old new → AreAlike r s
  bug_alike user authors now (turn.Damaged path) (turn.Damaged at) told too stops also = bad_alike path at told too (one_path folder tracked side.Bugs entity old path at end new stops also)
  bug_alike user authors now (turn.Damaged path) (turn.Taken name) told too stops also =
      absurd (bad_apart folder tracked side.Bugs entity old path end also.tracked also.local stops also.is_tracked also.is_local)
  bug_alike user authors now (turn.Taken name) (turn.Damaged path) told too stops also =
      absurd (bad_apart folder tracked side.Bugs entity old path new stops.tracked stops.local also stops.is_tracked stops.is_local)
  bug_alike user authors now (turn.Taken name) (turn.Taken second) told too stops also =
      let one : r ≡ refusal.NameTaken name = cc told in
      let two : s ≡ refusal.NameTaken second = cc too in
      inr (name, second, one, two)
  bug_alike user authors now turn.Memory other told too stops also = absurd (cc told)
  bug_alike user authors now turn.Disk other told too stops also = absurd (cc told)
  bug_alike user authors now (turn.Damaged path) turn.Memory told too stops also = absurd (cc too)
  bug_alike user authors now (turn.Damaged path) turn.Disk told too stops also = absurd (cc too)
  bug_alike user authors now (turn.Taken name) turn.Memory told too stops also = absurd (cc too)
  bug_alike user authors now (turn.Taken name) turn.Disk told too stops also = absurd (cc too)

-- ---- a whole merge

module _ (folder : List ℕ) (remote : RemoteName) (now : ℕ) (old : History) where
  abbrev Lists : Type 0
  Lists = Tracked folder remote now old

  abbrev People : List EntityRef → History → Type 0
  People people mid = PeopleMerged folder remote now people old mid

  people_same : (one two : Lists) → one.people ≡ two.people
  people_same one two = refs_same (files_of old) folder (side.RemoteIdentities remote) one.people two.people one.are_people two.are_people

  bugs_same : (one two : Lists) → one.bugs ≡ two.bugs
  bugs_same one two = refs_same (files_of old) folder (side.RemoteBugs remote) one.bugs two.bugs one.are_bugs two.are_bugs

  -- where a turn of an identity fails, not all of them have their turns
  people_apart : (end mid : History) (r : Refusal) (why : TurnStop) → stop.Refused r ≡ stop_of_merge (stop_of_turn why) → EndedAtPerson folder remote now why old end → (lists : Lists) → People lists.people mid → ⊥
  people_apart end mid r why told e lists first =
      no_pass (MergesPerson folder) (person_fixed folder) (PersonFails folder (side.RemoteIdentities remote)) (person_apart folder (side.RemoteIdentities remote))
      e.ended.done e.ended.at e.ended.rest first.turns old e.ended.mid mid (sym e.ended.are ∙ people_same e.tracked lists ∙ sym first.went.are)
      e.ended.before (why, end, told_bar why r told, e.ended.ended) first.went.each

  -- the turns of bugs begin alike
  module _ (one two : Lists) (mid middle : History) (first : People one.people mid) (then : People two.people middle) where
    users : one.user ≡ two.user
    users = let same : User one.user ≡ User two.user = sym one.is_user ∙ two.is_user in cc same

    mids : mid ≡ middle
    mids = same_end (MergesPerson folder) (person_fixed folder) first.turns then.turns old mid middle (first.went.are ∙ people_same one two ∙ sym then.went.are) first.went.each then.went.each

    authors : first.authors ≡ then.authors
    authors =
        ids_same (files_of middle) folder side.Identities first.authors then.authors
        (subst (λ (h : History). AreIds (files_of h) folder side.Identities first.authors) mids first.are_authors) then.are_authors

    over : (P : Id → List Id → History → Type 0) → P two.user then.authors middle → P one.user first.authors mid
    over P is =
        subst (λ (user : Id). P user first.authors mid) (sym users)
        (subst (λ (known : List Id). P two.user known mid) (sym authors) (subst (P two.user then.authors) (sym mids) is))

  -- one that is done has no turn that fails
  pub merge_unbarred : (end new : History) (lines : List MergeLine) (r : Refusal) → MergeBarred folder remote now old end r → IsMerged folder remote now lines old new → ⊥
  merge_unbarred end new lines r (why, inl e, told) done = people_apart end done.mid r why told e done.tracked done.first
  merge_unbarred end new lines r (why, inr e, told) done =
      let user = e.tracked.user in
      let known = e.first.authors in
      no_pass (MergesBug folder user known now) (bug_fixed folder user known now) (BugFails folder user known now (side.RemoteBugs remote)) (bug_apart folder user known now (side.RemoteBugs remote))
      e.ended.done e.ended.at e.ended.rest done.turns e.mid e.ended.mid new (sym e.ended.are ∙ bugs_same e.tracked done.tracked ∙ sym done.then.are)
      e.ended.before (why, end, told_bar why r told, e.ended.ended)
      (over e.tracked done.tracked e.mid done.mid e.first done.first (λ u a h. InTurn (MergesBug folder u a now) done.turns h new) done.then.each)

  -- and one that is refused is so at one turn
  pub merge_alike : (end new : History) (r s : Refusal) → MergeBarred folder remote now old end r → MergeBarred folder remote now old new s → AreAlike r s
  merge_alike end new r s (why, inl e, told) (other, inl f, too) =
      let tracked = side.RemoteIdentities remote in
      let same = same_stop (MergesPerson folder) (person_fixed folder) (PersonFails folder tracked) (person_apart folder tracked)
      e.ended.done f.ended.done e.ended.at f.ended.at e.ended.rest f.ended.rest old e.ended.mid f.ended.mid (sym e.ended.are ∙ people_same e.tracked f.tracked ∙ f.ended.are)
      e.ended.before (why, end, told_bar why r told, e.ended.ended) f.ended.before (other, new, told_bar other s too, f.ended.ended) in
      person_alike folder tracked e.ended.at e.ended.mid end new r s why other told too e.ended.ended
      (subst (λ (entity : EntityRef). PersonStops folder tracked other entity e.ended.mid new) (sym same.0)
      (subst (λ (h : History). PersonStops folder tracked other f.ended.at h new) (sym same.1) f.ended.ended))
  merge_alike end new r s (why, inl e, told) (other, inr f, too) = absurd (people_apart end f.mid r why told e f.tracked f.first)
  merge_alike end new r s (why, inr e, told) (other, inl f, too) = absurd (people_apart new e.mid s other too f e.tracked e.first)
  merge_alike end new r s (why, inr e, told) (other, inr f, too) =
      let tracked = side.RemoteBugs remote in
      let user = e.tracked.user in
      let known = e.first.authors in
      let goes = over e.tracked f.tracked e.mid f.mid e.first f.first in
      let before = goes (λ u a h. InTurn (MergesBug folder u a now) f.ended.done h f.ended.mid) f.ended.before in
      let stops = goes (λ u a h. BugStops folder u a now tracked other f.ended.at f.ended.mid new) f.ended.ended in
      let same = same_stop (MergesBug folder user known now) (bug_fixed folder user known now) (BugFails folder user known now tracked) (bug_apart folder user known now tracked)
      e.ended.done f.ended.done e.ended.at f.ended.at e.ended.rest f.ended.rest e.mid e.ended.mid f.ended.mid (sym e.ended.are ∙ bugs_same e.tracked f.tracked ∙ f.ended.are)
      e.ended.before (why, end, told_bar why r told, e.ended.ended) before (other, new, told_bar other s too, stops) in
      bug_alike folder tracked e.ended.at e.ended.mid end new r s user known now why other told too e.ended.ended
      (subst (λ (entity : EntityRef). BugStops folder user known now tracked other entity e.ended.mid new) (sym same.0)
      (subst (λ (h : History). BugStops folder user known now tracked other f.ended.at h new) (sym same.1) stops))

  -- one that fails at a turn had a user
  pub barred_had_user : (end : History) (r : Refusal) → MergeBarred folder remote now old end r → Lists
  barred_had_user end r (why, inl e, told) = e.tracked
  barred_had_user end r (why, inr e, told) = e.tracked

  -- it is the answer of a merge
  pub barred_merged : (end : History) (r : Refusal) → MergeBarred folder remote now old end r → (result : Result (List MergeLine) MergeStop) × MergeAnswers folder remote now old end result
  barred_merged end r (why, ended, told) = (Err (stop_of_turn why), inr (inl (why, refl, ended)))

  -- ---- what is told

  module _ (new : History) where
    pub user_stop : (s : Refusal) (why : MergeStop) → NotMerged folder remote now why old new → stop.Refused s ≡ stop_of_merge why → UserCause folder (files_of old) s
    user_stop s merge.Memory is e = absurd (cc e)
    user_stop s merge.Disk is e = absurd (cc e)
    user_stop s merge.NoUser is e = inl (is.0, let same : s ≡ refusal.NoUser = cc e in same)
    user_stop s (merge.Damaged path) is e = inr (is.0, let same : s ≡ refusal.Damaged path = cc e in same ∙ ap refusal.Damaged is.1)
    user_stop s (merge.Taken name) is e = absurd is

    never_told : (s : Refusal) (why : MergeStop) → IsFault folder remote now why → stop.Refused s ≡ stop_of_merge why → ⊥
    never_told s merge.Memory is e = cc e
    never_told s merge.Disk is e = cc e
    never_told s merge.NoUser is e = is
    never_told s (merge.Damaged path) is e = is
    never_told s (merge.Taken name) is e = is

    -- what refuses a merge is a cause in the user, or a turn that fails
    pub merge_barred : (s : Refusal) (why : MergeStop) → MergeAnswers folder remote now old new (Err why) → stop.Refused s ≡ stop_of_merge why
        → UserCause folder (files_of old) s ⊎ MergeBarred folder remote now old new s
    merge_barred s why (inl is) e = inl (user_stop s why is e)
    merge_barred s why (inr (inl (at, is, ended))) e = inr (at, ended, e ∙ ap stop_of_merge is)
    merge_barred s why (inr (inr (fault, between))) e = absurd (never_told s why fault e)
