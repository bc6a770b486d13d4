-- Each write of a merge is of its kind.
use Rattle.std.proofs.Common.{◌≡◌, ◌<◌, ◌^◌, ℕ, suc, List, [], ◌∷◌, ◌++◌, Contains, IsTrue, Result, Ok, Err, inl, inr, refl, sym, ◌∙◌, ap, subst, arith}
use Rattle.std.specs.Prelude.{⊤}
use Rattle.std.proofs.lemmas.List.Elements.{Contains-append_left, Contains-append_right}
use Rattle.repo_state.specs.Listed.{AreRefs}
use Rattle.repo_state.specs.Sides.{is_there}
use Rattle.repo_state.specs.declared.side.Side.TheVariants as side
use Rattle.repo_state.proofs.BugSoundLemmas.{AreLocal-each, EachIsLocal-over}
use Rattle.repo_state.proofs.FoundLemmas.{IsLocal-user}
use Rattle.repo_state.proofs.KindLemmas.{head_at-other_side}
use Rattle.repo_state.proofs.ListingLemmas.{Contains-map}
use Rattle.repo_writes.proofs.SoundLemmas.{identity-after}
use Rattle.merge_steps.specs.Merging.{BugStops, PersonStops}
use Rattle.merge_steps.specs.Turns.{Ended, MergeAnswers, NotBegun, PeopleMerged, Tracked, Went, entities_of}
use Rattle.merge_steps.specs.declared.line.MergeLine.{MergeLine}
use Rattle.merge_steps.specs.declared.stop.MergeStop.{MergeStop}
use Rattle.merge_steps.specs.declared.stop.MergeStop.TheVariants as stop
use Rattle.merge_steps.specs.declared.stop.TurnStop.{TurnStop}
use Rattle.merge_steps.proofs.Names.{IsId, Id, Files, History, files_of, Wrote, InTurn, AllMoments-from_Wrote, Wrote-none, Wrote-then, Contains-first, RemoteName, EachIsLocal, IsLocal, has_ref, head_at, EntityRef, Side, MergeTurn, MergesBug, MergesPerson, IsWrite}
use Rattle.merge_steps.proofs.TouchLemmas.{bug_touches, touch_leaves}
use Rattle.merge_steps.proofs.TurnWriteLemmas.{bug_stop_wrote, bug_wrote, person_stop_wrote, person_wrote}

-- where each step goes on from what went before it, so do all
module _ {A : Type 0} (Rel : History → History → Type 0) (none : (old new : History) → new ≡ old → Rel old new) (then : (old mid new : History) → Rel old mid → Rel mid new → Rel old new)
    (Step : A → History → History → Type 0) (entry : History) (Good : A → Type 0) (each : (item : A) (old new : History) → Good item → Rel entry old → Step item old new → Rel old new) where
  pub steps_go : (items : List A) → ((item : A) → Contains items item → Good item) → (old new : History) → Rel entry old → InTurn Step items old new → Rel old new
  steps_go [] good old new before same = none old new same
  steps_go (item ∷ items) good old new before (mid, step, later) =
      let first = each item old mid (good item (0, omega arith, refl)) before step in
      then old mid new first (steps_go items (λ t c. good t (suc c.0, omega (arith, c.1), c.2)) mid new (then entry old mid before first) later)

-- the entities of turns, or of those before an end and the one at it, have ids
pub ids_of_turns : (files : Files) (folder : List ℕ) (of : Side) (refs : List EntityRef) (turns : List MergeTurn) → AreRefs files folder of refs → entities_of turns ≡ refs
    → (turn : MergeTurn) → Contains turns turn → IsId turn.entity.id
ids_of_turns files folder of refs turns are is turn c =
    ((are.members turn.entity).0 (subst (λ (es : List EntityRef). Contains es turn.entity) is (Contains-map (λ (t : MergeTurn). t.entity) turns turn c))).0

module _ (files : Files) (folder : List ℕ) (of : Side) (refs : List EntityRef) (are : AreRefs files folder of refs) (done : List MergeTurn) (at : EntityRef) (rest : List EntityRef) (is : refs ≡ entities_of done ++ at ∷ rest) where
  listed : (entity : EntityRef) → Contains (entities_of done ++ at ∷ rest) entity → IsId entity.id
  listed entity c = ((are.members entity).0 (subst (λ (es : List EntityRef). Contains es entity) (sym is) c)).0

  ids_of_done : (turn : MergeTurn) → Contains done turn → IsId turn.entity.id
  ids_of_done turn c = listed turn.entity (Contains-append_left (entities_of done) (at ∷ rest) turn.entity (Contains-map (λ (t : MergeTurn). t.entity) done turn c))

  id_of_end : IsId at.id
  id_of_end = listed at (Contains-append_right (entities_of done) (at ∷ rest) at (Contains-first at rest))

module _ (folder : List ℕ) where
  -- a ref of an identity that stood still stands
  refs_stand : (id : Id) → IsId id → (old new : History) → Wrote (IsWrite folder) old new → IsTrue (has_ref (files_of old) folder side.Identities id) → IsTrue (has_ref (files_of new) folder side.Identities id)
  refs_stand id is_id old new wrote stands =
      (AllMoments-from_Wrote (IsWrite folder) (λ (files : Files). IsTrue (has_ref files folder side.Identities id))
      (λ files change stood write. elim (identity-after folder files change id is_id write) [
        | inl same ↦ ap is_there same ∙ stood
        | inr set ↦ ap is_there set.2
      ]) old new stands wrote).each new (record { later = []; done = wrote.writes; before = wrote.grew; after = refl })

  -- the turns of identities
  people_wrote : (turns : List MergeTurn) (old new : History) → InTurn (MergesPerson folder) turns old new → Wrote (IsWrite folder) old new
  people_wrote turns old new went =
      steps_go (Wrote (IsWrite folder)) (Wrote-none (IsWrite folder)) (Wrote-then (IsWrite folder)) (MergesPerson folder) old (λ (turn : MergeTurn). ⊤)
      (λ turn before after good came step. person_wrote folder turn before after step) turns (λ turn c. tt) old new (Wrote-none (IsWrite folder) old old refl) went

  -- writes of their kinds that leave the refs of identities
  record Both (old new : History) : Type 0 where
    wrote : Wrote (IsWrite folder) old new
    people : (id : Id) → head_at (files_of new) folder side.Identities id ≡ head_at (files_of old) folder side.Identities id

  both_none : (old new : History) → new ≡ old → Both old new
  both_none old new same = record { wrote = Wrote-none (IsWrite folder) old new same; people = λ id. ap (λ (h : History). head_at (files_of h) folder side.Identities id) same }

  both_then : (old mid new : History) → Both old mid → Both mid new → Both old new
  both_then old mid new first then = record { wrote = Wrote-then (IsWrite folder) old mid new first.wrote then.wrote; people = λ id. then.people id ∙ first.people id }

module _ (folder : List ℕ) (remote : RemoteName) (now : ℕ) (moment : now < 2 ^ 64) (old : History) (tracked : Tracked folder remote now old) where
  module _ (mid : History) (first : PeopleMerged folder remote now tracked.people old mid) where
    abbrev user : Id
    user = tracked.user

    abbrev authors : List Id
    authors = first.authors

    came : Wrote (IsWrite folder) old mid
    came = people_wrote folder first.turns old mid first.went.each

    is_user : IsLocal (files_of mid) folder user
    is_user =
        let was = IsLocal-user (files_of old) folder user tracked.is_user in
        record { is_id = was.is_id; stands = refs_stand folder user was.is_id old mid came was.stands }

    known : Contains authors user
    known = (first.are_authors.members user).1 (is_user.is_id, is_user.stands)

    locals : (later : History) → Both folder mid later → EachIsLocal (files_of later) folder authors
    locals later both = EachIsLocal-over folder (files_of mid) (files_of later) both.people authors (AreLocal-each (files_of mid) folder authors first.are_authors)

    bug_both : (turn : MergeTurn) (before after : History) → IsId turn.entity.id → Both folder mid before → MergesBug folder user authors now turn before after → Both folder before after
    bug_both turn before after is_id both step = record {
      wrote = bug_wrote folder user authors now is_user.is_id moment known turn before after is_id (locals before both) step;
      people = λ id. touch_leaves folder side.Bugs turn.entity.id side.Identities id (λ name files. head_at-other_side files folder side.Bugs side.Identities turn.entity.id id name (λ e. cc e)) before after
          (bug_touches folder user authors now turn before after step);
    }

    -- the turns of bugs
    bugs_both : (turns : List MergeTurn) → ((turn : MergeTurn) → Contains turns turn → IsId turn.entity.id) → (new : History) → InTurn (MergesBug folder user authors now) turns mid new → Both folder mid new
    bugs_both turns ids new went =
        steps_go (Both folder) (both_none folder) (both_then folder) (MergesBug folder user authors now) mid (λ (turn : MergeTurn). IsId turn.entity.id) bug_both turns ids mid new (both_none folder mid mid refl) went

    pub all_wrote : (turns : List MergeTurn) (new : History) → Went (MergesBug folder user authors now) tracked.bugs turns mid new → Wrote (IsWrite folder) old new
    all_wrote turns new went =
        Wrote-then (IsWrite folder) old mid new came
        (bugs_both turns (ids_of_turns (files_of old) folder (side.RemoteBugs remote) tracked.bugs turns tracked.are_bugs went.are) new went.each).wrote

    pub bug_ended_wrote : (why : TurnStop) (new : History) → Ended (MergesBug folder user authors now) (BugStops folder user authors now (side.RemoteBugs remote)) why tracked.bugs mid new → Wrote (IsWrite folder) old new
    bug_ended_wrote why new ended =
        let both = bugs_both ended.done (ids_of_done (files_of old) folder (side.RemoteBugs remote) tracked.bugs tracked.are_bugs ended.done ended.at ended.rest ended.are) ended.mid ended.before in
        let is_id = id_of_end (files_of old) folder (side.RemoteBugs remote) tracked.bugs tracked.are_bugs ended.done ended.at ended.rest ended.are in
        Wrote-then (IsWrite folder) old ended.mid new (Wrote-then (IsWrite folder) old mid ended.mid came both.wrote)
        (bug_stop_wrote folder user authors now is_user.is_id moment known (side.RemoteBugs remote) why ended.at ended.mid new is_id (locals ended.mid both) ended.ended)

  pub person_ended_wrote : (why : TurnStop) (new : History) → Ended (MergesPerson folder) (PersonStops folder (side.RemoteIdentities remote)) why tracked.people old new → Wrote (IsWrite folder) old new
  person_ended_wrote why new ended =
      Wrote-then (IsWrite folder) old ended.mid new (people_wrote folder ended.done old ended.mid ended.before)
      (person_stop_wrote folder (side.RemoteIdentities remote) why ended.at ended.mid new ended.ended)

-- a call that did not begin wrote nothing
pub not_begun_same : (folder : List ℕ) (remote : RemoteName) (now : ℕ) (why : MergeStop) (old new : History) → NotBegun folder remote now why old new → new ≡ old
not_begun_same folder remote now stop.Memory old new same = same
not_begun_same folder remote now stop.Disk old new same = same
not_begun_same folder remote now stop.NoUser old new is = is.1
not_begun_same folder remote now (stop.Damaged path) old new is = is.2
not_begun_same folder remote now (stop.Taken name) old new is = absurd is

pub merge_wrote : (folder : List ℕ) (remote : RemoteName) (now : ℕ) (old new : History) (result : Result (List MergeLine) MergeStop) → now < 2 ^ 64 → MergeAnswers folder remote now old new result → Wrote (IsWrite folder) old new
merge_wrote folder remote now old new (Ok lines) moment is = all_wrote folder remote now moment old is.tracked is.mid is.first is.turns new is.then
merge_wrote folder remote now old new (Err why) moment (inl not) = Wrote-none (IsWrite folder) old new (not_begun_same folder remote now why old new not)
merge_wrote folder remote now old new (Err why) moment (inr (inl (at, is, inl person))) = person_ended_wrote folder remote now moment old person.tracked at new person.ended
merge_wrote folder remote now old new (Err why) moment (inr (inl (at, is, inr bug))) = bug_ended_wrote folder remote now moment old bug.tracked bug.mid bug.first at new bug.ended
merge_wrote folder remote now old new (Err why) moment (inr (inr (is, between))) = people_wrote folder between.turns old new between.went.each
