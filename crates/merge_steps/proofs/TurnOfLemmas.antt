-- The turn that a line tells of, and what stands of its ref before it and behind it.
use Rattle.std.proofs.Common.{◌≡◌, ◌≢◌, ◌⊎◌, inl, inr, refl, sym, ◌∙◌, ap, subst, arith, ℕ, zero, suc, List, [], ◌∷◌, Contains, map}
use Rattle.std.specs.Prelude.{⊤}
use Rattle.std.specs.Cmp.Lexicographic.{slice_cmp}
use Rattle.std.specs.List.{AllPairs}
use Rattle.std.specs.List.Sorted.{IsStrictlySortedBy}
use Rattle.std.specs.Ordering.{nat_cmp}
use Rattle.std.proofs.lemmas.List.Elements.{Contains-append_cases}
use Rattle.std.proofs.lemmas.Simd.{map-map}
use Rattle.gb_store.specs.Moments.{IsMoment}
use Rattle.gb_store.proofs.MomentLemmas.{IsMoment-of_first, IsMoment-of_second}
use Rattle.gb_store.proofs.TurnLemmas.{InTurn-grew}
use Rattle.ref_store.proofs.ListLemmas.{ids_differ}
use Rattle.repo_state.specs.Listed.{AreRefs, ref_with}
use Rattle.repo_state.specs.declared.side.Side.TheVariants as side
use Rattle.repo_state.proofs.KindLemmas.{head_at-other_id, head_at-other_side}
use Rattle.repo_state.proofs.ListingLemmas.{Contains-from_map, Contains-map}
use Rattle.sync_steps.specs.Places.{local_side, tracking_side}
use Rattle.sync_steps.specs.declared.line.EntityWord.{EntityWord}
use Rattle.sync_steps.specs.declared.line.EntityWord.TheVariants as word
use Rattle.merge_steps.specs.Turns.{IsMerged, entities_of, line_of, lines_of}
use Rattle.merge_steps.specs.declared.line.MergeLine.{MergeLine}
use Rattle.merge_steps.proofs.Names.{IsId, Id, Files, History, files_of, Wrote, InTurn, RemoteName, head_at, EntityRef, Side, MergeTurn, MergesBug, MergesPerson}
use Rattle.merge_steps.proofs.MergeWriteLemmas.{steps_go}
use Rattle.merge_steps.proofs.TouchLemmas.{Touch, bug_touches, person_touches, touch_leaves}

-- a turn among others: the ref of its entity stood before it as at first, and stands in the end as behind it
pub record AtTurn (folder : List ℕ) (to : Side) (Step : MergeTurn → History → History → Type 0) (turn : MergeTurn) (old new : History) : Type 0 where
  pub before : History
  pub after : History
  pub step : Step turn before after
  pub earlier : head_at (files_of before) folder to turn.entity.id ≡ head_at (files_of old) folder to turn.entity.id
  pub later : head_at (files_of new) folder to turn.entity.id ≡ head_at (files_of after) folder to turn.entity.id
  pub came : IsMoment old new before
  pub goes : IsMoment before new after

-- ---- what the turns of one side leave

-- the first turn is of another id than each behind it
pub differs : (first : MergeTurn) (turns : List MergeTurn) → AllPairs (λ (one other : Id). one ≢ other) (map (λ (t : MergeTurn). t.entity.id) (first ∷ turns)) → (turn : MergeTurn) → Contains turns turn
    → first.entity.id ≢ turn.entity.id
differs first turns once turn c same =
    let at = Contains-map (λ (t : MergeTurn). t.entity.id) turns turn c in
    once 0 (suc at.0) turn.entity.id (omega arith) (omega (arith, at.1)) (same ∙ sym at.2)

pub rest_once : (first : MergeTurn) (turns : List MergeTurn) → AllPairs (λ (one other : Id). one ≢ other) (map (λ (t : MergeTurn). t.entity.id) (first ∷ turns))
    → AllPairs (λ (one other : Id). one ≢ other) (map (λ (t : MergeTurn). t.entity.id) turns)
rest_once first turns once i j d before within = once (suc i) (suc j) d (omega (arith, before)) (omega (arith, within))

module _ (folder : List ℕ) (to : Side) (Step : MergeTurn → History → History → Type 0) (touches : (turn : MergeTurn) (old new : History) → Step turn old new → Wrote (Touch folder to turn.entity.id) old new) where
  -- each ref of another side
  pub sides_stay : (on : Side) → to ≢ on → (id : Id) (turns : List MergeTurn) (old new : History) → InTurn Step turns old new → head_at (files_of new) folder on id ≡ head_at (files_of old) folder on id
  sides_stay on differ id turns old new went =
      steps_go (λ (before after : History). head_at (files_of after) folder on id ≡ head_at (files_of before) folder on id) (λ before after same. ap (λ (h : History). head_at (files_of h) folder on id) same)
      (λ before mid after one two. two ∙ one) Step old (λ (turn : MergeTurn). ⊤)
      (λ turn before after good came step. touch_leaves folder to turn.entity.id on id (λ name files. head_at-other_side files folder to on turn.entity.id id name differ) before after (touches turn before after step))
      turns (λ turn c. tt) old new refl went

  -- the ref of an id of which none of them is
  pub others_stay : (id : Id) → IsId id → (turns : List MergeTurn) → ((turn : MergeTurn) → Contains turns turn → IsId turn.entity.id × (turn.entity.id ≢ id)) → (old new : History) → InTurn Step turns old new
      → head_at (files_of new) folder to id ≡ head_at (files_of old) folder to id
  others_stay id is_id turns apart old new went =
      steps_go (λ (before after : History). head_at (files_of after) folder to id ≡ head_at (files_of before) folder to id) (λ before after same. ap (λ (h : History). head_at (files_of h) folder to id) same)
      (λ before mid after one two. two ∙ one) Step old (λ (turn : MergeTurn). IsId turn.entity.id × (turn.entity.id ≢ id))
      (λ turn before after good came step. touch_leaves folder to turn.entity.id to id (λ name files. head_at-other_id files folder to turn.entity.id id name good.0 is_id good.1) before after (touches turn before after step))
      turns apart old new refl went

  -- a turn only adds writes, and so do all
  grows : (turn : MergeTurn) (old new : History) → Step turn old new → IsMoment old new old
  grows turn old new step = let wrote = touches turn old new step in record { later = wrote.writes; done = []; before = refl; after = wrote.grew }

  pub turns_grew : (turns : List MergeTurn) (old new : History) → InTurn Step turns old new → IsMoment old new old
  turns_grew turns old new went = InTurn-grew Step grows turns old new went

  -- each of turns of different ids is one among others
  pub at_turn : (turns : List MergeTurn) → ((turn : MergeTurn) → Contains turns turn → IsId turn.entity.id) → AllPairs (λ (one other : Id). one ≢ other) (map (λ (t : MergeTurn). t.entity.id) turns)
      → (turn : MergeTurn) → Contains turns turn → (old new : History) → InTurn Step turns old new → AtTurn folder to Step turn old new
  at_turn [] ids once turn (k, lt, e) old new went = absurd (omega arith)
  at_turn (first ∷ turns) ids once turn (zero, lt, e) old new (mid, step, later) =
      let is : first ≡ turn = e in
      let rest = turns_grew turns mid new later in
      record {
        before = old;
        after = mid;
        step = subst (λ (t : MergeTurn). Step t old mid) is step;
        earlier = refl;
        later = others_stay turn.entity.id (ids turn (0, lt, e)) turns
            (λ t c. (ids t (suc c.0, omega (arith, c.1), c.2), λ same. differs first turns once t c (ap (λ (t : MergeTurn). t.entity.id) is ∙ sym same))) mid new later;
        came = IsMoment-of_first old mid new old (grows first old mid step) rest;
        goes = IsMoment-of_second old mid new mid (grows first old mid step) rest;
      }
  at_turn (first ∷ turns) ids once turn (suc k, lt, e) old new (mid, step, later) =
      let c : Contains turns turn = (k, omega (arith, lt), e) in
      let ih = at_turn turns (λ t d. ids t (suc d.0, omega (arith, d.1), d.2)) (rest_once first turns once) turn c mid new later in
      record {
        before = ih.before;
        after = ih.after;
        step = ih.step;
        earlier = ih.earlier
            ∙ touch_leaves folder to first.entity.id to turn.entity.id
            (λ name files. head_at-other_id files folder to first.entity.id turn.entity.id name (ids first (0, omega arith, refl)) (ids turn (suc k, lt, e)) (differs first turns once turn c)) old mid (touches first old mid step);
        later = ih.later;
        came = IsMoment-of_second old mid new ih.before (grows first old mid step) ih.came;
        goes = ih.goes;
      }

-- the turns of refs that are listed are of different ids
pub once_of_refs : (files : Files) (folder : List ℕ) (of : Side) (refs : List EntityRef) (turns : List MergeTurn) → AreRefs files folder of refs → entities_of turns ≡ refs
    → AllPairs (λ (one other : Id). one ≢ other) (map (λ (t : MergeTurn). t.entity.id) turns)
once_of_refs files folder of refs turns are is =
    let ids : map (λ (t : MergeTurn). t.entity.id) turns ≡ map (λ (e : EntityRef). e.id) refs = sym (map-map (λ (e : EntityRef). e.id) (λ (t : MergeTurn). t.entity) turns) ∙ ap (map (λ (e : EntityRef). e.id)) is in
    let rising = subst (IsStrictlySortedBy (slice_cmp nat_cmp)) (sym (map-map (λ (id : Id). id.bytes) (λ (e : EntityRef). e.id) refs)) are.rising in
    subst (AllPairs (λ (one other : Id). one ≢ other)) (sym ids) (ids_differ (map (λ (e : EntityRef). e.id) refs) rising)

-- ---- a whole merge

-- the turn of a line, of an entity whose tracking ref was listed
pub record TurnOf (folder : List ℕ) (remote : RemoteName) (word : EntityWord) (Step : MergeTurn → History → History → Type 0) (old new : History) (line : MergeLine) : Type 0 where
  pub turn : MergeTurn
  pub is : line_of word turn ≡ line
  pub listed : IsId turn.entity.id × (head_at (files_of old) folder (tracking_side remote word) turn.entity.id ≡ ref_with turn.entity.head)
  pub at : AtTurn folder (local_side word) Step turn old new

module _ (folder : List ℕ) (remote : RemoteName) (now : ℕ) (old new : History) where
  pub people_stay : (on : Side) → side.Identities ≢ on → (id : Id) (turns : List MergeTurn) (before after : History) → InTurn (MergesPerson folder) turns before after
      → head_at (files_of after) folder on id ≡ head_at (files_of before) folder on id
  people_stay = sides_stay folder side.Identities (MergesPerson folder) (person_touches folder)

  pub bugs_stay : (user : Id) (authors : List Id) (on : Side) → side.Bugs ≢ on → (id : Id) (turns : List MergeTurn) (before after : History) → InTurn (MergesBug folder user authors now) turns before after
      → head_at (files_of after) folder on id ≡ head_at (files_of before) folder on id
  bugs_stay user authors = sides_stay folder side.Bugs (MergesBug folder user authors now) (bug_touches folder user authors now)

  -- the entities of turns were listed
  listed : (of : Side) (refs : List EntityRef) (turns : List MergeTurn) → AreRefs (files_of old) folder of refs → entities_of turns ≡ refs → (turn : MergeTurn) → Contains turns turn
      → IsId turn.entity.id × (head_at (files_of old) folder of turn.entity.id ≡ ref_with turn.entity.head)
  listed of refs turns are is turn c = (are.members turn.entity).0 (subst (λ (es : List EntityRef). Contains es turn.entity) is (Contains-map (λ (t : MergeTurn). t.entity) turns turn c))

  module _ (lines : List MergeLine) (is : IsMerged folder remote now lines old new) where
    abbrev PersonLine : MergeLine → Type 0
    PersonLine = TurnOf folder remote word.Identity (MergesPerson folder) old new

    abbrev BugLine : MergeLine → Type 0
    BugLine = TurnOf folder remote word.Bug (MergesBug folder is.tracked.user is.first.authors now) old new

    pub turn_of : (line : MergeLine) → Contains lines line → PersonLine line ⊎ BugLine line
    turn_of line c =
        let user = is.tracked.user in
        let authors = is.first.authors in
        let people = listed (side.RemoteIdentities remote) is.tracked.people is.first.turns is.tracked.are_people is.first.went.are in
        let bugs = listed (side.RemoteBugs remote) is.tracked.bugs is.turns is.tracked.are_bugs is.then.are in
        let first = turns_grew folder side.Identities (MergesPerson folder) (person_touches folder) is.first.turns old is.mid is.first.went.each in
        let second = turns_grew folder side.Bugs (MergesBug folder user authors now) (bug_touches folder user authors now) is.turns is.mid new is.then.each in
        elim (Contains-append_cases (lines_of word.Identity is.first.turns) (lines_of word.Bug is.turns) line (subst (λ (ls : List MergeLine). Contains ls line) is.are_lines c)) [
          | inl mine ↦
              let from = Contains-from_map (line_of word.Identity) is.first.turns line mine in
              let at = at_turn folder side.Identities (MergesPerson folder) (person_touches folder) is.first.turns (λ t c. (people t c).0)
              (once_of_refs (files_of old) folder (side.RemoteIdentities remote) is.tracked.people is.first.turns is.tracked.are_people is.first.went.are) from.0 from.1 old is.mid is.first.went.each in
              inl (record {
                turn = from.0;
                is = from.2;
                listed = people from.0 from.1;
                at = record {
                  before = at.before;
                  after = at.after;
                  step = at.step;
                  earlier = at.earlier;
                  later = bugs_stay user authors side.Identities (λ e. cc e) from.0.entity.id is.turns is.mid new is.then.each ∙ at.later;
                  came = IsMoment-of_first old is.mid new at.before at.came second;
                  goes = IsMoment-of_first at.before is.mid new at.after at.goes second;
                };
              })
          | inr mine ↦
              let from = Contains-from_map (line_of word.Bug) is.turns line mine in
              let at = at_turn folder side.Bugs (MergesBug folder user authors now) (bug_touches folder user authors now) is.turns (λ t c. (bugs t c).0)
              (once_of_refs (files_of old) folder (side.RemoteBugs remote) is.tracked.bugs is.turns is.tracked.are_bugs is.then.are) from.0 from.1 is.mid new is.then.each in
              inr (record {
                turn = from.0;
                is = from.2;
                listed = bugs from.0 from.1;
                at = record {
                  before = at.before;
                  after = at.after;
                  step = at.step;
                  earlier = at.earlier ∙ people_stay side.Bugs (λ e. cc e) from.0.entity.id is.first.turns old is.mid is.first.went.each;
                  later = at.later;
                  came = IsMoment-of_second old is.mid new at.before first at.came;
                  goes = at.goes;
                };
              })
        ]
