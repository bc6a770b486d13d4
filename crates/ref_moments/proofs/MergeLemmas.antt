-- A merge sets the local ref of each tracked entity once at most, and no other ref.
use Rattle.std.proofs.Common.{◌≡◌, ◌≢◌, ◌⊎◌, inl, inr, refl, sym, ◌∙◌, ap, subst, ℕ, true, false, List, [], ◌∷◌, ◌++◌, Contains, Option, Some, None, Result, Ok, Err}
use Rattle.std.proofs.lemmas.List.{append-nil}
use Rattle.std.proofs.lemmas.List.Elements.{Contains-append_cases}
use Rattle.std.proofs.lemmas.Option.{same_Some}
use Rattle.gb_text.specs.Digits.{IsId, IsName}
use Rattle.gb_text.specs.declared.id.Id.{Id}
use Rattle.gb_text.specs.declared.id.Name.{Name}
use Rattle.gb_store.specs.Files.{History, files_of}
use Rattle.gb_store.specs.Moments.{WroteSome}
use Rattle.gb_store.proofs.MomentLemmas.{WroteSome-back}
use Rattle.git_object.proofs.NameLaws.{IsName-object_name}
use Rattle.object_batch.specs.Batches.{missing_writes}
use Rattle.bug_ops.specs.Kind.{bug_kind}
use Rattle.dag_entity.specs.Appending.{commit_object}
use Rattle.dag_entity.specs.Joining.{merge_pack}
use Rattle.entity_merge.specs.Joins.{head_of}
use Rattle.entity_merge.specs.declared.word.Merged.{Merged}
use Rattle.entity_merge.specs.declared.word.Merged.TheVariants as merged
use Rattle.ref_store.specs.Setting.{ref_write}
use Rattle.remote_name.specs.declared.remote.RemoteName.{RemoteName}
use Rattle.repo_state.specs.Clocks.{clock_at, see_writes}
use Rattle.repo_state.specs.Listed.{ref_with}
use Rattle.repo_state.specs.Sides.{head_at, ref_place}
use Rattle.repo_state.specs.declared.clocks.ClockFile.TheVariants as file
use Rattle.repo_state.specs.declared.refs.EntityRef.{EntityRef}
use Rattle.repo_state.specs.declared.side.Side.{Side}
use Rattle.repo_state.specs.declared.side.Side.TheVariants as side
use Rattle.repo_state.proofs.ListingLemmas.{Contains-from_map}
use Rattle.sync_steps.specs.Places.{local_side, tracking_side}
use Rattle.sync_steps.specs.declared.line.EntityWord.{EntityWord}
use Rattle.sync_steps.specs.declared.line.EntityWord.TheVariants as word
use Rattle.merge_steps.specs.Merging.{BugCutOff, BugOutcome, BugStops, GetsHead, HasPlan, MergeTurn, MergesBug, MergesPerson, PersonCutOff, PersonOutcome, PersonStops, merged_writes}
use Rattle.merge_steps.specs.Turns.{Ended, MergeAnswers, Tracked, Went, line_of, lines_of}
use Rattle.merge_steps.specs.declared.line.MergeLine.{MergeLine}
use Rattle.merge_steps.specs.declared.line.MergeOutcome.{MergeOutcome}
use Rattle.merge_steps.specs.declared.line.MergeOutcome.TheVariants as outcome
use Rattle.merge_steps.specs.declared.stop.MergeStop.{MergeStop}
use Rattle.merge_steps.specs.declared.stop.TurnStop.{TurnStop}
use Rattle.merge_steps.specs.declared.stop.TurnStop.TheVariants as stop
use Rattle.merge_steps.proofs.MergeWriteLemmas.{not_begun_same}
use Rattle.ref_moments.specs.Once.{IsSetOnce, StaysSame}
use Rattle.ref_moments.specs.Sets.{IsMergedRef, moves}
use Rattle.ref_moments.proofs.FetchLemmas.{Named}
use Rattle.ref_moments.proofs.ListedLemmas.{IsListed, SetBy, end_listed, ended_once, listed_name, other_side, placed_id, set_by_then, then_set_by, turn_at, turns_listed, went_once}
use Rattle.ref_moments.proofs.OnceLemmas.{all_set, set_one, set_then, stays_none, stays_then, then_set}
use Rattle.ref_moments.proofs.PushLemmas.{local_apart}
use Rattle.ref_moments.proofs.PutLemmas.{StaysOrIs, both_leave, missing_leave, put_once, see_leave, some_once}
use Rattle.ref_moments.proofs.TurnLemmas.{Once}

-- any head may be given to an entity whose tracking ref has one
abbrev pub AnyHead : EntityRef → Name → Type 0
AnyHead entity head = (tracked : Name) × (entity.head ≡ Some tracked)

-- what came of the local ref of an entity on a side: it is set where the outcome moves it, and stays else
abbrev pub MergeTold : List ℕ → Side → Id → MergeOutcome → History → History → Type 0
MergeTold folder to mine out old new =
    ((moves out ≡ true) × ((head : Name) × IsSetOnce folder to mine head old new)) ⊎ ((moves out ≡ false) × StaysSame folder to mine old new)

-- a ref that is put, as one that is set
put_told : (folder : List ℕ) (to of : Side) (id : Id) (entity : EntityRef) (tracked head : Name) (named : IsName head) (old new : History) → entity.head ≡ Some tracked
    → StaysOrIs folder of id to entity.id head named old new → Once folder to of id AnyHead entity old new
put_told folder to of id entity tracked head named old new has (inl stays) = inl stays
put_told folder to of id entity tracked head named old new has (inr (place, set)) = inr (record { head = head; is_head = (tracked, has); place = place; set = set })

-- ---- turns of identities

module _ (folder : List ℕ) where
  module _ (of : Side) (id : Id) (entity : EntityRef) where
    abbrev PersonOnce : History → History → Type 0
    PersonOnce old new = Once folder side.Identities of id AnyHead entity old new

    person_put : (tracked : Name) → entity.head ≡ Some tracked → IsName tracked → (old new : History) → new ≡ ref_write folder (ref_place side.Identities entity.id) tracked ∷ old → PersonOnce old new
    person_put tracked has named old new is =
        put_told folder side.Identities of id entity tracked tracked named old new has
        (put_once folder of id side.Identities entity.id tracked named old old new (stays_none folder of id old old refl) is)

    person_outcome : (local : Option Name) (tracked : Name) (out : MergeOutcome) (old new : History) → entity.head ≡ Some tracked → IsName tracked → PersonOutcome folder entity.id local tracked out old new → PersonOnce old new
    person_outcome local tracked outcome.Nothing old new has named is = inl (stays_none folder of id old new is.1)
    person_outcome local tracked outcome.New old new has named is = person_put tracked has named old new is.1
    person_outcome local tracked outcome.Forward old new has named is = person_put tracked has named old new is.1
    person_outcome local tracked (outcome.InvalidIdentity f) old new has named is = inl (stays_none folder of id old new is.1)
    person_outcome local tracked (outcome.NotForward name) old new has named is = inl (stays_none folder of id old new is.2)
    person_outcome local tracked outcome.Joined old new has named is = absurd is
    person_outcome local tracked (outcome.InvalidBug f) old new has named is = absurd is

    pub person_once : (out : MergeOutcome) (old new : History) → Named entity.head → MergesPerson folder (record { entity = entity; outcome = out }) old new → PersonOnce old new
    person_once out old new named is = person_outcome is.local is.tracked out old new is.is_tracked (named is.tracked is.is_tracked) is.is

    person_cut : (old new : History) → Named entity.head → PersonCutOff folder entity old new → PersonOnce old new
    person_cut old new named (inl same) = inl (stays_none folder of id old new same)
    person_cut old new named (inr (out, is)) = person_once out old new named is

    pub person_stop : (tracked : Side) (why : TurnStop) (old new : History) → Named entity.head → PersonStops folder tracked why entity old new → PersonOnce old new
    person_stop tracked stop.Memory old new named is = person_cut old new named is
    person_stop tracked stop.Disk old new named is = person_cut old new named is
    person_stop tracked (stop.Damaged path) old new named is = inl (stays_none folder of id old new is.1)
    person_stop tracked (stop.Taken name) old new named none = absurd none

  told_person : (mine : Id) (local : Option Name) (tracked : Name) (out : MergeOutcome) (old new : History) → IsName tracked → PersonOutcome folder mine local tracked out old new
      → MergeTold folder side.Identities mine out old new
  told_person mine local tracked outcome.Nothing old new named is = inr (refl, stays_none folder side.Identities mine old new is.1)
  told_person mine local tracked outcome.New old new named is = inl (refl, (tracked, set_one folder side.Identities mine tracked old old new named (stays_none folder side.Identities mine old old refl) is.1))
  told_person mine local tracked outcome.Forward old new named is = inl (refl, (tracked, set_one folder side.Identities mine tracked old old new named (stays_none folder side.Identities mine old old refl) is.1))
  told_person mine local tracked (outcome.InvalidIdentity f) old new named is = inr (refl, stays_none folder side.Identities mine old new is.1)
  told_person mine local tracked (outcome.NotForward name) old new named is = inr (refl, stays_none folder side.Identities mine old new is.2)
  told_person mine local tracked outcome.Joined old new named is = absurd is
  told_person mine local tracked (outcome.InvalidBug f) old new named is = absurd is

  pub person_told : (turn : MergeTurn) (old new : History) → Named turn.entity.head → MergesPerson folder turn old new → MergeTold folder side.Identities turn.entity.id turn.outcome old new
  person_told turn old new named is = told_person turn.entity.id is.local is.tracked turn.outcome old new (named is.tracked is.is_tracked) is.is

-- ---- turns of bugs

module _ (folder : List ℕ) (user : Id) (authors : List Id) (now : ℕ) where
  -- the head that a word gives is a name
  head_named : (mine : Id) (local : Option Name) (tracked : Name) (word : Merged) (head : Name) (edit create : ℕ) (texts : List (List ℕ)) (old : History) → IsName tracked
      → HasPlan folder user authors now mine local tracked word edit create texts old → Some head ≡ head_of local word → (word ≡ merged.Nothing → ⊥) → IsName head
  head_named mine local tracked merged.Nothing head edit create texts old named plan is other = absurd (other refl)
  head_named mine None tracked (merged.New new) head edit create texts old named plan is other =
      let same : tracked ≡ head = sym plan.word_is ∙ sym (same_Some head new is) in subst IsName same named
  head_named mine None tracked (merged.Forward new) head edit create texts old named plan is other = absurd plan.word_is
  head_named mine None tracked (merged.Joined new) head edit create texts old named plan is other = absurd plan.word_is
  head_named mine (Some low) tracked (merged.New new) head edit create texts old named plan is other = absurd plan.word_is
  head_named mine (Some low) tracked (merged.Forward new) head edit create texts old named plan is other =
      let same : tracked ≡ head = sym plan.word_is.0 ∙ sym (same_Some head new is) in subst IsName same named
  head_named mine (Some low) tracked (merged.Joined new) head edit create texts old named plan is other =
      subst IsName (sym (same_Some head new is ∙ plan.does.head_is)) (IsName-object_name (commit_object bug_kind (low ∷ tracked ∷ []) (merge_pack user edit) now))

  module _ (of : Side) (id : Id) (entity : EntityRef) where
    abbrev BugOnce : History → History → Type 0
    BugOnce old new = Once folder side.Bugs of id AnyHead entity old new

    -- the first of the writes of a bug that gets a head
    some_merged : (tracked head : Name) (edit create : ℕ) (texts : List (List ℕ)) (old new : History) → entity.head ≡ Some tracked → IsName head
        → WroteSome (merged_writes folder entity.id head edit create texts (files_of old)) old new → BugOnce old new
    some_merged tracked head edit create texts old new has named some =
        let creates = see_writes folder file.BugsCreate (clock_at (files_of old) folder file.BugsCreate) create in
        let edits = see_writes folder file.BugsEdit (clock_at (files_of old) folder file.BugsEdit) edit in
        put_told folder side.Bugs of id entity tracked head named old new has
        (some_once folder of id side.Bugs entity.id head named (missing_writes folder texts (files_of old)) (creates ++ edits) (missing_leave folder of id texts (files_of old))
        (both_leave folder of id creates edits (see_leave folder of id file.BugsCreate (clock_at (files_of old) folder file.BugsCreate) create) (see_leave folder of id file.BugsEdit (clock_at (files_of old) folder file.BugsEdit) edit))
        old new some)

    gets_once : (local : Option Name) (tracked : Name) (word : Merged) (head : Name) (old new : History) → entity.head ≡ Some tracked → IsName tracked → Some head ≡ head_of local word → (word ≡ merged.Nothing → ⊥)
        → GetsHead folder user authors now entity.id local tracked word head old new → BugOnce old new
    gets_once local tracked word head old new has named is other gets =
        let writes = merged_writes folder entity.id head gets.edit gets.create gets.texts (files_of old) in
        some_merged tracked head gets.edit gets.create gets.texts old new has (head_named entity.id local tracked word head gets.edit gets.create gets.texts old named gets.plan is other)
        (WroteSome-back writes old new writes [] (sym (append-nil writes)) gets.wrote)

    bug_outcome : (local : Option Name) (tracked : Name) (out : MergeOutcome) (old new : History) → entity.head ≡ Some tracked → IsName tracked → BugOutcome folder user authors now entity.id local tracked out old new → BugOnce old new
    bug_outcome local tracked outcome.Nothing old new has named is = inl (stays_none folder of id old new is.1)
    bug_outcome local tracked outcome.New old new has named is = gets_once local tracked (merged.New tracked) tracked old new has named refl (λ e. cc e) is
    bug_outcome local tracked outcome.Forward old new has named is = gets_once local tracked (merged.Forward tracked) tracked old new has named refl (λ e. cc e) is
    bug_outcome local tracked outcome.Joined old new has named is = gets_once local tracked (merged.Joined is.0) is.0 old new has named refl (λ e. cc e) is.1
    bug_outcome local tracked (outcome.InvalidBug f) old new has named is = inl (stays_none folder of id old new is.2)
    bug_outcome local tracked (outcome.InvalidIdentity f) old new has named is = absurd is
    bug_outcome local tracked (outcome.NotForward name) old new has named is = absurd is

    pub bug_once : (out : MergeOutcome) (old new : History) → Named entity.head → MergesBug folder user authors now (record { entity = entity; outcome = out }) old new → BugOnce old new
    bug_once out old new named is = bug_outcome is.local is.tracked out old new is.is_tracked (named is.tracked is.is_tracked) is.is

    bug_cut : (old new : History) → Named entity.head → BugCutOff folder user authors now entity old new → BugOnce old new
    bug_cut old new named (inl same) = inl (stays_none folder of id old new same)
    bug_cut old new named (inr cut) =
        some_merged cut.tracked cut.head cut.edit cut.create cut.texts old new cut.is_tracked
        (head_named entity.id cut.local cut.tracked cut.word cut.head cut.edit cut.create cut.texts old (named cut.tracked cut.is_tracked) cut.plan cut.is_head cut.is_new) cut.wrote

    pub bug_stop : (tracked : Side) (why : TurnStop) (old new : History) → Named entity.head → BugStops folder user authors now tracked why entity old new → BugOnce old new
    bug_stop tracked stop.Memory old new named is = bug_cut old new named is
    bug_stop tracked stop.Disk old new named is = bug_cut old new named is
    bug_stop tracked (stop.Damaged path) old new named is = inl (stays_none folder of id old new is.1)
    bug_stop tracked (stop.Taken name) old new named is = inl (stays_none folder of id old new is.same)

  -- the ref of a bug that gets a head is set
  gets_told : (mine : Id) (local : Option Name) (tracked : Name) (word : Merged) (head : Name) (old new : History) → IsName tracked → Some head ≡ head_of local word → (word ≡ merged.Nothing → ⊥)
      → GetsHead folder user authors now mine local tracked word head old new → IsSetOnce folder side.Bugs mine head old new
  gets_told mine local tracked word head old new named is other gets =
      let creates = see_writes folder file.BugsCreate (clock_at (files_of old) folder file.BugsCreate) gets.create in
      let edits = see_writes folder file.BugsEdit (clock_at (files_of old) folder file.BugsEdit) gets.edit in
      all_set folder side.Bugs mine head (head_named mine local tracked word head gets.edit gets.create gets.texts old named gets.plan is other) (creates ++ edits)
      (both_leave folder side.Bugs mine creates edits (see_leave folder side.Bugs mine file.BugsCreate (clock_at (files_of old) folder file.BugsCreate) gets.create)
      (see_leave folder side.Bugs mine file.BugsEdit (clock_at (files_of old) folder file.BugsEdit) gets.edit))
      (missing_writes folder gets.texts (files_of old)) (missing_leave folder side.Bugs mine gets.texts (files_of old)) old new gets.wrote

  told_bug : (mine : Id) (local : Option Name) (tracked : Name) (out : MergeOutcome) (old new : History) → IsName tracked → BugOutcome folder user authors now mine local tracked out old new
      → MergeTold folder side.Bugs mine out old new
  told_bug mine local tracked outcome.Nothing old new named is = inr (refl, stays_none folder side.Bugs mine old new is.1)
  told_bug mine local tracked outcome.New old new named is = inl (refl, (tracked, gets_told mine local tracked (merged.New tracked) tracked old new named refl (λ e. cc e) is))
  told_bug mine local tracked outcome.Forward old new named is = inl (refl, (tracked, gets_told mine local tracked (merged.Forward tracked) tracked old new named refl (λ e. cc e) is))
  told_bug mine local tracked outcome.Joined old new named is = inl (refl, (is.0, gets_told mine local tracked (merged.Joined is.0) is.0 old new named refl (λ e. cc e) is.1))
  told_bug mine local tracked (outcome.InvalidBug f) old new named is = inr (refl, stays_none folder side.Bugs mine old new is.2)
  told_bug mine local tracked (outcome.InvalidIdentity f) old new named is = absurd is
  told_bug mine local tracked (outcome.NotForward name) old new named is = absurd is

  pub bug_told : (turn : MergeTurn) (old new : History) → Named turn.entity.head → MergesBug folder user authors now turn old new → MergeTold folder side.Bugs turn.entity.id turn.outcome old new
  bug_told turn old new named is = told_bug turn.entity.id is.local is.tracked turn.outcome old new (named is.tracked is.is_tracked) is.is

-- ---- a whole merge

abbrev ref_of : MergeTurn → EntityRef
ref_of turn = turn.entity

module _ (folder : List ℕ) (remote : RemoteName) (now : ℕ) (old : History) where
  abbrev From : EntityWord → Side
  From kind = tracking_side remote kind

  named : (kind : EntityWord) (entity : EntityRef) → IsListed old folder (From kind) entity → Named entity.head
  named kind entity listed = listed_name old folder (From kind) entity listed

  module _ (of : Side) (id : Id) where
    -- the ref is set in the turn of an entity of this kind
    abbrev SetOf : EntityWord → History → History → Type 0
    SetOf kind before after = SetBy old folder (From kind) folder (local_side kind) of id AnyHead before after

    abbrev Whole : History → Type 0
    Whole new = StaysSame folder of id old new ⊎ ((kind : EntityWord) × SetOf kind old new)

    -- by the turns of both kinds
    both : (mid new : History) → StaysSame folder of id old mid ⊎ SetOf word.Identity old mid → StaysSame folder of id mid new ⊎ SetOf word.Bug mid new → Whole new
    both mid new (inl one) (inl two) = inl (stays_then folder of id old mid new one two)
    both mid new (inl one) (inr two) = inr (word.Bug, then_set_by old folder (From word.Bug) folder side.Bugs of id AnyHead old mid new one two)
    both mid new (inr one) (inl two) = inr (word.Identity, set_by_then old folder (From word.Identity) folder side.Identities of id AnyHead old mid new one two)
    both mid new (inr one) (inr two) = absurd (other_side side.Identities side.Bugs of one.entity.id two.entity.id id local_apart one.sets.place two.sets.place)

    person_each : (turn : MergeTurn) (before after : History) → IsListed old folder (From word.Identity) turn.entity → MergesPerson folder turn before after
        → Once folder side.Identities of id AnyHead turn.entity before after
    person_each turn before after listed step = person_once folder of id turn.entity turn.outcome before after (named word.Identity turn.entity listed) step

    module _ (user : Id) (authors : List Id) where
      bug_each : (turn : MergeTurn) (before after : History) → IsListed old folder (From word.Bug) turn.entity → MergesBug folder user authors now turn before after
          → Once folder side.Bugs of id AnyHead turn.entity before after
      bug_each turn before after listed step = bug_once folder user authors now of id turn.entity turn.outcome before after (named word.Bug turn.entity listed) step

    people : (tracked : Tracked folder remote now old) (turns : List MergeTurn) (mid : History) → Went (MergesPerson folder) tracked.people turns old mid → StaysSame folder of id old mid ⊎ SetOf word.Identity old mid
    people tracked turns mid went =
        went_once old folder (From word.Identity) folder side.Identities of id AnyHead ref_of (MergesPerson folder) person_each tracked.people tracked.are_people turns went.are old mid went.each

    bugs : (tracked : Tracked folder remote now old) (authors : List Id) (turns : List MergeTurn) (mid new : History) → Went (MergesBug folder tracked.user authors now) tracked.bugs turns mid new
        → StaysSame folder of id mid new ⊎ SetOf word.Bug mid new
    bugs tracked authors turns mid new went =
        went_once old folder (From word.Bug) folder side.Bugs of id AnyHead ref_of (MergesBug folder tracked.user authors now) (bug_each tracked.user authors) tracked.bugs tracked.are_bugs turns went.are mid new went.each

    person_end : (why : TurnStop) (tracked : Tracked folder remote now old) (new : History) → Ended (MergesPerson folder) (PersonStops folder (From word.Identity)) why tracked.people old new
        → StaysSame folder of id old new ⊎ SetOf word.Identity old new
    person_end why tracked new ended =
        ended_once old folder (From word.Identity) folder side.Identities of id AnyHead ref_of (MergesPerson folder) person_each tracked.people tracked.are_people ended.done ended.at ended.rest ended.are
        old ended.mid new ended.before
        (person_stop folder of id ended.at (From word.Identity) why ended.mid new
        (named word.Identity ended.at
        (end_listed old folder (From word.Identity) folder side.Identities of id AnyHead ref_of (MergesPerson folder) person_each tracked.people tracked.are_people ended.done ended.at ended.rest ended.are)) ended.ended)

    bug_end : (why : TurnStop) (tracked : Tracked folder remote now old) (authors : List Id) (mid new : History)
        → Ended (MergesBug folder tracked.user authors now) (BugStops folder tracked.user authors now (From word.Bug)) why tracked.bugs mid new → StaysSame folder of id mid new ⊎ SetOf word.Bug mid new
    bug_end why tracked authors mid new ended =
        let step = MergesBug folder tracked.user authors now in
        let each = bug_each tracked.user authors in
        ended_once old folder (From word.Bug) folder side.Bugs of id AnyHead ref_of step each tracked.bugs tracked.are_bugs ended.done ended.at ended.rest ended.are mid ended.mid new ended.before
        (bug_stop folder tracked.user authors now of id ended.at (From word.Bug) why ended.mid new
        (named word.Bug ended.at
        (end_listed old folder (From word.Bug) folder side.Bugs of id AnyHead ref_of step each tracked.bugs tracked.are_bugs ended.done ended.at ended.rest ended.are)) ended.ended)

    whole : (new : History) (result : Result (List MergeLine) MergeStop) → MergeAnswers folder remote now old new result → Whole new
    whole new (Ok lines) is = both is.mid new (people is.tracked is.first.turns is.mid is.first.went) (bugs is.tracked is.first.authors is.turns is.mid new is.then)
    whole new (Err why) (inl not) = inl (stays_none folder of id old new (not_begun_same folder remote now why old new not))
    whole new (Err why) (inr (inl (at, is, inl person))) = both new new (person_end at person.tracked new person.ended) (inl (stays_none folder of id new new refl))
    whole new (Err why) (inr (inl (at, is, inr bug))) =
        both bug.mid new (people bug.tracked bug.first.turns bug.mid bug.first.went) (bug_end at bug.tracked bug.first.authors bug.mid new bug.ended)
    whole new (Err why) (inr (inr (is, between))) = both new new (people between.tracked between.turns new between.went) (inl (stays_none folder of id new new refl))

    -- each ref stays, or is the local ref of a tracked entity
    pub merge_once : IsId id → (new : History) (result : Result (List MergeLine) MergeStop) → MergeAnswers folder remote now old new result → StaysSame folder of id old new ⊎ IsMergedRef folder remote of id old new
    merge_once is_id new result answers = by (whole new result answers)
      where
        by : Whole new → StaysSame folder of id old new ⊎ IsMergedRef folder remote of id old new
        by (inl stays) = inl stays
        by (inr (kind, is)) =
            let at = placed_id (local_side kind) of is.entity.id id is.listed.0 is_id is.sets.place in
            inr (record {
              word = kind;
              is_side = at.0;
              tracked = is.sets.is_head.0;
              is_tracked = ap (head_at (files_of old) folder (From kind)) (sym at.1) ∙ is.listed.1 ∙ ap ref_with is.sets.is_head.1;
              head = is.sets.head;
              once = is.sets.set;
            })

  -- ---- lines

  -- what a line says of the local ref of its entity
  abbrev pub SaysMerged : History → MergeLine → Type 0
  SaysMerged new line = MergeTold folder (local_side line.word) line.id line.outcome old new

  -- what is set on one side leaves the refs of the other
  unset : (one two : EntityWord) (id : Id) (before after : History) → local_side one ≢ local_side two
      → StaysSame folder (local_side one) id before after ⊎ SetBy old folder (From two) folder (local_side two) (local_side one) id AnyHead before after → StaysSame folder (local_side one) id before after
  unset one two id before after differ (inl stays) = stays
  unset one two id before after differ (inr set) = absurd (other_side (local_side one) (local_side two) (local_side one) id set.entity.id id differ refl set.sets.place)

  -- a turn among those before it and those behind it
  says : (kind : EntityWord) (turn : MergeTurn) (before after new : History) → StaysSame folder (local_side kind) turn.entity.id old before
      → MergeTold folder (local_side kind) turn.entity.id turn.outcome before after → StaysSame folder (local_side kind) turn.entity.id after new → SaysMerged new (line_of kind turn)
  says kind turn before after new early (inl (is, (head, set))) late =
      let on = local_side kind in
      let mine = turn.entity.id in
      inl (is, (head, set_then folder on mine head old after new (then_set folder on mine head old before after early set) late))
  says kind turn before after new early (inr (not, stays)) late =
      let on = local_side kind in
      let mine = turn.entity.id in
      inr (not, stays_then folder on mine old after new (stays_then folder on mine old before after early stays) late)

  pub merge_line : (lines : List MergeLine) (new : History) → MergeAnswers folder remote now old new (Ok lines) → (line : MergeLine) → Contains lines line → SaysMerged new line
  merge_line lines new is line c =
      let user = is.tracked.user in
      let authors = is.first.authors in
      elim (Contains-append_cases (lines_of word.Identity is.first.turns) (lines_of word.Bug is.turns) line (subst (λ (ls : List MergeLine). Contains ls line) is.are_lines c)) [
        | inl mine ↦
            let from = Contains-from_map (line_of word.Identity) is.first.turns line mine in
            let id = from.0.entity.id in
            let at = turn_at old folder (From word.Identity) folder side.Identities side.Identities id AnyHead ref_of (MergesPerson folder) (person_each side.Identities id) is.tracked.people is.tracked.are_people
            is.first.turns is.first.went.are from.0 from.1 refl old is.mid is.first.went.each in
            let listed = turns_listed old folder (From word.Identity) folder side.Identities side.Identities id AnyHead ref_of (MergesPerson folder) (person_each side.Identities id) is.tracked.people is.tracked.are_people
            is.first.turns is.first.went.are from.0 from.1 in
            let late = stays_then folder side.Identities id at.after is.mid new at.late
            (unset word.Identity word.Bug id is.mid new local_apart (bugs side.Identities id is.tracked authors is.turns is.mid new is.then)) in
            subst (SaysMerged new) from.2
            (says word.Identity from.0 at.before at.after new at.early (person_told folder from.0 at.before at.after (named word.Identity from.0.entity listed) at.step) late)
        | inr mine ↦
            let from = Contains-from_map (line_of word.Bug) is.turns line mine in
            let id = from.0.entity.id in
            let step = MergesBug folder user authors now in
            let at = turn_at old folder (From word.Bug) folder side.Bugs side.Bugs id AnyHead ref_of step (bug_each side.Bugs id user authors) is.tracked.bugs is.tracked.are_bugs
            is.turns is.then.are from.0 from.1 refl is.mid new is.then.each in
            let listed = turns_listed old folder (From word.Bug) folder side.Bugs side.Bugs id AnyHead ref_of step (bug_each side.Bugs id user authors) is.tracked.bugs is.tracked.are_bugs
            is.turns is.then.are from.0 from.1 in
            let early = stays_then folder side.Bugs id old is.mid at.before
            (unset word.Bug word.Identity id old is.mid (λ same. local_apart (sym same)) (people side.Bugs id is.tracked is.first.turns is.mid is.first.went)) at.early in
            subst (SaysMerged new) from.2
            (says word.Bug from.0 at.before at.after new early (bug_told folder user authors now from.0 at.before at.after (named word.Bug from.0.entity listed) at.step) at.late)
      ]

  -- and the id that it has
  pub merge_line_id : (lines : List MergeLine) (new : History) → MergeAnswers folder remote now old new (Ok lines) → (line : MergeLine) → Contains lines line → IsId line.id
  merge_line_id lines new is line c =
      let user = is.tracked.user in
      let authors = is.first.authors in
      elim (Contains-append_cases (lines_of word.Identity is.first.turns) (lines_of word.Bug is.turns) line (subst (λ (ls : List MergeLine). Contains ls line) is.are_lines c)) [
        | inl mine ↦
            let from = Contains-from_map (line_of word.Identity) is.first.turns line mine in
            let id = from.0.entity.id in
            let listed = turns_listed old folder (From word.Identity) folder side.Identities side.Identities id AnyHead ref_of (MergesPerson folder) (person_each side.Identities id) is.tracked.people is.tracked.are_people
            is.first.turns is.first.went.are from.0 from.1 in
            subst (λ (l : MergeLine). IsId l.id) from.2 listed.0
        | inr mine ↦
            let from = Contains-from_map (line_of word.Bug) is.turns line mine in
            let id = from.0.entity.id in
            let listed = turns_listed old folder (From word.Bug) folder side.Bugs side.Bugs id AnyHead ref_of (MergesBug folder user authors now) (bug_each side.Bugs id user authors) is.tracked.bugs is.tracked.are_bugs
            is.turns is.then.are from.0 from.1 in
            subst (λ (l : MergeLine). IsId l.id) from.2 listed.0
      ]
