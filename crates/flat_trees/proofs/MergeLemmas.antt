-- What a merge writes keeps the trees of folders flat.
use Rattle.std.proofs.Common.{◌≡◌, inl, inr, refl, sym, ap, subst, ℕ, Bool, true, false, cond, List, [], ◌∷◌, ◌++◌, Contains, reverse, Option, None, Some, Result, Ok, Err}
use Rattle.std.specs.Bool.{nat_lt}
use Rattle.std.specs.Prelude.{⊤, is_some}
use Rattle.std.proofs.lemmas.List.Elements.{Contains-append_cases}
use Rattle.std.proofs.lemmas.List.Sorted.{Contains-permutation, IsPermutation-reverse, IsPermutation-sym}
use Rattle.gb_text.specs.declared.id.Id.{Id}
use Rattle.gb_text.specs.declared.id.Name.{Name}
use Rattle.gb_store.specs.Files.{Files, History, files_of, written}
use Rattle.gb_store.specs.Moments.{EachWrite, Wrote, WroteSome, at_moment}
use Rattle.gb_store.specs.Turns.{InTurn}
use Rattle.gb_store.specs.declared.store.Change.{Change}
use Rattle.gb_store.proofs.MomentLemmas.{Wrote-none, Wrote-one, Wrote-then, WroteBy-some}
use Rattle.git_object.specs.Grammar.{object_name}
use Rattle.object_store.specs.Held.{objects_in}
use Rattle.object_store.specs.Puts.{object_write}
use Rattle.object_batch.specs.Batches.{missing_writes}
use Rattle.commit_walk.proofs.DistinctLemmas.{Contains-cons, Contains-first, Contains-later, Contains-nil, Contains-one}
use Rattle.ref_store.specs.Setting.{ref_write}
use Rattle.lamport.specs.Clock.{seen_by}
use Rattle.dag_entity.specs.Joining.{merge_pack}
use Rattle.entity_merge.specs.declared.word.Merged.{Merged}
use Rattle.entity_merge.specs.declared.word.Merged.TheVariants as merged
use Rattle.remote_name.specs.declared.remote.RemoteName.{RemoteName}
use Rattle.repo_state.specs.Clocks.{clock_at, clock_write, see_writes}
use Rattle.repo_state.specs.Sides.{ref_place}
use Rattle.repo_state.specs.declared.clocks.ClockFile.{ClockFile}
use Rattle.repo_state.specs.declared.clocks.ClockFile.TheVariants as file
use Rattle.repo_state.specs.declared.refs.EntityRef.{EntityRef}
use Rattle.repo_state.specs.declared.side.Side.{Side}
use Rattle.repo_state.specs.declared.side.Side.TheVariants as side
use Rattle.merge_steps.specs.Merging.{BugCutOff, BugOutcome, BugStops, GetsHead, HasPlan, MergeTurn, MergesBug, MergesPerson, PersonCutOff, PersonOutcome, PersonStops, merged_writes}
use Rattle.merge_steps.specs.Turns.{MergeAnswers, PeopleMerged}
use Rattle.merge_steps.specs.declared.line.MergeLine.{MergeLine}
use Rattle.merge_steps.specs.declared.line.MergeOutcome.{MergeOutcome}
use Rattle.merge_steps.specs.declared.line.MergeOutcome.TheVariants as outcome
use Rattle.merge_steps.specs.declared.stop.MergeStop.{MergeStop}
use Rattle.merge_steps.specs.declared.stop.TurnStop.{TurnStop}
use Rattle.merge_steps.specs.declared.stop.TurnStop.TheVariants as stop
use Rattle.merge_steps.proofs.MergeWriteLemmas.{not_begun_same, steps_go}
use Rattle.bug_run.specs.Runs.{AreApart}
use Rattle.flat_trees.proofs.KeepLemmas.{KeepsFlat, clock_keeps, ref_keeps, text_keeps}
use Rattle.flat_trees.proofs.TextLemmas.{IsFlatText, pack_texts}

-- ---- lists of writes

-- writes each of which is allowed by whatever files
each_may : (May : Files → Change → Type 0) (writes : List Change) → ((change : Change) → Contains writes change → (files : Files) → May files change) → (old : History) → EachWrite (at_moment May) old writes
each_may May [] all old = tt
each_may May (change ∷ earlier) all old =
    (each_may May earlier (λ one c. all one (Contains-later change earlier one c)) old, all change (Contains-first change earlier) (files_of (earlier ++ old)))

reversed_may : (May : Files → Change → Type 0) (writes : List Change) → ((change : Change) → Contains writes change → (files : Files) → May files change) → (old : History)
    → EachWrite (at_moment May) old (reverse writes)
reversed_may May writes all old =
    each_may May (reverse writes) (λ change c. all change (Contains-permutation (reverse writes) writes change (IsPermutation-sym writes (reverse writes) (IsPermutation-reverse writes)) c)) old

-- one of the writes of objects that are missing puts one of their texts
missing_is : (folder : List ℕ) (texts : List (List ℕ)) (files : Files) (change : Change) → Contains (missing_writes folder texts files) change
    → (text : List ℕ) × Contains texts text × (change ≡ object_write folder text)
missing_is folder [] files change has = absurd (Contains-nil change has)
missing_is folder (text ∷ texts) files change has = each (λ (f : Files). missing_is folder texts f change) (is_some (objects_in files folder (object_name text))) has
  where
    later : (other : List ℕ) × Contains texts other × (change ≡ object_write folder other) → (other : List ℕ) × Contains (text ∷ texts) other × (change ≡ object_write folder other)
    later found = (found.0, Contains-later text texts found.0 found.1, found.2)

    each : ((f : Files) → Contains (missing_writes folder texts f) change → (other : List ℕ) × Contains texts other × (change ≡ object_write folder other)) → (stands : Bool)
        → Contains (cond stands (missing_writes folder texts files) (object_write folder text ∷ missing_writes folder texts (written files (object_write folder text)))) change
        → (other : List ℕ) × Contains (text ∷ texts) other × (change ≡ object_write folder other)
    each rest true among = later (rest files among)
    each rest false among = elim (Contains-cons (object_write folder text) (missing_writes folder texts (written files (object_write folder text))) change among) [
      | inl same ↦ (text, Contains-first text texts, sym same)
      | inr more ↦ later (rest (written files (object_write folder text)) more)
    ]

-- the one write that sees a clock, if it rises
seen_is : (folder : List ℕ) (which : ClockFile) (clock number : ℕ) (change : Change) → Contains (see_writes folder which clock number) change
    → change ≡ clock_write folder which (seen_by clock number)
seen_is folder which clock number change has = each (nat_lt clock (seen_by clock number)) has
  where
    each : (rises : Bool) → Contains (cond rises (clock_write folder which (seen_by clock number) ∷ []) []) change → change ≡ clock_write folder which (seen_by clock number)
    each true among = sym (Contains-one (clock_write folder which (seen_by clock number)) change among)
    each false among = absurd (Contains-nil change among)

module _ (folders : List (List ℕ)) (apart : AreApart folders) (folder : List ℕ) (is : Contains folders folder) where
  abbrev May : Files → Change → Type 0
  May = KeepsFlat folders

  -- ---- turns of identities

  sets_person : (id : Id) (head : Name) (old new : History) → new ≡ ref_write folder (ref_place side.Identities id) head ∷ old → Wrote May old new
  sets_person id head old new grew =
      Wrote-one May (ref_write folder (ref_place side.Identities id) head) old new
      (ref_keeps folders apart folder is (files_of old) (ref_write folder (ref_place side.Identities id) head) side.Identities id head refl) (inr grew)

  person_outcome : (id : Id) (local : Option Name) (tracked : Name) (out : MergeOutcome) (old new : History) → PersonOutcome folder id local tracked out old new → Wrote May old new
  person_outcome id local tracked outcome.Nothing old new is = Wrote-none May old new is.1
  person_outcome id local tracked outcome.New old new is = sets_person id tracked old new is.1
  person_outcome id local tracked outcome.Forward old new is = sets_person id tracked old new is.1
  person_outcome id local tracked (outcome.InvalidIdentity f) old new is = Wrote-none May old new is.1
  person_outcome id local tracked (outcome.NotForward name) old new is = Wrote-none May old new is.2
  person_outcome id local tracked outcome.Joined old new is = absurd is
  person_outcome id local tracked (outcome.InvalidBug f) old new is = absurd is

  person_wrote : (turn : MergeTurn) (old new : History) → MergesPerson folder turn old new → Wrote May old new
  person_wrote turn old new is = person_outcome turn.entity.id is.local is.tracked turn.outcome old new is.is

  person_cut : (entity : EntityRef) (old new : History) → PersonCutOff folder entity old new → Wrote May old new
  person_cut entity old new (inl same) = Wrote-none May old new same
  person_cut entity old new (inr (out, is)) = person_wrote (record { entity = entity; outcome = out }) old new is

  person_stop : (tracked : Side) (why : TurnStop) (entity : EntityRef) (old new : History) → PersonStops folder tracked why entity old new → Wrote May old new
  person_stop tracked stop.Memory entity old new is = person_cut entity old new is
  person_stop tracked stop.Disk entity old new is = person_cut entity old new is
  person_stop tracked (stop.Damaged path) entity old new is = Wrote-none May old new is.1
  person_stop tracked (stop.Taken name) entity old new is = absurd is

  -- ---- turns of bugs

  module _ (user : Id) (authors : List Id) (now : ℕ) where
    -- the texts that are put for a bug that gets a head: none, or those of a pack
    plan_texts : (id : Id) (local : Option Name) (tracked : Name) (word : Merged) (edit create : ℕ) (texts : List (List ℕ)) (old : History) → HasPlan folder user authors now id local tracked word edit create texts old
        → (text : List ℕ) → Contains texts text → IsFlatText text
    plan_texts id local tracked merged.Nothing edit create texts old plan text among = absurd (Contains-nil text (subst (λ (ts : List (List ℕ)). Contains ts text) plan.does.2 among))
    plan_texts id local tracked (merged.New head) edit create texts old plan text among = absurd (Contains-nil text (subst (λ (ts : List (List ℕ)). Contains ts text) plan.does.no_texts among))
    plan_texts id local tracked (merged.Forward head) edit create texts old plan text among = absurd (Contains-nil text (subst (λ (ts : List (List ℕ)). Contains ts text) plan.does.no_texts among))
    plan_texts id None tracked (merged.Joined head) edit create texts old plan text among = absurd plan.does
    plan_texts id (Some low) tracked (merged.Joined head) edit create texts old plan text among =
        pack_texts (low ∷ tracked ∷ []) (merge_pack user edit) now text (subst (λ (ts : List (List ℕ)). Contains ts text) plan.does.texts_are among)

    -- each write of such a bug
    module _ (id : Id) (head : Name) (edit create : ℕ) (texts : List (List ℕ)) (old : History) (flat : (text : List ℕ) → Contains texts text → IsFlatText text) where
      abbrev creates : List Change
      creates = see_writes folder file.BugsCreate (clock_at (files_of old) folder file.BugsCreate) create

      abbrev edits : List Change
      edits = see_writes folder file.BugsEdit (clock_at (files_of old) folder file.BugsEdit) edit

      abbrev all : List Change
      all = merged_writes folder id head edit create texts (files_of old)

      one_keeps : (change : Change) → Contains all change → (files : Files) → May files change
      one_keeps change among files = elim (Contains-append_cases (missing_writes folder texts (files_of old)) (ref_write folder (ref_place side.Bugs id) head ∷ (creates ++ edits)) change among) [
        | inl puts ↦ (let put = missing_is folder texts (files_of old) change puts in text_keeps folders files change put.0 (ap (λ (c : Change). c.bytes) put.2) (λ each. flat put.0 put.1))
        | inr behind ↦ elim (Contains-cons (ref_write folder (ref_place side.Bugs id) head) (creates ++ edits) change behind) [
          | inl set ↦ ref_keeps folders apart folder is files change side.Bugs id head (sym set)
          | inr clocks ↦ elim (Contains-append_cases creates edits change clocks) [
            | inl first ↦
                clock_keeps folders apart folder is files change file.BugsCreate (seen_by (clock_at (files_of old) folder file.BugsCreate) create)
                (seen_is folder file.BugsCreate (clock_at (files_of old) folder file.BugsCreate) create change first)
            | inr last ↦
                clock_keeps folders apart folder is files change file.BugsEdit (seen_by (clock_at (files_of old) folder file.BugsEdit) edit)
                (seen_is folder file.BugsEdit (clock_at (files_of old) folder file.BugsEdit) edit change last)
          ]
        ]
      ]

      each_keeps : EachWrite (at_moment May) old (reverse all)
      each_keeps = reversed_may May all one_keeps old

      all_wrote : (new : History) → new ≡ reverse all ++ old → Wrote May old new
      all_wrote new grew = record { writes = reverse all; grew = grew; each = each_keeps }

      some_wrote : (new : History) → WroteSome all old new → Wrote May old new
      some_wrote new some = WroteBy-some (at_moment May) all old new each_keeps some

    gets_wrote : (id : Id) (local : Option Name) (tracked : Name) (word : Merged) (head : Name) (old new : History) → GetsHead folder user authors now id local tracked word head old new → Wrote May old new
    gets_wrote id local tracked word head old new gets =
        all_wrote id head gets.edit gets.create gets.texts old (plan_texts id local tracked word gets.edit gets.create gets.texts old gets.plan) new gets.wrote

    bug_outcome : (id : Id) (local : Option Name) (tracked : Name) (out : MergeOutcome) (old new : History) → BugOutcome folder user authors now id local tracked out old new → Wrote May old new
    bug_outcome id local tracked outcome.Nothing old new is = Wrote-none May old new is.1
    bug_outcome id local tracked outcome.New old new is = gets_wrote id local tracked (merged.New tracked) tracked old new is
    bug_outcome id local tracked outcome.Forward old new is = gets_wrote id local tracked (merged.Forward tracked) tracked old new is
    bug_outcome id local tracked outcome.Joined old new is = gets_wrote id local tracked (merged.Joined is.0) is.0 old new is.1
    bug_outcome id local tracked (outcome.InvalidBug f) old new is = Wrote-none May old new is.2
    bug_outcome id local tracked (outcome.InvalidIdentity f) old new is = absurd is
    bug_outcome id local tracked (outcome.NotForward name) old new is = absurd is

    bug_wrote : (turn : MergeTurn) (old new : History) → MergesBug folder user authors now turn old new → Wrote May old new
    bug_wrote turn old new is = bug_outcome turn.entity.id is.local is.tracked turn.outcome old new is.is

    bug_cut : (entity : EntityRef) (old new : History) → BugCutOff folder user authors now entity old new → Wrote May old new
    bug_cut entity old new (inl same) = Wrote-none May old new same
    bug_cut entity old new (inr cut) =
        some_wrote entity.id cut.head cut.edit cut.create cut.texts old (plan_texts entity.id cut.local cut.tracked cut.word cut.edit cut.create cut.texts old cut.plan) new cut.wrote

    bug_stop : (tracked : Side) (why : TurnStop) (entity : EntityRef) (old new : History) → BugStops folder user authors now tracked why entity old new → Wrote May old new
    bug_stop tracked stop.Memory entity old new is = bug_cut entity old new is
    bug_stop tracked stop.Disk entity old new is = bug_cut entity old new is
    bug_stop tracked (stop.Damaged path) entity old new is = Wrote-none May old new is.1
    bug_stop tracked (stop.Taken name) entity old new is = Wrote-none May old new is.same

  -- ---- a merge

  -- turns one after another
  turns_wrote : (Step : MergeTurn → History → History → Type 0) → ((turn : MergeTurn) (old new : History) → Step turn old new → Wrote May old new)
      → (turns : List MergeTurn) (old new : History) → InTurn Step turns old new → Wrote May old new
  turns_wrote Step each turns old new went =
      steps_go (Wrote May) (Wrote-none May) (Wrote-then May) Step old (λ (turn : MergeTurn). ⊤) (λ turn before after good came step. each turn before after step)
      turns (λ turn c. tt) old new (Wrote-none May old old refl) went

  module _ (remote : RemoteName) (now : ℕ) where
    people_wrote : (people : List EntityRef) (old mid : History) → PeopleMerged folder remote now people old mid → Wrote May old mid
    people_wrote people old mid first = turns_wrote (MergesPerson folder) person_wrote first.turns old mid first.went.each

    pub merge_keeps : (old new : History) (result : Result (List MergeLine) MergeStop) → MergeAnswers folder remote now old new result → Wrote May old new
    merge_keeps old new (Ok lines) is =
        Wrote-then May old is.mid new (people_wrote is.tracked.people old is.mid is.first)
        (turns_wrote (MergesBug folder is.tracked.user is.first.authors now) (bug_wrote is.tracked.user is.first.authors now) is.turns is.mid new is.then.each)
    merge_keeps old new (Err why) (inl not) = Wrote-none May old new (not_begun_same folder remote now why old new not)
    merge_keeps old new (Err why) (inr (inl (at, told, inl person))) =
        let ended = person.ended in
        Wrote-then May old ended.mid new (turns_wrote (MergesPerson folder) person_wrote ended.done old ended.mid ended.before)
        (person_stop (side.RemoteIdentities remote) at ended.at ended.mid new ended.ended)
    merge_keeps old new (Err why) (inr (inl (at, told, inr bug))) =
        let user = bug.tracked.user in
        let authors = bug.first.authors in
        let ended = bug.ended in
        Wrote-then May old bug.mid new (people_wrote bug.tracked.people old bug.mid bug.first)
        (Wrote-then May bug.mid ended.mid new (turns_wrote (MergesBug folder user authors now) (bug_wrote user authors now) ended.done bug.mid ended.mid ended.before)
        (bug_stop user authors now (side.RemoteBugs remote) at ended.at ended.mid new ended.ended))
    merge_keeps old new (Err why) (inr (inr (fault, between))) = turns_wrote (MergesPerson folder) person_wrote between.turns old new between.went.each
