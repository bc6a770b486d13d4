-- The user file of a folder: no run writes it but an edit that makes an identity, or one that sets the user.
use Rattle.std.proofs.Common.{◌≡◌, ◌⊎◌, inl, inr, refl, sym, ◌∙◌, subst, arith, ℕ, zero, suc, Bool, true, false, List, [], ◌∷◌, ◌++◌, Contains, Option, Some, None, option_and_then, Result, Ok, Err}
use Rattle.std.specs.Prelude.{⊤, is_some, nat_lt}
use Rattle.std.specs.List.{AllByRecursion}
use Rattle.std.specs.Option.{option_map}
use Rattle.std.proofs.lemmas.List.Elements.{Contains-append_cases}
use Rattle.gb_text.specs.Folder.{joined}
use Rattle.gb_text.specs.Overlap.{Overlap}
use Rattle.gb_text.specs.declared.id.Id.{Id}
use Rattle.gb_text.specs.declared.id.Name.{Name}
use Rattle.gb_text.specs.declared.ruled.Line.{Line}
use Rattle.gb_text.specs.declared.ruled.Title.{Title}
use Rattle.gb_store.specs.Files.{Files, History, files_of, written}
use Rattle.gb_store.specs.Moments.{IsMoment, Wrote, WroteBy, at_moment}
use Rattle.gb_store.specs.Turns.{InTurn}
use Rattle.gb_store.specs.declared.store.Change.{Change}
use Rattle.gb_store.proofs.FrameLemmas.{written-other, written-same}
use Rattle.gb_store.proofs.MomentLemmas.{AllMoments-from_Wrote, AllMoments-from_WroteBy, Wrote-none, Wrote-then, Wrote-wider, WroteBy-wider}
use Rattle.commit_walk.proofs.DistinctLemmas.{Contains-one}
use Rattle.git_object.specs.Grammar.{object_name}
use Rattle.object_batch.specs.Batches.{missing_writes}
use Rattle.object_store.specs.Held.{objects_in}
use Rattle.object_store.specs.Puts.{object_write}
use Rattle.lamport.specs.Clock.{seen_by}
use Rattle.bug_edits.specs.NewOps.{create_op}
use Rattle.ref_packing.specs.Kinds.{IsPackWrite}
use Rattle.ref_store.specs.Setting.{ref_write}
use Rattle.remote_name.specs.declared.remote.RemoteName.{RemoteName}
use Rattle.repo_state.specs.Clocks.{clock_at, clock_write, see_writes}
use Rattle.ref_store.specs.Refs.{Absent}
use Rattle.repo_state.specs.Sides.{head_at, ref_place}
use Rattle.repo_state.specs.Users.{BadUser, NoUser, User, UserFound, id_line, user_at, user_entry, user_place, user_write}
use Rattle.repo_state.specs.declared.clocks.ClockFile.{ClockFile}
use Rattle.repo_state.specs.declared.clocks.ClockFile.TheVariants as file
use Rattle.repo_state.specs.declared.side.HeadEntry.{HeadEntry}
use Rattle.repo_state.specs.declared.side.Side.{Side}
use Rattle.repo_state.specs.declared.side.Side.TheVariants as side
use Rattle.repo_state.proofs.PlaceLemmas.{clock-not_user, ref-not_user, row-not_user, user-not_object, user-not_packed}
use Rattle.repo_steps.specs.BugDoings.{addition_objects, addition_writes, create_writes, later_by, root_addition, some_id}
use Rattle.repo_steps.specs.Doings.{doing_of}
use Rattle.repo_steps.specs.PeopleDoings.{first_user_write, new_made, new_objects, user_writes, version_writes}
use Rattle.repo_steps.specs.Picked.{Picked}
use Rattle.repo_steps.specs.Writes.{IsWriteOf}
use Rattle.repo_steps.specs.declared.env.Env.{Env}
use Rattle.repo_steps.specs.declared.plan.Addition.{Addition}
use Rattle.repo_steps.proofs.HeadMoveLemmas.{next_in}
use Rattle.repo_steps.proofs.OnlyLemmas.{head_at-absent}
use Rattle.repo_writes.specs.Kinds.{IsRowWrite}
use Rattle.repo_writes.proofs.PackLemmas.{pack_places}
use Rattle.sync_writes.specs.Kinds.{FetchWrites, PushWrites}
use Rattle.sync_writes.proofs.FetchKindLemmas.{fetch_writes}
use Rattle.merge_steps.specs.Merging.{MergeTurn, MergesBug, MergesPerson}
use Rattle.merge_steps.specs.Pulling.{MergedThen, PullAnswers}
use Rattle.merge_steps.specs.Turns.{MergeAnswers}
use Rattle.merge_steps.specs.declared.line.MergeLine.{MergeLine}
use Rattle.merge_steps.specs.declared.line.Pulled.{Pulled}
use Rattle.merge_steps.specs.declared.stop.MergeStop.{MergeStop}
use Rattle.merge_steps.proofs.MergeWriteLemmas.{not_begun_same, steps_go}
use Rattle.merge_steps.proofs.TouchLemmas.{Touch, Touches, bug_stop_touches, bug_touches, of_clock, of_object, of_ref, person_stop_touches, person_touches}
use Rattle.sync_steps.specs.declared.line.Line.{Line as CopyLine}
use Rattle.words.specs.declared.edit.Edit.{Edit as Edits}
use Rattle.words.specs.declared.edit.Edit.TheVariants as edit

-- ---- one write

module _ (folder : List ℕ) where
  -- the path of the user file
  abbrev user_path : List ℕ
  user_path = joined folder user_place

  -- a write leaves it
  abbrev pub Keeps : Files → Change → Type 0
  Keeps files change = written files change (joined folder user_place) ≡ files (joined folder user_place)

  -- whatever the files are
  abbrev pub KeepsAny : Change → Type 0
  KeepsAny change = (files : Files) → written files change (joined folder user_place) ≡ files (joined folder user_place)

  keeps_object : (text : List ℕ) → KeepsAny (object_write folder text)
  keeps_object text files = written-other files (object_write folder text) user_path (λ e. user-not_object folder (object_name text) (sym e))

  keeps_ref : (of : Side) (id : Id) (head : Name) → KeepsAny (ref_write folder (ref_place of id) head)
  keeps_ref of id head files = written-other files (ref_write folder (ref_place of id) head) user_path (ref-not_user folder of id)

  keeps_clock : (which : ClockFile) (number : ℕ) → KeepsAny (clock_write folder which number)
  keeps_clock which number files = written-other files (clock_write folder which number) user_path (clock-not_user folder which)

  keeps_same : (one change : Change) → change ≡ one → KeepsAny one → KeepsAny change
  keeps_same one change is keeps = subst KeepsAny (sym is) keeps

  -- ---- lists of writes

  both_keep : (first more : List Change) → AllByRecursion KeepsAny first → AllByRecursion KeepsAny more → AllByRecursion KeepsAny (first ++ more)
  both_keep [] more one two = two
  both_keep (change ∷ first) more one two = (one.0, both_keep first more one.1 two)

  missing_keep : (texts : List (List ℕ)) (files : Files) → AllByRecursion KeepsAny (missing_writes folder texts files)
  missing_keep [] files = tt
  missing_keep (text ∷ texts) files =
      decide (is_some (objects_in files folder (object_name text))) refl (missing_keep texts files) (missing_keep texts (written files (object_write folder text)))
    where
      decide : (b : Bool) → is_some (objects_in files folder (object_name text)) ≡ b → AllByRecursion KeepsAny (missing_writes folder texts files)
          → AllByRecursion KeepsAny (missing_writes folder texts (written files (object_write folder text))) → AllByRecursion KeepsAny (missing_writes folder (text ∷ texts) files)
      decide true h stands free = rw h stands
      decide false h stands free = rw h ((keeps_object text, free))

  see_keep : (which : ClockFile) (clock number : ℕ) → AllByRecursion KeepsAny (see_writes folder which clock number)
  see_keep which clock number = decide (nat_lt clock (seen_by clock number)) refl
    where
      decide : (b : Bool) → nat_lt clock (seen_by clock number) ≡ b → AllByRecursion KeepsAny (see_writes folder which clock number)
      decide true h = rw h ((keeps_clock which (seen_by clock number), tt))
      decide false h = rw h tt

  each_keeps : (writes : List Change) → AllByRecursion KeepsAny writes → (change : Change) → Contains writes change → KeepsAny change
  each_keeps [] all change (k, lt, e) = absurd (omega (arith, lt))
  each_keeps (first ∷ writes) all change (zero, lt, e) = subst KeepsAny e all.0
  each_keeps (first ∷ writes) all change (suc k, lt, e) = each_keeps writes all.1 change (k, omega (arith, lt), e)

  -- ---- merges

  -- a write of a turn
  touch_keeps : (of : Side) (id : Id) (files : Files) (change : Change) → Touches folder of id change → Keeps files change
  touch_keeps of id files change (of_object text is) = keeps_same (object_write folder text) change is (keeps_object text) files
  touch_keeps of id files change (of_ref head is) = keeps_same (ref_write folder (ref_place of id) head) change is (keeps_ref of id head) files
  touch_keeps of id files change (of_clock which number is) = keeps_same (clock_write folder which number) change is (keeps_clock which number) files

  -- so the writes of each turn
  touched : (of : Side) (id : Id) (old new : History) → Wrote (Touch folder of id) old new → Wrote Keeps old new
  touched of id old new wrote = Wrote-wider (Touch folder of id) Keeps old new (touch_keeps of id) wrote

  module _ (Step : MergeTurn → History → History → Type 0) (each : (turn : MergeTurn) (old new : History) → Step turn old new → Wrote Keeps old new) where
    turns_keep : (turns : List MergeTurn) (old new : History) → InTurn Step turns old new → Wrote Keeps old new
    turns_keep turns old new went =
        steps_go (Wrote Keeps) (Wrote-none Keeps) (Wrote-then Keeps) Step old (λ (turn : MergeTurn). ⊤) (λ turn before after good came step. each turn before after step) turns (λ turn c. tt) old new (Wrote-none Keeps old old refl) went

  person_keeps : (turn : MergeTurn) (old new : History) → MergesPerson folder turn old new → Wrote Keeps old new
  person_keeps turn old new step = touched side.Identities turn.entity.id old new (person_touches folder turn old new step)

  bug_keeps : (user : Id) (authors : List Id) (now : ℕ) (turn : MergeTurn) (old new : History) → MergesBug folder user authors now turn old new → Wrote Keeps old new
  bug_keeps user authors now turn old new step = touched side.Bugs turn.entity.id old new (bug_touches folder user authors now turn old new step)

  pub merge_keeps : (remote : RemoteName) (now : ℕ) (old new : History) (result : Result (List MergeLine) MergeStop) → MergeAnswers folder remote now old new result → Wrote Keeps old new
  merge_keeps remote now old new (Ok lines) is =
      Wrote-then Keeps old is.mid new (turns_keep (MergesPerson folder) person_keeps is.first.turns old is.mid is.first.went.each)
      (turns_keep (MergesBug folder is.tracked.user is.first.authors now) (bug_keeps is.tracked.user is.first.authors now) is.turns is.mid new is.then.each)
  merge_keeps remote now old new (Err why) (inl not) = Wrote-none Keeps old new (not_begun_same folder remote now why old new not)
  merge_keeps remote now old new (Err why) (inr (inl (at, is, inl person))) =
      Wrote-then Keeps old person.ended.mid new (turns_keep (MergesPerson folder) person_keeps person.ended.done old person.ended.mid person.ended.before)
      (touched side.Identities person.ended.at.id person.ended.mid new (person_stop_touches folder (side.RemoteIdentities remote) at person.ended.at person.ended.mid new person.ended.ended))
  merge_keeps remote now old new (Err why) (inr (inl (at, is, inr bug))) =
      Wrote-then Keeps old bug.mid new (turns_keep (MergesPerson folder) person_keeps bug.first.turns old bug.mid bug.first.went.each)
      (Wrote-then Keeps bug.mid bug.ended.mid new
      (turns_keep (MergesBug folder bug.tracked.user bug.first.authors now) (bug_keeps bug.tracked.user bug.first.authors now) bug.ended.done bug.mid bug.ended.mid bug.ended.before)
      (touched side.Bugs bug.ended.at.id bug.ended.mid new
      (bug_stop_touches folder bug.tracked.user bug.first.authors now (side.RemoteBugs remote) at bug.ended.at bug.ended.mid new bug.ended.ended)))
  merge_keeps remote now old new (Err why) (inr (inr (is, between))) = turns_keep (MergesPerson folder) person_keeps between.turns old new between.went.each

  -- ---- fetches, pulls and pushes

  fetch_keeps : (peer : List ℕ) (remote : RemoteName) (entry : History) (earlier : List Change) (change : Change) → FetchWrites folder peer remote entry earlier change → at_moment Keeps entry earlier change
  fetch_keeps peer remote entry earlier change (inl puts) = keeps_same (object_write folder puts.1.text) change puts.1.write (keeps_object puts.1.text) (files_of (earlier ++ entry))
  fetch_keeps peer remote entry earlier change (inr head) = keeps_same _ change head.set.write (keeps_ref _ head.set.id head.set.head) (files_of (earlier ++ entry))

  pub fetched_keeps : (peer : List ℕ) (remote : RemoteName) (old new : History) → WroteBy (FetchWrites folder peer remote) old new → Wrote Keeps old new
  fetched_keeps peer remote old new wrote = WroteBy-wider (FetchWrites folder peer remote) (at_moment Keeps) old new (fetch_keeps peer remote old) wrote

  pub pull_keeps_user : (peer : List ℕ) (remote : RemoteName) (now : ℕ) → (Overlap folder peer → ⊥) → (old new : History) (result : Result Pulled MergeStop) → PullAnswers folder peer remote now old new result → Wrote Keeps old new
  pull_keeps_user peer remote now apart old new result answers = by result answers
    where
      both : (lines : List CopyLine) (merged : Result (List MergeLine) MergeStop) → MergedThen folder peer remote now old new lines (λ mid late. MergeAnswers folder remote now mid late merged) → Wrote Keeps old new
      both lines merged is =
          Wrote-then Keeps old is.mid new (fetched_keeps peer remote old is.mid (fetch_writes folder peer remote apart old is.mid (Ok lines) is.first)) (merge_keeps remote now is.mid new merged is.then)

      by : (result : Result Pulled MergeStop) → PullAnswers folder peer remote now old new result → Wrote Keeps old new
      by (Ok pulled) is = both pulled.fetched (Ok pulled.merged) is
      by (Err why) (inl none) = Wrote-none Keeps old new (not_begun_same folder remote now why old new none)
      by (Err why) (inr (inl by_fetch)) = fetched_keeps peer remote old new (fetch_writes folder peer remote apart old new (Err by_fetch.stop) by_fetch.ended)
      by (Err why) (inr (inr (fetched, is))) = both fetched (Err why) is

  pub push_keeps : (own : List ℕ) (old new : History) → Wrote (PushWrites own folder) old new → Wrote Keeps old new
  push_keeps own old new wrote = Wrote-wider (PushWrites own folder) Keeps old new each wrote
    where
      each : (files : Files) (change : Change) → PushWrites own folder files change → Keeps files change
      each files change (inl puts) = keeps_same (object_write folder puts.1.text) change puts.1.write (keeps_object puts.1.text) files
      each files change (inr head) = keeps_same _ change head.set.write (keeps_ref _ head.set.id head.set.head) files

  -- ---- packs and lists

  pub pack_keeps : (old new : History) → Wrote (IsPackWrite folder) old new → Wrote Keeps old new
  pack_keeps old new wrote = Wrote-wider (IsPackWrite folder) Keeps old new each wrote
    where
      each : (files : Files) (change : Change) → IsPackWrite folder files change → Keeps files change
      each files change write = written-other files change user_path (λ same. elim (pack_places folder files change write) [
        | inl packed ↦ user-not_packed folder (sym same ∙ packed)
        | inr ref ↦ ref-not_user folder ref.0 ref.1 (sym ref.4 ∙ same)
      ])

  pub rows_keep : (old new : History) → Wrote (IsRowWrite folder) old new → Wrote Keeps old new
  rows_keep old new wrote = Wrote-wider (IsRowWrite folder) Keeps old new each wrote
    where
      each : (files : Files) (change : Change) → IsRowWrite folder files change → Keeps files change
      each files change row = keeps_same _ change row.write (λ now. written-other now _ user_path (row-not_user folder row.id)) files

  -- what keeps it at each write keeps it
  pub kept : (old end new : History) → Wrote Keeps old end → IsMoment old end new → files_of new (joined folder user_place) ≡ files_of old (joined folder user_place)
  kept old end new wrote at =
      (AllMoments-from_Wrote Keeps (λ (files : Files). files (joined folder user_place) ≡ files_of old (joined folder user_place)) (λ files change so_far may. may ∙ so_far) old end refl wrote).each new at

-- ---- edits

module _ (env : Env) (files : Files) where
  abbrev Keep : List Change → Type 0
  Keep writes = AllByRecursion (KeepsAny env.folder) writes

  -- a version
  version_keeps : (name : Title) (email : Line) (id : Id) (parent : Option Name) → Keep (version_writes env name email id parent files)
  version_keeps name email id parent =
      both_keep env.folder (missing_writes env.folder (new_objects env name email parent) files) _ (missing_keep env.folder (new_objects env name email parent) files) (keeps_ref env.folder side.Identities id _, tt)

  edited_keeps : (name : Title) (email : Line) (user : Option HeadEntry) → Keep (user_writes env name email files user)
  edited_keeps name email None = tt
  edited_keeps name email (Some user) = version_keeps name email user.id (Some user.name)

  -- a commit that is added to a bug
  create_keeps : (create : Option ℕ) → Keep (create_writes env.folder files create)
  create_keeps None = tt
  create_keeps (Some number) = see_keep env.folder file.BugsCreate (clock_at files env.folder file.BugsCreate) number

  addition_keeps : (added : Option Addition) → Keep (addition_writes env files added)
  addition_keeps None = tt
  addition_keeps (Some a) =
      both_keep env.folder (missing_writes env.folder (addition_objects env.moment.now (Some a)) files) _ (missing_keep env.folder (addition_objects env.moment.now (Some a)) files)
      (keeps_ref env.folder side.Bugs a.bug _, both_keep env.folder (create_writes env.folder files a.pack.create) _ (create_keeps a.pack.create) (see_keep env.folder file.BugsEdit (clock_at files env.folder file.BugsEdit) a.pack.edit))

-- the user file is as it was, or names the identity that is made, whose ref was absent
abbrev pub IsKeptOrMade : List ℕ → Id → Files → Files → Type 0
IsKeptOrMade folder id old new =
    (new (joined folder user_place) ≡ old (joined folder user_place))
    ⊎ ((new (joined folder user_place) ≡ Some (id_line id)) × (head_at old folder side.Identities id ≡ Absent))

-- what came of the user file where an edit stopped
abbrev pub UserCame : Env → Edits → History → History → Type 0
UserCame env (edit.UserNew name email) old new = IsKeptOrMade env.folder (new_made env name email None).id (files_of old) (files_of new)
UserCame env (edit.UserSet word) old new = ⊤
UserCame env command old new = files_of new (joined env.folder user_place) ≡ files_of old (joined env.folder user_place)

module _ (env : Env) (old new : History) where
  -- an edit none of whose writes is of the user file
  all_keep : (command : Edits) → ((picked : Picked) → AllByRecursion (KeepsAny env.folder) (doing_of env command picked old).writes) → WroteBy (IsWriteOf env command) old new
      → files_of new (joined env.folder user_place) ≡ files_of old (joined env.folder user_place)
  all_keep command all wrote =
      (AllMoments-from_WroteBy (IsWriteOf env command) (λ (files : Files). files (joined env.folder user_place) ≡ files_of old (joined env.folder user_place)) old new
      (λ earlier change so_far may.
      let doing = doing_of env command may.picked old in
      each_keeps env.folder doing.writes (all may.picked) change (next_in doing.writes earlier change may.next) (files_of (earlier ++ old)) ∙ so_far)
      refl wrote).each new (record { later = []; done = wrote.writes; before = wrote.grew; after = refl })

  -- a new identity
  new_came : (name : Title) (email : Line) → WroteBy (IsWriteOf env (edit.UserNew name email)) old new → IsKeptOrMade env.folder (new_made env name email None).id (files_of old) (files_of new)
  new_came name email wrote =
      (AllMoments-from_WroteBy (IsWriteOf env (edit.UserNew name email)) (λ (files : Files). IsKeptOrMade env.folder id (files_of old) files) old new
      (λ earlier change so_far may. step (head_at-absent (files_of old) env.folder side.Identities id may.may.1.1.0) (files_of (earlier ++ old)) change (next_in (doing_of env (edit.UserNew name email) may.picked old).writes earlier change may.next) so_far)
      (inl refl) wrote).each new (record { later = []; done = wrote.writes; before = wrote.grew; after = refl })
    where
      id : Id
      id = (new_made env name email None).id

      by_user : head_at (files_of old) env.folder side.Identities id ≡ Absent → (found : UserFound) (files : Files) (change : Change) → Contains (first_user_write env.folder found id) change → IsKeptOrMade env.folder id (files_of old) (written files change)
      by_user was NoUser files change c =
          let is : user_write env.folder id ≡ change = Contains-one (user_write env.folder id) change c in
          inr (subst (λ (one : Change). written files one (joined env.folder user_place) ≡ Some (id_line id)) is (written-same files (user_write env.folder id)), was)
      by_user was (User other) files change (k, lt, e) = absurd (omega (arith, lt))
      by_user was BadUser files change (k, lt, e) = absurd (omega (arith, lt))

      step : head_at (files_of old) env.folder side.Identities id ≡ Absent → (files : Files) (change : Change)
          → Contains (version_writes env name email id None (files_of old) ++ first_user_write env.folder (user_at (files_of old) env.folder) id) change
          → IsKeptOrMade env.folder id (files_of old) files → IsKeptOrMade env.folder id (files_of old) (written files change)
      step was files change c so_far = elim (Contains-append_cases (version_writes env name email id None (files_of old)) (first_user_write env.folder (user_at (files_of old) env.folder) id) change c) [
        | inl version ↦
            let keeps = each_keeps env.folder (version_writes env name email id None (files_of old)) (version_keeps env (files_of old) name email id None) change version files in
            elim so_far [ inl same ↦ inl (keeps ∙ same) | inr made ↦ inr (keeps ∙ made.0, made.1) ]
        | inr user ↦ by_user was (user_at (files_of old) env.folder) files change user
      ]

  -- so each edit
  pub edit_user : (command : Edits) → WroteBy (IsWriteOf env command) old new → UserCame env command old new
  edit_user (edit.UserNew name email) wrote = new_came name email wrote
  edit_user (edit.UserEdit name email) wrote = all_keep (edit.UserEdit name email) (λ picked. edited_keeps env (files_of old) name email (user_entry (files_of old) env.folder)) wrote
  edit_user (edit.UserSet word) wrote = tt
  edit_user (edit.New title message) wrote =
      all_keep (edit.New title message)
      (λ picked. addition_keeps env (files_of old) (option_map (root_addition env.folder (files_of old) (create_op env.moment title message)) (some_id (user_at (files_of old) env.folder)))) wrote
  edit_user (edit.OfBug word e) wrote =
      all_keep (edit.OfBug word e) (λ picked. addition_keeps env (files_of old) (option_and_then (later_by env.folder (files_of old) picked.bug picked.op) (some_id (user_at (files_of old) env.folder)))) wrote
  edit_user (edit.OfComment word message) wrote =
      all_keep (edit.OfComment word message) (λ picked. addition_keeps env (files_of old) (option_and_then (later_by env.folder (files_of old) picked.bug picked.op) (some_id (user_at (files_of old) env.folder)))) wrote
