-- Lists of a sound folder: what they say, that nothing refuses them, and that rows are stored once.
use Rattle.std.proofs.Common.{◌≡◌, ℕ, inl, inr, List, [], ◌∷◌, Ok, Err, refl, sym, ◌∙◌, subst, arith}
use Rattle.std.specs.Prelude.{Contains}
use Rattle.gb_store.specs.Files.{Files, History, files_of}
use Rattle.gb_store.specs.Moments.{Wrote}
use Rattle.gb_store.specs.declared.store.Change.{Change}
use Rattle.object_batch.proofs.ClashLemmas.{Contains-cons_cases}
use Rattle.object_store.specs.Held.{Objects, objects_in}
use Rattle.bug_ops.specs.declared.snapshot.Excerpt.{Excerpt}
use Rattle.identity.specs.declared.chain.Person.{Person}
use Rattle.query.specs.declared.query.Query.{Query}
use Rattle.ref_store.specs.declared.listing.RefEntry.{RefEntry}
use Rattle.repo_rows.specs.Reading.{RowsAnswers}
use Rattle.repo_rows.specs.Reads.{ReadsRows}
use Rattle.repo_rows.specs.Rows.{AllRows, AllStored, HasBadBug, IsRow, IsStored, head_row}
use Rattle.repo_rows.proofs.FrameLemmas.{rows_keep_rows, rows_leave_bugs}
use Rattle.repo_rows.proofs.LawLemmas.{row_says}
use Rattle.repo_rows.proofs.ReadLemmas.{no_rows_read}
use Rattle.repo_state.specs.Answers.{HasBadPerson, Reads, ReadsPeople}
use Rattle.repo_state.specs.Listed.{AreIdentityRefs}
use Rattle.repo_state.specs.People.{ArePeople}
use Rattle.repo_state.specs.Sound.{IsSound, IsTrueRow}
use Rattle.repo_state.specs.Sound as parts
use Rattle.repo_state.specs.declared.side.HeadEntry.{HeadEntry}
use Rattle.repo_state.specs.declared.side.Side.TheVariants as side
use Rattle.repo_state.specs.declared.stop.ReadStop.{ReadStop}
use Rattle.repo_state.specs.declared.stop.ReadStop.TheVariants as stop
use Rattle.repo_state.proofs.UndamagedLemmas.{no_bad_bug}
use Rattle.repo_view.proofs.ShownLemmas.{users_not_damaged}
use Rattle.repo_writes.specs.Kinds.{IsRowWrite}
use Rattle.row_text.specs.Codec.{RowFits}
use Rattle.words.specs.declared.list.Layout.{Layout}
use Rattle.repo_lists.specs.Lists.{IsListText, ListAnswers, ListsBugs, ReadsList}

module _ (folder : List ℕ) (layout : Layout) (query : Query) (old new : History) (sound : IsSound folder (files_of old)) where
  -- what is listed is what compiling each bug gives
  pub lists_bugs : (text : List ℕ) → ListAnswers folder layout query old new (Ok text) → ListsBugs (files_of old) folder layout query text
  lists_bugs text is = record {
    rows = is.rows;
    are_rows = record { heads = is.heads; are_heads = is.are_heads; all = is.all (sound parts.Rows) };
    people = is.people;
    are_people = is.are_people;
    is_text = is.is_text;
  }

  -- no person and no bug is damaged
  pub list_not_damaged : (path : List ℕ) → ListAnswers folder layout query old new (Err (stop.Damaged path)) → ⊥
  list_not_damaged path (inl person) = users_not_damaged (files_of old) folder path sound (inl person)
  list_not_damaged path (inr bug) = no_bad_bug folder (files_of old) sound bug.0 bug.1 bug.2

-- the row of one of some bugs, which is stored
row_of : (folder : List ℕ) (old new : Files) (bugs : List HeadEntry) (rows : List Excerpt) (bug : HeadEntry) → AllRows old folder bugs rows → AllStored new folder bugs rows → Contains bugs bug
    → (row : Excerpt) × IsRow old folder bug row × IsStored new folder bug row
row_of folder old new [] rows bug all stored has = absurd (omega (arith, has.1))
row_of folder old new (b ∷ bs) [] bug all stored has = absurd all
row_of folder old new (b ∷ bs) (r ∷ rs) bug all stored has = elim (Contains-cons_cases b bs bug has) [
  | inl same ↦ subst (λ (x : HeadEntry). (row : Excerpt) × IsRow old folder x row × IsStored new folder x row) same (r, all.0, stored.0)
  | inr later ↦ row_of folder old new bs rs bug all.1 stored.1 later
]

-- after a list no row is left to be stored
pub rows_are_stored : (folder text : List ℕ) (layout : Layout) (query : Query) (old new : History) (change : Change) → IsSound folder (files_of old) → Wrote (IsRowWrite folder) old new
    → ListAnswers folder layout query old new (Ok text) → IsRowWrite folder (files_of new) change → ⊥
rows_are_stored folder text layout query old new change sound wrote is w =
    let same = rows_leave_bugs folder old new wrote in
    let bug : HeadEntry = record { id = w.id; name = w.row.head } in
    let has : Contains is.heads bug = (is.are_heads.members bug).1 (w.is_id, sym (same.heads side.Bugs w.id) ∙ w.is_head) in
    let one = row_of folder (files_of old) (files_of new) is.heads is.rows bug (is.all (sound parts.Rows)) is.stored has in
    let now : IsTrueRow (objects_in (files_of new) folder) w.id w.row = w.is_true (rows_keep_rows folder old new wrote (sound parts.Rows)) in
    let was : IsRow (files_of old) folder bug w.row.row = subst (λ (objects : Objects). IsTrueRow objects w.id w.row) same.objects now in
    let equal : w.row.row ≡ one.0 = row_says (files_of old) folder bug w.row.row one.1.is.ops was one.1.is.are ∙ sym one.1.is.is in
    let fits : RowFits (head_row bug one.0) = subst (λ (row : Excerpt). RowFits (head_row bug row)) equal w.fits in
    w.is_new (head_row bug one.0) (one.2 fits) refl

-- ---- the answer to a list, by those to its reads

module _ (folder : List ℕ) (layout : Layout) (query : Query) (old new : History) where
  pub people_refused : (s : ReadStop) → Reads {T = List Person} (ArePeople (files_of old) folder) (HasBadPerson (files_of old) folder) (Err s) → ListAnswers folder layout query old new (Err s)
  people_refused stop.Memory told = tt
  people_refused stop.Disk told = tt
  people_refused (stop.Damaged path) bad = inl bad

  module _ (mid : History) (same : mid ≡ old) where
    pub rows_refused : (s : ReadStop) → RowsAnswers folder mid new (Err s) → ListAnswers folder layout query old new (Err s)
    rows_refused stop.Memory told = tt
    rows_refused stop.Disk told = tt
    rows_refused (stop.Damaged path) bad = inr (subst (λ (h : History). HasBadBug (files_of h) folder path) same bad)

    pub rows_listed : (people slice : List Person) (rows shown : List Excerpt) (text : List ℕ) → slice ≡ people → shown ≡ rows → ArePeople (files_of old) folder people → RowsAnswers folder mid new (Ok rows)
        → IsListText layout query slice shown text → ListAnswers folder layout query old new (Ok text)
    rows_listed people slice rows shown text equal alike are answers is =
        let told : RowsAnswers folder old new (Ok rows) = subst (λ (h : History). RowsAnswers folder h new (Ok rows)) same answers in
        record {
          heads = told.0;
          are_heads = told.1;
          rows = rows;
          all = told.2;
          stored = told.3;
          people = people;
          are_people = are;
          is_text = subst (λ (p : List Person). IsListText layout query p rows text) equal (subst (λ (r : List Excerpt). IsListText layout query slice r text) alike is);
        }

    pub rows_wrote : Wrote (IsRowWrite folder) mid new → Wrote (IsRowWrite folder) old new
    rows_wrote wrote = subst (λ (h : History). Wrote (IsRowWrite folder) h new) same wrote

    pub rows_read : (before at after : ℕ) → ReadsPeople (files_of old) folder before at → ReadsRows (files_of mid) folder at after → ReadsList (files_of old) folder before after
    rows_read before at after people reads = (at, people, subst (λ (h : History). ReadsRows (files_of h) folder at after) same reads)

-- no bug was read
pub people_read : (files : Files) (folder : List ℕ) (before after : ℕ) → ReadsPeople files folder before after → ReadsList files folder before after
people_read files folder before after people = (after, people, no_rows_read files folder after after refl)

-- the refs of the identities are as they were listed
pub identities_then : (folder : List ℕ) (old mid : History) (slice refs : List RefEntry) → mid ≡ old → slice ≡ refs → AreIdentityRefs (files_of old) folder refs → AreIdentityRefs (files_of mid) folder slice
identities_then folder old mid slice refs same equal are =
    subst (λ (es : List RefEntry). AreIdentityRefs (files_of mid) folder es) (sym equal) (subst (λ (h : History). AreIdentityRefs (files_of h) folder refs) (sym same) are)
