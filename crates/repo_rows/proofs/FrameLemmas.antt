-- Writes of rows leave the objects and the refs of their folder, and the rows of other bugs.
use Rattle.std.proofs.Common.{◌≡◌, ◌≢◌, ℕ, List, [], ◌∷◌, refl, sym, ◌∙◌, ap, subst}
use Rattle.gb_text.specs.Digits.{IsId}
use Rattle.gb_text.specs.declared.id.Id.{Id}
use Rattle.gb_store.specs.Files.{Files, History, files_of, written}
use Rattle.gb_store.specs.Moments.{IsMoment, Wrote}
use Rattle.gb_store.specs.declared.store.Change.{Change}
use Rattle.gb_store.proofs.MomentLemmas.{AllMoments-from_Wrote, Wrote-wider}
use Rattle.excerpt_cache.proofs.RowLemmas.{row_at-other}
use Rattle.object_store.specs.Held.{Objects, objects_in}
use Rattle.dag_entity.specs.Faults.{EntityFaultHolds}
use Rattle.bug_ops.specs.Kind.{bug_kind}
use Rattle.bug_ops.specs.declared.snapshot.Excerpt.{Excerpt}
use Rattle.ref_store.specs.Listing.{IsRefList, found_of}
use Rattle.ref_store.specs.declared.listing.RefEntry.{RefEntry}
use Rattle.ref_store.specs.declared.listing.RefFound.{RefFound}
use Rattle.ref_store.specs.declared.listing.RefFound.TheVariants as found
use Rattle.repo_state.specs.Bugs.{AreLocal, HasBugFault}
use Rattle.repo_state.specs.Rows.{stored_row}
use Rattle.repo_state.specs.Sides.{dir_of, head_at, is_there}
use Rattle.repo_state.specs.Sound.{HasPart, IsTrueRow}
use Rattle.repo_state.specs.Sound as parts
use Rattle.repo_state.specs.declared.side.HeadEntry.{HeadEntry}
use Rattle.repo_state.specs.declared.side.Side.{Side}
use Rattle.repo_state.specs.declared.side.Side.TheVariants as side
use Rattle.repo_state.proofs.KindLemmas.{head_at-row_write, objects-row_write}
use Rattle.repo_writes.specs.Kinds.{IsRowWrite, a_row}
use Rattle.repo_writes.proofs.SoundLemmas.{keeps-part}
use Rattle.row_text.specs.Codec.{row_codec}
use Rattle.row_text.specs.Rows.{row_text}
use Rattle.repo_rows.specs.Reading.{IsBadAt, IsFound, IsRowWriteOf}
use Rattle.repo_rows.specs.Rows.{IsRow}

-- a call's end is a moment of it
at_end : (May : Files → Change → Type 0) (old new : History) → Wrote May old new → IsMoment old new new
at_end May old new wrote = record { later = []; done = wrote.writes; before = wrote.grew; after = refl }

-- what each such write keeps holds afterwards
kept : (May : Files → Change → Type 0) (Good : Files → Type 0) → ((files : Files) (change : Change) → Good files → May files change → Good (written files change))
    → (old new : History) → Good (files_of old) → Wrote May old new → Good (files_of new)
kept May Good keeps old new good wrote = (AllMoments-from_Wrote May Good keeps old new good wrote).each new (at_end May old new wrote)

-- files have the same objects and refs in a folder
pub record SameBugs (folder : List ℕ) (old new : Files) : Type 0 where
  pub objects : objects_in new folder ≡ objects_in old folder
  pub heads : (of : Side) (id : Id) → head_at new folder of id ≡ head_at old folder of id

module _ (folder : List ℕ) where
  more : (old files : Files) (change : Change) → SameBugs folder old files → IsRowWrite folder files change → SameBugs folder old (written files change)
  more old files change same w = subst (λ (c : Change). SameBugs folder old (written files c)) (sym w.write) (record {
    objects = objects-row_write files folder w.id (row_text w.row) ∙ same.objects;
    heads = λ of id. head_at-row_write files folder of id w.id (row_text w.row) ∙ same.heads of id;
  })

  -- writes of rows leave objects and refs
  pub rows_leave_bugs : (old new : History) → Wrote (IsRowWrite folder) old new → SameBugs folder (files_of old) (files_of new)
  rows_leave_bugs old new wrote =
      kept (IsRowWrite folder) (SameBugs folder (files_of old)) (more (files_of old)) old new (record { objects = refl; heads = λ of id. refl }) wrote

  -- and keep the part on rows
  pub rows_keep_rows : (old new : History) → Wrote (IsRowWrite folder) old new → HasPart parts.Rows folder (files_of old) → HasPart parts.Rows folder (files_of new)
  rows_keep_rows old new wrote has =
      kept (IsRowWrite folder) (HasPart parts.Rows folder) (λ files change had w. keeps-part folder files change parts.Rows had (a_row w)) old new has wrote

  -- writes of a bug's row are writes of rows
  pub of_a_bug : (id : Id) (old new : History) → Wrote (IsRowWriteOf folder id) old new → Wrote (IsRowWrite folder) old new
  of_a_bug id old new wrote = Wrote-wider (IsRowWriteOf folder id) (IsRowWrite folder) old new (λ files change w. w.is) wrote

  -- and leave the rows of other bugs
  pub other_rows_stay : (id other : Id) → IsId other → id ≢ other → (old new : History) → Wrote (IsRowWriteOf folder id) old new
      → stored_row (files_of new) folder other ≡ stored_row (files_of old) folder other
  other_rows_stay id other is differ old new wrote =
      kept (IsRowWriteOf folder id) (λ files. stored_row files folder other ≡ stored_row (files_of old) folder other)
      (λ files change same w. step files change same w) old new refl wrote
    where
      step : (files : Files) (change : Change) → stored_row files folder other ≡ stored_row (files_of old) folder other → IsRowWriteOf folder id files change
          → stored_row (written files change) folder other ≡ stored_row (files_of old) folder other
      step files change same w =
          subst (λ (c : Change). stored_row (written files c) folder other ≡ stored_row (files_of old) folder other) (sym w.is.write)
          (row_at-other row_codec files folder (row_text w.is.row) w.is.id other w.is.is_id is (λ e. differ (sym w.of ∙ e)) ∙ same)

-- ---- the same of the same objects and refs

module _ (folder : List ℕ) (old new : Files) (same : SameBugs folder old new) where
  pub refs_stay : (of : Side) (entries : List RefEntry) → IsRefList old folder (dir_of of) entries → IsRefList new folder (dir_of of) entries
  refs_stay of entries are = record {
    rising = are.rising;
    members = λ e. (
      λ has. let was = (are.members e).0 has in (was.0, ap found_of (same.heads of e.id) ∙ was.1),
      λ is. (are.members e).1 (is.0, sym (ap found_of (same.heads of e.id)) ∙ is.1),
    );
  }

  pub found_stays : (entry : RefEntry) → IsFound old folder entry → IsFound new folder entry
  found_stays entry is = (is.0, ap found_of (same.heads side.Bugs entry.id) ∙ is.1)

  -- a row was the bug's before
  pub row_was : (bug : HeadEntry) (row : Excerpt) → IsRow new folder bug row → IsRow old folder bug row
  row_was bug row is = subst (λ (objects : Objects). IsTrueRow objects bug.id (record { head = bug.name; row = row })) same.objects is

  -- and so was what is wrong with it
  local_before : (ids : List Id) → AreLocal new folder ids → AreLocal old folder ids
  local_before ids are = record {
    rising = are.rising;
    members = λ id. (
      λ has. let was = (are.members id).0 has in (was.0, sym (ap is_there (same.heads side.Identities id)) ∙ was.1),
      λ is. (are.members id).1 (is.0, ap is_there (same.heads side.Identities id) ∙ is.1),
    );
  }

  fault_before : (bug : HeadEntry) → HasBugFault new folder bug → HasBugFault old folder bug
  fault_before bug wrong = record {
    authors = wrong.authors;
    locals = local_before wrong.authors wrong.locals;
    fault = wrong.fault;
    holds = subst (λ (objects : Objects). EntityFaultHolds bug_kind objects bug.id (bug.name ∷ []) wrong.authors wrong.fault) same.objects wrong.holds;
  }

  pub bad_before : (id : Id) (f : RefFound) → IsBadAt new folder id f → IsBadAt old folder id f
  bad_before id found.Bad bad = tt
  bad_before id (found.Head name) bad = fault_before (record { id = id; name = name }) bad
