-- The row of a bug, read or stored, and the rows of some refs one after another.
use Rattle.std.proofs.Common.{◌≡◌, ◌≢◌, ◌<◌, ◌+◌, ℕ, inl, inr, Bool, true, false, List, [], ◌∷◌, ◌++◌, length, map, take, drop, get_or, Option, Some, None, Result, Ok, Err, refl, sym, ◌∙◌, ap, subst, arith}
use Rattle.std.specs.Prelude.{Contains, IfOk, OnOk, Vec, if◌then◌else◌}
use Rattle.std.specs.declared.alloc.Global.{Global}
use Rattle.std.specs.Cmp.Lexicographic.{slice_cmp}
use Rattle.std.specs.List.{AllByRecursion}
use Rattle.std.specs.List.Sorted.{IsStrictlySortedBy}
use Rattle.std.specs.Ordering.{nat_cmp}
use Rattle.std.specs.declared.cmp.Ordering.TheVariants.{Less}
use Rattle.std.proofs.lemmas.List.{map-append, take-append-drop, take_more}
use Rattle.std.proofs.lemmas.List.Elements.{All-contains, All-from_recursion, Contains-append_left, Contains-append_right}
use Rattle.gb_text.specs.Digits.{IsId}
use Rattle.gb_text.specs.declared.id.Id.{Id}
use Rattle.gb_text.specs.declared.id.Name.{Name}
use Rattle.gb_store.specs.Files.{Files, History, files_of}
use Rattle.gb_store.specs.Moments.{Wrote}
use Rattle.gb_store.specs.declared.store.Change.{Change}
use Rattle.gb_store.proofs.MomentLemmas.{Wrote-none, Wrote-one}
use Rattle.excerpt_cache.specs.Rows.{RowAnswers, is_short, row_write}
use Rattle.excerpt_cache.specs.declared.fault.CacheFault.{CacheFault}
use Rattle.excerpt_cache.specs.declared.fault.CacheFault.TheVariants as cache
use Rattle.excerpt_cache.proofs.RowLemmas.{row_at-written}
use Rattle.object_batch.proofs.ClashLemmas.{Contains-cons_cases, Contains-first, Contains-later}
use Rattle.object_store.specs.Held.{Objects, objects_in}
use Rattle.bug_ops.specs.Kind.{bug_kind}
use Rattle.bug_ops.specs.declared.op.BugOp.{BugOp}
use Rattle.bug_ops.specs.declared.snapshot.Excerpt.{Excerpt}
use Rattle.dag_entity.specs.Entities.{KeepsRules, ops_in}
use Rattle.dag_entity.specs.Since.{IsChainTo}
use Rattle.dag_entity.specs.declared.entity.Entity.{Entity}
use Rattle.dag_entity.specs.declared.entity.Placed.{Placed}
use Rattle.dag_entity.proofs.LawOrders.{operation_list}
use Rattle.dag_entity.proofs.SinceLaws.{chain_adds, chain_follows}
use Rattle.op_kind.specs.Fold.{row_from}
use Rattle.bug_ops.specs.Laws.{bug_keeps_laws}
use Rattle.snapshot.specs.LastMention.{IsBugList, IsLater, snapshot_of}
use Rattle.snapshot.proofs.StepLemmas.{row_steps, several_are_bug}
use Rattle.ref_store.specs.Listing.{IsRefList}
use Rattle.ref_store.specs.declared.listing.RefEntry.{RefEntry}
use Rattle.ref_store.specs.declared.listing.RefFound.{RefFound}
use Rattle.ref_store.specs.declared.listing.RefFound.TheVariants as found
use Rattle.repo_state.specs.Answers.{HeadOf, as_entry}
use Rattle.repo_state.specs.Bugs.{BugAnswers, IsBug, IsDamagedBug}
use Rattle.repo_state.specs.Listed.{AreIdentityRefs}
use Rattle.repo_state.specs.Rows.{stored_row}
use Rattle.repo_state.specs.Sides.{dir_of, head_at}
use Rattle.repo_state.specs.Sound.{HasNoFault, HasPart, IsSoundBug, IsTrueRow}
use Rattle.repo_state.specs.Sound as parts
use Rattle.repo_state.specs.declared.side.HeadEntry.{HeadEntry}
use Rattle.repo_state.specs.declared.side.Side.TheVariants as side
use Rattle.repo_state.specs.declared.stop.ReadStop.{ReadStop}
use Rattle.repo_state.specs.declared.stop.ReadStop.TheVariants as stop
use Rattle.repo_state.proofs.BugListLemmas.{entity_is_bug_list}
use Rattle.repo_state.proofs.BugSoundLemmas.{bug_has_no_fault}
use Rattle.repo_state.proofs.ListingLemmas.{Contains-map, bad_found, head_found, heads_of_refs, not_before_itself}
use Rattle.repo_state.proofs.PeopleLemmas.{split_at}
use Rattle.repo_writes.specs.Kinds.{IsRowWrite}
use Rattle.row_text.specs.Codec.{RowFits, row_codec, row_keeps_law}
use Rattle.row_text.specs.Rows.{RowRules, row_text}
use Rattle.row_text.specs.declared.row.HeadRow.{HeadRow}
use Rattle.repo_rows.specs.Reading.{AreRowsOf, GrownRow, IsBadAt, IsFound, IsHead, IsJudged, IsOlder, IsRowWriteOf, MaybeStored, ReadRow, RowAt, RowOf, RowsAnswers, RowsOf, StoredOf}
use Rattle.repo_rows.specs.declared.bugs.Judged.TheVariants as judged
use Rattle.repo_rows.specs.Rows.{AllRows, AllStored, HasNoCurrentRow, IsRow, IsStored, head_row}
use Rattle.repo_rows.proofs.FrameLemmas.{bad_before, found_stays, other_rows_stay, row_was, rows_keep_rows, rows_leave_bugs}

-- ---- a stored row

-- a row that fits was stored, and reads; or nothing was written
module _ (folder : List ℕ) (id : Id) (row : HeadRow) where
  abbrev change : Change
  change = row_write folder id (row_text row)

  -- by its rules
  pub stored_or_not : (rules : RowRules row) (old new : History) (result : Result Unit CacheFault) → RowAnswers (is_short (row_text row)) change old new result → MaybeStored folder id row old new
  stored_or_not rules old new (Err cache.Memory) same = inl same
  stored_or_not rules old new (Err cache.Disk) (short, inl same) = inl same
  stored_or_not rules old new (Err cache.Disk) (short, inr made) = inr (record { rules = rules; short = short }, made)
  stored_or_not rules old new (Ok done) is = by (is_short (row_text row)) refl is
    where
      by : (b : Bool) → is_short (row_text row) ≡ b → new ≡ (if b then change ∷ old else old) → MaybeStored folder id row old new
      by true short made = inr (record { rules = rules; short = short }, made)
      by false long same = inl same

  is_stored : (old new : History) → RowAnswers (is_short (row_text row)) change old new (Ok tt) → RowFits row → stored_row (files_of new) folder id ≡ Some row
  is_stored old new is fits =
      let made : new ≡ change ∷ old = is ∙ ap (λ (b : Bool). if b then change ∷ old else old) fits.short in
      ap (λ (h : History). stored_row (files_of h) folder id) made
      ∙ row_at-written row_codec row_keeps_law (files_of old) folder id row fits.rules fits.short

  pub stored_if_ok : (old new : History) (result : Result Unit CacheFault) → RowAnswers (is_short (row_text row)) change old new result
      → OnOk result (RowFits row → stored_row (files_of new) folder id ≡ Some row)
  stored_if_ok old new (Ok done) is = is_stored old new is
  stored_if_ok old new (Err fault) is = tt

-- ---- one bug

-- the row of the operations of a bug's packs is the bug's
pub row_of_packs : (files : Files) (folder : List ℕ) (bug : HeadEntry) (entity : Entity BugOp) (row : Excerpt) → IsBug files folder bug entity → KeepsRules bug_kind entity.packs
    → (IsBugList (ops_in bug_kind entity.packs) → row ≡ (snapshot_of (ops_in bug_kind entity.packs)).row) → IsRow files folder bug row
row_of_packs files folder bug entity row is rules says = record {
  no_fault = bug_has_no_fault files folder bug entity is;
  is = record {
    ops = ops_in bug_kind entity.packs;
    are = operation_list bug_kind (objects_in files folder) (bug.name ∷ []) entity.packs is.is.packs;
    begins = begins;
    is = says begins;
  };
}
  where
    begins : IsBugList (ops_in bug_kind entity.packs)
    begins = entity_is_bug_list (objects_in files folder) bug.id (bug.name ∷ []) is.authors entity is.is rules

-- why there is no entity is why there is no row
pub no_entity : (files : Files) (folder : List ℕ) (bug : HeadEntry) (s : ReadStop) → BugAnswers files folder bug (Err s) → ReadRow files folder bug (Err s)
no_entity files folder bug stop.Memory told = tt
no_entity files folder bug stop.Disk told = tt
no_entity files folder bug (stop.Damaged path) told = told

-- the row of operations that follow those of a true row
pub chain_row : (objects : Objects) (id : Id) (head : Name) (older : HeadRow) (packs : List (Placed BugOp)) → HasNoFault objects id head → IsTrueRow objects id older
    → IsChainTo bug_kind objects head older.head packs → IsTrueRow objects id (record { head = head; row = row_from bug_kind older.row (ops_in bug_kind packs) })
chain_row objects id head older packs sound was leads = record {
  no_fault = sound;
  is = record {
    ops = was.is.ops ++ ops_in bug_kind packs;
    are = chain_adds bug_kind objects id bug_keeps_laws head older.head packs was.is.ops sound leads was.is.are;
    begins = several_are_bug was.is.ops (ops_in bug_kind packs) was.is.begins later;
    is = ap (λ (row : Excerpt). row_from bug_kind row (ops_in bug_kind packs)) was.is.is ∙ row_steps was.is.ops (ops_in bug_kind packs) was.is.begins later;
  };
}
  where
    later : AllByRecursion IsLater (ops_in bug_kind packs)
    later = chain_follows bug_kind objects id bug_keeps_laws head older.head packs sound leads

-- the row of what a bug has since the commit of a true row
module _ (files : Files) (folder : List ℕ) (bug : HeadEntry) (older : HeadRow) where
  pub same_row : bug.name ≡ older.head → GrownRow files folder bug older (Ok older.row)
  same_row same = λ sound was. subst (λ (name : Name). IsTrueRow (objects_in files folder) bug.id (record { head = name; row = older.row })) (sym same) was

  pub followed_row : (packs : List (Placed BugOp)) (row : Excerpt) → IsChainTo bug_kind (objects_in files folder) bug.name older.head packs → row ≡ row_from bug_kind older.row (ops_in bug_kind packs)
      → GrownRow files folder bug older (Ok row)
  followed_row packs row leads is = λ sound was.
      subst (λ (r : Excerpt). IsRow files folder bug r) (sym is) (chain_row (objects_in files folder) bug.id bug.name older packs sound was leads)

  -- in a folder whose bugs are sound and whose stored rows are true
  pub grown_is_row : (result : Result Excerpt ReadStop) → GrownRow files folder bug older result → IsHead files folder bug → stored_row files folder bug.id ≡ Some older → RowAt files folder bug result
  grown_is_row (Ok row) grown at stored = λ has.
      grown (subst (IsSoundBug (objects_in files folder) bug.id) at.1 (has.0 bug.id at.0)) (has.1 bug.id at.0 older stored)
  grown_is_row (Err s) grown at stored = grown

-- a stored row of another head is not of the head
pub older_is_other : (files : Files) (folder : List ℕ) (bug : HeadEntry) (older : HeadRow) → IsJudged bug.name (stored_row files folder bug.id) (judged.Older older) → HasNoCurrentRow files folder bug
older_is_other files folder bug older (is, other) = λ one stored at.
    let equal : Some older ≡ Some one = sym is ∙ stored in
    let both : older ≡ one = cc (equal) in
    other (ap (λ (row : HeadRow). row.head) both ∙ at)

pub none_is_other : (files : Files) (folder : List ℕ) (bug : HeadEntry) → stored_row files folder bug.id ≡ None → HasNoCurrentRow files folder bug
none_is_other files folder bug is = λ one stored at.
    let equal : None ≡ Some one = sym is ∙ stored in
    absurd (cc (equal))

-- what is said of a new row is said at entry, where nothing was written before
module _ (folder : List ℕ) (bug : HeadEntry) (identities : List RefEntry) (older : Option HeadRow) (old mid : History) (same : mid ≡ old) where
  pub new_then : (result : Result Excerpt ReadStop)
      → (AreIdentityRefs (files_of mid) folder identities → IsHead (files_of mid) folder bug → IsOlder (files_of mid) folder bug older → RowAt (files_of mid) folder bug result)
      → AreIdentityRefs (files_of old) folder identities → IsHead (files_of old) folder bug → IsOlder (files_of old) folder bug older → RowAt (files_of old) folder bug result
  new_then result told =
      subst
      (λ (h : History). AreIdentityRefs (files_of h) folder identities → IsHead (files_of h) folder bug → IsOlder (files_of h) folder bug older → RowAt (files_of h) folder bug result)
      same told

  pub wrote_new : (new : History)
      → (AreIdentityRefs (files_of mid) folder identities → IsHead (files_of mid) folder bug → IsOlder (files_of mid) folder bug older → HasNoCurrentRow (files_of mid) folder bug
      → Wrote (IsRowWriteOf folder bug.id) mid new)
      → AreIdentityRefs (files_of old) folder identities → IsHead (files_of old) folder bug → IsOlder (files_of old) folder bug older → HasNoCurrentRow (files_of old) folder bug
      → Wrote (IsRowWriteOf folder bug.id) old new
  wrote_new new told =
      subst
      (λ (h : History). AreIdentityRefs (files_of h) folder identities → IsHead (files_of h) folder bug → IsOlder (files_of h) folder bug older → HasNoCurrentRow (files_of h) folder bug
      → Wrote (IsRowWriteOf folder bug.id) h new)
      same told

-- a row that was read whole is the bug's in any folder
pub whole_is_row : (files : Files) (folder : List ℕ) (bug : HeadEntry) (result : Result Excerpt ReadStop) → ReadRow files folder bug result → RowAt files folder bug result
whole_is_row files folder bug (Ok row) is = λ _. is
whole_is_row files folder bug (Err s) is = is

-- what was written for a bug that was read is its row
writes_its_row : (folder : List ℕ) (bug : HeadEntry) (row : Excerpt) (old new : History) → IsHead (files_of old) folder bug → HasNoCurrentRow (files_of old) folder bug
    → (HasPart parts.Rows folder (files_of old) → IsRow (files_of old) folder bug row) → MaybeStored folder bug.id (head_row bug row) old new → Wrote (IsRowWriteOf folder bug.id) old new
writes_its_row folder bug row old new at new_one is (inl same) = Wrote-none (IsRowWriteOf folder bug.id) old new same
writes_its_row folder bug row old new at new_one is (inr (fits, made)) =
    Wrote-one (IsRowWriteOf folder bug.id) (row_write folder bug.id (row_text (head_row bug row))) old new
    (record {
      is = record { id = bug.id; is_id = at.0; row = head_row bug row; fits = fits; is_head = at.1; is_new = new_one; is_true = is; write = refl };
      of = refl;
    })
    (inr made)

-- so where nothing was written before
pub wrote_its_row : (folder : List ℕ) (bug : HeadEntry) (row : Excerpt) (old mid new : History) → mid ≡ old → IsHead (files_of old) folder bug → HasNoCurrentRow (files_of old) folder bug
    → (HasPart parts.Rows folder (files_of old) → IsRow (files_of old) folder bug row) → MaybeStored folder bug.id (head_row bug row) mid new → Wrote (IsRowWriteOf folder bug.id) old new
wrote_its_row folder bug row old mid new same at new_one is maybe =
    writes_its_row folder bug row old new at new_one is (subst (λ (h : History). MaybeStored folder bug.id (head_row bug row) h new) same maybe)

-- a stored row that is of the head is the bug's, if stored rows are true
pub stored_is_row : (files : Files) (folder : List ℕ) (bug : HeadEntry) (row : Excerpt) → IsId bug.id → stored_row files folder bug.id ≡ Some (head_row bug row)
    → HasPart parts.Rows folder files → IsRow files folder bug row
stored_is_row files folder bug row is stored has = has.1 bug.id is (head_row bug row) stored

-- what is said of the head of a ref is said of the ref
pub by_its_head : (files : Files) (folder : List ℕ) (bug : HeadEntry) (entry : RefEntry) → as_entry bug ≡ entry → (result : Result Excerpt ReadStop) → RowAt files folder bug result → RowOf files folder entry result
by_its_head files folder bug entry is (Ok row) told = (bug, is, told)
by_its_head files folder bug entry is (Err stop.Memory) told = tt
by_its_head files folder bug entry is (Err stop.Disk) told = tt
by_its_head files folder bug entry is (Err (stop.Damaged path)) told = subst (λ (e : RefEntry). RowOf files folder e (Err (stop.Damaged path))) is told

-- a ref that is no ref text has no row
pub no_head : (files : Files) (folder : List ℕ) (entry : RefEntry) (s : ReadStop) → HeadOf folder side.Bugs entry (Err s) → RowOf files folder entry (Err s)
no_head files folder entry stop.Memory told = tt
no_head files folder entry stop.Disk told = absurd told
no_head files folder entry (stop.Damaged path) told = (told.1, subst (IsBadAt files folder entry.id) (sym told.0) tt)

-- the head of a ref that was found
pub head_of_found : (files : Files) (folder : List ℕ) (bug : HeadEntry) (entry : RefEntry) → as_entry bug ≡ entry → IsFound files folder entry → IsHead files folder bug
head_of_found files folder bug entry is found =
    let at : IsFound files folder (as_entry bug) = subst (IsFound files folder) (sym is) found in
    (at.0, head_found (head_at files folder side.Bugs bug.id) bug.name at.1)

-- a bug's ref has one entry
stored_of : (files : Files) (folder : List ℕ) (bug : HeadEntry) (entry : RefEntry) (row : Excerpt) → as_entry bug ≡ entry → IsStored files folder bug row → StoredOf files folder entry row
stored_of files folder bug entry row is stored = λ other same.
    let both : as_entry bug ≡ as_entry other = is ∙ sym same in
    let ids : bug.id ≡ other.id = ap (λ (e : RefEntry). e.id) both in
    let founds : found.Head bug.name ≡ found.Head other.name = ap (λ (e : RefEntry). e.found) both in
    let names : bug.name ≡ other.name = cc (founds) in
    let one : bug ≡ other = λ i. record { id = ids i; name = names i } in
    subst (λ (b : HeadEntry). IsStored files folder b row) one stored

-- a row that is stored for the head of a ref is stored for the ref
pub stored_by_its_head : (files : Files) (folder : List ℕ) (bug : HeadEntry) (entry : RefEntry) → as_entry bug ≡ entry → (result : Result Excerpt ReadStop)
    → IfOk result (IsStored files folder bug) → IfOk result (StoredOf files folder entry)
stored_by_its_head files folder bug entry is (Ok row) stored = stored_of files folder bug entry row is stored
stored_by_its_head files folder bug entry is (Err s) stored = tt

-- ---- the refs of all bugs

-- in a list that ascends an earlier text is another
earlier_is_other : (xs : List (List ℕ)) (x : List ℕ) (ys : List (List ℕ)) → IsStrictlySortedBy (slice_cmp nat_cmp) (xs ++ x ∷ ys) → (z : List ℕ) → Contains xs z → z ≢ x
unfolding IsStrictlySortedBy
earlier_is_other [] x ys rising z has same = absurd (omega (arith, has.1))
earlier_is_other (w ∷ xs) x ys rising z has same = elim (Contains-cons_cases w xs z has) [
  | inl first ↦
      let below : slice_cmp nat_cmp w x ≡ Less =
      All-contains (λ y. slice_cmp nat_cmp w y ≡ Less) (xs ++ x ∷ ys) x (All-from_recursion (λ y. slice_cmp nat_cmp w y ≡ Less) (xs ++ x ∷ ys) rising.0)
      (Contains-append_right xs (x ∷ ys) x (Contains-first x ys)) in
      not_before_itself x (subst (λ (v : List ℕ). slice_cmp nat_cmp v x ≡ Less) (first ∙ same) below)
  | inr later ↦ earlier_is_other xs x ys rising.1 z later same
]

module _ (files : Files) (folder : List ℕ) (entries : List RefEntry) (are : IsRefList files folder (dir_of side.Bugs) entries) where
  -- the next of them stands
  pub next_is_found : (k : ℕ) (d : RefEntry) → k < length entries → Contains entries (get_or entries k d) × IsFound files folder (get_or entries k d)
  next_is_found k d lt =
      let entry = get_or entries k d in
      let has : Contains entries entry =
      subst (λ (es : List RefEntry). Contains es entry) (sym (split_at entries k d lt))
      (Contains-append_right (take k entries) (entry ∷ drop (k + 1) entries) entry (Contains-first entry (drop (k + 1) entries))) in
      (has, (are.members entry).0 has)

  -- and is of another bug than those before it
  pub next_is_other : (k : ℕ) (d : RefEntry) → k < length entries → (bugs : List HeadEntry) → map as_entry bugs ≡ take k entries → (bug : HeadEntry) → Contains bugs bug
      → (get_or entries k d).id ≢ bug.id
  next_is_other k d lt bugs heads bug has same =
      let bytes : RefEntry → List ℕ = λ e. e.id.bytes in
      let entry = get_or entries k d in
      let rest = drop (k + 1) entries in
      let parted : entries ≡ map as_entry bugs ++ entry ∷ rest = split_at entries k d lt ∙ ap (λ (es : List RefEntry). es ++ entry ∷ rest) (sym heads) in
      let rising : IsStrictlySortedBy (slice_cmp nat_cmp) (map bytes (map as_entry bugs) ++ bytes entry ∷ map bytes rest) =
      subst (IsStrictlySortedBy (slice_cmp nat_cmp)) (ap (map bytes) parted ∙ map-append bytes (map as_entry bugs) (entry ∷ rest)) are.rising in
      earlier_is_other (map bytes (map as_entry bugs)) (bytes entry) (map bytes rest) rising bug.id.bytes
      (Contains-map bytes (map as_entry bugs) (as_entry bug) (Contains-map as_entry bugs bug has)) (ap (λ (id : Id). id.bytes) (sym same))

  -- each of those before it has an id
  pub earlier_are_ids : (k : ℕ) (bugs : List HeadEntry) → map as_entry bugs ≡ take k entries → (bug : HeadEntry) → Contains bugs bug → IsId bug.id
  earlier_are_ids k bugs heads bug has =
      let early : Contains (take k entries) (as_entry bug) = subst (λ (es : List RefEntry). Contains es (as_entry bug)) heads (Contains-map as_entry bugs bug has) in
      let all : Contains entries (as_entry bug) = subst (λ (es : List RefEntry). Contains es (as_entry bug)) (take-append-drop k entries) (Contains-append_left (take k entries) (drop k entries) (as_entry bug) early) in
      ((are.members (as_entry bug)).0 all).0

  -- a ref that is damaged is that of a damaged bug
  pub bad_bug : (entry : RefEntry) → Contains entries entry → (f : RefFound) → entry.found ≡ f → IsBadAt files folder entry.id f → IsDamagedBug files folder entry.id
  bad_bug entry has found.Bad is bad = inl (bad_found (head_at files folder side.Bugs entry.id) (((are.members entry).0 has).1 ∙ ap Some is))
  bad_bug entry has (found.Head name) is bad = inr (name, head_found (head_at files folder side.Bugs entry.id) name (((are.members entry).0 has).1 ∙ ap Some is), bad)

-- ---- one after another

AllRows-push : (files : Files) (folder : List ℕ) (bugs : List HeadEntry) (rows : List Excerpt) (bug : HeadEntry) (row : Excerpt) → AllRows files folder bugs rows → IsRow files folder bug row
    → AllRows files folder (bugs ++ bug ∷ []) (rows ++ row ∷ [])
AllRows-push files folder [] [] bug row all is = (is, tt)
AllRows-push files folder [] (r ∷ rs) bug row all is = absurd all
AllRows-push files folder (b ∷ bs) [] bug row all is = absurd all
AllRows-push files folder (b ∷ bs) (r ∷ rs) bug row all is = (all.0, AllRows-push files folder bs rs bug row all.1 is)

-- rows stay stored, and one more is
AllStored-push : (folder : List ℕ) (old new : Files) (bugs : List HeadEntry) (rows : List Excerpt) (bug : HeadEntry) (row : Excerpt) → AllStored old folder bugs rows
    → ((b : HeadEntry) → Contains bugs b → stored_row new folder b.id ≡ stored_row old folder b.id) → IsStored new folder bug row → AllStored new folder (bugs ++ bug ∷ []) (rows ++ row ∷ [])
AllStored-push folder old new [] [] bug row all stay is = (is, tt)
AllStored-push folder old new [] (r ∷ rs) bug row all stay is = absurd all
AllStored-push folder old new (b ∷ bs) [] bug row all stay is = absurd all
AllStored-push folder old new (b ∷ bs) (r ∷ rs) bug row all stay is =
    (λ fits. stay b (Contains-first b bs) ∙ all.0 fits, AllStored-push folder old new bs rs bug row all.1 (λ one has. stay one (Contains-later b bs one has)) is)

-- no ref has no row
pub rows_none : (folder : List ℕ) (old new : Files) (entries : List RefEntry) → AreRowsOf folder old new (take 0 entries) []
rows_none folder old new entries = record { bugs = []; heads = refl; all = λ _. tt; stored = tt }

module _ (folder : List ℕ) (old mid new : History) (entries : List RefEntry) (are : IsRefList (files_of old) folder (dir_of side.Bugs) entries)
    (first : Wrote (IsRowWrite folder) old mid) (k : ℕ) (d : RefEntry) (lt : k < length entries) where
  abbrev entry : RefEntry
  entry = get_or entries k d

  -- the next ref stands as before
  pub next_stands : IsFound (files_of mid) folder entry
  next_stands = found_stays folder (files_of old) (files_of mid) (rows_leave_bugs folder old mid first) entry (next_is_found (files_of old) folder entries are k d lt).1

  -- the row of the next of these refs
  pub rows_more : (rows : List Excerpt) (row : Excerpt) → AreRowsOf folder (files_of old) (files_of mid) (take k entries) rows → RowOf (files_of mid) folder entry (Ok row)
      → StoredOf (files_of new) folder entry row → Wrote (IsRowWriteOf folder entry.id) mid new → AreRowsOf folder (files_of old) (files_of new) (take (k + 1) entries) (rows ++ row ∷ [])
  rows_more rows row so (bug, is, has) stored later = record {
    bugs = so.bugs ++ bug ∷ [];
    heads =
        map-append as_entry so.bugs (bug ∷ [])
        ∙ ap (λ (es : List RefEntry). es ++ as_entry bug ∷ []) so.heads
        ∙ ap (λ (e : RefEntry). take k entries ++ e ∷ []) is
        ∙ sym (take_more entries k d lt);
    all = λ sound.
        AllRows-push (files_of old) folder so.bugs rows bug row (so.all sound)
        (row_was folder (files_of old) (files_of mid) (rows_leave_bugs folder old mid first) bug row (has (rows_keep_rows folder old mid first sound)));
    stored = AllStored-push folder (files_of mid) (files_of new) so.bugs rows bug row so.stored
        (λ b early.
        other_rows_stay folder entry.id b.id (earlier_are_ids (files_of old) folder entries are k so.bugs so.heads b early)
        (next_is_other (files_of old) folder entries are k d lt so.bugs so.heads b early) mid new later)
        (stored bug is);
  }

  -- the rows of refs up to one that has none
  pub rows_stop : (s : ReadStop) → RowOf (files_of mid) folder entry (Err s) → RowsOf folder (files_of old) (files_of new) entries (Err s)
  rows_stop stop.Memory told = tt
  rows_stop stop.Disk told = tt
  rows_stop (stop.Damaged path) told =
      (entry, (next_is_found (files_of old) folder entries are k d lt).0, told.0, bad_before folder (files_of old) (files_of mid) (rows_leave_bugs folder old mid first) entry.id entry.found told.1)

-- ---- all of them

module _ (folder : List ℕ) (old new : History) (entries : List RefEntry) (are : IsRefList (files_of old) folder (dir_of side.Bugs) entries) where
  pub rows_of_refs : (rows : List Excerpt) → AreRowsOf folder (files_of old) (files_of new) entries rows → RowsAnswers folder old new (Ok rows)
  rows_of_refs rows so = (so.bugs, heads_of_refs (files_of old) folder side.Bugs entries are so.bugs so.heads, so.all, so.stored)

  pub rows_refused : (s : ReadStop) → RowsOf folder (files_of old) (files_of new) entries (Err s) → RowsAnswers folder old new (Err s)
  rows_refused stop.Memory told = tt
  rows_refused stop.Disk told = tt
  rows_refused (stop.Damaged path) (entry, has, at, bad) =
      (entry.id, ((are.members entry).0 has).0, bad_bug (files_of old) folder entries are entry has entry.found refl bad, at)

-- ---- where nothing was written before

module _ (folder : List ℕ) (old mid new : History) (slice entries : List RefEntry) (same : mid ≡ old) (equal : slice ≡ entries)
    (are : IsRefList (files_of old) folder (dir_of side.Bugs) entries) where
  before : IsRefList (files_of mid) folder (dir_of side.Bugs) slice
  before =
      subst (λ (es : List RefEntry). IsRefList (files_of mid) folder (dir_of side.Bugs) es) (sym equal)
      (subst (λ (h : History). IsRefList (files_of h) folder (dir_of side.Bugs) entries) (sym same) are)

  pub rows_then : (result : Result (Vec Excerpt Global) ReadStop) → (IsRefList (files_of mid) folder (dir_of side.Bugs) slice → RowsOf folder (files_of mid) (files_of new) slice result)
      → RowsOf folder (files_of old) (files_of new) entries result
  rows_then result told =
      subst (λ (h : History). RowsOf folder (files_of h) (files_of new) entries result) same
      (subst (λ (es : List RefEntry). RowsOf folder (files_of mid) (files_of new) es result) equal (told before))

  pub wrote_then : (IsRefList (files_of mid) folder (dir_of side.Bugs) slice → Wrote (IsRowWrite folder) mid new) → Wrote (IsRowWrite folder) old new
  wrote_then wrote = subst (λ (h : History). Wrote (IsRowWrite folder) h new) same (wrote before)

-- the refs of identities are listed where nothing was written
pub listed_then : (folder : List ℕ) (old mid : History) (slice entries : List RefEntry) → mid ≡ old → slice ≡ entries → AreIdentityRefs (files_of old) folder entries → AreIdentityRefs (files_of mid) folder slice
listed_then folder old mid slice entries same equal are =
    subst (λ (es : List RefEntry). AreIdentityRefs (files_of mid) folder es) (sym equal)
    (subst (λ (h : History). AreIdentityRefs (files_of h) folder entries) (sym same) are)
