-- How many objects rows read, one bug after another.
use Rattle.std.proofs.Common.{◌≡◌, ◌≢◌, ◌<◌, ◌+◌, ℕ, inl, inr, List, [], ◌∷◌, ◌++◌, length, map, take, drop, get_or, Option, Some, None, refl, sym, ◌∙◌, ap, subst, add-one, drop-cons, arith}
use Rattle.std.specs.Prelude.{Contains}
use Rattle.std.specs.Cmp.Lexicographic.{slice_cmp}
use Rattle.std.specs.List.{AllByRecursion}
use Rattle.std.specs.List.Sorted.{IsStrictlySortedBy}
use Rattle.std.specs.Ordering.{nat_cmp}
use Rattle.std.specs.declared.cmp.Ordering.TheVariants.{Less}
use Rattle.std.proofs.lemmas.List.{map-append, take-append-drop, take_more}
use Rattle.std.proofs.lemmas.Simd.{map-map}
use Rattle.std.proofs.lemmas.List.Elements.{All-contains, All-from_recursion, Contains-append_left, Contains-append_right}
use Rattle.gb_text.specs.declared.id.Id.{Id}
use Rattle.gb_store.specs.Files.{Files, History, files_of}
use Rattle.gb_store.specs.Moments.{Wrote}
use Rattle.object_batch.proofs.ClashLemmas.{Contains-first, Contains-later}
use Rattle.object_store.specs.Held.{Objects}
use Rattle.dag_entity.specs.Entities.{ReadsEach}
use Rattle.bug_ops.specs.Kind.{bug_kind}
use Rattle.dag_entity.specs.Since.{ReadsChain}
use Rattle.ref_store.specs.Listing.{IsRefList}
use Rattle.ref_store.specs.declared.listing.RefEntry.{RefEntry}
use Rattle.repo_state.specs.Answers.{as_entry}
use Rattle.repo_state.specs.Bugs.{ReadsBelow}
use Rattle.repo_state.specs.Rows.{stored_row}
use Rattle.repo_state.specs.Sides.{dir_of}
use Rattle.repo_state.specs.declared.side.HeadEntry.{HeadEntry}
use Rattle.repo_state.specs.declared.side.Side.TheVariants as side
use Rattle.repo_state.proofs.ListingLemmas.{Contains-map, not_before_itself}
use Rattle.repo_state.proofs.PeopleLemmas.{split_at}
use Rattle.repo_writes.specs.Kinds.{IsRowWrite}
use Rattle.row_text.specs.declared.row.HeadRow.{HeadRow}
use Rattle.repo_rows.specs.Reading.{IsJudged, IsRowWriteOf}
use Rattle.repo_rows.specs.Reads.{ReadsAboveRow, ReadsBug, ReadsBugs, ReadsFirst, ReadsRef, ReadsRows}
use Rattle.repo_rows.specs.declared.bugs.Judged.TheVariants as judged
use Rattle.repo_rows.proofs.FrameLemmas.{SameBugs, other_rows_stay, rows_leave_bugs}
use Rattle.repo_rows.proofs.RowLemmas.{head_of_found}

-- ---- one bug

module _ (files : Files) (folder : List ℕ) (bug : HeadEntry) where
  -- nothing was read
  pub below_nothing : (n : ℕ) → ReadsBelow files folder bug n n
  below_nothing n = record { names = []; once = λ i j d less below same. omega (arith, below); each = λ name has. absurd (omega (arith, has.1)); few = omega arith }

  pub reads_nothing : (before after : ℕ) → after ≡ before → ReadsBug files folder bug before after
  reads_nothing before after same = subst (ReadsBug files folder bug before) (sym same) (record {
    below = below_nothing before;
    current = λ row stored is. refl;
    above = λ row is packs leads. omega arith;
  })

  -- of an older row
  pub reads_older : (row : HeadRow) (before mid after : ℕ) → mid ≡ before → IsJudged bug.name (stored_row files folder bug.id) (judged.Older row) → ReadsBelow files folder bug mid after
      → ReadsAboveRow files folder bug (Some row) mid after → ReadsBug files folder bug before after
  reads_older row before mid after same (is, other) below above = subst (λ (n : ℕ). ReadsBug files folder bug n after) same (record {
    below = below;
    current = λ one stored at. let equal : Some row ≡ Some one = sym is ∙ stored in let both : row ≡ one = cc (equal) in absurd (other (ap (λ (r : HeadRow). r.head) both ∙ at));
    above = subst (λ (o : Option HeadRow). ReadsAboveRow files folder bug o mid after) (sym is) above;
  })

  -- and of none
  pub reads_missing : (before mid after : ℕ) → mid ≡ before → stored_row files folder bug.id ≡ None → ReadsBelow files folder bug mid after → ReadsBug files folder bug before after
  reads_missing before mid after same is below = subst (λ (n : ℕ). ReadsBug files folder bug n after) same (record {
    below = below;
    current = λ one stored at. let equal : None ≡ Some one = sym is ∙ stored in absurd (cc (equal));
    above = λ one stored. let equal : None ≡ Some one = sym is ∙ stored in absurd (cc (equal));
  })

-- of an older row, where nothing was read or written before
pub reads_grown : (folder : List ℕ) (bug : HeadEntry) (row : HeadRow) (old mid : History) → mid ≡ old → (before at after : ℕ) → at ≡ before
    → IsJudged bug.name (stored_row (files_of old) folder bug.id) (judged.Older row) → ReadsBelow (files_of mid) folder bug at after → ReadsAboveRow (files_of mid) folder bug (Some row) at after
    → ReadsBug (files_of old) folder bug before after
reads_grown folder bug row old mid same before at after none is below above =
    reads_older (files_of old) folder bug row before at after none is
    (subst (λ (h : History). ReadsBelow (files_of h) folder bug at after) same below)
    (subst (λ (h : History). ReadsAboveRow (files_of h) folder bug (Some row) at after) same above)

-- ---- one after another

module _ (folder : List ℕ) (old new : Files) (same : SameBugs folder old new) where
  -- the same in files in which a bug has the same stored row
  reads_before : (bug : HeadEntry) (before after : ℕ) → stored_row new folder bug.id ≡ stored_row old folder bug.id → ReadsBug new folder bug before after → ReadsBug old folder bug before after
  reads_before bug before after rows reads = record {
    below = subst (λ (o : Objects). ReadsEach o (bug.name ∷ []) 3 before after) same.objects reads.below;
    current = λ row stored is. reads.current row (rows ∙ stored) is;
    above = λ row stored. subst (λ (o : Objects). ReadsChain bug_kind o bug.name row.head before after) same.objects (reads.above row (rows ∙ stored));
  }

-- one bug more
reads_push : (files : Files) (folder : List ℕ) (bugs : List HeadEntry) (bug : HeadEntry) (before mid after : ℕ) → ReadsBugs files folder bugs before mid → ReadsBug files folder bug mid after
    → ReadsBugs files folder (bugs ++ bug ∷ []) before after
reads_push files folder [] bug before mid after same reads = (after, subst (λ (n : ℕ). ReadsBug files folder bug n after) same reads, refl)
reads_push files folder (b ∷ bs) bug before mid after (n, first, rest) reads = (n, first, reads_push files folder bs bug n mid after rest reads)

-- ---- the refs of all bugs

-- in a list that ascends a later text is another
later_is_other : (xs : List (List ℕ)) (x : List ℕ) (ys : List (List ℕ)) → IsStrictlySortedBy (slice_cmp nat_cmp) (xs ++ x ∷ ys) → (y : List ℕ) → Contains ys y → x ≢ y
unfolding IsStrictlySortedBy
later_is_other [] x ys rising y has same =
    not_before_itself y (subst (λ (v : List ℕ). slice_cmp nat_cmp v y ≡ Less) same (All-contains (λ z. slice_cmp nat_cmp x z ≡ Less) ys y (All-from_recursion (λ z. slice_cmp nat_cmp x z ≡ Less) ys rising.0) has))
later_is_other (w ∷ xs) x ys rising y has same = later_is_other xs x ys rising.1 y has same

-- the first of a list that ascends ascend
front_rises : (xs ys : List (List ℕ)) → IsStrictlySortedBy (slice_cmp nat_cmp) (xs ++ ys) → IsStrictlySortedBy (slice_cmp nat_cmp) xs
unfolding IsStrictlySortedBy
front_rises [] ys rising = tt
front_rises (x ∷ xs) ys rising = (all_front (λ y. slice_cmp nat_cmp x y ≡ Less) xs ys rising.0, front_rises xs ys rising.1)
  where
    all_front : (P : List ℕ → Type 0) (xs ys : List (List ℕ)) → AllByRecursion P (xs ++ ys) → AllByRecursion P xs
    all_front P [] ys all = tt
    all_front P (x ∷ xs) ys all = (all.0, all_front P xs ys all.1)

-- the stored rows of these refs are as before
abbrev pub RestStays : List ℕ → Files → Files → List RefEntry → Type 0
RestStays folder old new rest = (entry : RefEntry) → Contains rest entry → stored_row new folder entry.id ≡ stored_row old folder entry.id

-- what was read for the first of some refs
pub record ReadsSome (files : Files) (folder : List ℕ) (entries : List RefEntry) (before after : ℕ) : Type 0 where
  pub bugs : List HeadEntry
  pub heads : map as_entry bugs ≡ entries
  pub reads : ReadsBugs files folder bugs before after

module _ (folder : List ℕ) (old mid new : History) (entries : List RefEntry) (are : IsRefList (files_of old) folder (dir_of side.Bugs) entries)
    (first : Wrote (IsRowWrite folder) old mid) (k : ℕ) (d : RefEntry) (lt : k < length entries) where
  abbrev entry : RefEntry
  entry = get_or entries k d

  abbrev rest : List RefEntry
  rest = drop (k + 1) entries

  parted : drop k entries ≡ entry ∷ rest
  parted = drop-cons entries k d lt ∙ ap (λ (n : ℕ). entry ∷ drop n entries) (sym (add-one k))

  -- the rows of later refs stay
  pub rest_more : RestStays folder (files_of old) (files_of mid) (drop k entries) → Wrote (IsRowWriteOf folder entry.id) mid new → RestStays folder (files_of old) (files_of new) rest
  rest_more stay wrote = λ other has.
      let all : Contains (drop k entries) other = subst (λ (es : List RefEntry). Contains es other) (sym parted) (Contains-later entry rest other has) in
      let member : Contains entries other = subst (λ (es : List RefEntry). Contains es other) (take-append-drop k entries) (Contains-append_right (take k entries) (drop k entries) other all) in
      let bytes : RefEntry → List ℕ = λ e. e.id.bytes in
      let rising : IsStrictlySortedBy (slice_cmp nat_cmp) (map bytes (take k entries) ++ bytes entry ∷ map bytes rest) =
      subst (IsStrictlySortedBy (slice_cmp nat_cmp)) (ap (map bytes) (split_at entries k d lt) ∙ map-append bytes (take k entries) (entry ∷ rest)) are.rising in
      other_rows_stay folder entry.id other.id ((are.members other).0 member).0
      (λ same. later_is_other (map bytes (take k entries)) (bytes entry) (map bytes rest) rising (bytes other) (Contains-map bytes rest other has) (ap (λ (id : Id). id.bytes) same)) mid new wrote
      ∙ stay other all

  -- a bug of the next ref reads as before
  next_reads : RestStays folder (files_of old) (files_of mid) (drop k entries) → (bug : HeadEntry) → as_entry bug ≡ entry → (at after : ℕ) → ReadsBug (files_of mid) folder bug at after → ReadsBug (files_of old) folder bug at after
  next_reads stay bug is at after reads =
      let has : Contains (drop k entries) (as_entry bug) = subst (λ (es : List RefEntry). Contains es (as_entry bug)) (sym (parted ∙ ap (λ (e : RefEntry). e ∷ rest) (sym is))) (Contains-first (as_entry bug) rest) in
      reads_before folder (files_of old) (files_of mid) (rows_leave_bugs folder old mid first) bug at after (stay (as_entry bug) has) reads

  more : (before at after : ℕ) (bug : HeadEntry) → as_entry bug ≡ entry → ReadsSome (files_of old) folder (take k entries) before at → ReadsBug (files_of old) folder bug at after
      → ReadsSome (files_of old) folder (take (k + 1) entries) before after
  more before at after bug is some reads = record {
    bugs = some.bugs ++ bug ∷ [];
    heads =
        map-append as_entry some.bugs (bug ∷ [])
        ∙ ap (λ (es : List RefEntry). es ++ as_entry bug ∷ []) some.heads
        ∙ ap (λ (e : RefEntry). take k entries ++ e ∷ []) is
        ∙ sym (take_more entries k d lt);
    reads = reads_push (files_of old) folder some.bugs bug before at after some.reads reads;
  }

  -- for the next ref too, whose bug is known
  pub reads_more : (before at after : ℕ) (bug : HeadEntry) → as_entry bug ≡ entry → RestStays folder (files_of old) (files_of mid) (drop k entries) → ReadsSome (files_of old) folder (take k entries) before at
      → ReadsRef (files_of mid) folder entry at after → ReadsSome (files_of old) folder (take (k + 1) entries) before after
  reads_more before at after bug is stay some (inl same) = more before at after bug is some (reads_nothing (files_of old) folder bug at after same)
  reads_more before at after bug is stay some (inr (one, also, reads)) = more before at after one also some (next_reads stay one also at after reads)

  -- or may be none
  pub reads_stop : (before at after : ℕ) → RestStays folder (files_of old) (files_of mid) (drop k entries) → ReadsSome (files_of old) folder (take k entries) before at
      → ReadsRef (files_of mid) folder entry at after → ReadsFirst (files_of old) folder entries before after
  reads_stop before at after stay some (inl same) = record {
    bugs = some.bugs;
    rest = drop k entries;
    are = sym (take-append-drop k entries) ∙ ap (λ (es : List RefEntry). es ++ drop k entries) (sym some.heads);
    reads = subst (ReadsBugs (files_of old) folder some.bugs before) (sym same) some.reads;
  }
  reads_stop before at after stay some (inr (one, also, reads)) =
      let all = more before at after one also some (next_reads stay one also at after reads) in
      record { bugs = all.bugs; rest = rest; are = sym (take-append-drop (k + 1) entries) ∙ ap (λ (es : List RefEntry). es ++ rest) (sym all.heads); reads = all.reads }

-- for some first refs
pub reads_first : (files : Files) (folder : List ℕ) (entries : List RefEntry) (k before after : ℕ) → ReadsSome files folder (take k entries) before after → ReadsFirst files folder entries before after
reads_first files folder entries k before after some = record {
  bugs = some.bugs;
  rest = drop k entries;
  are = sym (take-append-drop k entries) ∙ ap (λ (es : List RefEntry). es ++ drop k entries) (sym some.heads);
  reads = some.reads;
}

-- and so for some local bugs
reads_rows : (files : Files) (folder : List ℕ) (entries : List RefEntry) (before after : ℕ) → IsRefList files folder (dir_of side.Bugs) entries → ReadsFirst files folder entries before after
    → ReadsRows files folder before after
reads_rows files folder entries before after are first = record {
  bugs = first.bugs;
  rising =
      let bytes : RefEntry → List ℕ = λ e. e.id.bytes in
      subst (IsStrictlySortedBy (slice_cmp nat_cmp)) (map-map bytes as_entry first.bugs)
      (front_rises (map bytes (map as_entry first.bugs)) (map bytes first.rest)
      (subst (IsStrictlySortedBy (slice_cmp nat_cmp)) (ap (map bytes) first.are ∙ map-append bytes (map as_entry first.bugs) first.rest) are.rising));
  each = λ bug has.
      let member : Contains entries (as_entry bug) =
      subst (λ (es : List RefEntry). Contains es (as_entry bug)) (sym first.are) (Contains-append_left (map as_entry first.bugs) first.rest (as_entry bug) (Contains-map as_entry first.bugs bug has)) in
      head_of_found files folder bug (as_entry bug) refl ((are.members (as_entry bug)).0 member);
  reads = first.reads;
}

pub no_rows_read : (files : Files) (folder : List ℕ) (before after : ℕ) → after ≡ before → ReadsRows files folder before after
unfolding IsStrictlySortedBy
no_rows_read files folder before after same = record { bugs = []; rising = tt; each = λ bug has. absurd (omega (arith, has.1)); reads = same }

-- so where nothing was read or written before
pub reads_then : (folder : List ℕ) (old mid : History) (slice entries : List RefEntry) → mid ≡ old → slice ≡ entries → IsRefList (files_of old) folder (dir_of side.Bugs) entries
    → (before at after : ℕ) → at ≡ before → (IsRefList (files_of mid) folder (dir_of side.Bugs) slice → ReadsFirst (files_of mid) folder slice at after) → ReadsRows (files_of old) folder before after
reads_then folder old mid slice entries same equal are before at after none reads =
    let now : IsRefList (files_of mid) folder (dir_of side.Bugs) slice =
    subst (λ (es : List RefEntry). IsRefList (files_of mid) folder (dir_of side.Bugs) es) (sym equal) (subst (λ (h : History). IsRefList (files_of h) folder (dir_of side.Bugs) entries) (sym same) are) in
    subst (λ (n : ℕ). ReadsRows (files_of old) folder n after) none
    (subst (λ (h : History). ReadsRows (files_of h) folder at after) same (reads_rows (files_of mid) folder slice at after now (reads now)))
