-- What each write of a folder leaves of its objects, refs, user, clocks and rows.
use Rattle.std.proofs.Common.{◌≡◌, ◌≢◌, ◌≤◌, ◌⊎◌, inl, inr, ℕ, Bool, true, false, IsTrue, cond, List, [], ◌∷◌, ◌++◌, length, decimal, Option, Some, None, refl, sym, ◌∙◌, ap, subst, arith}
use Rattle.std.specs.Prelude.{nat_le, nat_lt, reverse}
use Rattle.std.proofs.lemmas.Bool.Decides.{nat_tests}
use Rattle.std.proofs.lemmas.Fmt.{length-decimal-le}
use Rattle.hex.specs.Hex.{encode_lower}
use Rattle.gb_text.specs.Decimal.{decimal_of}
use Rattle.gb_text.specs.Digits.{IsId, IsName, id_of}
use Rattle.gb_text.specs.Folder.{joined}
use Rattle.gb_text.specs.LineEnd.{line_of}
use Rattle.gb_text.specs.declared.id.Id.{Id}
use Rattle.gb_text.specs.declared.id.Name.{Name}
use Rattle.gb_text.proofs.DigitLemmas.{id_of-encode_lower}
use Rattle.gb_store.specs.Files.{Files, History, Put, files_of, written}
use Rattle.gb_store.specs.ObjectPath.{object_place}
use Rattle.gb_store.specs.declared.store.Change.{Change}
use Rattle.git_object.specs.Grammar.{object_name}
use Rattle.object_store.specs.Held.{objects_in}
use Rattle.object_store.specs.Puts.{object_write}
use Rattle.excerpt_cache.specs.Rows.{row_of_file, row_place, row_write}
use Rattle.excerpt_cache.proofs.RowLemmas.{row_at-other, row_at-written}
use Rattle.lamport.specs.Clock.{clock_of, number_of, seen_by}
use Rattle.lamport.specs.declared.clock.TheConstants.{CAP}
use Rattle.lamport.proofs.ClockLemmas.{clock_of-decimal}
use Rattle.ref_store.specs.Refs.{Ref, Head, packed_place, ref_at}
use Rattle.ref_store.specs.Setting.{ref_write}
use Rattle.ref_store.proofs.FrameLemmas.{loose_is_there, loose_ref, ref_at-other}
use Rattle.ref_store.proofs.MapLemmas.{joined-same, set_ref_reads, written-other, written-same}
use Rattle.ref_store.proofs.RefLemmas.{line_of-more}
use Rattle.ref_store.specs.declared.read.TheConstants.{MOST_BYTES}
use Rattle.repo_state.specs.Clocks.{clock_at, clock_in, clock_place, clock_write, see_writes}
use Rattle.repo_state.specs.Rows.{stored_row}
use Rattle.repo_state.specs.Sides.{has_ref, head_at, is_there, ref_place}
use Rattle.repo_state.specs.Users.{BadUser, User, id_line, local_user, user_at, user_of, user_place, user_write}
use Rattle.repo_state.specs.declared.clocks.ClockFile.{ClockFile}
use Rattle.repo_state.specs.declared.side.Side.{Side}
use Rattle.repo_state.specs.declared.side.Side.TheVariants as side
use Rattle.repo_state.proofs.PlaceLemmas.{clock-not_object, clock-not_packed, clock-not_user, clock-other, object-not_packed, ref-not_packed, row-not_packed, user-not_packed, ref-not_clock, ref-not_object, ref-not_row, ref-not_user, ref_place-same, ref_place-side, row-not_clock, row-not_object, row-not_user, same_or_other, user-not_object}
use Rattle.row_text.specs.Codec.{RowFits, row_codec, row_keeps_law}
use Rattle.row_text.specs.Rows.{row_text}
use Rattle.row_text.specs.declared.row.HeadRow.{HeadRow}

-- ---- objects

-- what stood stands where a write is of a path at which nothing stood
pub written-free : (files : Files) (change : Change) (path text : List ℕ) → files change.path ≡ None → files path ≡ Some text → written files change path ≡ Some text
written-free files change path text free stands = written-other files change path (λ e. cc (sym free ∙ ap files e ∙ stands)) ∙ stands

-- objects are the same function after the head of a ref was set
pub objects-ref_write : (files : Files) (folder : List ℕ) (of : Side) (id : Id) (head : Name) → objects_in (written files (ref_write folder (ref_place of id) head)) folder ≡ objects_in files folder
objects-ref_write files folder of id head =
    λ i name. written-other files (ref_write folder (ref_place of id) head) (joined folder (object_place name)) (ref-not_object folder of id name) i

-- and after the user was
pub objects-user_write : (files : Files) (folder : List ℕ) (user : Id) → objects_in (written files (user_write folder user)) folder ≡ objects_in files folder
objects-user_write files folder user = λ i name. written-other files (user_write folder user) (joined folder (object_place name)) (user-not_object folder name) i

-- and after a clock was
pub objects-clock_write : (files : Files) (folder : List ℕ) (which : ClockFile) (n : ℕ) → objects_in (written files (clock_write folder which n)) folder ≡ objects_in files folder
objects-clock_write files folder which n = λ i name. written-other files (clock_write folder which n) (joined folder (object_place name)) (clock-not_object folder which name) i

-- and after a row was
pub objects-row_write : (files : Files) (folder : List ℕ) (id : Id) (text : List ℕ) → objects_in (written files (row_write folder id text)) folder ≡ objects_in files folder
objects-row_write files folder id text = λ i name. written-other files (row_write folder id text) (joined folder (object_place name)) (row-not_object folder id name) i

-- ---- refs

-- a ref reads as before where a write is not of its path, nor of the packed refs
head_at-other : (files : Files) (change : Change) (folder : List ℕ) (of : Side) (id : Id) → change.path ≢ joined folder (ref_place of id) → change.path ≢ joined folder packed_place
    → head_at (written files change) folder of id ≡ head_at files folder of id
head_at-other files change folder of id = ref_at-other files change folder (ref_place of id)

-- a file that is put at the path of an object leaves each head
pub head_at-object_put : (files : Files) (folder text : List ℕ) (of : Side) (id : Id) (name : Name)
    → head_at (written files (Put (joined folder (object_place name)) text)) folder of id ≡ head_at files folder of id
head_at-object_put files folder text of id name =
    head_at-other files (Put (joined folder (object_place name)) text) folder of id (λ e. ref-not_object folder of id name (sym e)) (object-not_packed folder name)

-- so does a write of an object
pub head_at-object_write : (files : Files) (folder text : List ℕ) (of : Side) (id : Id) → head_at (written files (object_write folder text)) folder of id ≡ head_at files folder of id
head_at-object_write files folder text of id = head_at-object_put files folder text of id (object_name text)

-- and a write of the user
pub head_at-user_write : (files : Files) (folder : List ℕ) (of : Side) (id user : Id) → head_at (written files (user_write folder user)) folder of id ≡ head_at files folder of id
head_at-user_write files folder of id user = head_at-other files (user_write folder user) folder of id (λ e. ref-not_user folder of id (sym e)) (user-not_packed folder)

-- and a write of a clock
pub head_at-clock_write : (files : Files) (folder : List ℕ) (of : Side) (id : Id) (which : ClockFile) (n : ℕ) → head_at (written files (clock_write folder which n)) folder of id ≡ head_at files folder of id
head_at-clock_write files folder of id which n = head_at-other files (clock_write folder which n) folder of id (λ e. ref-not_clock folder of id which (sym e)) (clock-not_packed folder which)

-- and a write of a row
pub head_at-row_write : (files : Files) (folder : List ℕ) (of : Side) (id other : Id) (text : List ℕ) → head_at (written files (row_write folder other text)) folder of id ≡ head_at files folder of id
head_at-row_write files folder of id other text = head_at-other files (row_write folder other text) folder of id (λ e. ref-not_row folder of id other (sym e)) (row-not_packed folder other)

-- after a head was set, the ref of an id reads as before, or it is that one and reads as the head
pub head_at-ref_write : (files : Files) (folder : List ℕ) (of : Side) (id other : Id) (head : Name) → IsId id → IsId other → IsName head
    → (head_at (written files (ref_write folder (ref_place of id) head)) folder of other ≡ head_at files folder of other)
    ⊎ ((id ≡ other) × (head_at (written files (ref_write folder (ref_place of id) head)) folder of other ≡ Head head))
head_at-ref_write files folder of id other head is_id is_other is_head =
    elim (same_or_other (joined folder (ref_place of id)) (joined folder (ref_place of other))) [
      | inl path ↦
          let same = ref_place-same of id other is_id is_other (joined-same folder (ref_place of id) (ref_place of other) path) in
          inr (same, subst (λ (i : Id). head_at (written files (ref_write folder (ref_place of id) head)) folder of i ≡ Head head) same (set_ref_reads files folder (ref_place of id) head is_head))
      | inr differ ↦ inl (head_at-other files (ref_write folder (ref_place of id) head) folder of other differ (ref-not_packed folder of id))
    ]

-- a ref of another id reads as before
pub head_at-other_id : (files : Files) (folder : List ℕ) (of : Side) (id other : Id) (head : Name) → IsId id → IsId other → id ≢ other
    → head_at (written files (ref_write folder (ref_place of id) head)) folder of other ≡ head_at files folder of other
head_at-other_id files folder of id other head is_id is_other differ =
    head_at-other files (ref_write folder (ref_place of id) head) folder of other
    (λ e. differ (ref_place-same of id other is_id is_other (joined-same folder (ref_place of id) (ref_place of other) e))) (ref-not_packed folder of id)

-- and so does a ref of another side
pub head_at-other_side : (files : Files) (folder : List ℕ) (of on : Side) (id other : Id) (head : Name) → of ≢ on
    → head_at (written files (ref_write folder (ref_place of id) head)) folder on other ≡ head_at files folder on other
head_at-other_side files folder of on id other head differ =
    head_at-other files (ref_write folder (ref_place of id) head) folder on other
    (λ e. differ (ref_place-side of on id other (joined-same folder (ref_place of id) (ref_place on other) e))) (ref-not_packed folder of id)

-- ---- the user

-- a ref that exists still does after a put of another file than the packed refs
stands-put : (files : Files) (path bytes folder place : List ℕ) → path ≢ joined folder packed_place → IsTrue (is_there (ref_at files folder place))
    → IsTrue (is_there (ref_at (written files (Put path bytes)) folder place))
stands-put files path bytes folder place packed stands = elim (same_or_other path (joined folder place)) [
  | inl same ↦ ap is_there (loose_ref (written files (Put path bytes)) folder place bytes (ap (written files (Put path bytes)) (sym same) ∙ written-same files (Put path bytes))) ∙ loose_is_there bytes
  | inr differ ↦ ap is_there (ref_at-other files (Put path bytes) folder place differ packed) ∙ stands
]

-- the user is who it was where its file is the same and the refs that stood still stand, but for a file that names nobody
pub user_at-kept : (old new : Files) (folder : List ℕ) → new (joined folder user_place) ≡ old (joined folder user_place)
    → ((id : Id) → IsTrue (has_ref old folder side.Identities id) → IsTrue (has_ref new folder side.Identities id))
    → (user_at old folder ≡ BadUser → ⊥) → user_at new folder ≡ user_at old folder
user_at-kept old new folder same stand sound = ap (user_of new folder) same ∙ at_file (old (joined folder user_place)) sound
  where
    at_id : (o : Option Id) → (local_user old folder o ≡ BadUser → ⊥) → local_user new folder o ≡ local_user old folder o
    at_id None sound = refl
    at_id (Some id) sound = decide (has_ref old folder side.Identities id) refl
      where
        decide : (b : Bool) → has_ref old folder side.Identities id ≡ b → local_user new folder (Some id) ≡ local_user old folder (Some id)
        decide true h = rw (stand id h, h) refl
        decide false h = absurd (sound (rw h refl))

    at_file : (o : Option (List ℕ)) → (user_of old folder o ≡ BadUser → ⊥) → user_of new folder o ≡ user_of old folder o
    at_file None sound = refl
    at_file (Some text) sound = at_id (id_of (line_of text)) sound

-- a put of another path leaves the user who it was
pub user_at-put : (files : Files) (folder path bytes : List ℕ) → path ≢ joined folder user_place → path ≢ joined folder packed_place → (user_at files folder ≡ BadUser → ⊥)
    → user_at (written files (Put path bytes)) folder ≡ user_at files folder
user_at-put files folder path bytes other packed sound =
    user_at-kept files (written files (Put path bytes)) folder (written-other files (Put path bytes) (joined folder user_place) other)
    (λ id stands. stands-put files path bytes folder (ref_place side.Identities id) packed stands) sound

-- so does a head that is set
pub user_at-ref_write : (files : Files) (folder : List ℕ) (of : Side) (id : Id) (head : Name) → (user_at files folder ≡ BadUser → ⊥)
    → user_at (written files (ref_write folder (ref_place of id) head)) folder ≡ user_at files folder
user_at-ref_write files folder of id head = user_at-put files folder (joined folder (ref_place of id)) (encode_lower head.bytes ++ 10 ∷ []) (ref-not_user folder of id) (ref-not_packed folder of id)

-- the user that was set is the user, where its ref stands
pub user_at-set : (files : Files) (folder : List ℕ) (id : Id) → IsId id → IsTrue (has_ref files folder side.Identities id) → user_at (written files (user_write folder id)) folder ≡ User id
user_at-set files folder id is stands =
    ap (user_of (written files (user_write folder id)) folder) (written-same files (user_write folder id))
    ∙ ap (λ (text : List ℕ). local_user (written files (user_write folder id)) folder (id_of text)) (line_of-more (encode_lower id.bytes))
    ∙ ap (local_user (written files (user_write folder id)) folder) (id_of-encode_lower id is)
    ∙ ap (λ (b : Bool). cond b (User id) BadUser) still
  where
    still : IsTrue (has_ref (written files (user_write folder id)) folder side.Identities id)
    still = stands-put files (joined folder user_place) (id_line id) folder (ref_place side.Identities id) (user-not_packed folder) stands

-- the user is who it was, even one of whom no ref stands, where its file and the refs of identities are the same
pub user_at-same : (old new : Files) (folder : List ℕ) → new (joined folder user_place) ≡ old (joined folder user_place)
    → ((id : Id) → head_at new folder side.Identities id ≡ head_at old folder side.Identities id) → user_at new folder ≡ user_at old folder
user_at-same old new folder same heads = ap (user_of new folder) same ∙ at_file (old (joined folder user_place))
  where
    at_id : (o : Option Id) → local_user new folder o ≡ local_user old folder o
    at_id None = refl
    at_id (Some id) = ap (λ (ref : Ref). cond (is_there ref) (User id) BadUser) (heads id)

    at_file : (o : Option (List ℕ)) → user_of new folder o ≡ user_of old folder o
    at_file None = refl
    at_file (Some text) = at_id (id_of (line_of text))

-- so a write of a clock leaves the user
pub user_at-clock_write : (files : Files) (folder : List ℕ) (which : ClockFile) (n : ℕ) → user_at (written files (clock_write folder which n)) folder ≡ user_at files folder
user_at-clock_write files folder which n =
    user_at-same files (written files (clock_write folder which n)) folder (written-other files (clock_write folder which n) (joined folder user_place) (clock-not_user folder which))
    (λ id. head_at-clock_write files folder side.Identities id which n)

-- and a write of a row
pub user_at-row_write : (files : Files) (folder : List ℕ) (id : Id) (text : List ℕ) → user_at (written files (row_write folder id text)) folder ≡ user_at files folder
user_at-row_write files folder id text =
    user_at-same files (written files (row_write folder id text)) folder (written-other files (row_write folder id text) (joined folder user_place) (row-not_user folder id))
    (λ person. head_at-row_write files folder side.Identities person id text)

-- and a file that is put at the path of an object
pub user_at-object_put : (files : Files) (folder text : List ℕ) (name : Name) → user_at (written files (Put (joined folder (object_place name)) text)) folder ≡ user_at files folder
user_at-object_put files folder text name =
    user_at-same files (written files (Put (joined folder (object_place name)) text)) folder
    (written-other files (Put (joined folder (object_place name)) text) (joined folder user_place) (λ e. user-not_object folder name (sym e)))
    (λ id. head_at-object_put files folder text side.Identities id name)

-- and the head of another side than that of identities
pub user_at-other_side : (files : Files) (folder : List ℕ) (of : Side) (id : Id) (head : Name) → of ≢ side.Identities
    → user_at (written files (ref_write folder (ref_place of id) head)) folder ≡ user_at files folder
user_at-other_side files folder of id head other =
    user_at-same files (written files (ref_write folder (ref_place of id) head)) folder
    (written-other files (ref_write folder (ref_place of id) head) (joined folder user_place) (ref-not_user folder of id))
    (λ user. head_at-other_side files folder of side.Identities id user head other)

-- ---- clocks

-- a clock reads as before where a write is not of its path
clock_at-elsewhere : (files : Files) (change : Change) (folder : List ℕ) (which : ClockFile) → change.path ≢ joined folder (clock_place which)
    → clock_at (written files change) folder which ≡ clock_at files folder which
clock_at-elsewhere files change folder which other = ap clock_in (written-other files change (joined folder (clock_place which)) other)

-- a file that is put at the path of an object leaves each clock
pub clock_at-object_put : (files : Files) (folder text : List ℕ) (which : ClockFile) (name : Name)
    → clock_at (written files (Put (joined folder (object_place name)) text)) folder which ≡ clock_at files folder which
clock_at-object_put files folder text which name =
    clock_at-elsewhere files (Put (joined folder (object_place name)) text) folder which (λ e. clock-not_object folder which name (sym e))

-- so does a write of an object
pub clock_at-object_write : (files : Files) (folder text : List ℕ) (which : ClockFile) → clock_at (written files (object_write folder text)) folder which ≡ clock_at files folder which
clock_at-object_write files folder text which = clock_at-object_put files folder text which (object_name text)

-- and a head that is set
pub clock_at-ref_write : (files : Files) (folder : List ℕ) (of : Side) (id : Id) (head : Name) (which : ClockFile) → clock_at (written files (ref_write folder (ref_place of id) head)) folder which ≡ clock_at files folder which
clock_at-ref_write files folder of id head which = clock_at-elsewhere files (ref_write folder (ref_place of id) head) folder which (ref-not_clock folder of id which)

-- and a user
pub clock_at-user_write : (files : Files) (folder : List ℕ) (user : Id) (which : ClockFile) → clock_at (written files (user_write folder user)) folder which ≡ clock_at files folder which
clock_at-user_write files folder user which = clock_at-elsewhere files (user_write folder user) folder which (λ e. clock-not_user folder which (sym e))

-- and a row
pub clock_at-row_write : (files : Files) (folder : List ℕ) (id : Id) (text : List ℕ) (which : ClockFile) → clock_at (written files (row_write folder id text)) folder which ≡ clock_at files folder which
clock_at-row_write files folder id text which = clock_at-elsewhere files (row_write folder id text) folder which (row-not_clock folder id which)

-- and the other clock
pub clock_at-other : (files : Files) (folder : List ℕ) (which other : ClockFile) (n : ℕ) → which ≢ other → clock_at (written files (clock_write folder which n)) folder other ≡ clock_at files folder other
clock_at-other files folder which other n differ = clock_at-elsewhere files (clock_write folder which n) folder other (clock-other folder which other differ)

-- the decimal of a clock is short
clock_is_short : (n : ℕ) → n ≤ CAP → nat_le (length (decimal n)) MOST_BYTES ≡ true
clock_is_short n le =
    let few : length (decimal n) ≤ 20 = length-decimal-le 20 n (omega arith) (omega (arith, le)) (omega (arith, le)) in
    grind (arith, nat_tests, few)

-- a clock that was set to at most 2^62 reads as it was set
pub clock_at-set : (files : Files) (folder : List ℕ) (which : ClockFile) (n : ℕ) → n ≤ CAP → clock_at (written files (clock_write folder which n)) folder which ≡ n
clock_at-set files folder which n le =
    ap clock_in (written-same files (clock_write folder which n)) ∙ ap (λ (b : Bool). cond b (clock_of (decimal n)) 0) (clock_is_short n le) ∙ clock_of-decimal n le

-- a clock is at most 2^62
pub clock_at-capped : (files : Files) (folder : List ℕ) (which : ClockFile) → clock_at files folder which ≤ CAP
clock_at-capped files folder which = at_file (files (joined folder (clock_place which)))
  where
    at_number : (o : Option ℕ) → number_of o ≤ CAP
    at_number None = omega arith
    at_number (Some n) = omega arith

    decide : (text : List ℕ) (b : Bool) → cond b (clock_of text) 0 ≤ CAP
    decide text true = at_number (decimal_of (line_of text))
    decide text false = omega arith

    at_file : (o : Option (List ℕ)) → clock_in o ≤ CAP
    at_file None = omega arith
    at_file (Some text) = decide text (nat_le (length text) MOST_BYTES)

-- ---- rows

-- a stored row reads as before where its file is the same
pub stored_row-same : (old new : Files) (folder : List ℕ) (id : Id) → new (joined folder (row_place id)) ≡ old (joined folder (row_place id)) → stored_row new folder id ≡ stored_row old folder id
stored_row-same old new folder id same = ap (row_of_file row_codec) same

-- so where a write is not of its path
stored_row-elsewhere : (files : Files) (change : Change) (folder : List ℕ) (id : Id) → change.path ≢ joined folder (row_place id)
    → stored_row (written files change) folder id ≡ stored_row files folder id
stored_row-elsewhere files change folder id other = stored_row-same files (written files change) folder id (written-other files change (joined folder (row_place id)) other)

-- a file that is put at the path of an object leaves each stored row
pub stored_row-object_put : (files : Files) (folder text : List ℕ) (id : Id) (name : Name)
    → stored_row (written files (Put (joined folder (object_place name)) text)) folder id ≡ stored_row files folder id
stored_row-object_put files folder text id name =
    stored_row-elsewhere files (Put (joined folder (object_place name)) text) folder id (λ e. row-not_object folder id name (sym e))

-- so does a write of an object
pub stored_row-object_write : (files : Files) (folder text : List ℕ) (id : Id) → stored_row (written files (object_write folder text)) folder id ≡ stored_row files folder id
stored_row-object_write files folder text id = stored_row-object_put files folder text id (object_name text)

-- and a head that is set
pub stored_row-ref_write : (files : Files) (folder : List ℕ) (of : Side) (id other : Id) (head : Name)
    → stored_row (written files (ref_write folder (ref_place of id) head)) folder other ≡ stored_row files folder other
stored_row-ref_write files folder of id other head = stored_row-elsewhere files (ref_write folder (ref_place of id) head) folder other (ref-not_row folder of id other)

-- and a user
pub stored_row-user_write : (files : Files) (folder : List ℕ) (user id : Id) → stored_row (written files (user_write folder user)) folder id ≡ stored_row files folder id
stored_row-user_write files folder user id = stored_row-elsewhere files (user_write folder user) folder id (λ e. row-not_user folder id (sym e))

-- and a clock
pub stored_row-clock_write : (files : Files) (folder : List ℕ) (which : ClockFile) (n : ℕ) (id : Id) → stored_row (written files (clock_write folder which n)) folder id ≡ stored_row files folder id
stored_row-clock_write files folder which n id = stored_row-elsewhere files (clock_write folder which n) folder id (λ e. row-not_clock folder id which (sym e))

-- after a row that fits was written, the stored row of an id is as before, or the id is that one and the row is this one
pub stored_row-row_write : (files : Files) (folder : List ℕ) (id other : Id) (row : HeadRow) → IsId id → IsId other → RowFits row
    → (stored_row (written files (row_write folder id (row_text row))) folder other ≡ stored_row files folder other)
    ⊎ ((id ≡ other) × (stored_row (written files (row_write folder id (row_text row))) folder other ≡ Some row))
stored_row-row_write files folder id other row is_id is_other fits = elim (same_or_other id.bytes other.bytes) [
  | inl bytes ↦
      let same : id ≡ other = ap (λ (b : List ℕ). record { bytes = b }) bytes in
      inr (
        same,
        subst (λ (i : Id). stored_row (written files (row_write folder id (row_text row))) folder i ≡ Some row) same
            (row_at-written row_codec row_keeps_law files folder id row fits.rules fits.short),
      )
  | inr differ ↦ inl (row_at-other row_codec files folder (row_text row) id other is_id is_other (λ e. differ (ap (λ (i : Id). i.bytes) e)))
]

-- ---- a clock that sees a number

module _ (old : History) (folder : List ℕ) (which : ClockFile) (number : ℕ) where
  abbrev clock : ℕ
  clock = clock_at (files_of old) folder which

  abbrev seen : ℕ
  seen = seen_by clock number

  -- where it is written it reads as it was written, since no clock is above 2^62
  rose : clock_at (written (files_of old) (clock_write folder which seen)) folder which ≡ seen
  rose = clock_at-set (files_of old) folder which seen (omega (arith, clock_at-capped (files_of old) folder which))

  -- so it reads as one that has seen the number, also where nothing was written
  pub clock_at-seen : clock_at (files_of (reverse (see_writes folder which clock number) ++ old)) folder which ≡ seen
  clock_at-seen = decide (nat_lt clock seen) refl
    where
      decide : (b : Bool) → nat_lt clock seen ≡ b → clock_at (files_of (reverse (see_writes folder which clock number) ++ old)) folder which ≡ seen
      decide true h = rw h rose
      decide false h = rw h (grind (arith, nat_tests, h))
