-- What the write of a row leaves, and what it is read as.
use Rattle.std.proofs.Common.{◌≡◌, ◌≢◌, ℕ, Bool, true, false, List, Some, None, IsTrue, refl, sym, ◌∙◌, ap, if◌then◌else◌, [], length, ◌≤◌, le-leb}
use Rattle.gb_text.specs.Digits.{IsId, IsName}
use Rattle.gb_text.specs.Folder.{is_rooted, joined}
use Rattle.gb_text.specs.Overlap.{Overlap}
use Rattle.gb_text.specs.declared.id.Id.{Id}
use Rattle.gb_text.specs.declared.id.Name.{Name}
use Rattle.gb_text.proofs.PathLemmas.{joined-rest}
use Rattle.gb_store.specs.Files.{Files, History, Put, written}
use Rattle.gb_store.specs.Moments.{MaybeWrote, WroteByIf, WroteIf}
use Rattle.gb_store.proofs.MomentLemmas.{WroteIf_one}
use Rattle.gb_store.specs.ObjectPath.{is_object_path, object_place}
use Rattle.gb_store.specs.declared.store.Change.{Change}
use Rattle.gb_store.proofs.FrameLemmas.{written-same, written-other, written-apart, written-no_object}
use Rattle.excerpt_cache.specs.Codec.{Codec, KeepsLaw}
use Rattle.excerpt_cache.specs.declared.read.TheConstants.{MOST_BYTES}
use Rattle.excerpt_cache.specs.Rows.{IsInCache, PutsRow, is_short, row_at, row_of_file, row_place, row_write}
use Rattle.excerpt_cache.proofs.PlaceLemmas.{row_place-in_cache, row_paths-differ, row_place_is_no_object}

-- a row that was written is read
pub row_at-written : {Row : Type 0} (codec : Codec Row) (law : KeepsLaw codec) (files : Files) (folder : List ℕ) (id : Id) (row : Row)
    → codec.KeepsRules row → is_short (codec.written row) ≡ true
    → row_at codec (written files (row_write folder id (codec.written row))) folder id ≡ Some row
row_at-written codec law files folder id row keeps short =
    ap (row_of_file codec) (written-same files (row_write folder id (codec.written row)))
    ∙ ap (λ (b : Bool). if b then codec.read_as (codec.written row) else None) short
    ∙ law.reads_back row keeps

-- rows of other ids stay
pub row_at-other : {Row : Type 0} (codec : Codec Row) (files : Files) (folder text : List ℕ) (id other : Id) → IsId id → IsId other → id ≢ other
    → row_at codec (written files (row_write folder id text)) folder other ≡ row_at codec files folder other
row_at-other codec files folder text id other first second differ =
    ap (row_of_file codec) (written-other files (row_write folder id text) (joined folder (row_place other)) (row_paths-differ folder id other first second differ))

-- places outside the cache stay
pub row_write-other : (files : Files) (folder text place : List ℕ) (id : Id) → (IsInCache place → ⊥)
    → written files (row_write folder id text) (joined folder place) ≡ files (joined folder place)
row_write-other files folder text place id out =
    written-other files (row_write folder id text) (joined folder place)
    (λ e. let same : row_place id ≡ place = joined-rest folder (row_place id) place e in let at = row_place-in_cache id in out (at.0, sym same ∙ at.1))

-- and a write there leaves rows
pub row_at-beside : {Row : Type 0} (codec : Codec Row) (files : Files) (change : Change) (folder place : List ℕ) (id : Id)
    → change.path ≡ joined folder place → (IsInCache place → ⊥) → row_at codec (written files change) folder id ≡ row_at codec files folder id
row_at-beside codec files change folder place id is out =
    ap (row_of_file codec) (written-other files change (joined folder (row_place id))
    (λ e. let same : place ≡ row_place id = joined-rest folder place (row_place id) (sym is ∙ e) in let at = row_place-in_cache id in out (at.0, same ∙ at.1)))

-- objects stay
pub row_write-object : (files : Files) (folder other text : List ℕ) (id : Id) (name : Name) → IsId id → IsName name
    → written files (row_write folder id text) (joined other (object_place name)) ≡ files (joined other (object_place name))
row_write-object files folder other text id name is named =
    written-no_object files (row_write folder id text) other name (row_place_is_no_object folder id is) named

-- and a write of an object leaves rows
pub row_at-object : {Row : Type 0} (codec : Codec Row) (files : Files) (change : Change) (folder : List ℕ) (id : Id)
    → IsTrue (is_object_path change.path) → IsId id → row_at codec (written files change) folder id ≡ row_at codec files folder id
row_at-object codec files change folder id object is =
    ap (row_of_file codec) (written-other files change (joined folder (row_place id))
    (λ same. let no : is_object_path change.path ≡ false = ap is_object_path same ∙ row_place_is_no_object folder id is in cc (object, no)))

-- files of folders that do not overlap stay
pub row_write-apart : (files : Files) (folder other text place : List ℕ) (id : Id) → is_rooted place ≡ false → (Overlap folder other → ⊥)
    → written files (row_write other id text) (joined folder place) ≡ files (joined folder place)
row_write-apart files folder other text place id plain apart =
    written-apart files (row_write other id text) folder other (row_place id) place refl refl plain apart

-- ---- what a call writes

-- a text within the limit that was put at its place, or not
pub wrote_row : (tells : Bool) (folder path text bytes : List ℕ) (id : Id) (old new : History) → path ≡ joined folder (row_place id) → bytes ≡ text → length bytes ≤ MOST_BYTES
    → (IsTrue tells → MaybeWrote (Put path bytes) old new) → WroteIf tells (λ files change. PutsRow folder id text files change) old new
wrote_row tells folder path text bytes id old new place same short made =
    WroteIf_one tells (λ files change. PutsRow folder id text files change) (Put path bytes) old new
    (λ t. record { is = ap (λ (p : List ℕ). Put p bytes) place ∙ ap (Put (joined folder (row_place id))) same; short = ap is_short (sym same) ∙ le-leb (length bytes) MOST_BYTES short })
    made

-- no write
pub wrote_none : (tells : Bool) (Rule : History → List Change → Change → Type 0) (old new : History) → new ≡ old → WroteByIf tells Rule old new
wrote_none tells Rule old new same = record { wrote = λ t. record { writes = []; grew = same; each = tt } }
