-- What refs and objects leave of one another, for any two folders.
use Rattle.std.proofs.Common.{◌≡◌, ◌≢◌, ℕ, true, false, IsTrue, Bool, if◌then◌else◌, List, [], Option, Some, None, refl, sym, ◌∙◌, ap, subst}
use Rattle.gb_text.specs.Digits.{IsId, IsName, name_of}
use Rattle.gb_text.specs.LineEnd.{line_of}
use Rattle.gb_text.specs.Folder.{is_rooted, joined}
use Rattle.gb_text.specs.Overlap.{Overlap}
use Rattle.gb_text.specs.declared.id.Id.{Id}
use Rattle.gb_text.specs.declared.id.Name.{Name}
use Rattle.gb_store.specs.Files.{Files, written}
use Rattle.gb_store.specs.ObjectPath.{is_object_path, object_place}
use Rattle.gb_store.specs.declared.store.Change.{Change}
use Rattle.gb_store.proofs.FrameLemmas.{written-other, written-apart, written-beside, written-no_object}
use Rattle.ref_store.specs.Listing.{id_place}
use Rattle.ref_store.specs.Refs.{Ref, Head, head_if, head_or_bad, is_long, is_there, or_packed, packed_at, packed_in, packed_place, packed_reads, reads_as_packed, ref_at, ref_of}
use Rattle.ref_store.specs.Setting.{ref_write}
use Rattle.gb_text.proofs.DigitLemmas.{name_of-is}
use Rattle.packed_refs.specs.Packed.{head_of, last_head, refs_in}
use Rattle.packed_refs.proofs.NameLemmas.{packed_head_is_name}
use Rattle.ref_store.proofs.IdPathLemmas.{id_place_is_no_object, object_is_not_packed}

-- ---- what a ref is read from

-- A ref is read from two files: its own, and that of packed refs. This is the one law of what leaves a ref as it was.
pub same_ref : (one two : Files) (folder path : List ℕ) → one (joined folder path) ≡ two (joined folder path) → one (joined folder packed_place) ≡ two (joined folder packed_place)
    → ref_at one folder path ≡ ref_at two folder path
unfolding ref_at
same_ref one two folder path loose packed =
    ap (λ (file : Option (List ℕ)). or_packed (ref_of file) (head_of path (packed_at one folder))) loose
    ∙ ap (λ (file : Option (List ℕ)). or_packed (ref_of (two (joined folder path))) (head_of path (packed_in file))) packed

-- a write at another place
pub ref_at-other : (files : Files) (change : Change) (folder path : List ℕ) → change.path ≢ joined folder path → change.path ≢ joined folder packed_place
    → ref_at (written files change) folder path ≡ ref_at files folder path
ref_at-other files change folder path loose packed =
    same_ref (written files change) files folder path (written-other files change (joined folder path) loose) (written-other files change (joined folder packed_place) packed)

-- a write beside both in the folder
pub ref_at-beside : (files : Files) (change : Change) (folder place path : List ℕ) → change.path ≡ joined folder place → place ≢ path → place ≢ packed_place
    → ref_at (written files change) folder path ≡ ref_at files folder path
ref_at-beside files change folder place path is loose packed =
    same_ref (written files change) files folder path (written-beside files change folder place path is loose) (written-beside files change folder place packed_place is packed)

-- a write below a folder that does not overlap
pub ref_at-write_apart : (files : Files) (change : Change) (folder other place path : List ℕ) → change.path ≡ joined other place → is_rooted place ≡ false → is_rooted path ≡ false
    → (Overlap folder other → ⊥) → ref_at (written files change) folder path ≡ ref_at files folder path
ref_at-write_apart files change folder other place path is plain also apart =
    same_ref (written files change) files folder path (written-apart files change folder other place path is plain also apart) (written-apart files change folder other place packed_place is plain refl apart)

-- the packed refs read as before after a write of another file
pub packed_reads-other : (files : Files) (change : Change) (folder : List ℕ) → change.path ≢ joined folder packed_place → packed_reads (written files change) folder ≡ packed_reads files folder
packed_reads-other files change folder other = ap reads_as_packed (written-other files change (joined folder packed_place) other)

-- what a loose ref reads as, and the packed refs, give the ref
pub by_loose : (files : Files) (folder path : List ℕ) (ref : Ref) → ref_of (files (joined folder path)) ≡ ref → ref_at files folder path ≡ or_packed ref (head_of path (packed_at files folder))
unfolding ref_at
by_loose files folder path ref is = ap (λ (loose : Ref). or_packed loose (head_of path (packed_at files folder))) is

-- a loose ref counts where its file exists
pub loose_ref : (files : Files) (folder path text : List ℕ) → files (joined folder path) ≡ Some text → ref_at files folder path ≡ ref_of (Some text)
unfolding ref_at
loose_ref files folder path text is = ap (λ (file : Option (List ℕ)). or_packed (ref_of file) (head_of path (packed_at files folder))) is ∙ by (name_of (line_of text))
  where
    by : (o : Option Name) → or_packed (head_or_bad o) (head_of path (packed_at files folder)) ≡ head_or_bad o
    by None = refl
    by (Some name) = refl

-- and then it exists
pub loose_is_there : (text : List ℕ) → is_there (ref_of (Some text)) ≡ true
loose_is_there text = by (name_of (line_of text))
  where
    by : (o : Option Name) → is_there (head_or_bad o) ≡ true
    by None = refl
    by (Some name) = refl

-- no line has a name where there is none
pub none_named : (path : List ℕ) → head_of path [] ≡ None
unfolding last_head
none_named path = refl

-- and the last line with its name where none does
pub packed_ref : (files : Files) (folder path : List ℕ) → files (joined folder path) ≡ None → ref_at files folder path ≡ head_if (head_of path (packed_at files folder))
unfolding ref_at
packed_ref files folder path is = ap (λ (file : Option (List ℕ)). or_packed (ref_of file) (head_of path (packed_at files folder))) is

-- what a ref names is the name of an object
pub head_is_name : (files : Files) (folder path : List ℕ) (head : Name) → ref_at files folder path ≡ Head head → IsName head
head_is_name files folder path head is = by (files (joined folder path)) refl
  where
    loose : (text : List ℕ) (o : Option Name) → name_of (line_of text) ≡ o → head_or_bad o ≡ Head head → IsName head
    loose text None at e = absurd cc
    loose text (Some name) at e = let same : name ≡ head = cc in subst IsName same (name_of-is (line_of text) name at).0

    packed : (file : Option (List ℕ)) → head_if (head_of path (packed_in file)) ≡ Head head → IsName head
    packed None e = absurd (cc (sym (ap head_if (none_named path)) ∙ e))
    packed (Some text) e = read (is_long text) e
      where
        some : (o : Option Name) → head_if o ≡ Head head → o ≡ Some head
        some None e = absurd cc
        some (Some name) e = cc

        read : (b : Bool) → head_if (head_of path (if b then [] else refs_in text)) ≡ Head head → IsName head
        read true e = absurd (cc (sym (ap head_if (none_named path)) ∙ e))
        read false e = packed_head_is_name path text head (some (head_of path (refs_in text)) e)

    by : (file : Option (List ℕ)) → files (joined folder path) ≡ file → IsName head
    by (Some text) at = loose text (name_of (line_of text)) refl (sym (loose_ref files folder path text at) ∙ is)
    by None at = packed (files (joined folder packed_place)) (sym (packed_ref files folder path at) ∙ is)

-- ---- refs and objects

-- a ref at a path that is no object's
pub ref-no_object : (files : Files) (folder other path : List ℕ) (head name : Name) → is_object_path (joined folder path) ≡ false → IsName name
    → written files (ref_write folder path head) (joined other (object_place name)) ≡ files (joined other (object_place name))
ref-no_object files folder other path head name none is = written-no_object files (ref_write folder path head) other name none is

-- the ref of an id
pub id_ref-no_object : (files : Files) (folder other dir : List ℕ) (id : Id) (head name : Name) → IsId id → IsName name
    → written files (ref_write folder (id_place dir id) head) (joined other (object_place name)) ≡ files (joined other (object_place name))
id_ref-no_object files folder other dir id head name sized is = ref-no_object files folder other (id_place dir id) head name (id_place_is_no_object folder dir id sized) is

-- a write of an object
pub ref_at-object : (files : Files) (change : Change) (folder path : List ℕ) → IsTrue (is_object_path change.path) → is_object_path (joined folder path) ≡ false
    → ref_at (written files change) folder path ≡ ref_at files folder path
ref_at-object files change folder path object none =
    ref_at-other files change folder path (λ same. let no : is_object_path change.path ≡ false = ap is_object_path same ∙ none in cc (object, no))
    (λ same. object_is_not_packed folder change.path object same)

-- the same of the ref of an id
pub id_ref_at-object : (files : Files) (change : Change) (folder dir : List ℕ) (id : Id) → IsTrue (is_object_path change.path) → IsId id
    → ref_at (written files change) folder (id_place dir id) ≡ ref_at files folder (id_place dir id)
id_ref_at-object files change folder dir id object sized = ref_at-object files change folder (id_place dir id) object (id_place_is_no_object folder dir id sized)

-- a ref of a folder that does not overlap
pub ref_at-apart : (files : Files) (folder other path place : List ℕ) (head : Name) → is_rooted path ≡ false → is_rooted place ≡ false → (Overlap folder other → ⊥)
    → ref_at (written files (ref_write other place head)) folder path ≡ ref_at files folder path
ref_at-apart files folder other path place head plain also apart =
    ref_at-write_apart files (ref_write other place head) folder other place path refl also plain apart
