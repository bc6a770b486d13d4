-- The refs of ids directly in a directory of a folder.
use Rattle.std.specs.Prelude.{◌≡◌, ◌↔◌, ℕ, if◌then◌else◌, List, [], ◌∷◌, ◌++◌, map, Contains, IsTrue, Option, Some, None, option_and_then}
use Rattle.std.specs.Option.{option_map}
use Rattle.std.specs.Cmp.Lexicographic.{slice_cmp}
use Rattle.std.specs.List.Sorted.{IsStrictlySortedBy}
use Rattle.std.specs.Ordering.{nat_cmp, on}
use Rattle.std.specs.declared.cmp.Ordering.{Ordering}
use Rattle.std.specs.Str.{bytes_eq}
use Rattle.hex.specs.Hex.{encode_lower}
use Rattle.gb_text.specs.Digits.{IsId, id_of}
use Rattle.gb_text.specs.Folder.{joined}
use Rattle.gb_text.specs.declared.id.Id.{Id}
use Rattle.gb_store.specs.Files.{Files}
use Rattle.packed_refs.specs.declared.packed.PackedHead.{PackedHead}
use Rattle.ref_store.specs.Refs.{Ref, Absent, Head, Bad, is_there, ref_at, ref_of}
use Rattle.ref_store.specs.declared.listing.RefFound.{RefFound}
use Rattle.ref_store.specs.declared.listing.RefFound.TheVariants as found
use Rattle.ref_store.specs.declared.listing.RefEntry.{RefEntry}

-- where the ref of an id stands: its digits are the file's name in the dir
abbrev pub id_place : List ℕ → Id → List ℕ
id_place dir id = dir ++ 47 ∷ encode_lower id.bytes

-- what is found of a ref that stands
abbrev pub found_of : Ref → Option RefFound
found_of Absent = None
found_of (Head name) = Some (found.Head name)
found_of Bad = Some found.Bad

-- an entry for each id whose ref stands in the dir, each once, in the order of the ids' bytes
pub record IsRefList (files : Files) (folder dir : List ℕ) (entries : List RefEntry) : Type 0 where
  pub rising : IsStrictlySortedBy (slice_cmp nat_cmp) (map (λ (e : RefEntry). e.id.bytes) entries)
  pub members : (entry : RefEntry) → Contains entries entry ↔ (IsId entry.id × (found_of (ref_at files folder (id_place dir entry.id)) ≡ Some entry.found))

-- the ids whose refs exist in the dir, each once, in the order of their bytes
pub record IsIdList (files : Files) (folder dir : List ℕ) (ids : List Id) : Type 0 where
  pub rising : IsStrictlySortedBy (slice_cmp nat_cmp) (map (λ (id : Id). id.bytes) ids)
  pub members : (id : Id) → Contains ids id ↔ (IsId id × IsTrue (is_there (ref_at files folder (id_place dir id))))

-- ---- the loose refs, and the packed ones

-- the entry of an id, if its loose ref exists
abbrev pub loose_of : Files → List ℕ → List ℕ → Id → Option RefEntry
loose_of files folder dir id = option_map (λ f. record { id = id; found = f }) (found_of (ref_of (files (joined folder (id_place dir id)))))

-- the entry of a file's name, if that is an id whose loose ref exists
abbrev pub loose_named : Files → List ℕ → List ℕ → List ℕ → Option RefEntry
loose_named files folder dir name = option_and_then (loose_of files folder dir) (id_of name)

-- the entry of a packed ref
abbrev pub packed_entry : PackedHead → RefEntry
packed_entry one = record { id = one.id; found = found.Head one.head }

-- what entries say of an id, after one more: that counts where it is the id's
abbrev pub found_after : Id → Option RefFound → RefEntry → Option RefFound
found_after id before entry = if bytes_eq entry.id.bytes id.bytes then Some entry.found else before

-- what the last entry of an id says, or what was found before if there is none
unfoldable pub last_found : Id → Option RefFound → List RefEntry → Option RefFound
last_found id before [] = before
last_found id before (entry ∷ entries) = last_found id (found_after id before entry) entries

-- the last entry of each id, in the order of the ids' bytes
pub record AreLast (entries last : List RefEntry) : Type 0 where
  pub rising : IsStrictlySortedBy (slice_cmp nat_cmp) (map (λ (e : RefEntry). e.id.bytes) last)
  pub members : (entry : RefEntry) → Contains last entry ↔ (last_found entry.id None entries ≡ Some entry.found)

-- the ids of a list, each once, in the order of their bytes
pub record AreSorted (ids sorted : List Id) : Type 0 where
  pub rising : IsStrictlySortedBy (slice_cmp nat_cmp) (map (λ (id : Id). id.bytes) sorted)
  pub members : (id : Id) → Contains sorted id ↔ Contains ids id

-- ids are in byte order
abbrev pub id_cmp : Id → Id → Ordering
id_cmp = on (λ (id : Id). id.bytes) (slice_cmp nat_cmp)

-- an entry as a pair, and back
abbrev pub pair_of : RefEntry → Id × RefFound
pair_of entry = (entry.id, entry.found)

abbrev pub entry_of : Id × RefFound → RefEntry
entry_of pair = record { id = pair.0; found = pair.1 }
