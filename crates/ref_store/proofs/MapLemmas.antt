-- Refs are a map from paths to heads, beside the objects.
use Rattle.std.proofs.Common.{◌≡◌, ◌≢◌, ℕ, List, [], ◌∷◌, ◌++◌, refl, ◌∙◌, ap, arith}
use Rattle.std.specs.Prelude.{codes, slice_index}
use Rattle.hex.specs.Hex.{encode_lower}
use Rattle.gb_text.specs.Digits.{IsName}
use Rattle.gb_text.specs.Folder.{joined}
use Rattle.gb_text.specs.declared.id.Name.{Name}
use Rattle.gb_text.proofs.DigitLemmas.{name_of-encode_lower}
use Rattle.gb_text.proofs.PathLemmas.{joined-rest}
pub use Rattle.gb_text.proofs.PathLemmas.{joined-rest as joined-same}
pub use Rattle.gb_store.proofs.FrameLemmas.{written-same, written-other}
use Rattle.gb_store.specs.Files.{Files, written}
use Rattle.gb_store.specs.ObjectPath.{object_place}
use Rattle.ref_store.specs.Refs.{Head, packed_place, ref_at}
use Rattle.ref_store.specs.Setting.{ref_write}
use Rattle.ref_store.proofs.FrameLemmas.{loose_ref, ref_at-beside}
use Rattle.ref_store.proofs.RefLemmas.{reads_as_head}

-- a ref that was set reads as its head
pub set_ref_reads : (files : Files) (folder path : List ℕ) (head : Name) → IsName head → ref_at (written files (ref_write folder path head)) folder path ≡ Head head
set_ref_reads files folder path head is =
    loose_ref (written files (ref_write folder path head)) folder path (encode_lower head.bytes ++ 10 ∷ []) (written-same files (ref_write folder path head))
    ∙ reads_as_head (encode_lower head.bytes) head (name_of-encode_lower head is)

-- other refs stay
pub other_refs_stay : (files : Files) (folder path other : List ℕ) (head : Name) → path ≢ other → path ≢ packed_place
    → ref_at (written files (ref_write folder path head)) folder other ≡ ref_at files folder other
other_refs_stay files folder path other head differs packed = ref_at-beside files (ref_write folder path head) folder path other refl differs packed

ref_is_no_object : (folder rest : List ℕ) (name : Name) → joined folder (codes "refs/" ++ rest) ≢ joined folder (object_place name)
ref_is_no_object folder rest name e =
    let first : 114 ≡ 111 = ap (λ (t : List ℕ). slice_index t 0) (joined-rest folder (codes "refs/" ++ rest) (object_place name) e) in
    absurd (omega (arith, first))

-- objects stay
pub objects_stay : (files : Files) (folder rest : List ℕ) (head name : Name)
    → written files (ref_write folder (codes "refs/" ++ rest) head) (joined folder (object_place name)) ≡ files (joined folder (object_place name))
objects_stay files folder rest head name =
    written-other files (ref_write folder (codes "refs/" ++ rest) head) (joined folder (object_place name)) (ref_is_no_object folder rest name)
