-- The digits of an object's path.
use Rattle.std.proofs.Common.{◌≡◌, ℕ, true, List, ◌++◌}
use Rattle.std.proofs.lemmas.List.{append_cancel_left}
use Rattle.gb_text.specs.declared.id.Name.{Name}
use Rattle.gb_text.specs.Digits.{IsName}
use Rattle.gb_text.specs.Folder.{joint, joined}
use Rattle.gb_store.specs.ObjectPath.{is_object_path, object_place}
use Rattle.gb_store.proofs.FrameLemmas.{object_place-same}
use Rattle.gb_store.proofs.ObjectPathLemmas.{is_object_path-form, object_place-form}

-- the place of a name below a folder is the path of an object
pub object_path : (folder : List ℕ) (name : Name) → IsName name → is_object_path (joined folder (object_place name)) ≡ true
object_path folder name is = is_object_path-form (joined folder (object_place name)) (object_place-form folder name is)

-- one path is that of one name
pub path_name : (folder : List ℕ) (one two : Name) → IsName one → IsName two → joined folder (object_place one) ≡ joined folder (object_place two) → one ≡ two
path_name folder one two first second e =
    object_place-same one two first second (append_cancel_left (folder ++ joint folder) (object_place one) (object_place two) e)
