-- The texts of packs: an author, and the texts of operations unchanged.
use Rattle.std.specs.Prelude.{◌≡◌, ℕ, List, [], codes, Option, Some, None, option_and_then, if◌then◌else◌}
use Rattle.std.specs.Str.{bytes_eq, is_utf8, IsUtf8}
use Rattle.gb_text.specs.declared.id.Id.{Id}
use Rattle.git_object.specs.declared.tree.Tree.{Tree}
use Rattle.json_span.specs.Parts.{elements_of}
use Rattle.op_kind.specs.Forms.{id_at}
use Rattle.op_kind.specs.Members.{Fields, fields_at, values_of, only_value, value_or}
use Rattle.op_pack.specs.Heads.{head_of}
use Rattle.op_pack.specs.declared.head.TreeHead.{TreeHead}

-- the id of an author's members: they have just one `id`, and it is an id
abbrev pub id_in : Fields → Option Id
id_in fields = only_value id_at (values_of (codes "id") fields)

-- the author that a value stands for: an object with just one member `id`, an id
unfoldable pub author_at : List ℕ → Option Id
author_at value = option_and_then id_in (fields_at value)

-- the operations' texts that a value stands for: none for null, and else the elements of an array as they stand
unfoldable pub slices_at : List ℕ → Option (List (List ℕ))
slices_at value = if bytes_eq value (codes "null") then Some [] else elements_of value

-- the author of a pack's members: they have just one `author`
abbrev pub author_of : Fields → Option Id
author_of fields = only_value author_at (values_of (codes "author") fields)

-- the operations' texts of a pack's members: they have at most one `ops`, and none is as an empty array
abbrev pub slices_of : Fields → Option (List (List ℕ))
slices_of fields = value_or [] slices_at (values_of (codes "ops") fields)

-- The text is that of a pack with this author and these texts of operations, as they stand in it: UTF-8, and an object with just one `author` and at most one `ops`.
pub record IsPackText (text : List ℕ) (author : Id) (slices : List (List ℕ)) : Type 0 where
  pub utf8 : IsUtf8 text
  pub fields : Fields
  pub object : fields_at text ≡ Some fields
  pub author_is : author_of fields ≡ Some author
  pub slices_are : slices_of fields ≡ Some slices

-- A tree and the text of its file `ops` are a pack with this head, this author and these texts of operations.
pub record IsPack (tree : Tree) (text : List ℕ) (head : TreeHead) (author : Id) (slices : List (List ℕ)) : Type 0 where
  pub head_is : head_of tree ≡ Some head
  pub text_is : IsPackText text author slices

-- ---- as a function

-- both, if each is there
abbrev pub both : Option Id → Option (List (List ℕ)) → Option (Id × List (List ℕ))
both None _ = None
both (Some author) None = None
both (Some author) (Some slices) = Some (author, slices)

-- the author and the operations' texts of a pack's members
abbrev pub parts_of : Fields → Option (Id × List (List ℕ))
parts_of fields = both (author_of fields) (slices_of fields)

-- The author and the operations' texts of a pack text, or None where the text is no pack text.
unfoldable pub parts_at : List ℕ → Option (Id × List (List ℕ))
parts_at text = if is_utf8 text then option_and_then parts_of (fields_at text) else None
