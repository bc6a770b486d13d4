-- Paths of objects: their last parts are `objects`, two hexadecimal digits and thirty-eight.
use Rattle.std.specs.Prelude.{◌≡◌, ◌⊎◌, ℕ, ◌==◌, ◌&&◌, Bool, true, false, if◌then◌else◌, List, [], ◌∷◌, ◌++◌, length, take, drop, reverse, codes}
use Rattle.std.specs.List.{list_all}
use Rattle.std.specs.Str.{bytes_eq}
use Rattle.hex.specs.Hex.{encode_lower, is_hex_digit}
use Rattle.gb_text.specs.declared.id.Name.{Name}
use Rattle.gb_text.specs.Folder.{parts_of}
use Rattle.gb_store.specs.Counts.{raised}

-- so many hexadecimal digits, with letters of either case
abbrev pub is_digits : ℕ → List ℕ → Bool
is_digits n text = (length text == n) && list_all is_hex_digit text

-- the parts of a path, the last first, begin as those of an object's path
abbrev pub ends_as_object : List (List ℕ) → Bool
ends_as_object [] = false
ends_as_object (rest ∷ []) = false
ends_as_object (rest ∷ fan ∷ []) = false
ends_as_object (rest ∷ fan ∷ dir ∷ front) = is_digits 38 rest && (is_digits 2 fan && bytes_eq dir (codes "objects"))

-- the last three parts of the path are `objects`, two hexadecimal digits and thirty-eight
unfoldable pub is_object_path : List ℕ → Bool
is_object_path path = ends_as_object (reverse (parts_of path))

-- a count of object reads, after a read of a path
abbrev pub reads_after : List ℕ → ℕ → ℕ
reads_after path count = if is_object_path path then raised count else count

-- nothing, or what ends in a slash
abbrev pub IsFront : List ℕ → Type 0
IsFront front = (front ≡ []) ⊎ ((above : List ℕ) × (front ≡ above ++ codes "/"))

-- the path is a front, `objects/`, two digits, a slash and thirty-eight digits
pub record IsObjectPath (path : List ℕ) : Type 0 where
  pub front : List ℕ
  pub fan : List ℕ
  pub rest : List ℕ
  pub begins : IsFront front
  pub fan_digits : is_digits 2 fan ≡ true
  pub rest_digits : is_digits 38 rest ≡ true
  pub is : path ≡ front ++ codes "objects/" ++ fan ++ codes "/" ++ rest

-- where an object lies below its folder: `objects/`, the first two digits of its name, a slash and
-- the others
abbrev pub object_place : Name → List ℕ
object_place name = codes "objects/" ++ take 2 (encode_lower name.bytes) ++ codes "/" ++ drop 2 (encode_lower name.bytes)
