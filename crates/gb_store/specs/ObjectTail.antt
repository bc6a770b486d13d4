-- Paths of objects, as they are tested: by the last 49 bytes alone.
use Rattle.std.specs.Prelude.{ℕ, ◌-◌, ◌==◌, ◌&&◌, ◌||◌, nat_le, Bool, List, length, take, drop, slice_index, codes}
use Rattle.std.specs.List.{list_all}
use Rattle.std.specs.Str.{bytes_eq}
use Rattle.hex.specs.Hex.{is_hex_digit}

-- 49 bytes that are `objects/`, two digits, a slash and digits
abbrev pub is_object_tail : List ℕ → Bool
is_object_tail tail =
    bytes_eq (take 8 tail) (codes "objects/") && (list_all is_hex_digit (take 2 (drop 8 tail))
    && ((slice_index tail 10 == 47) && list_all is_hex_digit (drop 11 tail)))

-- the path ends in such bytes, which begin a part
abbrev pub has_object_tail : List ℕ → Bool
has_object_tail path =
    nat_le 49 (length path) && (((length path == 49) || (slice_index path (length path - 50) == 47))
    && is_object_tail (drop (length path - 49) path))
