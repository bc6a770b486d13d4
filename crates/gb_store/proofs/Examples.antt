-- Worked examples of the definitions, computed.
use Rattle.std.specs.Prelude.{◌≡◌, codes, [], ◌∷◌, Some, None, true, false}
use Rattle.std.proofs.Common.{refl}
use Rattle.gb_store.specs.Counts.{raised}
use Rattle.gb_store.specs.Files.{Put, Removed, file_at}
use Rattle.gb_store.specs.MemIndex.{name_below}
use Rattle.gb_store.specs.MemStore.{fail_at}
use Rattle.gb_store.specs.ObjectPath.{is_object_path}

-- what stands at a path: the newest write of it
file_none : file_at [] (codes "a") ≡ None
file_none = refl

file_newest : file_at (Put (codes "a") (codes "2") ∷ Put (codes "a") (codes "1") ∷ []) (codes "a") ≡ Some (codes "2")
file_newest = refl

file_other : file_at (Put (codes "ab") (codes "2") ∷ Put (codes "a") (codes "1") ∷ []) (codes "a") ≡ Some (codes "1")
file_other = refl

file_removed : file_at (Removed (codes "a") ∷ Put (codes "a") (codes "1") ∷ []) (codes "a") ≡ None
file_removed = refl

file_put_again : file_at (Put (codes "a") [] ∷ Removed (codes "a") ∷ []) (codes "a") ≡ Some []
file_put_again = refl

-- names right in a folder
below_name : name_below (codes "d") (codes "d/a") ≡ Some (codes "a")
below_name = refl

below_deeper : name_below (codes "d") (codes "d/a/b") ≡ None
below_deeper = refl

below_longer_dir : name_below (codes "d") (codes "da/a") ≡ None
below_longer_dir = refl

below_itself : name_below (codes "d") (codes "d") ≡ None
below_itself = refl

below_empty_name : name_below (codes "d") (codes "d/") ≡ Some []
below_empty_name = refl

-- counts, which stand still at their last value
count_one : raised 0 ≡ 1
count_one = refl

count_last : raised 18446744073709551614 ≡ 18446744073709551615
count_last = refl

count_stands : raised 18446744073709551615 ≡ 18446744073709551615
count_stands = refl

-- calls that fail: the first entry decides
fail_none : fail_at 0 [] ≡ None
fail_none = refl

fail_first : fail_at 3 (record { call = 3; after = true } ∷ record { call = 3; after = false } ∷ []) ≡ Some true
fail_first = refl

fail_other : fail_at 2 (record { call = 3; after = true } ∷ []) ≡ None
fail_other = refl

-- paths of objects
object_path : is_object_path (codes "objects/ab/01234567890123456789012345678901234567") ≡ true
unfolding is_object_path
object_path = refl

object_path_below : is_object_path (codes "/a/b/objects/ab/01234567890123456789012345678901234567") ≡ true
unfolding is_object_path
object_path_below = refl

object_path_upper_case : is_object_path (codes "objects/AB/01234567890123456789012345678901234567") ≡ true
unfolding is_object_path
object_path_upper_case = refl

object_path_other_dir : is_object_path (codes "xobjects/ab/01234567890123456789012345678901234567") ≡ false
unfolding is_object_path
object_path_other_dir = refl

object_path_one_digit : is_object_path (codes "objects/a/01234567890123456789012345678901234567") ≡ false
unfolding is_object_path
object_path_one_digit = refl

object_path_short : is_object_path (codes "objects/ab/0123456789012345678901234567890123456") ≡ false
unfolding is_object_path
object_path_short = refl

object_path_long : is_object_path (codes "objects/ab/012345678901234567890123456789012345670") ≡ false
unfolding is_object_path
object_path_long = refl

object_path_other_digit : is_object_path (codes "objects/ab/0123456789012345678901234567890123456g") ≡ false
unfolding is_object_path
object_path_other_digit = refl

object_path_more : is_object_path (codes "objects/ab/01234567890123456789012345678901234567/") ≡ false
unfolding is_object_path
object_path_more = refl

object_path_of_nothing : is_object_path [] ≡ false
unfolding is_object_path
object_path_of_nothing = refl
