-- Worked examples of the definitions, computed.
use Rattle.std.specs.Prelude.{◌≡◌, ⊤, codes, [], ◌∷◌, Some, None}
use Rattle.std.specs.Fmt.{digits}
use Rattle.std.specs.Str.{chars, is_utf8}
use Rattle.std.proofs.Common.{refl}
use Rattle.hex.proofs.OnLiterals.{hex_on_literals}
use Rattle.gb_text.specs.declared.id.Id.{Id}
use Rattle.gb_text.specs.declared.id.Name.{Name}
use Rattle.git_object.specs.declared.entry.Mode.TheVariants.{Exec, Folder, Link}
use Rattle.op_kind.proofs.Examples.{op_kind_on_literals}
use Rattle.op_kind.specs.Forms.{elements_at}
use Rattle.op_pack.specs.Heads.{clock_at, edit_clock_of, create_clock_of, ops_of, plain_entry, version_of}
use Rattle.op_pack.specs.Texts.{author_at, parts_at, slices_at}

-- what an answer unfolds to compute the readers on a literal
unfoldable pub op_pack_on_literals : ⊤
unfolding digits chars is_utf8 hex_on_literals op_kind_on_literals elements_at author_at parts_at slices_at
op_pack_on_literals = tt

-- the id of 32 bytes 10, and the name of the blob of no bytes
abbrev author : Id
author = record { bytes = 10 ∷ 10 ∷ 10 ∷ 10 ∷ 10 ∷ 10 ∷ 10 ∷ 10 ∷ 10 ∷ 10 ∷ 10 ∷ 10 ∷ 10 ∷ 10 ∷ 10 ∷ 10 ∷ 10 ∷ 10 ∷ 10 ∷ 10 ∷ 10 ∷ 10 ∷ 10 ∷ 10 ∷ 10 ∷ 10 ∷ 10 ∷ 10 ∷ 10 ∷ 10 ∷ 10 ∷ 10 ∷ [] }

abbrev blob : Name
blob = record { bytes = 230 ∷ 157 ∷ 226 ∷ 155 ∷ 178 ∷ 209 ∷ 214 ∷ 67 ∷ 75 ∷ 139 ∷ 41 ∷ 174 ∷ 119 ∷ 90 ∷ 216 ∷ 194 ∷ 228 ∷ 140 ∷ 83 ∷ 145 ∷ [] }

-- what the names of a tree's entries say
clock_least : clock_at (codes "1") ≡ Some 1
unfolding op_pack_on_literals
clock_least = refl

clock_zero : clock_at (codes "0") ≡ None
unfolding op_pack_on_literals
clock_zero = refl

clock_greatest : clock_at (codes "9223372036854775807") ≡ Some 9223372036854775807
unfolding op_pack_on_literals
clock_greatest = refl

clock_one_more : clock_at (codes "9223372036854775808") ≡ None
unfolding op_pack_on_literals
clock_one_more = refl

clock_leading_zero : clock_at (codes "01") ≡ None
unfolding op_pack_on_literals
clock_leading_zero = refl

edit_clock_one : edit_clock_of (record { entries = plain_entry (codes "ops") blob ∷ plain_entry (codes "edit-clock-7") blob ∷ [] }) ≡ Some 7
unfolding op_pack_on_literals
edit_clock_one = refl

edit_clock_none : edit_clock_of (record { entries = plain_entry (codes "ops") blob ∷ [] }) ≡ None
unfolding op_pack_on_literals
edit_clock_none = refl

edit_clock_two : edit_clock_of (record { entries = plain_entry (codes "edit-clock-7") blob ∷ plain_entry (codes "edit-clock-8") blob ∷ [] }) ≡ None
unfolding op_pack_on_literals
edit_clock_two = refl

edit_clock_of_a_root : edit_clock_of (record { entries = plain_entry (codes "create-clock-7") blob ∷ [] }) ≡ None
unfolding op_pack_on_literals
edit_clock_of_a_root = refl

create_clock_none : create_clock_of (record { entries = plain_entry (codes "edit-clock-7") blob ∷ [] }) ≡ Some None
unfolding op_pack_on_literals
create_clock_none = refl

create_clock_one : create_clock_of (record { entries = plain_entry (codes "create-clock-7") blob ∷ [] }) ≡ Some (Some 7)
unfolding op_pack_on_literals
create_clock_one = refl

create_clock_bad : create_clock_of (record { entries = plain_entry (codes "create-clock-x") blob ∷ [] }) ≡ None
unfolding op_pack_on_literals
create_clock_bad = refl

version_4 : version_of (record { entries = plain_entry (codes "version-4") blob ∷ [] }) ≡ Some 4
unfolding op_pack_on_literals
version_4 = refl

version_3 : version_of (record { entries = plain_entry (codes "version-3") blob ∷ [] }) ≡ None
unfolding op_pack_on_literals
version_3 = refl

version_04 : version_of (record { entries = plain_entry (codes "version-04") blob ∷ [] }) ≡ None
unfolding op_pack_on_literals
version_04 = refl

ops_exec : ops_of (record { entries = record { mode = Exec; name = codes "ops"; object = blob } ∷ [] }) ≡ Some blob
unfolding op_pack_on_literals
ops_exec = refl

ops_link : ops_of (record { entries = record { mode = Link; name = codes "ops"; object = blob } ∷ [] }) ≡ None
unfolding op_pack_on_literals
ops_link = refl

ops_folder : ops_of (record { entries = record { mode = Folder; name = codes "ops"; object = blob } ∷ [] }) ≡ None
unfolding op_pack_on_literals
ops_folder = refl

-- pack texts
pack_no_ops : parts_at (codes "{\"author\":{\"id\":\"0a0a0a0a0a0a0a0a0a0a0a0a0a0a0a0a0a0a0a0a0a0a0a0a0a0a0a0a0a0a0a0a\"}}") ≡ Some (author, [])
unfolding op_pack_on_literals
pack_no_ops = refl

pack_null : parts_at (codes "{\"author\":{\"id\":\"0a0a0a0a0a0a0a0a0a0a0a0a0a0a0a0a0a0a0a0a0a0a0a0a0a0a0a0a0a0a0a0a\"},\"ops\":null}") ≡ Some (author, [])
unfolding op_pack_on_literals
pack_null = refl

pack_two : parts_at (codes "{\"author\":{\"id\":\"0a0a0a0a0a0a0a0a0a0a0a0a0a0a0a0a0a0a0a0a0a0a0a0a0a0a0a0a0a0a0a0a\"},\"ops\":[ {} ,1]}") ≡ Some (author, codes "{}" ∷ codes "1" ∷ [])
unfolding op_pack_on_literals
pack_two = refl

pack_other_member : parts_at (codes "{\"x\":1,\"x\":2,\"author\":{\"id\":\"0a0a0a0a0a0a0a0a0a0a0a0a0a0a0a0a0a0a0a0a0a0a0a0a0a0a0a0a0a0a0a0a\"}}") ≡ Some (author, [])
unfolding op_pack_on_literals
pack_other_member = refl

pack_object : parts_at (codes "{\"author\":{\"id\":\"0a0a0a0a0a0a0a0a0a0a0a0a0a0a0a0a0a0a0a0a0a0a0a0a0a0a0a0a0a0a0a0a\"},\"ops\":{}}") ≡ None
unfolding op_pack_on_literals
pack_object = refl

pack_repeated_ops : parts_at (codes "{\"author\":{\"id\":\"0a0a0a0a0a0a0a0a0a0a0a0a0a0a0a0a0a0a0a0a0a0a0a0a0a0a0a0a0a0a0a0a\"},\"ops\":[],\"ops\":[]}") ≡ None
unfolding op_pack_on_literals
pack_repeated_ops = refl

pack_repeated_author : parts_at (codes "{\"author\":{\"id\":\"0a0a0a0a0a0a0a0a0a0a0a0a0a0a0a0a0a0a0a0a0a0a0a0a0a0a0a0a0a0a0a0a\"},\"author\":{\"id\":\"0a0a0a0a0a0a0a0a0a0a0a0a0a0a0a0a0a0a0a0a0a0a0a0a0a0a0a0a0a0a0a0a\"}}") ≡ None
unfolding op_pack_on_literals
pack_repeated_author = refl

pack_no_author : parts_at (codes "{\"ops\":[]}") ≡ None
unfolding op_pack_on_literals
pack_no_author = refl

pack_repeated_id : parts_at (codes "{\"author\":{\"id\":\"0a0a0a0a0a0a0a0a0a0a0a0a0a0a0a0a0a0a0a0a0a0a0a0a0a0a0a0a0a0a0a0a\",\"id\":\"0a0a0a0a0a0a0a0a0a0a0a0a0a0a0a0a0a0a0a0a0a0a0a0a0a0a0a0a0a0a0a0a\"}}") ≡ None
unfolding op_pack_on_literals
pack_repeated_id = refl

pack_short_id : parts_at (codes "{\"author\":{\"id\":\"0a0a0a0a0a0a0a0a0a0a0a0a0a0a0a0a0a0a0a0a0a0a0a0a0a0a0a0a0a0a0a0\"}}") ≡ None
unfolding op_pack_on_literals
pack_short_id = refl

pack_upper_case : parts_at (codes "{\"author\":{\"id\":\"0A0A0A0A0A0A0A0A0A0A0A0A0A0A0A0A0A0A0A0A0A0A0A0A0A0A0A0A0A0A0A0A\"}}") ≡ None
unfolding op_pack_on_literals
pack_upper_case = refl
