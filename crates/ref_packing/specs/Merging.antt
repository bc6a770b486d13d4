-- Refs by their names, and the text of the last ones.
use Rattle.std.specs.Prelude.{◌≡◌, ⊤, ℕ, true, false, List, Result, Ok, Err}
use Rattle.std.specs.Cmp.Lexicographic.{slice_cmp}
use Rattle.std.specs.Ordering.{nat_cmp}
use Rattle.std.specs.declared.cmp.Ordering.{Ordering}
use Rattle.gb_text.specs.declared.id.Name.{Name}
use Rattle.packed_refs.specs.Packed.{PackedRef}
use Rattle.packed_refs.specs.Written.{packed_text}
use Rattle.ref_store.specs.Refs.{is_long}
use Rattle.ref_packing.specs.Packing.{AreLast}
use Rattle.ref_packing.specs.declared.fault.PackFault.{PackFault}
use Rattle.ref_packing.specs.declared.fault.PackFault.TheVariants as fault

-- names are in byte order
abbrev pub name_cmp : List ℕ → List ℕ → Ordering
name_cmp = slice_cmp nat_cmp

-- a ref as a pair, and back
abbrev pub pair_of : PackedRef → List ℕ × Name
pair_of one = (one.name, one.head)

abbrev pub ref_of_pair : List ℕ × Name → PackedRef
ref_of_pair pair = record { name = pair.0; head = pair.1 }

-- the text of the last refs, or that it is too long
abbrev pub TextAnswers : List PackedRef → Result (List ℕ) PackFault → Type 0
TextAnswers refs (Ok text) = (packed : List PackedRef) × AreLast refs packed × (text ≡ packed_text packed) × (is_long text ≡ false)
TextAnswers refs (Err fault.Memory) = ⊤
TextAnswers refs (Err fault.Disk) = ⊥
TextAnswers refs (Err (fault.BadRef at)) = ⊥
TextAnswers refs (Err (fault.TooLarge bytes)) = (packed : List PackedRef) × AreLast refs packed × (bytes ≡ 16777217) × (is_long (packed_text packed) ≡ true)
