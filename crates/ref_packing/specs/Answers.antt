-- What a pack answers, and what it has written.
use Rattle.std.specs.Prelude.{◌≡◌, ◌≢◌, ◌⊎◌, ℕ, true, false, List, [], ◌++◌, length, reverse, Result, Ok, Err}
use Rattle.gb_text.specs.Folder.{joined}
use Rattle.gb_store.specs.Files.{Files, History, files_of}
use Rattle.gb_store.specs.Moments.{WroteSome}
use Rattle.packed_refs.specs.Packed.{PackedRef}
use Rattle.packed_refs.specs.Written.{packed_text}
use Rattle.ref_store.specs.Refs.{is_long, packed_place, packed_reads}
use Rattle.ref_packing.specs.Packing.{ArePacked, IsFirstBad, pack_writes}
use Rattle.ref_packing.specs.declared.fault.PackFault.{PackFault}
use Rattle.ref_packing.specs.declared.fault.PackFault.TheVariants as fault

-- what can be packed: the packed refs read, there is a ref to take, and the new text is not too long
pub record CanPack (files : Files) (folder : List ℕ) (taken packed : List PackedRef) : Type 0 where
  pub reads : packed_reads files folder ≡ true
  pub are_packed : ArePacked files folder taken packed
  pub some : taken ≢ []
  pub fits : is_long (packed_text packed) ≡ false

-- so many refs were packed: none where none is loose, and nothing is written then
pub record Packs (folder : List ℕ) (old new : History) (count : ℕ) : Type 0 where
  pub taken : List PackedRef
  pub packed : List PackedRef
  pub reads : packed_reads (files_of old) folder ≡ true
  pub are_packed : ArePacked (files_of old) folder taken packed
  pub fits : (taken ≡ []) ⊎ (is_long (packed_text packed) ≡ false)
  pub is_count : count ≡ length taken
  pub wrote : new ≡ reverse (pack_writes folder taken packed) ++ old

-- the new text is too long
pub record IsTooLong (folder : List ℕ) (files : Files) : Type 0 where
  pub taken : List PackedRef
  pub packed : List PackedRef
  pub reads : packed_reads files folder ≡ true
  pub are_packed : ArePacked files folder taken packed
  pub some : taken ≢ []
  pub long : is_long (packed_text packed) ≡ true

-- the packed refs don't read, which is asked first, or the first bad loose ref is at this path
abbrev pub IsBadAt : List ℕ → Files → List ℕ → Type 0
IsBadAt folder files at =
    ((at ≡ joined folder packed_place) × (packed_reads files folder ≡ false))
    ⊎ ((name : List ℕ) × (at ≡ joined folder name) × (packed_reads files folder ≡ true) × IsFirstBad files folder name)

-- nothing was written, or the first of the writes of a pack
pub record PacksSome (folder : List ℕ) (old new : History) : Type 0 where
  pub taken : List PackedRef
  pub packed : List PackedRef
  pub can : CanPack (files_of old) folder taken packed
  pub wrote : WroteSome (pack_writes folder taken packed) old new

abbrev pub MaybePacks : List ℕ → History → History → Type 0
MaybePacks folder old new = (new ≡ old) ⊎ PacksSome folder old new

abbrev pub PackAnswers : List ℕ → History → History → Result ℕ PackFault → Type 0
PackAnswers folder old new (Ok count) = Packs folder old new count
PackAnswers folder old new (Err fault.Memory) = MaybePacks folder old new
PackAnswers folder old new (Err fault.Disk) = MaybePacks folder old new
PackAnswers folder old new (Err (fault.BadRef at)) = (new ≡ old) × IsBadAt folder (files_of old) at
PackAnswers folder old new (Err (fault.TooLarge bytes)) = (new ≡ old) × (bytes ≡ 16777217) × IsTooLong folder (files_of old)
