-- What a ref that is set writes.
use Rattle.std.specs.Prelude.{◌≡◌, ℕ, List, [], ◌∷◌, ◌++◌, Result, Ok, Err}
use Rattle.hex.specs.Hex.{encode_lower}
use Rattle.gb_text.specs.Folder.{joined}
use Rattle.gb_text.specs.declared.id.Name.{Name}
use Rattle.gb_store.specs.Files.{Files, History, Put}
use Rattle.gb_store.specs.Moments.{MaybeWrote}
use Rattle.gb_store.specs.declared.store.Change.{Change}
use Rattle.ref_store.specs.declared.fault.RefFault.{RefFault}
use Rattle.ref_store.specs.declared.fault.RefFault.TheVariants as fault

-- the write of a ref: the 40 digits of its head and a line feed, at its path
abbrev pub ref_write : List ℕ → List ℕ → Name → Change
ref_write folder path head = Put (joined folder path) (encode_lower head.bytes ++ 10 ∷ [])

-- a write of the ref at this path, to this head
abbrev pub PutsRef : List ℕ → List ℕ → Name → Files → Change → Type 0
PutsRef folder path head files change = change ≡ ref_write folder path head

-- the answer to a ref that is set, and what was written
abbrev pub SetAnswers : Change → History → History → Result Unit RefFault → Type 0
SetAnswers change old new (Ok done) = new ≡ change ∷ old
SetAnswers change old new (Err fault.Memory) = new ≡ old
SetAnswers change old new (Err fault.Disk) = MaybeWrote change old new
SetAnswers change old new (Err (fault.BadRef at)) = ⊥
