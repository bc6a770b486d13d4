-- Rows of a folder: where they are stored, which row a file is, and what a call on rows writes.
use Rattle.std.specs.Prelude.{◌≡◌, ℕ, Bool, true, nat_le, List, ◌∷◌, ◌++◌, codes, length, Option, Some, None, Result, Ok, Err, if◌then◌else◌}
use Rattle.hex.specs.Hex.{encode_lower}
use Rattle.gb_text.specs.Folder.{joined}
use Rattle.gb_text.specs.declared.id.Id.{Id}
use Rattle.gb_store.specs.Files.{Files, History, Put}
use Rattle.gb_store.specs.Moments.{MaybeWrote}
use Rattle.gb_store.specs.declared.store.Change.{Change}
use Rattle.excerpt_cache.specs.Codec.{Codec}
use Rattle.excerpt_cache.specs.declared.fault.CacheFault.{CacheFault}
use Rattle.excerpt_cache.specs.declared.fault.CacheFault.TheVariants as fault
use Rattle.excerpt_cache.specs.declared.read.TheConstants.{MOST_BYTES}

-- a place of a folder that is below its directory of caches
abbrev pub IsInCache : List ℕ → Type 0
IsInCache place = (rest : List ℕ) × (place ≡ codes "git-bug/cache/" ++ rest)

-- where the row of an id is stored, below its folder: the 64 digits of the id are the file's name
abbrev pub row_place : Id → List ℕ
row_place id = codes "git-bug/cache/bugs/" ++ encode_lower id.bytes

-- a text within the limit
abbrev pub is_short : List ℕ → Bool
is_short text = nat_le (length text) MOST_BYTES

-- the row that a text within the limit reads as
abbrev pub row_of_text : {Row : Type 0} → Codec Row → List ℕ → Option Row
row_of_text codec text = if is_short text then codec.read_as text else None

-- the row that a file is, or none
abbrev pub row_of_file : {Row : Type 0} → Codec Row → Option (List ℕ) → Option Row
row_of_file codec None = None
row_of_file codec (Some text) = row_of_text codec text

-- the row of an id in a folder
abbrev pub row_at : {Row : Type 0} → Codec Row → Files → List ℕ → Id → Option Row
row_at codec files folder id = row_of_file codec (files (joined folder (row_place id)))

-- the write of this text as the row of an id
abbrev pub row_write : List ℕ → Id → List ℕ → Change
row_write folder id text = Put (joined folder (row_place id)) text

-- a write of this text, within the limit, as the row of an id
pub record PutsRow (folder : List ℕ) (id : Id) (text : List ℕ) (files : Files) (change : Change) : Type 0 where
  pub is : change ≡ row_write folder id text
  pub short : is_short text ≡ true

-- the answer to a row that is written, and what was written: one write if the text is within the limit, else none
abbrev pub RowAnswers : Bool → Change → History → History → Result Unit CacheFault → Type 0
RowAnswers short change old new (Ok done) = new ≡ (if short then change ∷ old else old)
RowAnswers short change old new (Err fault.Memory) = new ≡ old
RowAnswers short change old new (Err fault.Disk) = (short ≡ true) × MaybeWrote change old new
