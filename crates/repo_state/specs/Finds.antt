-- What the words of a command find: one id of a side, none, or several; and finders, each with what it finds and how it fails.
use Rattle.std.specs.Prelude.{◌≡◌, ⊤, ℕ, List, IsTrue, Result, Ok, Err}
use Rattle.hex.specs.Hex.{encode_lower}
use Rattle.gb_text.specs.Digits.{IsId}
use Rattle.gb_text.specs.Prefix.{begins_with}
use Rattle.gb_text.specs.PrefixText.{is_prefix_text}
use Rattle.gb_text.specs.declared.id.Id.{Id}
use Rattle.gb_store.specs.Files.{Files}
use Rattle.ref_store.specs.Refs.{Head}
use Rattle.repo_state.specs.Sides.{IsBadRef, IsFirst, has_ref, head_at}
use Rattle.repo_state.specs.declared.side.HeadEntry.{HeadEntry}
use Rattle.repo_state.specs.declared.side.Side.{Side}
use Rattle.repo_state.specs.declared.side.Side.TheVariants as side
use Rattle.repo_state.specs.declared.stop.FindStop.{FindStop}
use Rattle.repo_state.specs.declared.stop.FindStop.TheVariants as stop
use Rattle.repo_state.specs.declared.stop.Missed.{Missed}
use Rattle.repo_state.specs.declared.stop.Missed.TheVariants as missed

-- ---- what a word finds on a side

-- one id, none, or several, of which these are the two least
pub data Finding : Type 0 where
  One : Id → Finding
  Nothing : Finding
  Many : Id → Id → Finding

-- a word fits an id: it is 1 to 64 digits, the id's digits begin with them, and a ref of the id stands
pub record Fits (files : Files) (folder : List ℕ) (of : Side) (word : List ℕ) (id : Id) : Type 0 where
  pub is_id : IsId id
  pub is_prefix : IsTrue (is_prefix_text word)
  pub begins : IsTrue (begins_with word (encode_lower id.bytes))
  pub stands : IsTrue (has_ref files folder of id)

-- of this id something is so, and of no other
pub record IsOnly (IsSo : Id → Type 0) (id : Id) : Type 0 where
  pub is_so : IsSo id
  pub no_other : (other : Id) → IsSo other → other ≡ id

-- of two ids and perhaps of more something is so, and these are the least, in the order of their bytes
pub record AreLeast (IsSo : Id → Type 0) (first second : Id) : Type 0 where
  pub least : IsFirst IsSo first
  pub next : IsFirst (λ id. IsSo id × (id ≡ first → ⊥)) second

-- what a word finds on a side
abbrev pub Finds : Files → List ℕ → Side → List ℕ → Finding → Type 0
Finds files folder of word (One id) = IsOnly (Fits files folder of word) id
Finds files folder of word Nothing = (id : Id) → Fits files folder of word id → ⊥
Finds files folder of word (Many first second) = AreLeast (Fits files folder of word) first second

-- the entity that a word finds on a side, whose ref reads
pub record FindsEntity (files : Files) (folder : List ℕ) (of : Side) (word : List ℕ) (e : HeadEntry) : Type 0 where
  pub found : Finds files folder of word (One e.id)
  pub head : head_at files folder of e.id ≡ Head e.name

-- ---- finders

-- what an argument of a command may find, and why it may find nothing
pub record Finder (T : Type 0) : Type 1 where
  pub Found : T → Type 0
  pub Fails : Missed → Type 0

-- a finder finds one value, or fails in one way, and never both
pub record IsDetermined {T : Type 0} (finder : Finder T) : Type 0 where
  pub one : (value other : T) → finder.Found value → finder.Found other → value ≡ other
  pub apart : (value : T) (one : Missed) → finder.Found value → finder.Fails one → ⊥
  pub same : (one other : Missed) → finder.Fails one → finder.Fails other → one ≡ other

-- the answer of a call that finds
abbrev pub FinderAnswers : {T : Type 0} → Finder T → Result T FindStop → Type 0
FinderAnswers finder (Ok value) = finder.Found value
FinderAnswers finder (Err stop.Memory) = ⊤
FinderAnswers finder (Err stop.Disk) = ⊤
FinderAnswers finder (Err (stop.Missed why)) = finder.Fails why

-- why no id is found: the word finds none, or several
abbrev pub FindsNoId : Files → List ℕ → Side → List ℕ → Missed → Type 0
FindsNoId files folder of word missed.NotFound = Finds files folder of word Nothing
FindsNoId files folder of word (missed.Ambiguous first second) = Finds files folder of word (Many first second)
FindsNoId files folder of word (missed.Damaged path) = ⊥

-- why no head is found: the word finds no id, or several, or the ref of the one that it finds, at this path, is no ref text
abbrev pub FindsNoHead : Files → List ℕ → Side → List ℕ → Missed → Type 0
FindsNoHead files folder of word missed.NotFound = Finds files folder of word Nothing
FindsNoHead files folder of word (missed.Ambiguous first second) = Finds files folder of word (Many first second)
FindsNoHead files folder of word (missed.Damaged path) = (id : Id) × Finds files folder of word (One id) × IsBadRef files folder of id path

-- an id of a side; what its ref holds is not judged
abbrev pub id_finder : Side → Files → List ℕ → List ℕ → Finder Id
id_finder of files folder word = record { Found = λ id. Finds files folder of word (One id); Fails = FindsNoId files folder of word }

-- an entity of a side, with its head
abbrev pub head_finder : Side → Files → List ℕ → List ℕ → Finder HeadEntry
head_finder of files folder word = record { Found = FindsEntity files folder of word; Fails = FindsNoHead files folder of word }

-- a bug, with its head
abbrev pub bug_finder : Files → List ℕ → List ℕ → Finder HeadEntry
bug_finder = head_finder side.Bugs

-- a person, by the identity's id
abbrev pub person_finder : Files → List ℕ → List ℕ → Finder Id
person_finder = id_finder side.Identities
