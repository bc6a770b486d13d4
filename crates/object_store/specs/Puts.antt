-- What a put of an object answers and writes.
use Rattle.std.specs.Prelude.{◌≡◌, ◌≢◌, ◌<◌, ◌≤◌, ◌⊎◌, ◌+◌, ℕ, ⊤, Bool, true, false, List, ◌∷◌, length, Some, None, Result, Ok, Err}
use Rattle.gb_text.specs.declared.id.Name.{Name}
use Rattle.gb_text.specs.Folder.{joined}
use Rattle.gb_store.specs.Counts.{raised}
use Rattle.gb_store.specs.Files.{Files, History, Put, files_of}
use Rattle.gb_store.specs.ObjectPath.{object_place}
use Rattle.gb_store.specs.declared.store.Change.{Change}
use Rattle.git_object.specs.declared.frame.Kind.{Kind}
use Rattle.git_object.specs.Grammar.{framed, object_name}
use Rattle.object_store.specs.Held.{objects_in}
use Rattle.object_store.specs.Texts.{HasObject, text_name}
use Rattle.object_store.specs.declared.read.TheConstants.{MOST_BYTES}
use Rattle.object_store.specs.declared.fault.PutFault.{PutFault}
use Rattle.object_store.specs.declared.fault.PutFault.TheVariants as fault

-- the write of an object text under its name
abbrev pub object_write : List ℕ → List ℕ → Change
object_write folder text = Put (joined folder (object_place (object_name text))) text

-- a write of an object text of at most 4,194,304 bytes under its name, where nothing stands
pub record PutsObject (folder : List ℕ) (files : Files) (change : Change) : Type 0 where
  pub kind : Kind
  pub content : List ℕ
  pub has : HasObject kind content
  pub within : length (framed kind content) ≤ MOST_BYTES
  pub free : objects_in files folder (text_name kind content) ≡ None
  pub is : change ≡ object_write folder (framed kind content)

-- the text stands already, and nothing was written; or nothing stood, and the text was put
abbrev pub IsPut : List ℕ → List ℕ → History → History → Type 0
IsPut folder text old new =
    ((objects_in (files_of old) folder (object_name text) ≡ Some text) × (new ≡ old))
    ⊎ ((objects_in (files_of old) folder (object_name text) ≡ None) × (new ≡ object_write folder text ∷ old))

-- another text stands under a name
pub record IsTaken (folder text : List ℕ) (old : History) : Type 0 where
  pub other : List ℕ
  pub stands : objects_in (files_of old) folder (object_name text) ≡ Some other
  pub differs : other ≢ text

-- the answer to a put of a text, and what was written
abbrev pub TextAnswers : List ℕ → List ℕ → History → History → Result Name PutFault → Type 0
TextAnswers folder text old new (Ok name) = (name ≡ object_name text) × (length text ≤ MOST_BYTES) × IsPut folder text old new
TextAnswers folder text old new (Err (fault.Large count)) = (count ≡ MOST_BYTES + 1) × (MOST_BYTES < length text) × (new ≡ old)
TextAnswers folder text old new (Err (fault.Taken name)) = (name ≡ object_name text) × (length text ≤ MOST_BYTES) × IsTaken folder text old × (new ≡ old)
TextAnswers folder text old new (Err fault.Memory) = new ≡ old
TextAnswers folder text old new (Err fault.Disk) = (new ≡ old)
    ⊎ ((length text ≤ MOST_BYTES) × (objects_in (files_of old) folder (object_name text) ≡ None) × (new ≡ object_write folder text ∷ old))

-- the same of the text of a kind and a content
abbrev pub PutAnswers : List ℕ → Kind → List ℕ → History → History → Result Name PutFault → Type 0
PutAnswers folder kind content old new result = TextAnswers folder (framed kind content) old new result

-- one object was read, or none
abbrev pub ReadsAtMostOne : ℕ → ℕ → Type 0
ReadsAtMostOne old new = (new ≡ old) ⊎ (new ≡ raised old)

-- the answer to whether a text stands under its name
abbrev pub StandsAnswers : List ℕ → List ℕ → History → Result Bool PutFault → Type 0
StandsAnswers folder text old (Ok true) = objects_in (files_of old) folder (object_name text) ≡ Some text
StandsAnswers folder text old (Ok false) = objects_in (files_of old) folder (object_name text) ≡ None
StandsAnswers folder text old (Err (fault.Large count)) = ⊥
StandsAnswers folder text old (Err (fault.Taken name)) = (object_name text ≡ name) × IsTaken folder text old
StandsAnswers folder text old (Err fault.Memory) = ⊤
StandsAnswers folder text old (Err fault.Disk) = ⊤
