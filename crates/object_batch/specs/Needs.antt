-- What objects name, what they lead to, and objects put after all that they name.
use Rattle.std.specs.Prelude.{◌≡◌, ◌⊎◌, ℕ, List, [], ◌∷◌, Contains, Option, Some, None, if◌then◌else◌, ⊤}
use Rattle.std.specs.Str.{bytes_eq}
use Rattle.gb_text.specs.declared.id.Name.{Name}
use Rattle.gb_store.specs.Files.{Files}
use Rattle.gb_store.specs.declared.store.Change.{Change}
use Rattle.git_object.specs.declared.entry.Entry.{Entry}
use Rattle.git_object.specs.declared.entry.Mode.{Mode}
use Rattle.git_object.specs.declared.entry.Mode.TheVariants as mode
use Rattle.git_object.specs.declared.frame.Kind.{Kind}
use Rattle.git_object.specs.declared.frame.Kind.TheVariants as kinds
use Rattle.git_object.specs.declared.object.Object.{Object}
use Rattle.git_object.specs.declared.object.Object.TheVariants as objects
use Rattle.git_object.specs.Grammar.{IsObjectText, kind_of, object_name}
use Rattle.object_store.specs.Held.{Objects, object_at, objects_in}
use Rattle.object_store.specs.Texts.{IsShort}
use Rattle.object_store.specs.Puts.{object_write}

-- the kind of object that a tree's entry of this mode names; a module's commit is another repository's
abbrev pub kind_named : Mode → Option Kind
kind_named mode.Plain = Some kinds.Blob
kind_named mode.Exec = Some kinds.Blob
kind_named mode.Link = Some kinds.Blob
kind_named mode.Folder = Some kinds.Tree
kind_named mode.Module = None

-- an object names another by this name, as one of this kind
abbrev pub Names : Object → Name → Kind → Type 0
Names (objects.Blob content) name kind = ⊥
Names (objects.Tree tree) name kind = (entry : Entry) × Contains tree.entries entry × (entry.object ≡ name) × (kind_named entry.mode ≡ Some kind)
Names (objects.Commit commit) name kind = ((commit.tree ≡ name) × (kind ≡ kinds.Tree)) ⊎ (Contains commit.parents name × (kind ≡ kinds.Commit))

-- a name holds an object of this kind
pub record IsHeldAs (held : Objects) (name : Name) (kind : Kind) : Type 0 where
  pub object : Object
  pub is : object_at held name ≡ Some object
  pub is_kind : kind_of object ≡ kind

-- all that an object names is held, as of the kinds by which it is named
abbrev pub AllHeld : Objects → Object → Type 0
AllHeld held object = (name : Name) (kind : Kind) → Names object name kind → IsHeldAs held name kind

-- each object that a name holds names only what is held
pub record IsWhole (held : Objects) : Type 0 where
  pub needs : (name : Name) (object : Object) → object_at held name ≡ Some object → AllHeld held object

-- ---- paths by what objects name

-- a name, as that of an object of this kind
pub record Reference : Type 0 where
  pub name : Name
  pub kind : Kind

-- the first holds an object of its kind that names the second, as one of the second's kind
pub record NamesNext (held : Objects) (one two : Reference) : Type 0 where
  pub object : Object
  pub is : object_at held one.name ≡ Some object
  pub is_kind : kind_of object ≡ one.kind
  pub names : Names object two.name two.kind

-- from one through these to another, each named by the one before
abbrev pub Leads : Objects → Reference → List Reference → Reference → Type 0
Leads held from [] to = from ≡ to
Leads held from (next ∷ path) to = NamesNext held from next × Leads held next path to

-- one leads to another, in as many steps as there are
abbrev pub LeadsTo : Objects → Reference → Reference → Type 0
LeadsTo held from to = (path : List Reference) × Leads held from path to

-- ---- objects put after all that they name

-- a write of one of these texts under its name, where nothing stands, after all that its object names
pub record PutsAfterNeeds (folder : List ℕ) (texts : List (List ℕ)) (files : Files) (change : Change) : Type 0 where
  pub text : List ℕ
  pub member : Contains texts text
  pub object : Object
  pub is : IsObjectText text object
  pub within : IsShort text
  pub free : objects_in files folder (object_name text) ≡ None
  pub needs : AllHeld (objects_in files folder) object
  pub write : change ≡ object_write folder text

-- these objects and one more text, under its name
abbrev pub with_text : Objects → List ℕ → Objects
with_text held text = λ name. if bytes_eq name.bytes (object_name text).bytes then Some text else held name

-- each of these texts is that of an object which names only those before it, each as of its kind, and what is held
abbrev pub InNeedOrder : Objects → List (List ℕ) → Type 0
InNeedOrder held [] = ⊤
InNeedOrder held (text ∷ texts) = (object : Object) × IsObjectText text object × AllHeld held object × InNeedOrder (with_text held text) texts
