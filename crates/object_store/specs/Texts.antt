-- Object texts, and their names.
use Rattle.std.specs.Prelude.{◌≡◌, ◌≤◌, ℕ, List, length}
use Rattle.gb_text.specs.declared.id.Name.{Name}
use Rattle.git_object.specs.declared.frame.Kind.{Kind}
use Rattle.git_object.specs.declared.object.Object.{Object}
use Rattle.git_object.specs.Grammar.{IsContent, IsObjectText, framed, kind_of, object_name}
use Rattle.object_store.specs.declared.read.TheConstants.{MOST_BYTES}

-- some object of the kind has this content
pub record HasObject (kind : Kind) (content : List ℕ) : Type 0 where
  pub object : Object
  pub is_kind : kind ≡ kind_of object
  pub is : IsContent content object

-- the name of an object text
abbrev pub text_name : Kind → List ℕ → Name
text_name kind content = object_name (framed kind content)

-- the text of some object
pub record HasObjectText (text : List ℕ) : Type 0 where
  pub object : Object
  pub is : IsObjectText text object

-- the text of some object, and its name
pub record IsNamedText (name : Name) (text : List ℕ) : Type 0 where
  pub is_named : name ≡ object_name text
  pub has : HasObjectText text

-- at most 4,194,304 bytes
abbrev pub IsShort : List ℕ → Type 0
IsShort text = length text ≤ MOST_BYTES
