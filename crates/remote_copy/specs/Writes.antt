-- What a copy writes.
use Rattle.std.specs.Prelude.{◌≡◌, Bool, ℕ, List, Some, None}
use Rattle.gb_text.specs.declared.id.Name.{Name}
use Rattle.gb_text.specs.Folder.{joined}
use Rattle.gb_store.specs.Files.{Files, Put}
use Rattle.gb_store.specs.ObjectPath.{object_place}
use Rattle.gb_store.specs.declared.store.Change.{Change}
use Rattle.git_object.specs.declared.object.Object.{Object}
use Rattle.git_object.specs.Grammar.{kind_of}
use Rattle.git_object.specs.Reading.{object_of}
use Rattle.object_store.specs.Held.{Objects, objects_in, text_at}
use Rattle.object_batch.specs.Needs.{AllHeld, Reference}
use Rattle.remote_copy.specs.Closure.{IsFollowed, IsReached, StandsAlike}

-- a put of an object of the part that is followed: of the text that its name holds in the source, at the name's path in
-- the target, where nothing stands; all that the object names is held in the target, and all that is reached from it
-- stands there as in the source
pub record PutsCopy (closed : Bool) (source target : List ℕ) (entry : Objects) (head : Name) (files : Files) (change : Change) : Type 0 where
  pub name : Name
  pub text : List ℕ
  pub object : Object
  pub held : text_at (objects_in files source) name ≡ Some text
  pub is : object_of text ≡ Some object
  pub followed : IsFollowed closed (objects_in files source) entry head (record { name = name; kind = kind_of object })
  pub free : objects_in files target name ≡ None
  pub needs : AllHeld (objects_in files target) object
  pub reached : (one : Reference) → IsReached closed (objects_in files source) (objects_in files target) object one → StandsAlike (objects_in files source) (objects_in files target) one
  pub write : change ≡ Put (joined target (object_place name)) text
