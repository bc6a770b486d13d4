-- Objects that are put where nothing stands leave what stood, and what stays is held as before.
use Rattle.std.proofs.Common.{◌≡◌, ℕ, Bool, true, false, cond, List, [], ◌∷◌, ◌++◌, Option, Some, None, option_and_then, refl, sym, ◌∙◌, ap, subst}
use Rattle.std.specs.Str.{bytes_eq}
use Rattle.std.proofs.lemmas.Slice.Eq.{bytes_eq-Decides}
use Rattle.gb_text.specs.Folder.{joined}
use Rattle.gb_text.specs.declared.id.Name.{Name}
use Rattle.gb_store.specs.Files.{Files, History, files_of}
use Rattle.gb_store.specs.Moments.{EachWrite, Wrote, at_moment}
use Rattle.gb_store.specs.ObjectPath.{object_place}
use Rattle.gb_store.specs.declared.store.Change.{Change}
use Rattle.git_object.specs.declared.object.Object.{Object}
use Rattle.git_object.specs.Reading.{object_of}
use Rattle.object_store.specs.Growth.{OnlyGrew}
use Rattle.object_store.specs.Held.{Objects, named, object_at, objects_in, text_at}
use Rattle.object_store.specs.Puts.{PutsObject}
use Rattle.object_store.specs.Texts.{text_name}

-- what stands at a path stands there after such a write
put_stays : (folder : List ℕ) (files : Files) (change : Change) (path text : List ℕ) → PutsObject folder files change → files path ≡ Some text
    → cond (bytes_eq change.path path) change.bytes (files path) ≡ Some text
put_stays folder files change path text put stands = each (bytes_eq change.path path) refl
  where
    each : (b : Bool) → bytes_eq change.path path ≡ b → cond (bytes_eq change.path path) change.bytes (files path) ≡ Some text
    each true e =
        let at : change.path ≡ joined folder (object_place (text_name put.kind put.content)) = ap (λ (c : Change). c.path) put.is in
        let same : joined folder (object_place (text_name put.kind put.content)) ≡ path = sym at ∙ (bytes_eq-Decides change.path path).0 e in
        let no : None ≡ Some text = sym put.free ∙ ap files same ∙ stands in
        cc
    each false e = ap (λ (b : Bool). cond b change.bytes (files path)) e ∙ stands

each_stays : (folder : List ℕ) (old writes : History) (path text : List ℕ) → EachWrite (at_moment (PutsObject folder)) old writes → files_of old path ≡ Some text → files_of (writes ++ old) path ≡ Some text
each_stays folder old [] path text each stands = stands
each_stays folder old (change ∷ earlier) path text each stands =
    put_stays folder (files_of (earlier ++ old)) change path text each.1 (each_stays folder old earlier path text each.0 stands)

-- writes of objects only add
pub objects_grew : (folder : List ℕ) (old new : History) → Wrote (PutsObject folder) old new → OnlyGrew (objects_in (files_of old) folder) (objects_in (files_of new) folder)
objects_grew folder old new wrote = record {
  stays = λ name text stands.
      subst (λ (h : History). files_of h (joined folder (object_place name)) ≡ Some text) (sym wrote.grew) (each_stays folder old wrote.writes (joined folder (object_place name)) text wrote.each stands);
}

-- what is found in an option was there
pub bind-some : {A B : Type 0} (read : A → Option B) (o : Option A) (b : B) → option_and_then read o ≡ Some b → (a : A) × (o ≡ Some a) × (read a ≡ Some b)
bind-some read None b e = absurd (cc)
bind-some read (Some a) b e = (a, refl, e)

module _ (old new : Objects) (grew : OnlyGrew old new) where
  -- an object text that stands under its name stays
  pub text_stays : (name : Name) (text : List ℕ) → text_at old name ≡ Some text → text_at new name ≡ Some text
  text_stays name text at =
      let was = bind-some (named name) (old name) text at in
      ap (option_and_then (named name)) (grew.stays name was.0 was.1) ∙ was.2

  -- what was held is held
  pub object_stays : (name : Name) (o : Object) → object_at old name ≡ Some o → object_at new name ≡ Some o
  object_stays name o held =
      let was = bind-some object_of (text_at old name) o held in
      ap (option_and_then object_of) (text_stays name was.0 was.1) ∙ was.2

  -- what is read of an object that is held stays
  pub stays : {A : Type 0} (read : Object → Option A) (name : Name) (a : A) → option_and_then read (object_at old name) ≡ Some a → option_and_then read (object_at new name) ≡ Some a
  stays read name a held =
      let was = bind-some read (object_at old name) a held in
      ap (option_and_then read) (object_stays name was.0 was.1) ∙ was.2

-- nothing was added
pub OnlyGrew-none : (objects : Objects) → OnlyGrew objects objects
OnlyGrew-none objects = record { stays = λ name text stands. stands }

-- one addition after another
pub OnlyGrew-then : (old mid new : Objects) → OnlyGrew old mid → OnlyGrew mid new → OnlyGrew old new
OnlyGrew-then old mid new first then = record { stays = λ name text stands. then.stays name text (first.stays name text stands) }
