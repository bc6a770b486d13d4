-- What stands under a name, as a text and as an object.
use Rattle.std.proofs.Common.{◌≡◌, ◌≤◌, ℕ, List, length, Some, option_and_then, sym, ◌∙◌, ap, subst}
use Rattle.std.proofs.lemmas.Option.{same_Some}
use Rattle.gb_text.specs.declared.id.Name.{Name}
use Rattle.gb_text.specs.Digits.{IsName}
use Rattle.git_object.specs.declared.object.Object.{Object}
use Rattle.git_object.specs.Grammar.{kind_of, object_name}
use Rattle.git_object.specs.Reading.{object_of}
use Rattle.git_object.proofs.NameLaws.{IsName-object_name}
use Rattle.object_store.specs.Held.{Objects, named, object_at, text_at}
use Rattle.object_store.specs.declared.read.TheConstants.{MOST_BYTES}
use Rattle.object_store.proofs.GrowthLemmas.{bind-some}
use Rattle.object_store.proofs.HeldLemmas.{named-is}
use Rattle.object_batch.specs.Needs.{NamesNext, Names, Reference}

-- the text that a name holds is the file under the name
pub record IsText (objects : Objects) (name : Name) (text : List ℕ) : Type 0 where
  pub stands : objects name ≡ Some text
  pub within : length text ≤ MOST_BYTES
  pub is_named : object_name text ≡ name
  pub reads : named name text ≡ Some text

pub text_at-is : (objects : Objects) (name : Name) (text : List ℕ) → text_at objects name ≡ Some text → IsText objects name text
text_at-is objects name text at =
    let was = bind-some (named name) (objects name) text at in
    let is = named-is name was.0 text was.2 in
    let same : was.0 ≡ text = sym is.0 in
    let of_bytes : List ℕ → Name = λ b. record { bytes = b } in
    record {
      stands = was.1 ∙ ap Some same;
      within = subst (λ (t : List ℕ). length t ≤ MOST_BYTES) same is.1;
      is_named = subst (λ (t : List ℕ). object_name t ≡ name) same (ap of_bytes is.2);
      reads = subst (λ (t : List ℕ). named name t ≡ Some text) same was.2;
    }

-- it is that of a name
pub text_at-name : (objects : Objects) (name : Name) (text : List ℕ) → text_at objects name ≡ Some text → IsName name
text_at-name objects name text at = subst IsName (text_at-is objects name text at).is_named (IsName-object_name text)

-- and it is found wherever it stands
pub text_at-there : (one two : Objects) (name : Name) (text : List ℕ) → text_at one name ≡ Some text → two name ≡ Some text → text_at two name ≡ Some text
text_at-there one two name text at there = ap (option_and_then (named name)) there ∙ (text_at-is one name text at).reads

-- an object that is held has a text
pub object_at-text : (objects : Objects) (name : Name) (object : Object) → object_at objects name ≡ Some object → (text : List ℕ) × (text_at objects name ≡ Some text) × (object_of text ≡ Some object)
object_at-text objects name object is = bind-some object_of (text_at objects name) object is

pub object_at-of_text : (objects : Objects) (name : Name) (text : List ℕ) (object : Object) → text_at objects name ≡ Some text → object_of text ≡ Some object → object_at objects name ≡ Some object
object_at-of_text objects name text object at is = ap (option_and_then object_of) at ∙ is

-- what a name holds names what the object does
pub names_next : (objects : Objects) (one two : Reference) (text : List ℕ) (object : Object) → text_at objects one.name ≡ Some text → object_of text ≡ Some object → kind_of object ≡ one.kind
    → Names object two.name two.kind → NamesNext objects one two
names_next objects one two text object at is kind names = record { object = object; is = object_at-of_text objects one.name text object at is; is_kind = kind; names = names }

-- and what it names so, the object does
pub next_names : (objects : Objects) (one two : Reference) (text : List ℕ) (object : Object) → text_at objects one.name ≡ Some text → object_of text ≡ Some object
    → NamesNext objects one two → Names object two.name two.kind
next_names objects one two text object at is next =
    let same : next.object ≡ object = same_Some next.object object (sym next.is ∙ object_at-of_text objects one.name text object at is) in
    subst (λ (o : Object). Names o two.name two.kind) same next.names
