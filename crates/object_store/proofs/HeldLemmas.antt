-- What is computed of a name is what it holds.
use Rattle.std.proofs.Common.{◌≡◌, ℕ, ◌≤◌, true, false, is_some, List, length, Option, Some, None, option_and_then, refl, sym, ◌∙◌, ap, arith}
use Rattle.std.proofs.lemmas.Grind.{common_steps}
use Rattle.std.proofs.lemmas.Slice.Eq.{bytes_eq-Decides}
use Rattle.sha1.specs.Sha1.{sha1}
use Rattle.gb_text.specs.declared.id.Name.{Name}
use Rattle.git_object.specs.declared.object.Object.{Object}
use Rattle.git_object.specs.Grammar.{object_name}
use Rattle.git_object.specs.Reading.{object_of}
use Rattle.git_object.proofs.ObjectLaws.{object_takes, object_only}
use Rattle.object_store.specs.declared.read.TheConstants.{MOST_BYTES}
use Rattle.object_store.specs.Held.{IsDamaged, IsHeld, Objects, named, object_at, text_at}

-- what is found under a name is the file, of at most 4,194,304 bytes and with that SHA-1
pub named-is : (name : Name) (text found : List ℕ) → named name text ≡ Some found → (found ≡ text) × (length text ≤ MOST_BYTES) × (sha1 text ≡ name.bytes)
named-is name text found e = grind (arith, common_steps, bytes_eq-Decides (sha1 text) name.bytes)

-- and such a file is found
pub named-own : (name : Name) (text : List ℕ) → length text ≤ MOST_BYTES → sha1 text ≡ name.bytes → named name text ≡ Some text
named-own name text within e = grind (arith, common_steps, bytes_eq-Decides (sha1 text) name.bytes)

-- an object that is computed is held
pub object_at-is : (objects : Objects) (name : Name) (object : Object) → object_at objects name ≡ Some object → IsHeld objects name object
object_at-is objects name object e = at_file (objects name) refl
  where
    at_text : (text : List ℕ) → objects name ≡ Some text → (o : Option (List ℕ)) → named name text ≡ o → IsHeld objects name object
    at_text text stands None h =
        cc (sym e ∙ ap (λ (x : Option (List ℕ)). option_and_then object_of (option_and_then (named name) x)) stands ∙ ap (option_and_then object_of) h)
    at_text text stands (Some found) h =
        let is = named-is name text found h in
        let reads : object_of found ≡ Some object =
        sym (ap (λ (x : Option (List ℕ)). option_and_then object_of (option_and_then (named name) x)) stands ∙ ap (option_and_then object_of) h) ∙ e in
        let named_so : object_name text ≡ name = grind (arith, is.2) in
        record { text = text; stands = stands; within = is.1; is_named = named_so; is = object_takes text object (ap object_of (sym is.0) ∙ reads) }

    at_file : (file : Option (List ℕ)) → objects name ≡ file → IsHeld objects name object
    at_file None h = cc (sym e ∙ ap (λ (x : Option (List ℕ)). option_and_then object_of (option_and_then (named name) x)) h)
    at_file (Some text) h = at_text text h (named name text) refl

-- an object that is held is computed
pub object_at-held : (objects : Objects) (name : Name) (object : Object) → IsHeld objects name object → object_at objects name ≡ Some object
object_at-held objects name object held =
    let bytes : sha1 held.text ≡ name.bytes = ap (λ (n : Name). n.bytes) held.is_named in
    ap (λ (x : Option (List ℕ)). option_and_then object_of (option_and_then (named name) x)) held.stands
    ∙ ap (option_and_then object_of) (named-own name held.text held.within bytes)
    ∙ object_only held.text object held.is

-- a name holds one object
pub one_held : (objects : Objects) (name : Name) (one two : Object) → IsHeld objects name one → IsHeld objects name two → one ≡ two
one_held objects name one two first second =
    let same : Some one ≡ Some two = sym (object_at-held objects name one first) ∙ object_at-held objects name two second in
    grind (arith, same)

-- the text that stands under a name, where it is no object's
pub IsDamaged-text : (objects : Objects) (name : Name) (text : List ℕ) → text_at objects name ≡ Some text → object_of text ≡ None → IsDamaged objects name
IsDamaged-text objects name text at none = each (objects name) refl
  where
    each : (file : Option (List ℕ)) → objects name ≡ file → IsDamaged objects name
    each None e = let no : None ≡ Some text = sym (ap (option_and_then (named name)) e) ∙ at in cc
    each (Some found) e =
        let is = named-is name found text (sym (ap (option_and_then (named name)) e) ∙ at) in
        record { text = found; stands = e; within = is.1; is_none = ap (option_and_then object_of) at ∙ none }

-- what is no value is none
pub is_none-None : {A : Type 0} (o : Option A) → is_some o ≡ false → o ≡ None
is_none-None None e = refl
is_none-None (Some a) e = absurd (cc)

-- what is some value is one
pub is_some-Some : {A : Type 0} (o : Option A) → is_some o ≡ true → (a : A) × (o ≡ Some a)
is_some-Some None e = absurd (cc)
is_some-Some (Some a) e = (a, refl)
