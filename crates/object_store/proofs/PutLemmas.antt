-- What stands under a name after a put.
use Rattle.std.proofs.Common.{◌≡◌, ℕ, ◌≤◌, Bool, true, false, IsTrue, List, ◌∷◌, length, Some, None, Result, Ok, Err, IfOk, option_and_then, refl, sym, ◌∙◌, ap, subst, arith}
use Rattle.std.proofs.lemmas.Grind.{common_steps}
use Rattle.gb_text.specs.Folder.{joined}
use Rattle.gb_store.specs.Files.{History, Put, file_at, files_of}
use Rattle.gb_store.specs.Moments.{MaybeWrote, WroteIf}
use Rattle.gb_store.specs.declared.store.Change.{Change}
use Rattle.gb_store.proofs.MomentLemmas.{WroteIf_one}
use Rattle.gb_store.specs.ObjectPath.{object_place}
use Rattle.gb_store.proofs.FileLemmas.{file_at-same}
use Rattle.git_object.specs.declared.frame.Kind.{Kind}
use Rattle.git_object.specs.Grammar.{framed, kind_of, object_name}
use Rattle.git_object.specs.Reading.{object_of, object_with}
use Rattle.git_object.proofs.ObjectLaws.{framed_reads}
use Rattle.std.specs.Prelude.{nat_le}
use Rattle.object_store.specs.declared.fault.PutFault.{PutFault}
use Rattle.object_store.specs.Held.{Objects, object_at, objects_in, text_at}
use Rattle.object_store.specs.Texts.{HasObject, HasObjectText, IsShort, text_name}
use Rattle.object_store.specs.declared.read.TheConstants.{MOST_BYTES}
use Rattle.gb_text.specs.declared.id.Name.{Name}
use Rattle.object_store.specs.Puts.{PutsObject, StandsAnswers, object_write}

-- the object of a text that stands under its name
object_at-framed : (objects : Objects) (kind : Kind) (content : List ℕ) (name : Name) → text_at objects name ≡ Some (framed kind content)
    → object_at objects name ≡ object_with kind content
object_at-framed objects kind content name at = ap (option_and_then object_of) at ∙ framed_reads kind content

-- an object that was just put stands
pub objects_in-written : (folder text : List ℕ) (old : History) → objects_in (files_of (object_write folder text ∷ old)) folder (object_name text) ≡ Some text
objects_in-written folder text old = file_at-same (Put (joined folder (object_place (object_name text))) text) old

-- a put of an object text at the path of its name, where nothing stood
wrote_object : (tells : Bool) (folder : List ℕ) (kind : Kind) (content path text : List ℕ) (old mid new : History) → HasObject kind content
    → path ≡ joined folder (object_place (text_name kind content)) → text ≡ framed kind content → length text ≤ MOST_BYTES
    → (IsTrue tells → file_at old path ≡ None) → (IsTrue tells → mid ≡ old) → (IsTrue tells → MaybeWrote (Put path text) mid new)
    → WroteIf tells (PutsObject folder) old new
wrote_object tells folder kind content path text old mid new has at is within free same wrote =
    let write : Put path text ≡ object_write folder (framed kind content) =
    ap (λ (p : List ℕ). Put p text) at ∙ ap (λ (t : List ℕ). Put (joined folder (object_place (text_name kind content))) t) is in
    WroteIf_one tells (PutsObject folder) (object_write folder (framed kind content)) old new
    (λ t.
    record {
      kind = kind;
      content = content;
      has = has;
      within = subst (λ (x : List ℕ). length x ≤ MOST_BYTES) is within;
      free = ap (file_at old) (sym at) ∙ free t;
      is = refl;
    })
    (λ t.
    subst (λ (h : History). MaybeWrote (object_write folder (framed kind content)) h new) (same t)
    (subst (λ (w : Change). MaybeWrote w mid new) write (wrote t)))

-- what is said where a text does not stand
pub stands_not : (folder text : List ℕ) (old : History) (b : Bool) → b ≡ false → StandsAnswers folder text old (Ok b) → objects_in (files_of old) folder (object_name text) ≡ None
stands_not folder text old true e answers = absurd (cc)
stands_not folder text old false e answers = answers

-- a put of a text at the path of its name, where nothing stood
pub wrote_text : (tells : Bool) (folder path bytes text : List ℕ) (name : Name) (old mid new : History) → HasObjectText text → name ≡ object_name text
    → path ≡ joined folder (object_place name) → bytes ≡ text → IsShort text → (IsTrue tells → objects_in (files_of old) folder (object_name text) ≡ None)
    → (IsTrue tells → mid ≡ old) → (IsTrue tells → MaybeWrote (Put path bytes) mid new) → WroteIf tells (PutsObject folder) old new
wrote_text tells folder path bytes text name old mid new has is at same short free kept wrote =
    let frames = has.is.frames in
    let place : path ≡ joined folder (object_place (object_name text)) = at ∙ ap (λ (n : Name). joined folder (object_place n)) is in
    wrote_object tells folder (kind_of has.object) has.is.content path bytes old mid new (record { object = has.object; is_kind = refl; is = has.is.is })
    (place ∙ ap (λ (t : List ℕ). joined folder (object_place (object_name t))) frames) (same ∙ frames) (subst (λ (t : List ℕ). length t ≤ MOST_BYTES) (sym same) short)
    (λ tells. ap (file_at old) place ∙ free tells) kept wrote

-- the object of a text that was put
pub IfOk-framed : (objects : Objects) (kind : Kind) (content text : List ℕ) (r : Result Name PutFault) → text ≡ framed kind content
    → IfOk r (λ name. text_at objects name ≡ Some text) → IfOk r (λ name. object_at objects name ≡ object_with kind content)
IfOk-framed objects kind content text (Ok name) is at = object_at-framed objects kind content name (at ∙ ap Some is)
IfOk-framed objects kind content text (Err e) is at = tt

-- a text that is tested short is
pub is_short-IsShort : (text : List ℕ) (b : Bool) → b ≡ nat_le (length text) MOST_BYTES → b ≡ true → IsShort text
is_short-IsShort text b is e = grind (arith, common_steps, sym is ∙ e)
