-- What a copy follows of the closure of a head.
use Rattle.std.specs.Prelude.{◌≡◌, Bool, IsTrue, ℕ, List, ◌∷◌, All, Some}
use Rattle.gb_text.specs.declared.id.Name.{Name}
use Rattle.git_object.specs.declared.frame.Kind.TheVariants as kinds
use Rattle.git_object.specs.declared.object.Object.{Object}
use Rattle.git_object.specs.Grammar.{kind_of}
use Rattle.git_object.specs.Reading.{object_of}
use Rattle.object_store.specs.Held.{Objects, object_at, text_at}
use Rattle.object_batch.specs.Needs.{AllHeld, IsHeldAs, Leads, LeadsTo, Names, NamesNext, Reference}

-- a name, as that of a commit
abbrev pub commit_named : Name → Reference
commit_named name = record { name = name; kind = kinds.Commit }

-- what the closure of a head has: all that the head leads to as a commit
abbrev pub IsInClosure : Objects → Name → Reference → Type 0
IsInClosure objects head one = LeadsTo objects (commit_named head) one

-- the closure of each commit that is held is held
pub record IsClosed (objects : Objects) : Type 0 where
  pub closed : (name : Name) → IsHeldAs objects name kinds.Commit → (one : Reference) → IsInClosure objects name one → IsHeldAs objects one.name one.kind

-- all that each held tree names is held, as of the kinds by which it names it; nothing is said of commits
pub record HasWholeTrees (objects : Objects) : Type 0 where
  pub needs : (name : Name) (object : Object) → object_at objects name ≡ Some object → kind_of object ≡ kinds.Tree → AllHeld objects object

-- a commit that is not followed: where the target is said to be closed, one that it holds
pub record IsLeft (closed : Bool) (target : Objects) (one : Reference) : Type 0 where
  pub is_closed : IsTrue closed
  pub is_commit : one.kind ≡ kinds.Commit
  pub held : IsHeldAs target one.name kinds.Commit

-- the part of the closure of a head that is followed: the head, and what an object of the part names; but no commit
-- that is left
pub data IsFollowed (closed : Bool) (source target : Objects) (head : Name) : Reference → Type 0 where
  first : {one : Reference} → one ≡ commit_named head → (IsLeft closed target one → ⊥) → IsFollowed closed source target head one
  next : {high low : Reference} → IsFollowed closed source target head high → NamesNext source high low → (IsLeft closed target low → ⊥) → IsFollowed closed source target head low

-- one leads to another by a path on which nothing is left, neither end either
pub record LeadsPast (closed : Bool) (source target : Objects) (one two : Reference) : Type 0 where
  pub path : List Reference
  pub leads : Leads source one path two
  pub unleft : All (λ (on : Reference). IsLeft closed target on → ⊥) (one ∷ path)

-- what a copy asks for: the head, and what an object of the part names
pub data IsAsked (closed : Bool) (source target : Objects) (head : Name) : Reference → Type 0 where
  ask_first : {one : Reference} → one ≡ commit_named head → IsAsked closed source target head one
  ask_next : {high low : Reference} → IsFollowed closed source target head high → NamesNext source high low → IsAsked closed source target head low

-- what an object leads to in the source, but for commits that are left and what is reached through them alone
pub data IsReached (closed : Bool) (source target : Objects) (object : Object) : Reference → Type 0 where
  need : {one : Reference} → Names object one.name one.kind → (IsLeft closed target one → ⊥) → IsReached closed source target object one
  then : {high low : Reference} → IsReached closed source target object high → NamesNext source high low → (IsLeft closed target low → ⊥) → IsReached closed source target object low

-- the object that the source holds as one of this kind stands in the target too, byte by byte
pub record StandsAlike (source target : Objects) (one : Reference) : Type 0 where
  pub text : List ℕ
  pub object : Object
  pub held : text_at source one.name ≡ Some text
  pub is : object_of text ≡ Some object
  pub is_kind : kind_of object ≡ one.kind
  pub there : target one.name ≡ Some text
