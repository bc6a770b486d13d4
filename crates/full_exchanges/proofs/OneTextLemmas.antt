-- Stores in which each name is that of one text have the same below a head that both hold.
use Rattle.std.proofs.Common.{◌≡◌, ℕ, List, Contains, Option, Some, None, option_and_then, refl, sym, ◌∙◌, ap}
use Rattle.std.proofs.lemmas.Option.{same_Some}
use Rattle.gb_text.specs.declared.id.Name.{Name}
use Rattle.git_object.specs.declared.frame.Kind.{Kind}
use Rattle.git_object.specs.declared.frame.Kind.TheVariants as kinds
use Rattle.git_object.specs.Reading.{object_of}
use Rattle.object_store.specs.Growth.{OnlyGrew}
use Rattle.object_store.specs.Held.{Objects, named, object_at, text_at}
use Rattle.object_store.proofs.GrowthLemmas.{bind-some}
use Rattle.object_store.proofs.HeldLemmas.{named-is}
use Rattle.object_batch.specs.Needs.{IsHeldAs, IsWhole}
use Rattle.bug_ops.specs.Kind.{bug_kind}
use Rattle.bug_ops.specs.declared.op.BugOp.{BugOp}
use Rattle.dag_entity.specs.Agreeing.{SameNeeded}
use Rattle.dag_entity.specs.Entities.{IsOperationCommit}
use Rattle.dag_entity.specs.declared.entity.Placed.{Placed}
use Rattle.merge_steps.proofs.WholeLemmas.{operation_back, operation_over, whole_stays}

-- a text that is held under its name is the file there
pub text_stands : (objects : Objects) (name : Name) (text : List ℕ) → text_at objects name ≡ Some text → objects name ≡ Some text
text_stands objects name text e =
    let found = bind-some (named name) (objects name) text e in
    let is = named-is name found.0 text found.2 in
    found.1 ∙ ap Some (sym is.0)

-- what is found under a name is found again in what was found
again : (name : Name) (text : List ℕ) → option_and_then (named name) (named name text) ≡ named name text
again name text = by (named name text) refl
  where
    by : (file : Option (List ℕ)) → named name text ≡ file → option_and_then (named name) (named name text) ≡ named name text
    by None e = ap (option_and_then (named name)) e ∙ sym e
    by (Some found) e = ap (option_and_then (named name)) e ∙ ap (named name) (named-is name text found e).0

-- the texts that are held under their names, without what else stands there
abbrev texts : Objects → Objects
texts objects = λ name. text_at objects name

same_text : (objects : Objects) (name : Name) → text_at (texts objects) name ≡ text_at objects name
same_text objects name = by (objects name)
  where
    by : (file : Option (List ℕ)) → option_and_then (named name) (option_and_then (named name) file) ≡ option_and_then (named name) file
    by None = refl
    by (Some text) = again name text

same_object : (objects : Objects) (name : Name) → object_at (texts objects) name ≡ object_at objects name
same_object objects name = ap (option_and_then object_of) (same_text objects name)

texts_held : (objects : Objects) (name : Name) (kind : Kind) → IsHeldAs objects name kind → IsHeldAs (texts objects) name kind
texts_held objects name kind h = record { object = h.object; is = same_object objects name ∙ h.is; is_kind = h.is_kind }

texts_whole : (objects : Objects) → IsWhole objects → IsWhole (texts objects)
texts_whole objects whole = record {
  needs = λ name object is low kind names. texts_held objects low kind (whole.needs name object (sym (same_object objects name) ∙ is) low kind names);
}

texts_grew : (objects : Objects) → OnlyGrew (texts objects) objects
texts_grew objects = record { stays = λ name text e. text_stands objects name text e }

-- the first, or the other
abbrev or_other : Option (List ℕ) → Option (List ℕ) → Option (List ℕ)
or_other (Some text) other = Some text
or_other None other = other

-- what is held under a name is of one text in both
abbrev pub HaveOneText : Objects → Objects → Type 0
HaveOneText one two = (name : Name) (text other : List ℕ) → text_at one name ≡ Some text → text_at two name ≡ Some other → text ≡ other

-- where nothing was lost, that is so of before and after
pub one_text_grew : (old new : Objects) → OnlyGrew old new → HaveOneText old new
one_text_grew old new grew name text other was is =
    same_Some text other (sym (grew.stays name text (text_stands old name text was)) ∙ text_stands new name other is)

module _ (one two : Objects) (one_whole : IsWhole one) (two_whole : IsWhole two) (alike : HaveOneText one two) (tops : List Name)
    (in_one : (top : Name) → Contains tops top → IsHeldAs one top kinds.Commit) (in_two : (top : Name) → Contains tops top → IsHeldAs two top kinds.Commit) where
  -- the texts of both
  abbrev both : Objects
  both name = or_other (text_at one name) (text_at two name)

  first_grew : OnlyGrew (texts one) both
  first_grew = record { stays = λ name text e. ap (λ (file : Option (List ℕ)). or_other file (text_at two name)) e }

  second_grew : OnlyGrew (texts two) both
  second_grew = record { stays = λ name text e. by name text e (text_at one name) refl }
    where
      by : (name : Name) (text : List ℕ) → text_at two name ≡ Some text → (file : Option (List ℕ)) → text_at one name ≡ file → both name ≡ Some text
      by name text e None is = ap (λ (file : Option (List ℕ)). or_other file (text_at two name)) is ∙ e
      by name text e (Some other) is = ap (λ (file : Option (List ℕ)). or_other file (text_at two name)) is ∙ ap Some (alike name other text is e)

  same_of : (objects later : Objects) → IsWhole objects → ((top : Name) → Contains tops top → IsHeldAs objects top kinds.Commit) → OnlyGrew (texts objects) later
      → SameNeeded (texts objects) later tops
  same_of objects later whole held grew = whole_stays (texts objects) (texts_whole objects whole) tops (λ top c. texts_held objects top kinds.Commit (held top c)) later grew

  -- so an operation commit below the heads in the one is one in the other
  pub operations_alike : (placed : Placed BugOp) → IsOperationCommit bug_kind one tops placed → IsOperationCommit bug_kind two tops placed
  operations_alike placed h =
      let of_one = operation_back (texts one) one tops (same_of one one one_whole in_one (texts_grew one)) placed h in
      let of_both = operation_over (texts one) both tops (same_of one both one_whole in_one first_grew) placed of_one in
      let of_two = operation_back (texts two) both tops (same_of two both two_whole in_two second_grew) placed of_both in
      operation_over (texts two) two tops (same_of two two two_whole in_two (texts_grew two)) placed of_two
