-- A commit is named by a commit alone.
use Rattle.std.proofs.Common.{◌≡◌, inl, inr, refl, sym, ◌∙◌, ap, subst, Bool, List, [], ◌∷◌, Contains, Some, option_and_then}
use Rattle.gb_text.specs.declared.id.Name.{Name}
use Rattle.git_object.specs.declared.commit.Commit.{Commit}
use Rattle.git_object.specs.declared.entry.Mode.{Mode}
use Rattle.git_object.specs.declared.entry.Mode.TheVariants as mode
use Rattle.git_object.specs.declared.frame.Kind.TheVariants as kinds
use Rattle.git_object.specs.declared.object.Object.{Object}
use Rattle.git_object.specs.declared.object.Object.TheVariants as object
use Rattle.git_object.specs.Grammar.{kind_of}
use Rattle.object_store.specs.Held.{Objects}
use Rattle.object_store.specs.Typed.{as_commit}
use Rattle.object_batch.specs.Needs.{Leads, Names, NamesNext, Reference, kind_named}
use Rattle.commit_walk.specs.Below.{IsBelow, IsParent, head, parent}
use Rattle.commit_walk.proofs.BelowLemmas.{below_below}
use Rattle.commit_walk.proofs.DistinctLemmas.{Contains-first, Contains-one}
use Rattle.remote_copy.specs.Closure.{IsFollowed, IsInClosure, commit_named, first, next}

-- no entry of a tree names a commit
no_commit_entry : (m : Mode) → kind_named m ≡ Some kinds.Commit → ⊥
no_commit_entry mode.Plain e = cc e
no_commit_entry mode.Exec e = cc e
no_commit_entry mode.Link e = cc e
no_commit_entry mode.Folder e = cc e
no_commit_entry mode.Module e = cc e

-- an object that names a commit is a commit with that parent
names_parent : (o : Object) (name : Name) → Names o name kinds.Commit → (commit : Commit) × (o ≡ object.Commit commit) × Contains commit.parents name
names_parent (object.Blob content) name none = absurd none
names_parent (object.Tree tree) name (entry, among, is, kind) = absurd (no_commit_entry entry.mode kind)
names_parent (object.Commit commit) name (inl tree) = absurd (let no : kinds.Commit ≡ kinds.Tree = tree.1 in cc no)
names_parent (object.Commit commit) name (inr up) = (commit, refl, up.0)

-- the step to a commit is one to a parent
pub next_parent : (objects : Objects) (high low : Reference) → NamesNext objects high low → low.kind ≡ kinds.Commit → (high.kind ≡ kinds.Commit) × IsParent objects high.name low.name
next_parent objects high low step is =
    let up = names_parent step.object low.name (subst (Names step.object low.name) is step.names) in (
      sym step.is_kind ∙ ap kind_of up.1,
      record { commit = up.0; held = ap (option_and_then as_commit) (step.is ∙ ap Some up.1); names = up.2 },
    )

-- what lies below a name that lies below another lies below that
pub under_below : (objects : Objects) (heads : List Name) (low name : Name) → IsBelow objects heads low → IsBelow objects (low ∷ []) name → IsBelow objects heads name
under_below objects heads low name at below =
    below_below objects heads (low ∷ []) name (λ one c. subst (IsBelow objects heads) (Contains-one low one c) at) below

-- a path to a commit goes from parent to parent
pub leads_below : (objects : Objects) (from : Reference) (path : List Reference) (to : Reference) → Leads objects from path to → to.kind ≡ kinds.Commit
    → (from.kind ≡ kinds.Commit) × IsBelow objects (from.name ∷ []) to.name
leads_below objects from [] to same is =
    (ap (λ (r : Reference). r.kind) same ∙ is, head (subst (λ (r : Reference). Contains (from.name ∷ []) r.name) same (Contains-first from.name [])))
leads_below objects from (on ∷ path) to (step, later) is =
    let rest = leads_below objects on path to later is in
    let up = next_parent objects from on step rest.0 in
    (up.0, under_below objects (from.name ∷ []) on.name to.name (parent (head (Contains-first from.name [])) up.1) rest.1)

-- each commit of a closure lies below its head
pub closure_below : (objects : Objects) (top : Name) (one : Reference) → IsInClosure objects top one → one.kind ≡ kinds.Commit → IsBelow objects (top ∷ []) one.name
closure_below objects top one (path, leads) is = (leads_below objects (commit_named top) path one leads is).1

-- and each that a copy follows
pub followed_below : (closed : Bool) (source target : Objects) (top : Name) (one : Reference) → IsFollowed closed source target top one → one.kind ≡ kinds.Commit → IsBelow source (top ∷ []) one.name
followed_below closed source target top one (first same unleft) is = head (subst (λ (r : Reference). Contains (top ∷ []) r.name) (sym same) (Contains-first top []))
followed_below closed source target top one (next {high = high} f step unleft) is =
    let up = next_parent source high one step is in
    parent (followed_below closed source target top high f up.0) up.1
