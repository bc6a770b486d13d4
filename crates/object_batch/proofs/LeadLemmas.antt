-- What is held where all that an object names is held, and what paths lead to.
use Rattle.std.proofs.Common.{◌≡◌, inl, inr, List, [], ◌∷◌, ◌++◌, Contains, Some, option_and_then, refl, sym, ap, subst}
use Rattle.gb_text.specs.declared.id.Name.{Name}
use Rattle.git_object.specs.declared.commit.Commit.{Commit}
use Rattle.git_object.specs.declared.entry.Entry.{Entry}
use Rattle.git_object.specs.declared.entry.Mode.{Mode}
use Rattle.git_object.specs.declared.entry.Mode.TheVariants as mode
use Rattle.git_object.specs.declared.frame.Kind.{Kind}
use Rattle.git_object.specs.declared.frame.Kind.TheVariants as kinds
use Rattle.git_object.specs.declared.object.Object.{Object}
use Rattle.git_object.specs.declared.object.Object.TheVariants as objects
use Rattle.git_object.specs.declared.tree.Tree.{Tree}
use Rattle.git_object.specs.Grammar.{kind_of}
use Rattle.object_store.specs.Growth.{OnlyGrew}
use Rattle.object_store.specs.Held.{Objects, object_at}
use Rattle.object_store.specs.Typed.{HoldsAs, as_blob, as_commit, as_tree}
use Rattle.object_store.proofs.GrowthLemmas.{bind-some, object_stays}
use Rattle.object_batch.specs.Needs.{AllHeld, IsHeldAs, IsWhole, Leads, Reference, kind_named}

module _ (held : Objects) (name : Name) where
  -- what is held as a tree is one
  pub held_tree : IsHeldAs held name kinds.Tree → HoldsAs as_tree held name
  held_tree h = each h.object h.is h.is_kind
    where
      each : (o : Object) → object_at held name ≡ Some o → kind_of o ≡ kinds.Tree → HoldsAs as_tree held name
      each (objects.Blob b) is kind = absurd (cc)
      each (objects.Tree t) is kind = (t, ap (option_and_then as_tree) is)
      each (objects.Commit c) is kind = absurd (cc)

  -- what is held as a commit is one
  pub held_commit : IsHeldAs held name kinds.Commit → HoldsAs as_commit held name
  held_commit h = each h.object h.is h.is_kind
    where
      each : (o : Object) → object_at held name ≡ Some o → kind_of o ≡ kinds.Commit → HoldsAs as_commit held name
      each (objects.Blob b) is kind = absurd (cc)
      each (objects.Tree t) is kind = absurd (cc)
      each (objects.Commit c) is kind = (c, ap (option_and_then as_commit) is)

  -- what is held as a blob is one
  pub held_blob : IsHeldAs held name kinds.Blob → HoldsAs as_blob held name
  held_blob h = each h.object h.is h.is_kind
    where
      each : (o : Object) → object_at held name ≡ Some o → kind_of o ≡ kinds.Blob → HoldsAs as_blob held name
      each (objects.Blob b) is kind = (b, ap (option_and_then as_blob) is)
      each (objects.Tree t) is kind = absurd (cc)
      each (objects.Commit c) is kind = absurd (cc)

  -- and so back
  tree_held : HoldsAs as_tree held name → IsHeldAs held name kinds.Tree
  tree_held (t, is) = let at = bind-some as_tree (object_at held name) t is in record { object = at.0; is = at.1; is_kind = each at.0 at.2 }
    where
      each : (o : Object) → as_tree o ≡ Some t → kind_of o ≡ kinds.Tree
      each (objects.Blob b) e = absurd (cc)
      each (objects.Tree u) e = refl
      each (objects.Commit c) e = absurd (cc)

  commit_held : HoldsAs as_commit held name → IsHeldAs held name kinds.Commit
  commit_held (c, is) = let at = bind-some as_commit (object_at held name) c is in record { object = at.0; is = at.1; is_kind = each at.0 at.2 }
    where
      each : (o : Object) → as_commit o ≡ Some c → kind_of o ≡ kinds.Commit
      each (objects.Blob b) e = absurd (cc)
      each (objects.Tree u) e = absurd (cc)
      each (objects.Commit d) e = refl

  blob_held : HoldsAs as_blob held name → IsHeldAs held name kinds.Blob
  blob_held (b, is) = let at = bind-some as_blob (object_at held name) b is in record { object = at.0; is = at.1; is_kind = each at.0 at.2 }
    where
      each : (o : Object) → as_blob o ≡ Some b → kind_of o ≡ kinds.Blob
      each (objects.Blob d) e = refl
      each (objects.Tree u) e = absurd (cc)
      each (objects.Commit c) e = absurd (cc)

module _ (held : Objects) where
  -- what a commit needs, and no more
  pub commit_needs : (commit : Commit) → HoldsAs as_tree held commit.tree
      → ((parent : Name) → Contains commit.parents parent → HoldsAs as_commit held parent) → AllHeld held (objects.Commit commit)
  commit_needs commit tree parents name kind (inl is) = subst (λ (k : Kind). IsHeldAs held name k) (sym is.1) (subst (λ (n : Name). IsHeldAs held n kinds.Tree) is.0 (tree_held held commit.tree tree))
  commit_needs commit tree parents name kind (inr is) = subst (λ (k : Kind). IsHeldAs held name k) (sym is.1) (commit_held held name (parents name is.0))

  -- what a tree needs, and no more
  pub tree_needs : (tree : Tree) → ((entry : Entry) → Contains tree.entries entry → kind_named entry.mode ≡ Some kinds.Blob → HoldsAs as_blob held entry.object)
      → ((entry : Entry) → Contains tree.entries entry → kind_named entry.mode ≡ Some kinds.Tree → HoldsAs as_tree held entry.object) → AllHeld held (objects.Tree tree)
  tree_needs tree files folders name kind (entry, member, is, as_kind) = subst (λ (n : Name). IsHeldAs held n kind) is (each kind as_kind)
    where
      commit_never : (m : Mode) → kind_named m ≡ Some kinds.Commit → ⊥
      commit_never mode.Plain e = cc
      commit_never mode.Exec e = cc
      commit_never mode.Link e = cc
      commit_never mode.Folder e = cc
      commit_never mode.Module e = cc

      each : (k : Kind) → kind_named entry.mode ≡ Some k → IsHeldAs held entry.object k
      each kinds.Blob e = blob_held held entry.object (files entry member e)
      each kinds.Tree e = tree_held held entry.object (folders entry member e)
      each kinds.Commit e = absurd (commit_never entry.mode e)

  -- in a whole folder a path from what is held leads to what is held
  pub led_to_held : IsWhole held → (from : Reference) (path : List Reference) (to : Reference) → IsHeldAs held from.name from.kind → Leads held from path to → IsHeldAs held to.name to.kind
  led_to_held whole from [] to is leads = subst (λ (r : Reference). IsHeldAs held r.name r.kind) leads is
  led_to_held whole from (next ∷ path) to is (step, rest) =
      led_to_held whole next path to (whole.needs from.name step.object step.is next.name next.kind step.names) rest

  -- one path after another
  pub Leads-then : (from : Reference) (path : List Reference) (mid : Reference) (rest : List Reference) (to : Reference) → Leads held from path mid → Leads held mid rest to
      → Leads held from (path ++ rest) to
  Leads-then from [] mid rest to first then = subst (λ (r : Reference). Leads held r rest to) (sym first) then
  Leads-then from (next ∷ path) mid rest to (step, first) then = (step, Leads-then next path mid rest to first then)

-- while objects are only added, paths stay
pub Leads-stays : (old new : Objects) → OnlyGrew old new → (from : Reference) (path : List Reference) (to : Reference) → Leads old from path to → Leads new from path to
Leads-stays old new grew from [] to leads = leads
Leads-stays old new grew from (next ∷ path) to (step, rest) = (
  record { object = step.object; is = object_stays old new grew from.name step.object step.is; is_kind = step.is_kind; names = step.names },
  Leads-stays old new grew next path to rest,
)
