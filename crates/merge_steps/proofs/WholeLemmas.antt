-- Where all that objects name is held, all is held that an entity below held commits needs.
use Rattle.std.proofs.Common.{◌≡◌, ◌≢◌, inl, inr, true, ℕ, List, Contains, Option, Some, None, option_and_then, refl, sym, ◌∙◌, ap, subst}
use Rattle.std.specs.Prelude.{codes, find}
use Rattle.std.specs.Option.{option_map}
use Rattle.std.specs.Str.{bytes_eq}
use Rattle.std.proofs.lemmas.Bool.{and_parts}
use Rattle.std.proofs.lemmas.Option.{same_Some}
use Rattle.gb_text.specs.declared.id.Name.{Name}
use Rattle.git_object.specs.declared.commit.Commit.{Commit}
use Rattle.git_object.specs.declared.entry.Entry.{Entry}
use Rattle.git_object.specs.declared.entry.Mode.{Mode}
use Rattle.git_object.specs.declared.entry.Mode.TheVariants as mode
use Rattle.git_object.specs.declared.frame.Kind.{Kind}
use Rattle.git_object.specs.declared.frame.Kind.TheVariants as kinds
use Rattle.git_object.specs.declared.object.Object.{Object}
use Rattle.git_object.specs.declared.object.Object.TheVariants as objects
use Rattle.git_object.specs.declared.tree.Tree.{Tree}
use Rattle.git_object.specs.Reading.{object_of}
use Rattle.object_store.specs.Growth.{OnlyGrew}
use Rattle.object_store.specs.Held.{Objects, named, object_at}
use Rattle.object_store.specs.Typed.{as_commit, as_tree, commit_at, tree_at}
use Rattle.object_store.proofs.GrowthLemmas.{bind-some}
use Rattle.object_batch.specs.Needs.{IsHeldAs, IsWhole, kind_named}
use Rattle.object_batch.proofs.ClashLemmas.{find-some}
use Rattle.commit_pack.specs.Packs.{NamesOps, PackNeeds}
use Rattle.op_pack.specs.Heads.{is_file, is_ops}
use Rattle.commit_walk.specs.Below.{IsBelow, head, parent}
use Rattle.bug_ops.specs.Kind.{bug_kind}
use Rattle.bug_ops.specs.declared.op.BugOp.{BugOp}
use Rattle.dag_entity.specs.Agreeing.{SameNeeded}
use Rattle.dag_entity.specs.Entities.{IsOperationCommit}
use Rattle.dag_entity.specs.Nodes.{IsNeeded}
use Rattle.dag_entity.specs.declared.entity.Placed.{Placed}
use Rattle.dag_entity.proofs.AgreeGrowth.{needed_stays}
use Rattle.dag_entity.proofs.AgreeLemmas.{below_back, below_over, pack_same}

-- an object that reads as a commit is one
commit_is : (object : Object) (commit : Commit) → as_commit object ≡ Some commit → object ≡ objects.Commit commit
commit_is (objects.Blob content) commit e = absurd (cc)
commit_is (objects.Tree tree) commit e = absurd (cc)
commit_is (objects.Commit found) commit e = let is : found ≡ commit = cc in ap objects.Commit is

-- and one that reads as a tree
tree_is : (object : Object) (tree : Tree) → as_tree object ≡ Some tree → object ≡ objects.Tree tree
tree_is (objects.Blob content) tree e = absurd (cc)
tree_is (objects.Tree found) tree e = let is : found ≡ tree = cc in ap objects.Tree is
tree_is (objects.Commit commit) tree e = absurd (cc)

commit_object : (held : Objects) (name : Name) (commit : Commit) → commit_at held name ≡ Some commit → object_at held name ≡ Some (objects.Commit commit)
commit_object held name commit e =
    let found = bind-some as_commit (object_at held name) commit e in
    found.1 ∙ ap Some (commit_is found.0 commit found.2)

tree_object : (held : Objects) (name : Name) (tree : Tree) → tree_at held name ≡ Some tree → object_at held name ≡ Some (objects.Tree tree)
tree_object held name tree e =
    let found = bind-some as_tree (object_at held name) tree e in
    found.1 ∙ ap Some (tree_is found.0 tree found.2)

-- a file is named as a blob
file_kind : (m : Mode) → is_file m ≡ true → kind_named m ≡ Some kinds.Blob
file_kind mode.Plain e = refl
file_kind mode.Exec e = refl
file_kind mode.Link e = absurd (cc)
file_kind mode.Folder e = absurd (cc)
file_kind mode.Module e = absurd (cc)

-- what is held has a file
held_stands : (held : Objects) (name : Name) (kind : Kind) → IsHeldAs held name kind → held name ≢ None
held_stands held name kind is none =
    let lost : object_at held name ≡ None = ap (λ (file : Option (List ℕ)). option_and_then object_of (option_and_then (named name) file)) none in
    let clash : Some is.object ≡ None = sym is.is ∙ lost in cc

module _ (held : Objects) (whole : IsWhole held) (tops : List Name) (all : (top : Name) → Contains tops top → IsHeldAs held top kinds.Commit) where
  -- each commit below held commits is held
  below_held : (name : Name) → IsBelow held tops name → IsHeldAs held name kinds.Commit
  below_held name (head c) = all name c
  below_held name (parent {high = high} up names) =
      whole.needs high (objects.Commit names.commit) (commit_object held high names.commit names.held) name kinds.Commit (inr (names.names, refl))

  -- and what the file `ops` of a held tree names
  ops_held : (tree name : Name) → NamesOps held tree name → IsHeldAs held name kinds.Blob
  ops_held tree name ops = whole.needs tree (objects.Tree ops.tree) (tree_object held tree ops.tree ops.held) name kinds.Blob (found_entry (find is_ops ops.tree.entries) refl)
    where
      found_entry : (o : Option Entry) → find is_ops ops.tree.entries ≡ o → (entry : Entry) × Contains ops.tree.entries entry × (entry.object ≡ name) × (kind_named entry.mode ≡ Some kinds.Blob)
      found_entry None e = let named = ops.named in absurd (cc)
      found_entry (Some entry) e =
          let is = find-some is_ops ops.tree.entries entry e in
          let object : entry.object ≡ name = same_Some entry.object name (sym (ap (option_map (λ (it : Entry). it.object)) e) ∙ ops.named) in
          (entry, is.0, object, file_kind entry.mode (and_parts (bytes_eq entry.name (codes "ops")) (is_file entry.mode) is.1).1)

  -- so all that is needed has a file
  needed_stands : (name : Name) → IsNeeded held tops name → held name ≢ None
  needed_stands name (inl below) = held_stands held name kinds.Commit (below_held name below)
  needed_stands name (inr n) = at n.needs
    where
      tree_held : IsHeldAs held n.commit.tree kinds.Tree
      tree_held = whole.needs n.high (objects.Commit n.commit) (commit_object held n.high n.commit n.is.held) n.commit.tree kinds.Tree (inl (refl, refl))

      at : PackNeeds held n.commit.tree name → held name ≢ None
      at (inl is) = subst (λ (it : Name). held it ≢ None) (sym is) (held_stands held n.commit.tree kinds.Tree tree_held)
      at (inr ops) = held_stands held name kinds.Blob (ops_held n.commit.tree name ops)

  -- and stays as it is where objects are only added
  pub whole_stays : (later : Objects) → OnlyGrew held later → SameNeeded held later tops
  whole_stays later grew = needed_stays held later tops grew needed_stands

-- stores that agree on what is needed have the same operation commits below the heads
module _ (here there : Objects) (heads : List Name) (agree : SameNeeded here there heads) where
  pub operation_over : (placed : Placed BugOp) → IsOperationCommit bug_kind here heads placed → IsOperationCommit bug_kind there heads placed
  operation_over placed h = record {
    below = below_over here there heads agree placed.commit h.below;
    has = pack_same here there heads agree bug_kind placed.commit h.below ∙ h.has;
    some = h.some;
  }

  pub operation_back : (placed : Placed BugOp) → IsOperationCommit bug_kind there heads placed → IsOperationCommit bug_kind here heads placed
  operation_back placed h =
      let below = below_back here there heads agree placed.commit h.below in
      record { below = below; has = sym (pack_same here there heads agree bug_kind placed.commit below) ∙ h.has; some = h.some }
