-- Where all that objects name is held, all that the entity at a held head needs is held.
use Rattle.std.proofs.Common.{◌≡◌, inl, inr, true, ℕ, List, [], ◌∷◌, Contains, Option, Some, None, refl, sym, ◌∙◌, ap, subst}
use Rattle.std.specs.Prelude.{codes, find}
use Rattle.std.specs.Option.{option_map}
use Rattle.std.specs.Str.{bytes_eq}
use Rattle.std.proofs.lemmas.Bool.{and_parts}
use Rattle.std.proofs.lemmas.Option.{same_Some}
use Rattle.gb_text.specs.declared.id.Name.{Name}
use Rattle.git_object.specs.declared.commit.Commit.{Commit}
use Rattle.git_object.specs.declared.entry.Entry.{Entry}
use Rattle.git_object.specs.declared.entry.Mode.{Mode}
use Rattle.git_object.specs.declared.entry.Mode.TheVariants as mode
use Rattle.git_object.specs.declared.frame.Kind.{Kind}
use Rattle.git_object.specs.declared.frame.Kind.TheVariants as kinds
use Rattle.git_object.specs.declared.object.Object.{Object}
use Rattle.git_object.specs.declared.object.Object.TheVariants as objects
use Rattle.git_object.specs.declared.tree.Tree.{Tree}
use Rattle.git_object.specs.Reading.{object_of}
use Rattle.object_store.specs.Held.{Objects, object_at, text_at}
use Rattle.object_store.specs.Typed.{as_commit, as_tree, commit_at, tree_at}
use Rattle.object_store.proofs.GrowthLemmas.{bind-some}
use Rattle.object_batch.specs.Needs.{IsHeldAs, IsWhole, kind_named}
use Rattle.object_batch.proofs.ClashLemmas.{find-some}
use Rattle.commit_pack.specs.Packs.{NamesOps, PackNeeds}
use Rattle.commit_walk.specs.Below.{IsBelow, head, parent}
use Rattle.commit_walk.proofs.DistinctLemmas.{Contains-one}
use Rattle.op_pack.specs.Heads.{is_file, is_ops}
use Rattle.dag_entity.specs.Folders.{HoldsNeeded}

-- an object that reads as a commit is one, and one that reads as a tree
commit_is : (object : Object) (commit : Commit) → as_commit object ≡ Some commit → object ≡ objects.Commit commit
commit_is (objects.Blob content) commit e = absurd (cc)
commit_is (objects.Tree tree) commit e = absurd (cc)
commit_is (objects.Commit found) commit e = let is : found ≡ commit = cc in ap objects.Commit is

tree_is : (object : Object) (tree : Tree) → as_tree object ≡ Some tree → object ≡ objects.Tree tree
tree_is (objects.Blob content) tree e = absurd (cc)
tree_is (objects.Tree found) tree e = let is : found ≡ tree = cc in ap objects.Tree is
tree_is (objects.Commit commit) tree e = absurd (cc)

-- a file is named as a blob
file_kind : (m : Mode) → is_file m ≡ true → kind_named m ≡ Some kinds.Blob
file_kind mode.Plain e = refl
file_kind mode.Exec e = refl
file_kind mode.Link e = absurd (cc)
file_kind mode.Folder e = absurd (cc)
file_kind mode.Module e = absurd (cc)

module _ (held : Objects) where
  commit_object : (name : Name) (commit : Commit) → commit_at held name ≡ Some commit → object_at held name ≡ Some (objects.Commit commit)
  commit_object name commit e = let found = bind-some as_commit (object_at held name) commit e in found.1 ∙ ap Some (commit_is found.0 commit found.2)

  tree_object : (name : Name) (tree : Tree) → tree_at held name ≡ Some tree → object_at held name ≡ Some (objects.Tree tree)
  tree_object name tree e = let found = bind-some as_tree (object_at held name) tree e in found.1 ∙ ap Some (tree_is found.0 tree found.2)

  -- what is held has a text
  held_text : (name : Name) (kind : Kind) → IsHeldAs held name kind → (text : List ℕ) × (text_at held name ≡ Some text)
  held_text name kind is = let found = bind-some object_of (text_at held name) is.object is.is in (found.0, found.1)

  module _ (whole : IsWhole held) (top : Name) (there : IsHeldAs held top kinds.Commit) where
    -- each commit below the head is held
    below_held : (name : Name) → IsBelow held (top ∷ []) name → IsHeldAs held name kinds.Commit
    below_held name (head c) = subst (λ (n : Name). IsHeldAs held n kinds.Commit) (Contains-one top name c) there
    below_held name (parent {high = high} up names) =
        whole.needs high (objects.Commit names.commit) (commit_object high names.commit names.held) name kinds.Commit (inr (names.names, refl))

    -- and what the file `ops` of a held tree names
    ops_held : (tree name : Name) → NamesOps held tree name → IsHeldAs held name kinds.Blob
    ops_held tree name ops = whole.needs tree (objects.Tree ops.tree) (tree_object tree ops.tree ops.held) name kinds.Blob (found_entry (find is_ops ops.tree.entries) refl)
      where
        found_entry : (o : Option Entry) → find is_ops ops.tree.entries ≡ o → (entry : Entry) × Contains ops.tree.entries entry × (entry.object ≡ name) × (kind_named entry.mode ≡ Some kinds.Blob)
        found_entry None e = let named = ops.named in absurd (cc)
        found_entry (Some entry) e =
            let is = find-some is_ops ops.tree.entries entry e in
            let object : entry.object ≡ name = same_Some entry.object name (sym (ap (option_map (λ (it : Entry). it.object)) e) ∙ ops.named) in
            (entry, is.0, object, file_kind entry.mode (and_parts (bytes_eq entry.name (codes "ops")) (is_file entry.mode) is.1).1)

    -- so all that is needed is held
    pub needed_held : HoldsNeeded held (top ∷ [])
    needed_held name (inl below) = held_text name kinds.Commit (below_held name below)
    needed_held name (inr n) = at n.needs
      where
        tree_held : IsHeldAs held n.commit.tree kinds.Tree
        tree_held = whole.needs n.high (objects.Commit n.commit) (commit_object n.high n.commit n.is.held) n.commit.tree kinds.Tree (inl (refl, refl))

        at : PackNeeds held n.commit.tree name → (text : List ℕ) × (text_at held name ≡ Some text)
        at (inl is) = subst (λ (it : Name). (text : List ℕ) × (text_at held it ≡ Some text)) (sym is) (held_text n.commit.tree kinds.Tree tree_held)
        at (inr ops) = held_text name kinds.Blob (ops_held n.commit.tree name ops)
