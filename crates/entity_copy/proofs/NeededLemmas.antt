-- What lies below a head that was copied, and what an entity needs there.
use Rattle.std.proofs.Common.{◌≡◌, ◌⊎◌, inl, inr, zero, suc, true, false, [], ◌∷◌, Contains, Option, Some, None, refl, sym, ◌∙◌, ap, arith}
use Rattle.std.specs.Prelude.{codes, find}
use Rattle.std.specs.Option.{option_map}
use Rattle.std.specs.Str.{bytes_eq}
use Rattle.std.proofs.lemmas.Bool.{and_parts}
use Rattle.std.proofs.lemmas.Option.{same_Some}
use Rattle.gb_text.specs.declared.id.Name.{Name}
use Rattle.git_object.specs.declared.commit.Commit.{Commit}
use Rattle.git_object.specs.declared.entry.Entry.{Entry}
use Rattle.git_object.specs.declared.entry.Mode.{Mode}
use Rattle.git_object.specs.declared.entry.Mode.TheVariants as mode
use Rattle.git_object.specs.declared.frame.Kind.{Kind}
use Rattle.git_object.specs.declared.frame.Kind.TheVariants as kinds
use Rattle.git_object.specs.declared.object.Object.{Object}
use Rattle.git_object.specs.declared.object.Object.TheVariants as objects
use Rattle.git_object.specs.declared.tree.Tree.{Tree}
use Rattle.object_store.specs.Held.{Objects, object_at}
use Rattle.object_store.specs.Typed.{as_commit, as_tree, commit_at, tree_at}
use Rattle.object_store.proofs.GrowthLemmas.{bind-some}
use Rattle.object_batch.specs.Needs.{NamesNext, Reference, kind_named}
use Rattle.object_batch.proofs.ClashLemmas.{find-some}
use Rattle.commit_walk.specs.Below.{IsBelow, head, parent}
use Rattle.commit_pack.specs.Packs.{NamesOps}
use Rattle.op_pack.specs.Heads.{is_file, is_ops}
use Rattle.dag_entity.specs.Agreeing.{SameNeeded}
use Rattle.dag_entity.specs.Nodes.{IsNeeded}
use Rattle.remote_copy.specs.Closure.{IsFollowed, IsLeft, StandsAlike, commit_named, first, next}
use Rattle.remote_copy.specs.Copies.{IsCopied}
use Rattle.remote_copy.proofs.TextLemmas.{text_at-is}

-- an object that reads as a commit is one
commit_is : (object : Object) (commit : Commit) → as_commit object ≡ Some commit → object ≡ objects.Commit commit
commit_is (objects.Blob content) commit e = absurd (cc)
commit_is (objects.Tree tree) commit e = absurd (cc)
commit_is (objects.Commit found) commit e = let is : found ≡ commit = cc in ap objects.Commit is

-- and one that reads as a tree
tree_is : (object : Object) (tree : Tree) → as_tree object ≡ Some tree → object ≡ objects.Tree tree
tree_is (objects.Blob content) tree e = absurd (cc)
tree_is (objects.Tree found) tree e = let is : found ≡ tree = cc in ap objects.Tree is
tree_is (objects.Commit commit) tree e = absurd (cc)

commit_held : (held : Objects) (name : Name) (commit : Commit) → commit_at held name ≡ Some commit → object_at held name ≡ Some (objects.Commit commit)
commit_held held name commit e =
    let found = bind-some as_commit (object_at held name) commit e in
    found.1 ∙ ap Some (commit_is found.0 commit found.2)

tree_held : (held : Objects) (name : Name) (tree : Tree) → tree_at held name ≡ Some tree → object_at held name ≡ Some (objects.Tree tree)
tree_held held name tree e =
    let found = bind-some as_tree (object_at held name) tree e in
    found.1 ∙ ap Some (tree_is found.0 tree found.2)

-- a name as that of an object of this kind
abbrev pub as_kind : Kind → Name → Reference
as_kind kind name = record { name = name; kind = kind }

-- a file is named as a blob
file_kind : (m : Mode) → is_file m ≡ true → kind_named m ≡ Some kinds.Blob
file_kind mode.Plain e = refl
file_kind mode.Exec e = refl
file_kind mode.Link e = absurd (cc)
file_kind mode.Folder e = absurd (cc)
file_kind mode.Module e = absurd (cc)

module _ (source entry target : Objects) (top : Name) (copied : IsCopied false source entry target top) where
  not_left : (one : Reference) → IsLeft false entry one → ⊥
  not_left one left = let yes = left.is_closed in cc

  -- each commit below the head is followed
  pub below_followed : (name : Name) → IsBelow source (top ∷ []) name → IsFollowed false source entry top (commit_named name)
  below_followed name (head (zero, below, is)) = first (ap commit_named (sym is)) (not_left (commit_named name))
  below_followed name (head (suc k, below, is)) = absurd (omega (arith, below))
  below_followed name (parent {high = high} up names) =
      let next_is : NamesNext source (commit_named high) (commit_named name) = record { object = objects.Commit names.commit; is = commit_held source high names.commit names.held; is_kind = refl; names = inr (names.names, refl) } in
      next (below_followed high up) next_is (not_left (commit_named name))

  -- so is its tree
  pub tree_followed : (high : Name) (commit : Commit) → IsBelow source (top ∷ []) high → commit_at source high ≡ Some commit → IsFollowed false source entry top (as_kind kinds.Tree commit.tree)
  tree_followed high commit below held =
      let next_is : NamesNext source (commit_named high) (as_kind kinds.Tree commit.tree) = record { object = objects.Commit commit; is = commit_held source high commit held; is_kind = refl; names = inl (refl, refl) } in
      next (below_followed high below) next_is (not_left (as_kind kinds.Tree commit.tree))

  -- and what an entry of the tree names that is a file
  pub file_followed : (tree : Name) (held_as : Tree) (one : Entry) → IsFollowed false source entry top (as_kind kinds.Tree tree) → tree_at source tree ≡ Some held_as → Contains held_as.entries one → kind_named one.mode ≡ Some kinds.Blob
      → IsFollowed false source entry top (as_kind kinds.Blob one.object)
  file_followed tree held_as one up held among file =
      let next_is : NamesNext source (as_kind kinds.Tree tree) (as_kind kinds.Blob one.object) = record { object = objects.Tree held_as; is = tree_held source tree held_as held; is_kind = refl; names = (one, among, refl, file) } in
      next up next_is (not_left (as_kind kinds.Blob one.object))

  -- so is what its file `ops` names
  ops_followed : (tree name : Name) → IsFollowed false source entry top (as_kind kinds.Tree tree) → NamesOps source tree name → IsFollowed false source entry top (as_kind kinds.Blob name)
  ops_followed tree name up ops =
      let found = found_entry (find is_ops ops.tree.entries) refl in
      let next_is : NamesNext source (as_kind kinds.Tree tree) (as_kind kinds.Blob name) = record { object = objects.Tree ops.tree; is = tree_held source tree ops.tree ops.held; is_kind = refl; names = found } in
      next up next_is (not_left (as_kind kinds.Blob name))
    where
      found_entry : (o : Option Entry) → find is_ops ops.tree.entries ≡ o → (entry : Entry) × Contains ops.tree.entries entry × (entry.object ≡ name) × (kind_named entry.mode ≡ Some kinds.Blob)
      found_entry None e = let named = ops.named in absurd (cc)
      found_entry (Some entry) e =
          let is = find-some is_ops ops.tree.entries entry e in
          let object : entry.object ≡ name = same_Some entry.object name (sym (ap (option_map (λ (it : Entry). it.object)) e) ∙ ops.named) in
          (entry, is.0, object, file_kind entry.mode (and_parts (bytes_eq entry.name (codes "ops")) (is_file entry.mode) is.1).1)

  pub alike_same : (one : Reference) → StandsAlike source target one → target one.name ≡ source one.name
  alike_same one alike = alike.there ∙ sym (text_at-is source one.name alike.text alike.held).stands

  same_at : (name : Name) → IsNeeded source (top ∷ []) name → target name ≡ source name
  same_at name (inl below) = alike_same (commit_named name) (copied (commit_named name) (below_followed name below))
  same_at name (inr pack) = at pack.needs
    where
      the_tree : Reference
      the_tree = as_kind kinds.Tree pack.commit.tree

      up : IsFollowed false source entry top the_tree
      up = tree_followed pack.high pack.commit pack.is.below pack.is.held

      at : (name ≡ pack.commit.tree) ⊎ NamesOps source pack.commit.tree name → target name ≡ source name
      at (inl is) = ap target is ∙ alike_same the_tree (copied the_tree up) ∙ ap source (sym is)
      at (inr ops) = alike_same (as_kind kinds.Blob name) (copied (as_kind kinds.Blob name) (ops_followed pack.commit.tree name up ops))

  pub same_needed : SameNeeded source target (top ∷ [])
  same_needed = record { same = same_at }
