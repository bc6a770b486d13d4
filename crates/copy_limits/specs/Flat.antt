-- Commits whose trees are flat and small.
use Rattle.std.specs.Prelude.{◌≡◌, ◌≢◌, ◌≤◌, ℕ, List, [], ◌∷◌, Contains, length, Some}
use Rattle.gb_text.specs.Digits.{IsId}
use Rattle.gb_text.specs.declared.id.Id.{Id}
use Rattle.gb_text.specs.declared.id.Name.{Name}
use Rattle.gb_store.specs.Files.{Files}
use Rattle.git_object.specs.declared.commit.Commit.{Commit}
use Rattle.git_object.specs.declared.entry.Entry.{Entry}
use Rattle.git_object.specs.declared.frame.Kind.TheVariants as kinds
use Rattle.git_object.specs.declared.tree.Tree.{Tree}
use Rattle.object_store.specs.Held.{Objects, objects_in}
use Rattle.object_store.specs.Typed.{commit_at, tree_at}
use Rattle.object_batch.specs.Needs.{kind_named}
use Rattle.commit_walk.specs.Below.{IsBelow}
use Rattle.ref_store.specs.Refs.{Head}
use Rattle.repo_state.specs.Sides.{head_at}
use Rattle.sync_steps.specs.Places.{local_side}
use Rattle.sync_steps.specs.declared.line.EntityWord.{EntityWord}

-- a tree has at most 15 entries, none of which names a tree
pub record IsFlat (tree : Tree) : Type 0 where
  pub few : length tree.entries ≤ 15
  pub flat : (entry : Entry) → Contains tree.entries entry → kind_named entry.mode ≢ Some kinds.Tree

-- a name holds a commit with such a tree
pub record HasFlatTree (objects : Objects) (name : Name) : Type 0 where
  pub commit : Commit
  pub held : commit_at objects name ≡ Some commit
  pub tree : Tree
  pub is_tree : tree_at objects commit.tree ≡ Some tree
  pub is : IsFlat tree

-- so does each name below a head
abbrev pub HasFlatTrees : Objects → Name → Type 0
HasFlatTrees objects head = (name : Name) → IsBelow objects (head ∷ []) name → HasFlatTree objects name

-- and below the head of each identity and each bug of a folder
abbrev pub HasFlatEntities : List ℕ → Files → Type 0
HasFlatEntities folder files =
    (word : EntityWord) (id : Id) (head : Name) → IsId id → head_at files folder (local_side word) id ≡ Head head → HasFlatTrees (objects_in files folder) head
