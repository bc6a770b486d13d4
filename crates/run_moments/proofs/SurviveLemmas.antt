-- What is not lost of a folder keeps the operation commits of its bugs.
use Rattle.std.proofs.Common.{◌≡◌, ℕ, List, Some, option_and_then, ◌∙◌, ap}
use Rattle.gb_text.specs.Digits.{IsId}
use Rattle.gb_text.specs.declared.id.Id.{Id}
use Rattle.gb_text.specs.declared.id.Name.{Name}
use Rattle.gb_store.specs.Files.{Files}
use Rattle.object_store.specs.Growth.{OnlyGrew}
use Rattle.object_store.specs.Held.{Objects, objects_in}
use Rattle.object_store.specs.Typed.{as_blob, as_commit, as_tree, blob_at, commit_at, tree_at}
use Rattle.object_store.proofs.GrowthLemmas.{bind-some, stays}
use Rattle.op_pack.specs.Heads.{head_of}
use Rattle.op_pack.specs.Packs.{pack_at as pack_of_text}
use Rattle.op_pack.specs.declared.pack.Pack.{Pack}
use Rattle.commit_pack.specs.Packs.{pack_in, pack_of_head, pack_under}
use Rattle.dag_entity.specs.Nodes.{pack_at}
use Rattle.bug_ops.specs.Kind.{bug_kind}
use Rattle.bug_ops.specs.declared.op.BugOp.{BugOp}
use Rattle.dag_entity.specs.declared.entity.Placed.{Placed}
use Rattle.repo_state.specs.declared.side.Side.TheVariants as side
use Rattle.repo_writes.specs.Kept.{LosesNothing}
use Rattle.run_moments.specs.Survives.{HasCommit, HasOperation}

module _ (old new : Objects) (grew : OnlyGrew old new) where
  -- the pack of a tree
  pack_under_stays : (tree : Name) (pack : Pack BugOp) → pack_under bug_kind old tree ≡ Some pack → pack_under bug_kind new tree ≡ Some pack
  pack_under_stays tree pack e =
      let is = bind-some (pack_in bug_kind old) (tree_at old tree) pack e in
      let top = bind-some (pack_of_head bug_kind old) (head_of is.0) pack is.2 in
      let text = bind-some (pack_of_text bug_kind top.0) (blob_at old top.0.ops) pack top.2 in
      ap (option_and_then (pack_in bug_kind new)) (stays old new grew as_tree tree is.0 is.1)
      ∙ ap (option_and_then (pack_of_head bug_kind new)) top.1
      ∙ ap (option_and_then (pack_of_text bug_kind top.0)) (stays old new grew as_blob top.0.ops text.0 text.1)
      ∙ text.2

  -- and that of a commit
  pub pack_stays : (name : Name) (pack : Pack BugOp) → pack_at bug_kind old name ≡ Some pack → pack_at bug_kind new name ≡ Some pack
  pack_stays name pack e =
      let is = bind-some (λ commit. pack_under bug_kind old commit.tree) (commit_at old name) pack e in
      ap (option_and_then (λ commit. pack_under bug_kind new commit.tree)) (stays old new grew as_commit name is.0 is.1) ∙ pack_under_stays is.0.tree pack is.2

module _ (folder : List ℕ) (old new : Files) (kept : LosesNothing folder old new) where
  -- an operation commit of a bug
  pub commit_kept : (bug : Id) → IsId bug → (placed : Placed BugOp) → HasCommit folder old bug placed → HasCommit folder new bug placed
  commit_kept bug is placed has =
      let below = kept.heads side.Bugs tt bug is has.head placed.commit has.is_head has.is.below in
      record {
        head = below.head;
        is_head = below.is_head;
        is = record {
          below = below.below;
          has = pack_stays (objects_in old folder) (objects_in new folder) kept.objects placed.commit placed.pack has.is.has;
          some = has.is.some;
        };
      }

  -- and an operation
  pub operation_kept : (bug id : Id) → IsId bug → HasOperation folder old bug id → HasOperation folder new bug id
  operation_kept bug id is has = record { placed = has.placed; commit = commit_kept bug is has.placed has.commit; has = has.has }
