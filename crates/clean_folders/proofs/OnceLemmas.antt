-- Operations that stand once in some folders do in one of them.
use Rattle.std.proofs.Common.{subst, ℕ, List, [], ◌∷◌, Contains}
use Rattle.commit_walk.proofs.DistinctLemmas.{Contains-one}
use Rattle.gb_text.specs.declared.id.Id.{Id}
use Rattle.gb_store.specs.Files.{Files}
use Rattle.bug_ops.specs.declared.op.BugOp.{BugOp}
use Rattle.dag_entity.specs.declared.entity.Placed.{Placed}
use Rattle.operation_origins.specs.Once.{StandOnce}
use Rattle.operation_origins.specs.Origins.{IsThere}

pub stand_in_one : (files : Files) (folders : List (List ℕ)) (folder : List ℕ) → Contains folders folder → StandOnce files folders → StandOnce files (folder ∷ [])
stand_in_one files folders folder is once bug other one two is_bug is_other here there = once bug other one two is_bug is_other (wide bug one here) (wide other two there)
  where
    wide : (bug : Id) (placed : Placed BugOp) → IsThere files (folder ∷ []) bug placed → IsThere files folders bug placed
    wide bug placed there = record {
      folder = there.folder;
      is = subst (Contains folders) (Contains-one folder there.folder there.is) is;
      of = there.of;
      of_bugs = there.of_bugs;
      has = there.has;
    }
