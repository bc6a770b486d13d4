use Rattle.object_store.specs.Typed.{as_blob, as_commit, as_tree}
use Rattle.object_store.proofs.FaultLemmas.{same_faults}
use Rattle.object_store.proofs.laws.faults_of_kinds_are_those_of_objects.Goals as goal

pub returns-clause-commit : goal.returns-clause-commit
returns-clause-commit c = same_faults as_commit

pub returns-clause-tree : goal.returns-clause-tree
returns-clause-tree c = same_faults as_tree

pub returns-clause-blob : goal.returns-clause-blob
returns-clause-blob c = same_faults as_blob
