use Rattle.object_store.specs.Typed.{as_blob, as_commit, as_tree}
use Rattle.object_store.proofs.FaultLemmas.{holds_as_or_fails, not_both_as}
use Rattle.object_store.proofs.laws.a_name_holds_a_kind_or_fails.Goals as goal

pub returns-clause-commit : goal.returns-clause-commit
returns-clause-commit c = holds_as_or_fails as_commit

pub returns-clause-tree : goal.returns-clause-tree
returns-clause-tree c = holds_as_or_fails as_tree

pub returns-clause-blob : goal.returns-clause-blob
returns-clause-blob c = holds_as_or_fails as_blob

pub returns-clause-no_commit : goal.returns-clause-no_commit
returns-clause-no_commit c = not_both_as as_commit

pub returns-clause-no_tree : goal.returns-clause-no_tree
returns-clause-no_tree c = not_both_as as_tree

pub returns-clause-no_blob : goal.returns-clause-no_blob
returns-clause-no_blob c = not_both_as as_blob
