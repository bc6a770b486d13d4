use Rattle.dag_entity.proofs.AppendLemmas.{tree_sorted}
use Rattle.dag_entity.proofs.AppendedLemmas.{parent_names}
use Rattle.dag_entity.proofs.append_laws.appended_parts_are_plain.Goals as goal

pub returns-clause-tree : goal.returns-clause-tree
returns-clause-tree c = tree_sorted

pub returns-clause-parents : goal.returns-clause-parents
returns-clause-parents c = parent_names
