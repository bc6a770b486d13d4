use Rattle.dag_entity.proofs.AppendLemmas.{tree_is, tree_text_is}
use Rattle.dag_entity.proofs.appending.tree_content.Goals as goal

pub returns-clause-tree : goal.returns-clause-tree
returns-clause-tree c =
    tree_is c.in_ok-tree_for.field-0 c.args.edit c.args.create c.args.ops c.write.result c.tree_for.ensures.edit c.tree_for.ensures.create c.in_ok-tree_for.ensures.tree c.write.ensures.text

pub returns-clause-text : goal.returns-clause-text
returns-clause-text c = tree_text_is c.args.edit c.args.create c.args.ops c.write.result (returns-clause-tree c)
