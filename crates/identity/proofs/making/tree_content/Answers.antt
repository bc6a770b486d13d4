use Rattle.identity.proofs.MakingLemmas.{tree_is, tree_text_is}
use Rattle.identity.proofs.making.tree_content.Goals as goal

pub returns-clause-tree : goal.returns-clause-tree
returns-clause-tree c = tree_is c.in_ok-version_tree.field-0 c.args.blob c.write.result c.in_ok-version_tree.ensures.tree c.write.ensures.text

pub returns-clause-text : goal.returns-clause-text
returns-clause-text c = tree_text_is c.args.blob c.write.result (returns-clause-tree c)
