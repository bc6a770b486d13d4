use Rattle.git_object.specs.Grammar.{IsTreeText, HasGoodNames}
use Rattle.git_object.specs.Reading.{tree_of}
use Rattle.git_object.proofs.TreeLaws.{tree_takes, tree_only, tree_good}
use Rattle.git_object.proofs.ReadLaws.{reads_value, reads_found, reads_only}
use Rattle.git_object.proofs.tree.Tree.read.Goals as goal

pub returns-clause-value : goal.returns-clause-value
returns-clause-value c = reads_value (tree_of c.args.content.now) c.parse.result c.parse.ensures

pub returns-clause-found : goal.returns-clause-found
returns-clause-found c = reads_found (IsTreeText c.args.content.now) (tree_of c.args.content.now) c.parse.result (λ v e. tree_takes c.args.content.now v e) c.parse.ensures

pub returns-clause-only : goal.returns-clause-only
returns-clause-only c = λ v is. reads_only (tree_of c.args.content.now) c.parse.result v (tree_only c.args.content.now v is) c.parse.ensures

pub returns-clause-good : goal.returns-clause-good
returns-clause-good c = reads_found HasGoodNames (tree_of c.args.content.now) c.parse.result (λ v e. tree_good c.args.content.now v (tree_takes c.args.content.now v e)) c.parse.ensures
