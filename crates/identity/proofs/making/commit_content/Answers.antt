use Rattle.std.proofs.Common.{rules}
use Rattle.identity.specs.Making.{version_commit}
use Rattle.identity.proofs.MakingLemmas.{commit_is}
use Rattle.identity.proofs.making.commit_content.Goals as goal

pub returns-clause-commit : goal.returns-clause-commit
returns-clause-commit c = search rules

pub returns-clause-text : goal.returns-clause-text
returns-clause-text c = commit_is (version_commit c.args.tree c.args.parent c.args.now) c.write.result (returns-clause-commit c)
