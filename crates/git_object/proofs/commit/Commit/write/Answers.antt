use Rattle.std.proofs.Common.{rules}
use Rattle.git_object.specs.Grammar.{IsCommitText}
use Rattle.git_object.proofs.CommitLaws.{commit_only}
use Rattle.git_object.proofs.commit.Commit.write.Goals as goal

pub returns-clause-reads_back : goal.returns-clause-reads_back
returns-clause-reads_back c = (let is : IsCommitText c.from_vec.result c.args.self.now = search rules in commit_only c.from_vec.result c.args.self.now is)
