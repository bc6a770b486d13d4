use Rattle.git_object.specs.Grammar.{IsCommitText, HasGoodTexts}
use Rattle.git_object.specs.Reading.{commit_of}
use Rattle.git_object.proofs.CommitLaws.{commit_takes, commit_only}
use Rattle.git_object.proofs.ReadLaws.{reads_value, reads_found, reads_only}
use Rattle.git_object.proofs.commit.Commit.read.Goals as goal

pub returns-clause-value : goal.returns-clause-value
returns-clause-value c = reads_value (commit_of c.args.content.now) c.parse.result c.parse.ensures

pub returns-clause-found : goal.returns-clause-found
returns-clause-found c = reads_found (IsCommitText c.args.content.now) (commit_of c.args.content.now) c.parse.result (λ v e. commit_takes c.args.content.now v e) c.parse.ensures

pub returns-clause-only : goal.returns-clause-only
returns-clause-only c = λ v is. reads_only (commit_of c.args.content.now) c.parse.result v (commit_only c.args.content.now v is) c.parse.ensures

pub returns-clause-good : goal.returns-clause-good
returns-clause-good c = reads_found HasGoodTexts (commit_of c.args.content.now) c.parse.result (λ v e. (commit_takes c.args.content.now v e).texts) c.parse.ensures
