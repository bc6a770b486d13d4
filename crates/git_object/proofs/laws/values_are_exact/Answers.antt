use Rattle.git_object.proofs.FrameLaws.{frame_takes, frame_only}
use Rattle.git_object.proofs.TreeLaws.{tree_takes, tree_only}
use Rattle.git_object.proofs.CommitLaws.{commit_takes, commit_only}
use Rattle.git_object.proofs.ObjectLaws.{with_takes, with_only, object_takes, object_only}
use Rattle.git_object.proofs.laws.values_are_exact.Goals as goal

pub returns-clause-frames : goal.returns-clause-frames
returns-clause-frames c = λ text kind content. (λ e. frame_takes text kind content e, λ is. frame_only text kind content is)

pub returns-clause-trees : goal.returns-clause-trees
returns-clause-trees c = λ content t. (λ e. tree_takes content t e, λ is. tree_only content t is)

pub returns-clause-commits : goal.returns-clause-commits
returns-clause-commits c = λ content commit. (λ e. commit_takes content commit e, λ is. commit_only content commit is)

pub returns-clause-contents : goal.returns-clause-contents
returns-clause-contents c = λ kind content o. (λ e. (let holds = with_takes kind content o e in (holds.same, holds.is)), λ is. with_only kind content o is.0 is.1)

pub returns-clause-objects : goal.returns-clause-objects
returns-clause-objects c = λ text o. (λ e. object_takes text o e, λ is. object_only text o is)
