use Rattle.git_object.proofs.FrameLaws.{one_frame}
use Rattle.git_object.proofs.ObjectLaws.{one_tree, one_commit, one_object}
use Rattle.git_object.proofs.laws.each_text_has_one_value.Goals as goal

pub returns-clause-frames : goal.returns-clause-frames
returns-clause-frames c = one_frame

pub returns-clause-trees : goal.returns-clause-trees
returns-clause-trees c = one_tree

pub returns-clause-commits : goal.returns-clause-commits
returns-clause-commits c = one_commit

pub returns-clause-objects : goal.returns-clause-objects
returns-clause-objects c = one_object
