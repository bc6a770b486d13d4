use Rattle.std.proofs.Common.{sym, ◌∙◌}
use Rattle.git_object.proofs.OrderLaws.{one_sorted_text}
use Rattle.git_object.proofs.ObjectLaws.{one_object_text}
use Rattle.git_object.proofs.laws.each_value_has_one_text.Goals as goal

pub returns-clause-trees : goal.returns-clause-trees
returns-clause-trees c = one_sorted_text

pub returns-clause-commits : goal.returns-clause-commits
returns-clause-commits c = λ content rest commit is also. is.text ∙ sym also.text

pub returns-clause-objects : goal.returns-clause-objects
returns-clause-objects c = one_object_text
