use Rattle.git_object.proofs.EntryLaws.{folder_key, other_key}
use Rattle.git_object.proofs.laws.folders_alone_are_sorted_with_a_slash.Goals as goal

pub returns-clause-folder : goal.returns-clause-folder
returns-clause-folder c = λ entry is. folder_key entry.name entry.mode is

pub returns-clause-others : goal.returns-clause-others
returns-clause-others c = λ entry differs. other_key entry.name entry.mode differs
