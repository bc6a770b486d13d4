use Rattle.gb_text.proofs.FolderLemmas.{FolderAnswers-none}
use Rattle.gb_text.proofs.laws.bad_folders_are_answered_so.Goals as goal

pub returns-clause-bad : goal.returns-clause-bad
returns-clause-bad c = FolderAnswers-none

pub returns-clause-only : goal.returns-clause-only
returns-clause-only c = λ word none. none

pub returns-clause-read : goal.returns-clause-read
returns-clause-read c = λ word text some. some
