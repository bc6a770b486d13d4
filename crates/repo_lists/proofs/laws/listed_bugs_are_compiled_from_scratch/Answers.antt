use Rattle.repo_lists.proofs.ListLemmas.{lists_bugs}
use Rattle.repo_lists.proofs.laws.listed_bugs_are_compiled_from_scratch.Goals as goal

pub returns : goal.returns
returns c = λ folder text layout query old new sound is. lists_bugs folder layout query old new sound text is
