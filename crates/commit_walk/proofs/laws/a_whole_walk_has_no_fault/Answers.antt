use Rattle.commit_walk.proofs.BelowLemmas.{no_fault}
use Rattle.commit_walk.proofs.laws.a_whole_walk_has_no_fault.Goals as goal

pub returns : goal.returns
returns c = λ objects heads walk fault whole few holds. no_fault objects heads walk whole fault few holds
