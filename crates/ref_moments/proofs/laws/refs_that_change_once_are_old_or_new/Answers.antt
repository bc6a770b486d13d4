use Rattle.ref_moments.proofs.MomentLemmas.{old_or_new, once_cut, one_change}
use Rattle.ref_moments.proofs.laws.refs_that_change_once_are_old_or_new.Goals as goal

pub returns-clause-moments : goal.returns-clause-moments
returns-clause-moments c = λ folder of id old new once. old_or_new folder of id old new once

pub returns-clause-one : goal.returns-clause-one
returns-clause-one c = λ folder of id old new first second once one two. one_change folder of id old new once first second one two

pub returns-clause-cut : goal.returns-clause-cut
returns-clause-cut c = λ folder of id old new moment once is. once_cut folder of id old new once moment is
