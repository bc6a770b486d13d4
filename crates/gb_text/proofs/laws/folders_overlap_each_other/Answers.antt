use Rattle.gb_text.proofs.PathLemmas.{Overlap-itself, Overlap-mutual}
use Rattle.gb_text.proofs.laws.folders_overlap_each_other.Goals as goal

pub returns-clause-itself : goal.returns-clause-itself
returns-clause-itself c = Overlap-itself

pub returns-clause-mutual : goal.returns-clause-mutual
returns-clause-mutual c = Overlap-mutual
