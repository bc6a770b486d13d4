use Rattle.words.proofs.PairLemmas.{Overlap-from_overlaps, no_pair, of_folders, overlaps-Overlap, pairless, the_pair}
use Rattle.words.proofs.laws.pairs_are_of_folders_apart.Goals as goal

pub returns-clause-apart : goal.returns-clause-apart
returns-clause-apart c = λ one two. (Overlap-from_overlaps one two, overlaps-Overlap one two)

pub returns-clause-folders : goal.returns-clause-folders
returns-clause-folders c = of_folders

pub returns-clause-none : goal.returns-clause-none
returns-clause-none c = λ own peer. (pairless own peer, no_pair own peer)

pub returns-clause-read : goal.returns-clause-read
returns-clause-read c = the_pair
