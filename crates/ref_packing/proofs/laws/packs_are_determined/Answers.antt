use Rattle.gb_store.specs.Files.{files_of}
use Rattle.ref_packing.proofs.DeterminedLemmas.{bad_not_long, one_bad, one_count, packs_not_bad, packs_not_long}
use Rattle.ref_packing.proofs.laws.packs_are_determined.Goals as goal

pub returns-clause-counts : goal.returns-clause-counts
returns-clause-counts c = one_count

pub returns-clause-not_bad : goal.returns-clause-not_bad
returns-clause-not_bad c = λ folder at old new count done bad. packs_not_bad (files_of old) folder at done.taken done.packed done.reads done.are_packed bad

pub returns-clause-not_long : goal.returns-clause-not_long
returns-clause-not_long c = λ folder old new count done why. packs_not_long (files_of old) folder done.taken done.packed done.are_packed done.fits why

pub returns-clause-one_bad : goal.returns-clause-one_bad
returns-clause-one_bad c = λ folder one two files here there. one_bad files folder one two here there

pub returns-clause-one_reason : goal.returns-clause-one_reason
returns-clause-one_reason c = λ folder at files bad why. bad_not_long files folder at bad why
