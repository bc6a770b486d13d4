use Rattle.snapshot.proofs.MetadataLemmas.{first_ascend, first_found, first_has, none_of_another, pairs_set}
use Rattle.snapshot.proofs.laws.metadata_have_the_first_value_of_each_key.Goals as goal

pub returns-clause-ascend : goal.returns-clause-ascend
returns-clause-ascend c = first_ascend

pub returns-clause-same : goal.returns-clause-same
returns-clause-same c = first_found

pub returns-clause-begun : goal.returns-clause-begun
returns-clause-begun c = first_has

pub returns-clause-set : goal.returns-clause-set
returns-clause-set c = pairs_set

pub returns-clause-others : goal.returns-clause-others
returns-clause-others c = none_of_another
