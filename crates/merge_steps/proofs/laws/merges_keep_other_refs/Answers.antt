use Rattle.merge_steps.proofs.OtherRefLemmas.{merge_leaves, refused_stay}
use Rattle.merge_steps.proofs.laws.merges_keep_other_refs.Goals as goal

pub returns-clause-others : goal.returns-clause-others
returns-clause-others c = λ folder remote now old new result of id is other. merge_leaves folder remote now old new of id other result is

pub returns-clause-refused : goal.returns-clause-refused
returns-clause-refused c = λ folder remote now old new lines line is has refused. refused_stay folder remote now old new lines line is has refused
