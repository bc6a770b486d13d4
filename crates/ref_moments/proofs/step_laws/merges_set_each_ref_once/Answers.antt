use Rattle.ref_moments.proofs.MergeLemmas.{merge_once}
use Rattle.ref_moments.proofs.step_laws.merges_set_each_ref_once.Goals as goal

pub returns : goal.returns
returns c = λ folder remote now old new result of id answers is_id. merge_once folder remote now old of id is_id new result answers
