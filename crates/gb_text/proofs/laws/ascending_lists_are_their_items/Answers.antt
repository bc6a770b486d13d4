use Rattle.gb_text.proofs.SortedLemmas.{same_elements, distinct_elements}
use Rattle.gb_text.proofs.laws.ascending_lists_are_their_items.Goals as goal

pub returns-clause-once : goal.returns-clause-once
returns-clause-once g c = distinct_elements g.met.T.Ord.total

pub returns-clause-same : goal.returns-clause-same
returns-clause-same g c = λ items others a b h. same_elements g.met.T.Ord.total items others a b (λ z. (h z).0) (λ z. (h z).1)
