use Rattle.world_agreements.proofs.AgreeLemmas.{agree_count, agree_digest, agree_same, agree_union}
use Rattle.world_agreements.proofs.laws.worlds_agree_where_nothing_is_refused.Goals as goal

pub returns-clause-union : goal.returns-clause-union
returns-clause-union c = λ folders folder mid new is one_text within. agree_union folders mid new is one_text folder within

pub returns-clause-same : goal.returns-clause-same
returns-clause-same c = λ folders one two mid new is one_text. agree_same folders mid new is one_text one two

pub returns-clause-count : goal.returns-clause-count
returns-clause-count c = λ folders one two mid new first second is one_text is_one is_two is_first is_second.
    agree_count folders mid new is one_text one two is_one is_two first second is_first is_second

pub returns-clause-digest : goal.returns-clause-digest
returns-clause-digest c = λ folders one two mid new first second is one_text is_one is_two alike is_first is_second.
    agree_digest folders mid new is one_text one two is_one is_two first second is_first is_second alike
