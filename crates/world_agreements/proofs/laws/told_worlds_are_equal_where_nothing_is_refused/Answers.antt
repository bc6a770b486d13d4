use Rattle.world_agreements.proofs.AgreeLemmas.{exchanged_for, told_count, told_digest, told_equal}
use Rattle.world_agreements.proofs.laws.told_worlds_are_equal_where_nothing_is_refused.Goals as goal

pub returns-clause-exchanged : goal.returns-clause-exchanged
returns-clause-exchanged c = exchanged_for

pub returns-clause-count : goal.returns-clause-count
returns-clause-count c = λ asked world digests one two is one_text are. told_count asked world is one_text digests are one two

pub returns-clause-digest : goal.returns-clause-digest
returns-clause-digest c = λ asked world digests one two is one_text alike are. told_digest asked world is one_text digests are alike one two

pub returns-clause-told : goal.returns-clause-told
returns-clause-told c = told_equal
