use Rattle.dag_entity.proofs.SplitLemmas.{both_are_wrong, wrong_with_both}
use Rattle.dag_entity.proofs.join_laws.two_valid_heads_fail_by_what_takes_both.Goals as goal

pub returns-clause-split : goal.returns-clause-split
returns-clause-split g c = λ objects id authors one two fault first second. wrong_with_both g.K.OpKind.meaning objects id authors one two first second fault

pub returns-clause-holds : goal.returns-clause-holds
returns-clause-holds g c = λ objects id authors one two fault. both_are_wrong g.K.OpKind.meaning objects id authors one two fault
