use Rattle.dag_entity.proofs.HoldLemmas.{folders_agree, valid_holds}
use Rattle.dag_entity.proofs.folder_laws.folders_that_hold_what_is_needed_agree.Goals as goal

pub returns-clause-agree : goal.returns-clause-agree
returns-clause-agree g c = λ one two heads alike first second. folders_agree one two heads alike first second

pub returns-clause-hold : goal.returns-clause-hold
returns-clause-hold g c = λ objects id heads authors valid. valid_holds g.K.OpKind.meaning objects id heads authors valid

pub returns-clause-valid : goal.returns-clause-valid
returns-clause-valid g c = λ one two id other heads authors others alike first second.
    folders_agree one two heads alike (valid_holds g.K.OpKind.meaning one id heads authors first) (valid_holds g.K.OpKind.meaning two other heads others second)
