use Rattle.op_kind.proofs.KindLemmas.{read_again, has_other_fault, carried, rows_follow}
use Rattle.op_kind.proofs.laws.kinds_read_what_they_write.Goals as goal

pub returns-clause-again : goal.returns-clause-again
returns-clause-again g c = read_again g.K.OpKind.meaning g.met.K.OpKind.laws

pub returns-clause-carried : goal.returns-clause-carried
returns-clause-carried g c = carried g.K.OpKind.meaning g.met.K.OpKind.laws

pub returns-clause-placed : goal.returns-clause-placed
returns-clause-placed g c = g.met.K.OpKind.laws.moves

pub returns-clause-text : goal.returns-clause-text
returns-clause-text g c = g.met.K.OpKind.laws.is_text

pub returns-clause-opening : goal.returns-clause-opening
returns-clause-opening g c = g.met.K.OpKind.laws.opens_anywhere

pub returns-clause-following : goal.returns-clause-following
returns-clause-following g c = g.met.K.OpKind.laws.follows_anywhere

pub returns-clause-refused : goal.returns-clause-refused
returns-clause-refused g c = g.met.K.OpKind.laws.no_value

pub returns-clause-cause : goal.returns-clause-cause
returns-clause-cause g c = has_other_fault g.K.OpKind.meaning g.met.K.OpKind.laws

pub returns-clause-rows : goal.returns-clause-rows
returns-clause-rows g c = rows_follow g.K.OpKind.meaning g.met.K.OpKind.laws
