use Rattle.std.proofs.Common.{sym, ◌∙◌}
use Rattle.row_text.specs.RowLaws.{read_row_rules}
use Rattle.row_text.proofs.laws.read_rows_satisfy_the_rules.Goals as goal

pub returns-clause-rules : goal.returns-clause-rules
returns-clause-rules c = read_row_rules

pub returns-clause-one : goal.returns-clause-one
returns-clause-one c = λ text row other first second. cc (sym first ∙ second)
