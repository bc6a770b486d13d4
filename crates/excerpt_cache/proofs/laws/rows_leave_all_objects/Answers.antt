use Rattle.excerpt_cache.proofs.RowLemmas.{row_at-object, row_write-object}
use Rattle.excerpt_cache.proofs.laws.rows_leave_all_objects.Goals as goal

pub returns-clause-row : goal.returns-clause-row
returns-clause-row g c = row_write-object

pub returns-clause-object : goal.returns-clause-object
returns-clause-object g c = row_at-object g.R.RowCodec.codec
