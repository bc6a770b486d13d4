use Rattle.excerpt_cache.proofs.RowLemmas.{row_at-beside, row_write-other}
use Rattle.excerpt_cache.proofs.laws.rows_leave_other_places.Goals as goal

pub returns-clause-row : goal.returns-clause-row
returns-clause-row g c = row_write-other

pub returns-clause-other : goal.returns-clause-other
returns-clause-other g c = row_at-beside g.R.RowCodec.codec
