use Rattle.row_text.specs.RowLaws.{row_reads_back}
use Rattle.row_text.proofs.laws.written_rows_read_back.Goals as goal

pub returns : goal.returns
returns c = row_reads_back
