use Rattle.columns.proofs.CellLemmas.{cell_width}
use Rattle.columns.proofs.laws.cells_have_their_columns.Goals as goal

pub returns : goal.returns
returns c = cell_width
