use Rattle.repo_writes.proofs.PartLemmas.{row_set}
use Rattle.repo_writes.proofs.part_laws.rows_are_of_present_heads.Goals as goal

pub returns : goal.returns
returns c = row_set
