use Rattle.op_pack.proofs.ReportLemmas.{create_bounded, edit_bounded}
use Rattle.op_pack.proofs.laws.clocks_are_within_bounds.Goals as goal

pub returns-clause-edit : goal.returns-clause-edit
returns-clause-edit c = edit_bounded

pub returns-clause-create : goal.returns-clause-create
returns-clause-create c = create_bounded
