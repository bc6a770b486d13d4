use Rattle.std.proofs.Common.{◌∙◌}
use Rattle.query.proofs.FoldLemmas.{folded_rows}
use Rattle.query.proofs.rows.placed_rows.Goals as goal

pub returns : goal.returns
returns c =
    c.in_ok-placed.ensures ∙ folded_rows c.args.names.now c.args.query.now c.in_ok-folds.folds c.args.rows.now c.in_ok-folds.ensures
