use Rattle.std.proofs.Common.{sym, ◌∙◌}
use Rattle.row_text.specs.ListsKeep.{pairs_ascend, pairs_sorted}
use Rattle.row_text.proofs.rules.are_pairs.Goals as goal

pub returns : goal.returns
returns c =
    let pairs = c.args.pairs.now in (
      λ up. record { order = pairs_sorted pairs (sym c.keys_ascend.ensures ∙ up); texts = c.look_at_pairs.ensures },
      λ are. c.keys_ascend.ensures ∙ pairs_ascend pairs are.order,
    )
