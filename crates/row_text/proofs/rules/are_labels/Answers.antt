use Rattle.std.proofs.Common.{sym, ◌∙◌}
use Rattle.row_text.specs.ListsKeep.{texts_ascend, texts_sorted}
use Rattle.row_text.proofs.rules.are_labels.Goals as goal

pub returns-then-are_titles : goal.returns-then-are_titles
returns-then-are_titles c =
    let labels = c.args.labels.now in (
      λ up. record { each = c.are_titles.ensures.0 c.if-are_titles.true; order = texts_sorted labels (sym c.ascend.ensures ∙ up) },
      λ are. c.ascend.ensures ∙ texts_ascend labels are.order,
    )
