use Rattle.std.proofs.Common.{◌++◌, codes, string_bytes, sym, ap, ◌∙◌, append_assoc}
use Rattle.columns.specs.Cells.{spaces}
use Rattle.columns.proofs.CellLemmas.{spaces_more}
use Rattle.columns.proofs.cell.push_spaces.Goals as goal

pub loop-preserved : goal.loop-preserved
loop-preserved c =
    c.in_ok-push_str.ensures.bytes ∙ ap (λ bytes. bytes ++ codes " ") c.loop.invariant ∙ append_assoc (string_bytes c.args.text.now) (spaces c.loop.counter) (codes " ")
    ∙ ap (λ bytes. string_bytes c.args.text.now ++ bytes) (sym (spaces_more c.loop.counter))
