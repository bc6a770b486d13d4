use Rattle.std.proofs.Common.{◌≡◌, true}
use Rattle.columns.specs.Widths.{is_mark, is_printable}
use Rattle.columns.proofs.StepLemmas.{mark, printable}
use Rattle.columns.proofs.step.added_width.Goals as goal

pub returns-then-is_printable-clause-adds : goal.returns-then-is_printable-clause-adds
returns-then-is_printable-clause-adds c =
    let h : is_printable c.args.c ≡ true = cc in
    printable c.args.c h

pub returns-then-is_mark-clause-adds : goal.returns-then-is_mark-clause-adds
returns-then-is_mark-clause-adds c =
    let h : is_mark c.args.c ≡ true = cc in
    mark c.args.c h
