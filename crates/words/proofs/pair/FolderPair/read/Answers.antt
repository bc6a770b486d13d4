use Rattle.std.proofs.Common.{◌≡◌, ◌∙◌, sym, true, false}
use Rattle.words.proofs.PairLemmas.{apart_from, no_pair, the_pair}
use Rattle.words.proofs.pair.FolderPair.read.Goals as goal

pub returns-then-overlaps : goal.returns-then-overlaps
returns-then-overlaps c = sym (no_pair c.args.own c.args.peer (c.overlaps.ensures.0 c.if-overlaps.true))

pub invariant_of-result : goal.invariant_of-result
invariant_of-result c =
    record { apart = apart_from c.args.own c.args.peer (λ over. let bad : true ≡ false = sym (c.overlaps.ensures.1 over) ∙ c.if-overlaps.false in cc bad) }

pub returns : goal.returns
returns c = sym (the_pair _)
