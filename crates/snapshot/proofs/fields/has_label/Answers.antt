use Rattle.std.proofs.Common.{◌∙◌, sym}
use Rattle.snapshot.specs.LastMention.{mention_in}
use Rattle.snapshot.proofs.FieldLemmas.{found_all, has_this_label}
use Rattle.snapshot.proofs.fields.has_label.Goals as goal

pub returns : goal.returns
returns c =
    let ops = c.args.ops.now in
    let label = c.args.label.now in
    sym (has_this_label ops label ∙ c.loop-op.invariant ∙ found_all (mention_in label) ops c.loop-op.op-index c.loop-op.on c.loop-op-test.false)
