-- A label is on as the operations that are left name it last, or else as it was so far.
use Rattle.std.proofs.Common.{◌≡◌, drop}
use Rattle.std.specs.Option.{unwrap_or}
use Rattle.snapshot.specs.LastMention.{label_is_on, last_found, mention_in}
use Rattle.snapshot.proofs.fields.has_label.Given as goal

abbrev pub invariant-loop-op : goal.invariant-loop-op
invariant-loop-op l = label_is_on l.ops l.label ≡ unwrap_or (last_found (mention_in l.label) (drop l.op-index l.ops)) l.on
