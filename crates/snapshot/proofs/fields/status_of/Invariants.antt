-- The status that is set last is that of the operations that are left, or else the one so far.
use Rattle.std.proofs.Common.{◌≡◌, drop}
use Rattle.std.specs.Option.{unwrap_or}
use Rattle.snapshot.specs.LastMention.{last_found, status_in, status_of}
use Rattle.snapshot.proofs.fields.status_of.Given as goal

abbrev pub invariant-loop-op : goal.invariant-loop-op
invariant-loop-op l = status_of l.ops ≡ unwrap_or (last_found status_in (drop l.op-index l.ops)) l.status
