use Rattle.std.proofs.Common.{◌≡◌, take}
use Rattle.remote_copy.specs.Needs.{entry_needs}
use Rattle.remote_copy.proofs.need.entry_needs.Given as goal

abbrev pub invariant-loop-entry : goal.invariant-loop-entry
invariant-loop-entry l = l.needs.items ≡ entry_needs (take l.entry-index l.entries)
