use Rattle.std.proofs.Common.{take}
use Rattle.remote_copy.specs.Index.{IsHeight}
use Rattle.remote_copy.proofs.index.Index.height.Given as goal

abbrev pub invariant-loop-need : goal.invariant-loop-need
invariant-loop-need l = IsHeight l.self (take l.need-index l.needs) l.height
