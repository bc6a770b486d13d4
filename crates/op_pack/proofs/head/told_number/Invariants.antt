use Rattle.std.proofs.Common.{ℕ, drop}
use Rattle.op_pack.specs.Heads.{rests_seen, IsTold}
use Rattle.op_pack.proofs.head.told_number.Given as goal

abbrev pub invariant-loop-entry : goal.invariant-loop-entry
invariant-loop-entry l = (n : ℕ) → IsTold n (rests_seen l.front (drop l.entry-index l.entries)) → IsTold n (rests_seen l.front l.entries)
