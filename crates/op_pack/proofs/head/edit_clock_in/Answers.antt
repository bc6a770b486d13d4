use Rattle.std.proofs.Common.{inl, inr, rules}
use Rattle.op_pack.proofs.head.edit_clock_in.Goals as goal

pub returns-in-None : goal.returns-in-None
returns-in-None c = inl (inl (rw c.as_slice.ensures at c.in-None.ensures.repeated))

pub returns-in-Some-None : goal.returns-in-Some-None
returns-in-Some-None c = inl (inr (inl (search rules)))
