use Rattle.std.proofs.Common.{arith}
use Rattle.gb_store.proofs.laws.risen_counts_are_higher.Goals as goal

pub returns : goal.returns
returns c = λ before now risen below. omega arith
