use Rattle.std.proofs.Common.{ℕ, Bool, cond, ap}
use Rattle.gb_store.specs.Counts.{raised}
use Rattle.gb_store.proofs.laws.reads_of_objects_are_counted.Goals as goal

pub returns-clause-object : goal.returns-clause-object
returns-clause-object c = λ path state is. ap (λ (b : Bool). cond b (raised state.reads) state.reads) is

pub returns-clause-other : goal.returns-clause-other
returns-clause-other c = λ path state is. ap (λ (b : Bool). cond b (raised state.reads) state.reads) is
