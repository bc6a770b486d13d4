use Rattle.std.proofs.Common.{arith}
use Rattle.lamport.proofs.laws.new_times_are_later.Goals as goal

pub returns-clause-root : goal.returns-clause-root
returns-clause-root c = λ clock below. omega arith

pub returns-clause-root_at_cap : goal.returns-clause-root_at_cap
returns-clause-root_at_cap c = λ clock above. omega arith

pub returns-clause-edit : goal.returns-clause-edit
returns-clause-edit c = λ clock head lower. omega arith

pub returns-clause-edit_by_clock : goal.returns-clause-edit_by_clock
returns-clause-edit_by_clock c = λ clock head higher near. omega arith

pub returns-clause-edit_by_jump : goal.returns-clause-edit_by_jump
returns-clause-edit_by_jump c = λ clock head far. omega arith

pub returns-clause-join : goal.returns-clause-join
returns-clause-join c = λ clock one two. omega arith
