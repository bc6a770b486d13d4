use Rattle.std.proofs.Common.{arith}
use Rattle.std.proofs.lemmas.Bool.Decides.{nat_tests}
use Rattle.gb_text.proofs.laws.controls_by_number.Goals as goal

pub returns-clause-low : goal.returns-clause-low
returns-clause-low c = λ n lt. grind (arith, nat_tests)

pub returns-clause-ascii : goal.returns-clause-ascii
returns-clause-ascii c = λ n from to. grind (arith, nat_tests)

pub returns-clause-high : goal.returns-clause-high
returns-clause-high c = λ n from to. grind (arith, nat_tests)

pub returns-clause-beyond : goal.returns-clause-beyond
returns-clause-beyond c = λ n from. grind (arith, nat_tests)
