use Rattle.std.proofs.Common.{[], ◌∷◌, refl}
use Rattle.dag_entity.proofs.LawFaults.{apart, full, numbers, together}
use Rattle.dag_entity.proofs.laws.limits_of_entities_are_known.Goals as goal

pub returns-clause-numbers : goal.returns-clause-numbers
returns-clause-numbers g c = numbers g.K.OpKind.meaning

pub returns-clause-commits : goal.returns-clause-commits
returns-clause-commits g c = together g.K.OpKind.meaning

pub returns-clause-room : goal.returns-clause-room
returns-clause-room g c = λ objects id one two authors names once are one_apart two_apart.
    apart g.K.OpKind.meaning objects id (one ∷ two ∷ []) authors names once are one two (record { are = refl; one_apart = one_apart; two_apart = two_apart })

pub returns-clause-clock : goal.returns-clause-clock
returns-clause-clock g c = full g.K.OpKind.meaning
