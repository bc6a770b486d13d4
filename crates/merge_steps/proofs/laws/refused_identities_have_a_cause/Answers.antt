use Rattle.merge_steps.proofs.Names.{objects_after}
use Rattle.merge_steps.proofs.RefusedLemmas.{never_said_of_chain, no_disk, no_memory, says_person_fault, says_two_lines}
use Rattle.merge_steps.proofs.laws.refused_identities_have_a_cause.Goals as goal

pub returns-clause-fault : goal.returns-clause-fault
returns-clause-fault c = λ folder turn old new why is refused.
    let says = says_person_fault folder turn old new is why refused in
    let objects = objects_after old folder in (
      is.tracked,
      is.is_tracked,
      says.0.1,
      says.1,
      no_memory objects turn.entity.id is.tracked why says.0.1,
      no_disk objects turn.entity.id is.tracked why says.0.1,
    )

pub returns-clause-only : goal.returns-clause-only
returns-clause-only c = λ folder turn old new why local tracked is at listed good refused. never_said_of_chain folder turn old new is why refused local tracked at listed good

pub returns-clause-not_forward : goal.returns-clause-not_forward
returns-clause-not_forward c = λ folder turn old new name is refused.
    let says = says_two_lines folder turn old new is name refused in
    (is.local, is.tracked, is.is_local, is.is_tracked, says.0, says.1)
