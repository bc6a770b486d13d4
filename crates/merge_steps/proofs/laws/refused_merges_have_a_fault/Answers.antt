use Rattle.merge_steps.proofs.FaultLemmas.{never_disk, never_memory, never_said, says_fault}
use Rattle.merge_steps.proofs.Names.{both_heads, objects_after}
use Rattle.merge_steps.proofs.laws.refused_merges_have_a_fault.Goals as goal

pub returns-clause-fault : goal.returns-clause-fault
returns-clause-fault c = λ folder user authors now turn old new why is refused.
    let says = says_fault folder user authors now turn old new why is refused in
    let objects = objects_after old folder in
    let heads = both_heads is.local is.tracked in (
      is.local,
      is.tracked,
      is.is_local,
      is.is_tracked,
      says.1,
      says.2,
      never_memory objects turn.entity.id heads authors why says.1,
      never_disk objects turn.entity.id heads authors why says.1,
    )

pub returns-clause-only : goal.returns-clause-only
returns-clause-only c = λ folder user authors now turn old new why local tracked is at listed good refused.
    never_said folder user authors now turn old new why is refused local tracked at listed good
