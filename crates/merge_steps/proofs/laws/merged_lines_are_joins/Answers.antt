use Rattle.merge_steps.proofs.LeftLemmas.{left_outcome}
use Rattle.merge_steps.proofs.laws.merged_lines_are_joins.Goals as goal

pub returns : goal.returns
returns c = λ folder user authors now turn old new is_user moment is ok. (
  is.local,
  is.tracked,
  is.is_local,
  is.is_tracked,
  left_outcome folder user authors now is_user moment turn.entity.id old is.local is.tracked turn.outcome new is.is_local ok is.is,
)
