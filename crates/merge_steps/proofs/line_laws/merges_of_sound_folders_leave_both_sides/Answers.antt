use Rattle.merge_steps.proofs.BothSideLemmas.{line_joins}
use Rattle.merge_steps.proofs.line_laws.merges_of_sound_folders_leave_both_sides.Goals as goal

pub returns : goal.returns
returns c = line_joins
