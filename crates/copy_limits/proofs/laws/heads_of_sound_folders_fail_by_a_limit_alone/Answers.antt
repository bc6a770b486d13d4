use Rattle.copy_limits.proofs.SoundLemmas.{sound_limit}
use Rattle.copy_limits.proofs.laws.heads_of_sound_folders_fail_by_a_limit_alone.Goals as goal

pub returns : goal.returns
returns c = λ closed source files target word id head why sound whole alike is at cause. sound_limit source files sound id is closed target whole alike word head at why cause
