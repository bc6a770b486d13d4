use Rattle.copy_limits.proofs.SoundLemmas.{sound_none}
use Rattle.copy_limits.proofs.flat_laws.flat_entities_are_copied.Goals as goal

pub returns : goal.returns
returns c = λ closed source files target word id head why sound whole alike is at flat cause. sound_none source files sound id is closed target whole alike word head at flat why cause
