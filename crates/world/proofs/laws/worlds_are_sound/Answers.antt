use Rattle.world.proofs.WorldLemmas.{world_is_sound}
use Rattle.world.proofs.laws.worlds_are_sound.Goals as goal

pub returns : goal.returns
returns c = λ folders events ends new most. world_is_sound folders most events ends new
