use Rattle.repo_writes.proofs.SoundLemmas.{keeps_parts, keeps_sound}
use Rattle.repo_writes.proofs.laws.writes_keep_folders_sound.Goals as goal

pub returns-clause-parts : goal.returns-clause-parts
returns-clause-parts c = keeps_parts

pub returns-clause-whole : goal.returns-clause-whole
returns-clause-whole c = keeps_sound
