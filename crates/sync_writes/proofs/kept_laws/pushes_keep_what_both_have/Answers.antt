use Rattle.sync_writes.proofs.PushKeptLemmas.{push_keeps_parts, push_keeps_sound}
use Rattle.sync_writes.proofs.kept_laws.pushes_keep_what_both_have.Goals as goal

pub returns-clause-parts : goal.returns-clause-parts
returns-clause-parts c = push_keeps_parts

pub returns-clause-whole : goal.returns-clause-whole
returns-clause-whole c = push_keeps_sound
