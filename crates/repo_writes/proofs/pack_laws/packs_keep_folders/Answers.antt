use Rattle.repo_writes.proofs.PackLemmas.{pack_apart_keeps_parts, pack_apart_loses_nothing, pack_keeps_parts, pack_loses_nothing, pack_places}
use Rattle.repo_writes.proofs.pack_laws.packs_keep_folders.Goals as goal

pub returns-clause-parts : goal.returns-clause-parts
returns-clause-parts c = pack_keeps_parts

pub returns-clause-kept : goal.returns-clause-kept
returns-clause-kept c = pack_loses_nothing

pub returns-clause-apart_parts : goal.returns-clause-apart_parts
returns-clause-apart_parts c = pack_apart_keeps_parts

pub returns-clause-apart_kept : goal.returns-clause-apart_kept
returns-clause-apart_kept c = pack_apart_loses_nothing

pub returns-clause-places : goal.returns-clause-places
returns-clause-places c = pack_places
