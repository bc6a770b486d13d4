use Rattle.gb_store.proofs.FrameLemmas.{object_place-same, object_path-same}
use Rattle.gb_store.proofs.frame_laws.names_have_their_own_paths.Goals as goal

pub returns-clause-place : goal.returns-clause-place
returns-clause-place c = object_place-same

pub returns-clause-path : goal.returns-clause-path
returns-clause-path c = object_path-same
