use Rattle.sync_steps.proofs.FetchedLemmas.{pushed_stands}
use Rattle.sync_steps.proofs.laws.pushed_refs_have_the_local_heads.Goals as goal

pub returns : goal.returns
returns c = λ own peer old new lines line done has is. pushed_stands own peer old new lines done line has is
