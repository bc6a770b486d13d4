use Rattle.remote_copy.specs.Closure.{commit_named}
use Rattle.remote_copy.proofs.KeptLemmas.{head_closure, left_cases}
use Rattle.remote_copy.proofs.laws.copied_heads_have_their_closure.Goals as goal

pub returns : goal.returns
returns c = λ closed source entry target head one grew is copied path. head_closure closed source entry target head one grew is copied (left_cases closed entry (commit_named head)) path
