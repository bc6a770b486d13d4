use Rattle.repo_steps.proofs.Names.{doing_of}
use Rattle.repo_steps.proofs.HeadMoveLemmas.{next_in}
use Rattle.repo_steps.proofs.OwnLemmas.{own}
use Rattle.repo_steps.proofs.cause_laws.writes_are_what_their_command_makes.Goals as goal

pub returns : goal.returns
returns c = λ env command entry earlier change write.
    own env entry change command write.picked (next_in (doing_of env command write.picked entry).writes earlier change write.next)
