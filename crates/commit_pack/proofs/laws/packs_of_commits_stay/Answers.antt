use Rattle.commit_pack.proofs.LawLemmas.{pack_stays}
use Rattle.commit_pack.proofs.laws.packs_of_commits_stay.Goals as goal

pub returns : goal.returns
returns g c = pack_stays g.K.OpKind.meaning
