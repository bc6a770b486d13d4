use Rattle.commit_pack.proofs.LawLemmas.{pack_under-found, pack_under-only}
use Rattle.commit_pack.proofs.laws.packs_of_commits_are_exact.Goals as goal

pub returns-clause-found : goal.returns-clause-found
returns-clause-found g c = pack_under-found g.K.OpKind.meaning

pub returns-clause-only : goal.returns-clause-only
returns-clause-only g c = pack_under-only g.K.OpKind.meaning
