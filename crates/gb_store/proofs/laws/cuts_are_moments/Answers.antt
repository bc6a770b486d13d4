use Rattle.gb_store.proofs.MomentLemmas.{IsMoment-first_writes}
use Rattle.gb_store.proofs.laws.cuts_are_moments.Goals as goal

pub returns-clause-cut : goal.returns-clause-cut
returns-clause-cut c = IsMoment-first_writes
