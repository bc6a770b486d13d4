use Rattle.std.proofs.Common.{[], ◌++◌, refl}
use Rattle.object_batch.proofs.LeadLemmas.{Leads-stays, Leads-then}
use Rattle.object_batch.proofs.laws.paths_compose.Goals as goal

pub returns-clause-none : goal.returns-clause-none
returns-clause-none c = λ held one. ([], refl)

pub returns-clause-then : goal.returns-clause-then
returns-clause-then c = λ held from mid to first then. (first.0 ++ then.0, Leads-then held from first.0 mid then.0 to first.1 then.1)

pub returns-clause-stays : goal.returns-clause-stays
returns-clause-stays c = λ old new from to grew leads. (leads.0, Leads-stays old new grew from leads.0 to leads.1)
