use Rattle.ref_moments.proofs.LeadLemmas.{fetch_leads_on, kinds_lead_on, push_leads_on}
use Rattle.ref_moments.proofs.laws.refs_lead_on_at_each_moment.Goals as goal

pub returns-clause-own : goal.returns-clause-own
returns-clause-own c = kinds_lead_on

pub returns-clause-fetch : goal.returns-clause-fetch
returns-clause-fetch c = fetch_leads_on

pub returns-clause-push : goal.returns-clause-push
returns-clause-push c = push_leads_on
