use Rattle.refusal_causes.proofs.RequestLemmas.{request_refused}
use Rattle.refusal_causes.proofs.request_laws.causes_refuse_requests.Goals as goal

pub returns : goal.returns
returns c = request_refused
