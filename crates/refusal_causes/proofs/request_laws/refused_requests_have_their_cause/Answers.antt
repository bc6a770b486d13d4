use Rattle.refusal_causes.proofs.RequestLemmas.{request_cause}
use Rattle.refusal_causes.proofs.request_laws.refused_requests_have_their_cause.Goals as goal

pub returns : goal.returns
returns c = request_cause
