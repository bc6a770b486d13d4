-- Two brackets are open where there is room for fewer than a hundred.
use Rattle.json_span.proofs.NestLaws.{deep_is}
use Rattle.json_span.proofs.nest.Nest.is_deep.Goals as goal

pub returns : goal.returns
returns c = rw (← c.self.view_is) (deep_is c.self.inside.bits c.self.inside.room c.self.invariant.0)
