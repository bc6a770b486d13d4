use Rattle.std.proofs.Common.{refl}
use Rattle.sync_steps.proofs.laws.tracking_refs_stand_by_their_kind.Goals as goal

pub returns-clause-identity : goal.returns-clause-identity
returns-clause-identity c = λ remote. refl

pub returns-clause-bug : goal.returns-clause-bug
returns-clause-bug c = λ remote. refl
