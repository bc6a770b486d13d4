use Rattle.std.proofs.Common.{refl}
use Rattle.sync_steps.proofs.laws.causes_are_refusals_of_copies.Goals as goal

pub returns-clause-missing : goal.returns-clause-missing
returns-clause-missing c = λ x. refl

pub returns-clause-damaged : goal.returns-clause-damaged
returns-clause-damaged c = λ x. refl

pub returns-clause-kind : goal.returns-clause-kind
returns-clause-kind c = λ x. refl

pub returns-clause-large : goal.returns-clause-large
returns-clause-large c = λ x. refl

pub returns-clause-ring : goal.returns-clause-ring
returns-clause-ring c = λ x. refl

pub returns-clause-taken : goal.returns-clause-taken
returns-clause-taken c = λ x. refl
