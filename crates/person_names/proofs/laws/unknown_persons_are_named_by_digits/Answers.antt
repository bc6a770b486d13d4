use Rattle.person_names.proofs.NameLemmas.{unknown}
use Rattle.person_names.proofs.laws.unknown_persons_are_named_by_digits.Goals as goal

pub returns : goal.returns
returns c = unknown
