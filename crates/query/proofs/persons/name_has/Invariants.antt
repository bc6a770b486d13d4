-- None of those before has the id.
use Rattle.std.proofs.Common.{◌≡◌, drop}
use Rattle.query.specs.Folds.{folded_among}
use Rattle.query.proofs.persons.name_has.Given as goal

abbrev pub invariant-loop-person : goal.invariant-loop-person
invariant-loop-person l = folded_among l.names l.id ≡ folded_among (drop l.person-index l.names) l.id
