-- None of those before matches.
use Rattle.std.proofs.Common.{◌≡◌, drop}
use Rattle.std.specs.List.{list_any}
use Rattle.query.specs.Folds.{is_sought}
use Rattle.query.proofs.persons.some_person.Given as goal

abbrev pub invariant-loop-id : goal.invariant-loop-id
invariant-loop-id l = list_any (is_sought l.names l.word) l.ids ≡ list_any (is_sought l.names l.word) (drop l.id-index l.ids)
