-- None of the texts before is matched.
use Rattle.std.proofs.Common.{◌≡◌, drop}
use Rattle.std.specs.List.{list_any}
use Rattle.query.specs.Folds.{is_sought}
use Rattle.query.proofs.persons.persons_match.Given as goal

abbrev pub invariant-loop-word : goal.invariant-loop-word
invariant-loop-word l = list_any (λ word. list_any (is_sought l.names word) l.ids) l.words ≡ list_any (λ word. list_any (is_sought l.names word) l.ids) (drop l.word-index l.words)
