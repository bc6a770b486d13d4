-- Those that match before, and those that are left, are all that match.
use Rattle.std.proofs.Common.{◌≡◌, ◌++◌, drop}
use Rattle.query.specs.Answers.{matching_by}
use Rattle.query.specs.Folds.{folded_matches}
use Rattle.query.proofs.rows.all_matching.Given as goal

abbrev pub invariant-loop-place : goal.invariant-loop-place
invariant-loop-place l = matching_by (folded_matches l.query l.folds) l.query.key 0 l.rows ≡ l.placed.items ++ matching_by (folded_matches l.query l.folds) l.query.key l.place (drop l.place l.rows)
