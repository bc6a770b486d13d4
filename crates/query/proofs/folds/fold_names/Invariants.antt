-- Those before are folded.
use Rattle.std.proofs.Common.{◌≡◌, take, map}
use Rattle.query.specs.Folds.{known_of}
use Rattle.query.proofs.folds.fold_names.Given as goal

abbrev pub invariant-loop-person : goal.invariant-loop-person
invariant-loop-person l = l.known.items ≡ map known_of (take l.person-index l.names)
