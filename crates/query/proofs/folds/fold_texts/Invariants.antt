-- Those before are folded.
use Rattle.std.proofs.Common.{◌≡◌, take, map}
use Rattle.query.specs.Folds.{sought_of}
use Rattle.query.proofs.folds.fold_texts.Given as goal

abbrev pub invariant-loop-text : goal.invariant-loop-text
invariant-loop-text l = l.sought.items ≡ map sought_of (take l.text-index l.texts)
