use Rattle.std.proofs.Common.{take}
use Rattle.combined_id.specs.Lookup.{Answers, fitting}
use Rattle.combined_id.proofs.lookup.find.Given as goal

abbrev pub invariant-loop-place : goal.invariant-loop-place
invariant-loop-place l = Answers l.ids (fitting l.prefix (take l.place l.ids)) l.found
