-- What holds before each byte of the text.
use Rattle.std.proofs.Common.{◌-◌, ◌≤◌, length}
use Rattle.json_span.specs.Steps.{state_of}
use Rattle.json_span.proofs.ReadLaws.{HasRead}
use Rattle.json_span.proofs.split.split.Given as goal

abbrev pub invariant-bytes : goal.invariant-bytes
invariant-bytes g l = record {
  within : l.place ≤ length l.fn.text;
  read : HasRead g.row.P.Denot g.P.Kept.kept l.fn.kind l.fn.text l.place l.parts.items (state_of l.machine) l.marks;
}

abbrev pub decreases-bytes : goal.decreases-bytes
decreases-bytes g l = length l.fn.text - l.place
