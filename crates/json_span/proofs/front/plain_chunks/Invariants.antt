use Rattle.std.proofs.Common.{◌≤◌, ◌-◌, length, take}
use Rattle.json_span.specs.Grammar.{Each, is_plain}
use Rattle.json_span.proofs.front.plain_chunks.Given as goal

abbrev pub invariant-chunks : goal.invariant-chunks
invariant-chunks l = record {
  within : l.front ≤ length l.text;
  each : Each is_plain (take l.front l.text);
}

abbrev pub decreases-chunks : goal.decreases-chunks
decreases-chunks l = length l.text - l.front
