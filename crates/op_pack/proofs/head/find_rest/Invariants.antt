use Rattle.std.proofs.Common.{◌≡◌, ◌++◌, drop, option_copied, option_to_list}
use Rattle.op_pack.specs.Heads.{rests_seen}
use Rattle.op_pack.proofs.head.find_rest.Given as goal

abbrev pub invariant-loop-entry : goal.invariant-loop-entry
invariant-loop-entry l = option_to_list (option_copied l.found) ++ rests_seen l.front (drop l.entry-index l.entries) ≡ rests_seen l.front l.entries
