use Rattle.std.proofs.Common.{◌≡◌, map, take}
use Rattle.repo_state.specs.Answers.{as_entry}
use Rattle.repo_state.proofs.refs.heads_of.Given as goal

abbrev pub invariant-loop-entry : goal.invariant-loop-entry
invariant-loop-entry l = map as_entry l.heads.items ≡ take l.entry-index l.entries
