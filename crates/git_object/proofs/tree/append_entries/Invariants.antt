use Rattle.std.proofs.Common.{◌≡◌, ◌++◌, take, All, map}
use Rattle.std.specs.List.{flat_map}
use Rattle.gb_text.specs.Digits.{IsName}
use Rattle.git_object.specs.Grammar.{entry_text}
use Rattle.git_object.proofs.tree.append_entries.Given as goal

abbrev pub invariant-loop-entry : goal.invariant-loop-entry
invariant-loop-entry l = (l.text.items ≡ l.fn.text.items ++ flat_map entry_text (map (λ r. r.now) (take l.entry-index l.entries))) × All (λ e. IsName e.object) (map (λ r. r.now) (take l.entry-index l.entries))
