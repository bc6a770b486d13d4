use Rattle.std.proofs.Common.{◌≡◌, take, map, List, ℕ, Bor}
use Rattle.git_object.specs.declared.entry.Entry.{Entry}
use Rattle.git_object.proofs.tree.names_of.Given as goal

abbrev pub invariant-loop-entry : goal.invariant-loop-entry
invariant-loop-entry l = map (λ (r : Bor (List ℕ)). r.now) l.names.items ≡ map (λ (e : Entry). e.name) (take l.entry-index l.entries)
