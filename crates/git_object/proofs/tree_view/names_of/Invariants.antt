use Rattle.std.proofs.Common.{◌≡◌, take, map, List, ℕ, Bor}
use Rattle.git_object.specs.declared.entry.Entry.{Entry}
use Rattle.git_object.specs.Views.{entry_seen}
use Rattle.git_object.proofs.tree_view.names_of.Given as goal

abbrev pub invariant-loop-view : goal.invariant-loop-view
invariant-loop-view l = map (λ (r : Bor (List ℕ)). r.now) l.names.items ≡ map (λ (e : Entry). e.name) (map entry_seen (take l.view-index l.views))
