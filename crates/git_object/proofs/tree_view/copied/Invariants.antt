use Rattle.std.proofs.Common.{◌≡◌, take, map}
use Rattle.git_object.specs.Views.{entry_seen}
use Rattle.git_object.proofs.tree_view.copied.Given as goal

abbrev pub invariant-loop-view : goal.invariant-loop-view
invariant-loop-view l = l.entries.items ≡ map entry_seen (take l.view-index l.views)
