use Rattle.std.proofs.Common.{◌≢◌, subst, List, ℕ, Bor, length}
use Rattle.std.specs.Prelude.{IsTrue, ◌↔◌}
use Rattle.std.specs.List.{AllAdjacentBelow}
use Rattle.git_object.proofs.DistinctLaws.{decided}
use Rattle.git_object.proofs.tree.are_distinct.Goals as goal

pub returns : goal.returns
returns c = λ entries are. decided entries c.args.names.items c.sort.new.self.items c.neighbours_differ.result are c.in_ok-sort.ensures.permutation c.in_ok-sort.ensures.sorted
    (subst (λ (rs : List (Bor (List ℕ))). IsTrue c.neighbours_differ.result ↔ AllAdjacentBelow (λ x y. x.now ≢ y.now) rs (length rs)) c.deref.ensures.value c.neighbours_differ.ensures)
