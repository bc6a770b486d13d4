use Rattle.std.proofs.Common.{◌≡◌, ◌++◌, map}
use Rattle.dag_entity.specs.Loading.{placed_of}
use Rattle.dag_entity.proofs.since.packs_of.Given as goal

abbrev pub invariant-loop-one : goal.invariant-loop-one
invariant-loop-one g l = l.packs.items ++ map placed_of l.one-iterator.rest.items ≡ map placed_of l.fn.loaded.items
