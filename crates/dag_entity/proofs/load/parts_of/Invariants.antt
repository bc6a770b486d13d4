use Rattle.std.proofs.Common.{◌≡◌, ◌++◌, map}
use Rattle.dag_entity.specs.Loading.{node_of, placed_of}
use Rattle.dag_entity.proofs.load.parts_of.Given as goal

abbrev pub invariant-loop-one : goal.invariant-loop-one
invariant-loop-one g l = record {
  nodes : l.nodes.items ++ map node_of l.one-iterator.rest.items ≡ map node_of l.fn.loaded.items;
  packs : l.packs.items ++ map placed_of l.one-iterator.rest.items ≡ map placed_of l.fn.loaded.items;
}
