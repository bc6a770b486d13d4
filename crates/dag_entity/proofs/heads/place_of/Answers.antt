use Rattle.std.proofs.Common.{arith}
use Rattle.dag_graph.proofs.NodeLemmas.{named}
use Rattle.dag_entity.proofs.heads.place_of.Goals as goal

pub returns-clause-named : goal.returns-clause-named
returns-clause-named c =
    let (place, within, is) = named c.args.nodes.now c.args.name.now c.requires in
    absurd (c.loop-place.invariant place (omega (arith, within, c.loop-place-test.false)) is)
