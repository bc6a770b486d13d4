use Rattle.std.proofs.Common.{◌<◌, length, take, ◌∙◌, arith}
use Rattle.std.proofs.lemmas.List.{length-set, length-take-le, take_more_set}
use Rattle.dag_graph.proofs.SearchLemmas.{found_new, has_room}
use Rattle.dag_graph.proofs.search.meet.Goals as goal

pub bounds-queue-count : goal.bounds-queue-count
bounds-queue-count c =
    let found = take c.args.count c.args.queue.now in
    let room : length found < length c.args.met.now = has_room c.args.met.now found c.requires.found c.args.place c.requires.place c.if-met-place.false in
    omega (arith, room, length-take-le c.args.count c.args.queue.now c.requires.count, c.requires.queue)

pub returns-clause-count : goal.returns-clause-count
returns-clause-count c =
    let room : c.args.count < length c.args.queue.now = bounds-queue-count c in
    omega (arith, room, length-set c.args.queue.now c.args.count c.args.place)

pub returns-clause-found : goal.returns-clause-found
returns-clause-found c =
    let room : c.args.count < length c.args.queue.now = bounds-queue-count c in
    take_more_set c.args.queue.now c.args.count c.args.place room ∙ found_new c.args.met.now (take c.args.count c.args.queue.now) c.args.place c.if-met-place.false
