use Rattle.std.proofs.Common.{◌≡◌, ◌<◌, ◌≤◌, ◌+◌, Bool, List, ℕ, true, false, [], ◌∷◌, length, replicate, set, take, sym, get_or, ◌∙◌, subst, ap, arith, length-append}
use Rattle.std.proofs.lemmas.List.{get_or-take, length-take-le}
use Rattle.dag_graph.specs.Search.{AreFound, is_met}
use Rattle.dag_graph.proofs.SearchLemmas.{AreBelow-all, AreFound-at, AreFound-more, AreFound-none, Reaches, Reaches-first, Reaches-more, found_new, met_none}
use Rattle.dag_graph.proofs.search.mark_below.Goals as goal

pub loop-turn-init : goal.loop-turn-init
loop-turn-init c =
    let nodes = c.args.nodes.now in
    let high = c.args.high in
    let met = c.fill.new.self in
    let first = take c.meet-count.result c.meet-count.new.queue in
    let none : met ≡ replicate (length c.args.met.now) false = c.fill.ensures.after (λ y e. e) in
    let within : high < length met = omega (arith, c.requires.high, c.requires.met, c.fill.ensures.len) in
    let unmet : is_met met high ≡ false = ap (λ (m : List Bool). is_met m high) none ∙ met_none (length c.args.met.now) high in
    let are : AreFound met [] = subst (λ (m : List Bool). AreFound m []) (sym none) (AreFound-none (length c.args.met.now)) in
    let is : first ≡ high ∷ [] = c.meet-count.ensures.found ∙ sym (found_new met [] high unmet) in
    let found : AreFound (set met high true) first = subst (λ (l : List ℕ). AreFound (set met high true) l) (sym c.meet-count.ensures.found) (AreFound-more met [] are high within) in
    record {
      turn = omega arith;
      count = c.meet-count.ensures.count;
      found = subst (λ (m : List Bool). AreFound m first) (sym c.meet-count.ensures.met) found;
      reaches = subst (λ (l : List ℕ). Reaches nodes high l 0) (sym is) (Reaches-first nodes high);
    }

pub meet_parents-count-requires-clause-place : goal.meet_parents-count-requires-clause-place
meet_parents-count-requires-clause-place c =
    let found = take c.loop-turn.count c.loop-turn.queue in
    let turn = c.loop-turn.turn in
    let before : turn < length found = omega (arith, c.loop-turn-test.true, length-take-le c.loop-turn.count c.loop-turn.queue c.loop-turn.invariant.count) in
    let inside : get_or found turn 0 < length c.loop-turn.met = AreFound-at c.loop-turn.met found turn c.loop-turn.invariant.found before in
    let same : get_or found turn 0 ≡ get_or c.loop-turn.queue turn 0 = get_or-take c.loop-turn.count c.loop-turn.queue turn 0 c.loop-turn-test.true in
    omega (arith, inside, same, c.loop-turn.auto.met, c.requires.met)

pub loop-turn-preserved : goal.loop-turn-preserved
loop-turn-preserved c =
    let turn = c.loop-turn.turn in
    let old = take c.loop-turn.count c.loop-turn.queue in
    let new = take c.meet_parents-count.result c.meet_parents-count.new.queue in
    let place = get_or c.loop-turn.queue turn 0 in
    let before : turn < length old = omega (arith, c.loop-turn-test.true, length-take-le c.loop-turn.count c.loop-turn.queue c.loop-turn.invariant.count) in
    let same : get_or old turn 0 ≡ place = get_or-take c.loop-turn.count c.loop-turn.queue turn 0 c.loop-turn-test.true in
    let inside : get_or old turn 0 < length c.loop-turn.met = AreFound-at c.loop-turn.met old turn c.loop-turn.invariant.found before in
    let within : place < length c.args.nodes.now = omega (arith, inside, same, c.loop-turn.auto.met, c.requires.met) in
    let follows = c.meet_parents-count.ensures.follows in
    let longer : length new ≡ length old + length follows.rest = ap length follows.kept ∙ length-append old follows.rest in
    record {
      turn = omega (arith, before, longer, length-take-le c.meet_parents-count.result c.meet_parents-count.new.queue c.meet_parents-count.ensures.count);
      count = c.meet_parents-count.ensures.count;
      found = c.meet_parents-count.ensures.found;
      reaches = Reaches-more c.args.nodes.now c.args.high old new turn place before same within follows c.loop-turn.invariant.reaches;
    }

pub returns : goal.returns
returns c =
    let found = take c.loop-turn.count c.loop-turn.queue in
    let all : length found ≤ c.loop-turn.turn = omega (arith, c.loop-turn-test.false, length-take-le c.loop-turn.count c.loop-turn.queue c.loop-turn.invariant.count) in
    AreBelow-all c.args.nodes.now c.requires.graph.nodes_are c.args.high c.requires.high found c.loop-turn.turn all c.loop-turn.invariant.reaches
    (λ place has. let inside = c.loop-turn.invariant.found.inside place has in omega (arith, inside, c.loop-turn.auto.met, c.requires.met))
    c.loop-turn.met c.loop-turn.invariant.found
