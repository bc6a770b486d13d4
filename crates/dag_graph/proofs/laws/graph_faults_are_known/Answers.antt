use Rattle.std.proofs.Common.{◌∷◌, refl, sym, ◌∙◌, ap, [], arith}
use Rattle.gb_text.specs.declared.id.Name.{Name}
use Rattle.dag_graph.proofs.laws.graph_faults_are_known.Goals as goal

pub returns-clause-root : goal.returns-clause-root
returns-clause-root c = λ nodes one other at_one at_other differ root_one root_other. record {
  one = one;
  two = other;
  at_one = at_one;
  at_two = at_other;
  is = refl;
  differ = differ;
  root_one = root_one;
  root_two = root_other;
}

pub returns-clause-order : goal.returns-clause-order
returns-clause-order c = λ nodes child parent at_child at_parent names falls. record {
  one = child;
  two = parent;
  at_one = at_child;
  at_two = at_parent;
  high_is = refl;
  low_is = refl;
  names = names;
  falls = falls;
}

pub returns-clause-jump : goal.returns-clause-jump
returns-clause-jump c = λ nodes child parent at_child at_parent single jumps. record {
  one = child;
  two = parent;
  at_one = at_child;
  at_two = at_parent;
  high_is = refl;
  low_is = refl;
  single = single;
  jumps = jumps;
}

pub returns-clause-near : goal.returns-clause-near
returns-clause-near c = λ nodes high low near jump.
    let bound = near jump.one jump.two jump.at_one jump.at_two (jump.single ∙ ap (λ (name : Name). name ∷ []) (sym jump.low_is)) in
    omega (arith, bound, jump.jumps)

pub returns-clause-merge : goal.returns-clause-merge
returns-clause-merge c = λ nodes commit at many some. record { one = commit; at = at; is = refl; many = many; some = some }
