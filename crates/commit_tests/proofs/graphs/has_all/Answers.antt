use Rattle.std.proofs.Common.{◌≡◌, Contains, List, take, get_or, ⊎_elim, sym, ◌∙◌, subst}
use Rattle.std.specs.BTreeMap.{get}
use Rattle.std.specs.Option.{IsSome}
use Rattle.std.proofs.lemmas.List.{take_more}
use Rattle.std.proofs.lemmas.List.Elements.{Contains-push_cases}
use Rattle.gb_text.specs.declared.id.Name.{Name}
use Rattle.dag_graph.specs.Nodes.{no_node}
use Rattle.dag_graph.specs.Index.{name_cmp}
use Rattle.commit_tests.proofs.graphs.has_all.Goals as goal

pub loop-name-preserved : goal.loop-name-preserved
loop-name-preserved c = λ name has.
    let names = c.args.names.now in
    let index = c.loop-name.name-index in
    let here = get_or names index no_node.name in
    let known : IsSome (get name_cmp c.args.places.now here) = sym c.contains_key.ensures ∙ c.if-not-contains_key.false in
    ⊎_elim (λ (h : Contains (take index names) name). c.loop-name.invariant name h)
    (λ (e : here ≡ name). subst (λ (n : Name). IsSome (get name_cmp c.args.places.now n)) e known)
    (Contains-push_cases (take index names) here name (subst (λ (l : List Name). Contains l name) (take_more names index no_node.name c.loop-name-test.true) has))
