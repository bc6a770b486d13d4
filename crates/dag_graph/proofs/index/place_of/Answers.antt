use Rattle.std.proofs.Common.{◌≡◌, Some, refl, subst}
use Rattle.std.specs.BTreeMap.{get}
use Rattle.gb_text.specs.declared.id.Name.{Name}
use Rattle.dag_graph.specs.Index.{name_cmp}
use Rattle.dag_graph.proofs.NodeLemmas.{named}
use Rattle.dag_graph.proofs.index.place_of.Goals as goal

pub index-requires : goal.index-requires
index-requires c =
    let (place, within, is) = named c.args.nodes.now c.args.name.now c.requires.has in
    let e : get name_cmp c.args.places.now c.args.name.now ≡ Some place =
    subst (λ (n : Name). get name_cmp c.args.places.now n ≡ Some place) is (c.requires.graph.index.all place within) in
    rw e refl

pub returns-clause-within : goal.returns-clause-within
returns-clause-within c = (c.requires.graph.index.found c.args.name.now c.index.result.now c.index.ensures).0

pub returns-clause-is : goal.returns-clause-is
returns-clause-is c = (c.requires.graph.index.found c.args.name.now c.index.result.now c.index.ensures).1
