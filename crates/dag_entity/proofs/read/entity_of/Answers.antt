use Rattle.std.proofs.Common.{rules, ◌≡◌, List, map, length, IsPermutation, Ok, Err, refl, sym, ◌∙◌, ap, subst}
use Rattle.std.proofs.lemmas.List.{length-map}
use Rattle.commit_walk.specs.Distinct.{AreDistinct}
use Rattle.dag_graph.specs.declared.node.Node.{Node}
use Rattle.dag_entity.specs.Entities.{AreAllInOrder, EntityAnswers, JudgeAnswers, KeepsRules}
use Rattle.dag_entity.specs.Order.{commits_of}
use Rattle.dag_entity.specs.Heads.{HaveHeads}
use Rattle.dag_entity.specs.Loading.{node_of, placed_of}
use Rattle.dag_entity.proofs.OrderLemmas.{same_length}
use Rattle.dag_entity.proofs.ReadLemmas.{commit_names_are, in_order, node_names_are, rules_moved}
use Rattle.dag_entity.proofs.read.entity_of.Goals as goal

pub judge-requires-clause-heads : goal.judge-requires-clause-heads
judge-requires-clause-heads g c =
    let graph : c.in_ok-graph.graph ≡ map node_of c.args.loaded.items = search rules in
    subst (λ (n : List Node). HaveHeads n c.args.heads.now) (sym graph) c.requires.heads

pub returns-in_err-clocks-clause-answers : goal.returns-in_err-clocks-clause-answers
returns-in_err-clocks-clause-answers g c = λ objects are.
    let k = g.K.OpKind.meaning in
    let graph : c.in_ok-graph.graph ≡ map node_of c.args.loaded.items = search rules in
    let packs : c.in_ok-nodes.field-0.packs.items ≡ map placed_of c.args.loaded.items = c.in_ok-nodes.ensures.packs in
    let f = c.in_err-clocks.field-0.0 in
    let is : c.from_residual-in_err-clocks.result ≡ Err f = search rules in
    let answer : JudgeAnswers k objects c.args.id.now c.args.heads.now c.args.authors.now (Err f) = c.in_err-clocks.ensures.answers objects c.args.loaded.items are graph (c.deref.ensures.value ∙ packs) in
    subst (λ r. EntityAnswers k objects c.args.id.now c.args.heads.now c.args.authors.now r) (sym is) answer

pub sort_packs-requires : goal.sort_packs-requires
sort_packs-requires g c =
    let packs : c.in_ok-nodes.field-0.packs.items ≡ map placed_of c.args.loaded.items = c.in_ok-nodes.ensures.packs in
    subst AreDistinct (node_names_are c.args.loaded.items ∙ sym (commit_names_are c.args.loaded.items) ∙ ap commits_of (sym packs)) c.requires.nodes.once

pub returns-clause-answers : goal.returns-clause-answers
returns-clause-answers g c = λ objects are.
    let k = g.K.OpKind.meaning in
    let loaded = c.args.loaded.items in
    let graph : c.in_ok-graph.graph ≡ map node_of loaded = search rules in
    let packs : c.in_ok-nodes.field-0.packs.items ≡ map placed_of loaded = c.in_ok-nodes.ensures.packs in
    let judged : JudgeAnswers k objects c.args.id.now c.args.heads.now c.args.authors.now (Ok c.in_ok-clocks.clocks) = c.in_ok-clocks.ensures.answers objects loaded are graph (c.deref.ensures.value ∙ packs) in
    let sorted = c.sort_packs.new.packs.items in
    let listed : c.from_vec-3.result ≡ sorted = c.from_vec-3.ensures in
    let moved : IsPermutation (map placed_of loaded) sorted = subst (λ l. IsPermutation l sorted) packs c.sort_packs.ensures.same in
    let ordered = in_order k objects c.args.heads.now loaded sorted are moved c.sort_packs.ensures.rise in
    record {
      valid = judged.0;
      id_is = refl;
      heads_are = search rules;
      packs = subst (AreAllInOrder k objects c.args.heads.now) (sym listed) ordered;
      count = search rules;
      edit = judged.1;
      create = judged.2;
    }

pub returns-clause-all : goal.returns-clause-all
returns-clause-all g c =
    let loaded = c.args.loaded.items in
    let packs : c.in_ok-nodes.field-0.packs.items ≡ map placed_of loaded = c.in_ok-nodes.ensures.packs in
    let listed : c.from_vec-3.result ≡ c.sort_packs.new.packs.items = c.from_vec-3.ensures in
    ap length listed ∙ sym (same_length c.in_ok-nodes.field-0.packs.items c.sort_packs.new.packs.items c.sort_packs.ensures.same) ∙ ap length packs ∙ length-map loaded placed_of

pub returns-clause-rules : goal.returns-clause-rules
returns-clause-rules g c = λ rules.
    let k = g.K.OpKind.meaning in
    let loaded = c.args.loaded.items in
    let packs : c.in_ok-nodes.field-0.packs.items ≡ map placed_of loaded = c.in_ok-nodes.ensures.packs in
    let listed : c.from_vec-3.result ≡ c.sort_packs.new.packs.items = c.from_vec-3.ensures in
    let moved : IsPermutation (map placed_of loaded) c.sort_packs.new.packs.items = subst (λ l. IsPermutation l c.sort_packs.new.packs.items) packs c.sort_packs.ensures.same in
    subst (KeepsRules k) (sym listed) (rules_moved k (map placed_of loaded) c.sort_packs.new.packs.items moved rules)
