use Rattle.std.proofs.Common.{rules, arith, ◌≡◌, ◌==◌, List, map, length, Some, Ok, Err, sym, ◌∙◌, ap, subst}
use Rattle.std.specs.List.{slice_get}
use Rattle.std.proofs.lemmas.List.{length-map}
use Rattle.std.proofs.lemmas.Option.{slice_get-get_or}
use Rattle.dag_graph.specs.Faults.{GraphFaultHolds, IsFaultless, IsRoot}
use Rattle.dag_graph.specs.declared.node.Node.{Node}
use Rattle.dag_entity.specs.Entities.{JudgeAnswers}
use Rattle.dag_entity.specs.Faults.{EntityFaultHolds}
use Rattle.dag_entity.specs.Heads.{HeadsAnswers}
use Rattle.dag_entity.specs.Judging.{AllFollowAnswers, AuthorsAnswers, IdsAnswers}
use Rattle.dag_entity.specs.Loading.{node_of}
use Rattle.dag_entity.specs.Stops.{graph_fault}
use Rattle.dag_entity.proofs.EntityLemmas.{IsGood, authors_refused, follow_refused, greatest, heads_refused, ids_refused, root_clock_is, root_refused, valid}
use Rattle.dag_entity.proofs.GraphLemmas.{graph_fault_holds}
use Rattle.dag_entity.proofs.LoadLemmas.{refused}
use Rattle.dag_entity.proofs.read.judge.Goals as goal

pub returns-in_err-root-clause-answers : goal.returns-in_err-root-clause-answers
returns-in_err-root-clause-answers g c = λ objects loaded are graph packs.
    let k = g.K.OpKind.meaning in
    let heads = c.args.heads.now in
    let id = c.args.id.now in
    let authors = c.args.authors.now in
    let f = c.in_err-root.field-0.0 in
    let is : c.from_residual.result ≡ Err (graph_fault f) = search rules in
    let holds : GraphFaultHolds (map node_of loaded) f = subst (λ (n : List Node). GraphFaultHolds n f) graph c.in_err-root.ensures in
    subst (λ r. JudgeAnswers k objects id heads authors r) (sym is)
    (refused (EntityFaultHolds k objects id heads authors) (graph_fault f) (graph_fault_holds k objects heads loaded are id authors f holds))

pub returns-in_err-create-clause-answers : goal.returns-in_err-create-clause-answers
returns-in_err-create-clause-answers g c = λ objects loaded are graph packs.
    let k = g.K.OpKind.meaning in
    let heads = c.args.heads.now in
    let id = c.args.id.now in
    let authors = c.args.authors.now in
    let f = c.in_err-create.field-0.0 in
    let is : c.from_residual-in_err-create.result ≡ Err f = search rules in
    let root = subst (λ (n : List Node). IsRoot n c.in_ok-root.root) graph c.in_ok-root.ensures.1 in
    let at = ap (λ l. slice_get l c.in_ok-root.root) (sym packs) ∙ slice_get-get_or c.args.packs.now c.in_ok-root.root c.index-packs-root.result (omega (arith, c.in_ok-root.ensures.1.within, c.requires.each)) ∙ ap Some (sym c.index-packs-root.is) in
    subst (λ r. JudgeAnswers k objects id heads authors r) (sym is)
    (root_refused k objects heads loaded are id authors c.in_ok-root.root c.index-packs-root.result f root at c.in_err-create.ensures)

pub returns-in_err-check_following-clause-answers : goal.returns-in_err-check_following-clause-answers
returns-in_err-check_following-clause-answers g c = λ objects loaded are graph packs.
    let k = g.K.OpKind.meaning in
    let heads = c.args.heads.now in
    let id = c.args.id.now in
    let authors = c.args.authors.now in
    let f = c.in_err-check_following.field-0.0 in
    let is : c.from_residual-in_err-check_following.result ≡ Err f = search rules in
    let root = subst (λ (n : List Node). IsRoot n c.in_ok-root.root) graph c.in_ok-root.ensures.1 in
    let fails = subst (λ p. AllFollowAnswers k p (λ place. place == c.in_ok-root.root) (Err f)) packs c.in_err-check_following.ensures in
    subst (λ r. JudgeAnswers k objects id heads authors r) (sym is) (follow_refused k objects heads loaded are id authors c.in_ok-root.root f root fails)

pub returns-in_err-check_ids-clause-answers : goal.returns-in_err-check_ids-clause-answers
returns-in_err-check_ids-clause-answers g c = λ objects loaded are graph packs.
    let k = g.K.OpKind.meaning in
    let heads = c.args.heads.now in
    let id = c.args.id.now in
    let authors = c.args.authors.now in
    let f = c.in_err-check_ids.field-0.0 in
    let is : c.from_residual-in_err-check_ids.result ≡ Err f = search rules in
    let fails = subst (λ p. IdsAnswers k p (Err f)) packs c.in_err-check_ids.ensures in
    subst (λ r. JudgeAnswers k objects id heads authors r) (sym is) (ids_refused k objects heads loaded are id authors f fails)

pub returns-in_err-check_authors-clause-answers : goal.returns-in_err-check_authors-clause-answers
returns-in_err-check_authors-clause-answers g c = λ objects loaded are graph packs.
    let k = g.K.OpKind.meaning in
    let heads = c.args.heads.now in
    let id = c.args.id.now in
    let authors = c.args.authors.now in
    let f = c.in_err-check_authors.field-0.0 in
    let is : c.from_residual-in_err-check_authors.result ≡ Err f = search rules in
    let fails = subst (λ p. AuthorsAnswers k p authors (Err f)) packs c.in_err-check_authors.ensures in
    subst (λ r. JudgeAnswers k objects id heads authors r) (sym is) (authors_refused k objects heads loaded are id authors f fails)

pub returns-in_err-edit-clause-answers : goal.returns-in_err-edit-clause-answers
returns-in_err-edit-clause-answers g c = λ objects loaded are graph packs.
    let k = g.K.OpKind.meaning in
    let heads = c.args.heads.now in
    let id = c.args.id.now in
    let authors = c.args.authors.now in
    let f = c.in_err-edit.field-0.0 in
    let is : c.from_residual-in_err-edit.result ≡ Err f = search rules in
    let fails = subst (λ (n : List Node). HeadsAnswers n heads (Err f)) graph c.in_err-edit.ensures.answers in
    subst (λ r. JudgeAnswers k objects id heads authors r) (sym is) (heads_refused k objects heads loaded are id authors f fails)

pub returns-clause-answers : goal.returns-clause-answers
returns-clause-answers g c = λ objects loaded are graph packs.
    let k = g.K.OpKind.meaning in
    let heads = c.args.heads.now in
    let id = c.args.id.now in
    let authors = c.args.authors.now in
    let laws = g.met.K.OpKind.laws in
    let root = c.in_ok-root.root in
    let at = ap (λ l. slice_get l root) (sym packs) ∙ slice_get-get_or c.args.packs.now root c.index-packs-root.result (omega (arith, c.in_ok-root.ensures.1.within, c.requires.each)) ∙ ap Some (sym c.index-packs-root.is) in
    let good : IsGood k objects heads loaded are id authors laws root c.in_ok-create.create c.in_ok-edit.edit = record {
      few = omega (arith, c.requires.few, ap length graph, length-map loaded node_of);
      faultless = subst IsFaultless graph c.in_ok-root.ensures.0;
      is_root = subst (λ (n : List Node). IsRoot n root) graph c.in_ok-root.ensures.1;
      placed = c.index-packs-root.result;
      at = at;
      opens = c.in_ok-create.ensures;
      follow = subst (λ p. AllFollowAnswers k p (λ place. place == root) (Ok tt)) packs c.in_ok-check_following.ensures;
      ids = subst (λ p. IdsAnswers k p (Ok tt)) packs c.in_ok-check_ids.ensures;
      known = subst (λ p. AuthorsAnswers k p authors (Ok tt)) packs c.in_ok-check_authors.ensures;
      room = subst (λ (n : List Node). HeadsAnswers n heads (Ok c.in_ok-edit.edit)) graph c.in_ok-edit.ensures.answers;
    } in (
      valid k objects heads loaded are id authors laws root c.in_ok-create.create c.in_ok-edit.edit good,
      greatest k objects heads loaded are c.in_ok-edit.edit good.room.0,
      root_clock_is k objects heads loaded are id authors laws root c.in_ok-create.create c.in_ok-edit.edit good,
    )
