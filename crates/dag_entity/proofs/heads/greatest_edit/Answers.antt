use Rattle.std.proofs.Common.{◌≡◌, ◌<◌, ◌≤◌, ◌⊎◌, inl, inr, List, Err, Ok, length, max, get_or, Contains, sym, ◌∙◌, ap, subst, arith, rules}
use Rattle.std.proofs.lemmas.Bool.{cases_lt}
use Rattle.std.proofs.lemmas.Bool.Decides.{nat_tests}
use Rattle.std.proofs.lemmas.List.Elements.{Contains-get_or}
use Rattle.dag_graph.specs.Nodes.{names_of, node_at, no_node}
use Rattle.dag_graph.specs.declared.node.Node.{Node}
use Rattle.dag_graph.proofs.ListLemmas.{read_at}
use Rattle.dag_entity.specs.Heads.{HeadsAnswers, LieApart, RoomAnswers}
use Rattle.dag_entity.specs.declared.fault.EntityFault.{EntityFault}
use Rattle.dag_entity.proofs.HeadLemmas.{no_room_answers, no_room_is, one_answers, one_head, room_is, two_greatest, two_heads}
use Rattle.dag_entity.proofs.heads.greatest_edit.Goals as goal
use Rattle.dag_entity.proofs.heads.greatest_edit.Goals.{then-are_apart+in_ok-check_room, else-are_apart}

pub place_of-one-requires : goal.place_of-one-requires
place_of-one-requires c =
    let head = get_or c.args.heads.now 0 no_node.name in
    subst (λ (l : List Node). Contains (names_of l) head) (sym c.nodes.ensures) (c.requires.heads head (Contains-get_or c.args.heads.now 0 no_node.name c.requires.count.0))

pub returns-in_default-clause-answers : goal.returns-in_default-clause-answers
returns-in_default-clause-answers c =
    let nodes = c.args.graph.now in
    let heads = c.args.heads.now in
    let head = get_or heads 0 no_node.name in
    let place = c.place_of-one.result in
    let read = c.index-nodes-one.result in
    let within : place < length nodes = subst (λ (l : List Node). place < length l) c.nodes.ensures c.place_of-one.ensures.within in
    let named : (node_at nodes place).name ≡ head = subst (λ (l : List Node). (node_at l place).name ≡ head) c.nodes.ensures c.place_of-one.ensures.named in
    let here : node_at nodes place ≡ read = read_at nodes place no_node read within (c.index-nodes-one.is ∙ ap (λ (l : List Node). get_or l place read) c.nodes-2.ensures) in
    let few : length heads ≤ 1 = grind (arith, nat_tests, c.in_default.ensures.lookup.0) in
    subst (λ (n : Node). HeadsAnswers nodes heads (Ok n.edit)) (here ∙ c.index-nodes-one.is)
    (one_answers nodes c.requires.nodes heads head place (one_head heads no_node.name c.requires.count.0 few) within named)

pub place_of-two-requires : goal.place_of-two-requires
place_of-two-requires c =
    let heads = c.args.heads.now in
    let two = c.in-Some.head.now in
    let some : 1 < length heads = grind (arith, nat_tests, c.in-Some.ensures.lookup.0) in
    let is : get_or heads 1 two ≡ two = sym c.in-Some.ensures.lookup.1 in
    subst (λ (l : List Node). Contains (names_of l) two) (sym c.nodes-3.ensures)
    (c.requires.heads two (subst (Contains heads) is (Contains-get_or heads 1 two some)))

pub returns-in_err-check_room-clause-answers : goal.returns-in_err-check_room-clause-answers
returns-in_err-check_room-clause-answers c =
    let nodes = c.args.graph.now in
    let heads = c.args.heads.now in
    let one = get_or heads 0 no_node.name in
    let two = c.in-Some.head.now in
    let i = c.place_of-one.result in
    let j = c.place_of-two.result in
    let f : EntityFault = c.in_err-check_room.field-0.0 in
    let is : c.from_residual.result ≡ Err f = search rules in
    let in_i : i < length nodes = subst (λ (l : List Node). i < length l) c.nodes.ensures c.place_of-one.ensures.within in
    let named_i : (node_at nodes i).name ≡ one = subst (λ (l : List Node). (node_at l i).name ≡ one) c.nodes.ensures c.place_of-one.ensures.named in
    let in_j : j < length nodes = subst (λ (l : List Node). j < length l) c.nodes-3.ensures c.place_of-two.ensures.within in
    let named_j : (node_at nodes j).name ≡ two = subst (λ (l : List Node). (node_at l j).name ≡ two) c.nodes-3.ensures c.place_of-two.ensures.named in
    let some : 1 < length heads = grind (arith, nat_tests, c.in-Some.ensures.lookup.0) in
    let are_two = two_heads heads no_node.name two some c.requires.count.1 c.in-Some.ensures.lookup.1 in
    let apart : LieApart nodes (node_at nodes i).name (node_at nodes j).name = c.are_apart.ensures.answer.0 c.if-are_apart.true in
    let same : c.nodes-then-are_apart.result.now ≡ nodes = search rules in
    let room : RoomAnswers nodes i j (Err f) = subst (λ (l : List Node). RoomAnswers l i j (Err f)) same c.in_err-check_room.ensures in
    subst (HeadsAnswers nodes heads) (sym is) (no_room_answers nodes c.requires.nodes heads one two are_two i j in_i in_j named_i named_j f apart room)

pub returns-clause-answers : goal.returns-clause-answers
returns-clause-answers c =
    let nodes = c.args.graph.now in
    let heads = c.args.heads.now in
    let one = get_or heads 0 no_node.name in
    let two = c.in-Some.head.now in
    let i = c.place_of-one.result in
    let j = c.place_of-two.result in
    let in_i : i < length nodes = subst (λ (l : List Node). i < length l) c.nodes.ensures c.place_of-one.ensures.within in
    let named_i : (node_at nodes i).name ≡ one = subst (λ (l : List Node). (node_at l i).name ≡ one) c.nodes.ensures c.place_of-one.ensures.named in
    let in_j : j < length nodes = subst (λ (l : List Node). j < length l) c.nodes-3.ensures c.place_of-two.ensures.within in
    let named_j : (node_at nodes j).name ≡ two = subst (λ (l : List Node). (node_at l j).name ≡ two) c.nodes-3.ensures c.place_of-two.ensures.named in
    let some : 1 < length heads = grind (arith, nat_tests, c.in-Some.ensures.lookup.0) in
    let are_two = two_heads heads no_node.name two some c.requires.count.1 c.in-Some.ensures.lookup.1 in
    let read_i = c.index-nodes-one.result in
    let read_j = c.index-nodes-two.result in
    let here_i : node_at nodes i ≡ read_i = read_at nodes i no_node read_i in_i (c.index-nodes-one.is ∙ ap (λ (l : List Node). get_or l i read_i) c.nodes-2.ensures) in
    let same_j : c.nodes-4.result.now ≡ nodes = search rules in
    let here_j : node_at nodes j ≡ read_j = read_at nodes j no_node read_j in_j (c.index-nodes-two.is ∙ ap (λ (l : List Node). get_or l j read_j) same_j) in
    let a = (node_at nodes i).edit in
    let b = (node_at nodes j).edit in
    let is_i = sym (here_i ∙ c.index-nodes-one.is) in
    let is_j = sym (here_j ∙ c.index-nodes-two.is) in
    let most : c.max.result ≡ max a b = c.max.ensures ∙ (λ k. max (is_i k).edit (is_j k).edit) in
    let cases : (c.max.result ≡ a) ⊎ (c.max.result ≡ b) = elim (cases_lt a b) [ inl lt ↦ inr (grind (arith, nat_tests, most, lt)) | inr le ↦ inl (grind (arith, nat_tests, most, le)) ] in (
      two_greatest nodes c.requires.nodes heads one two are_two i j in_i in_j named_i named_j c.max.result cases (omega (arith, most)) (omega (arith, most)),
      elim c.if-are_apart.branch [
        | then-are_apart+in_ok-check_room w ↦
            let same : w.nodes-then-are_apart.result.now ≡ nodes = search rules in
            λ first second apart. room_is nodes c.requires.nodes heads one two are_two i j in_i in_j named_i named_j
            (subst (λ (l : List Node). RoomAnswers l i j (Ok _)) same w.in_ok-check_room.ensures)
        | else-are_apart w ↦
            no_room_is nodes c.requires.nodes heads one two are_two i j in_i in_j named_i named_j (λ apart. cc (c.are_apart.ensures.answer.1 apart, w.if-are_apart.false))
      ],
    )
