use Rattle.std.proofs.Common.{rules, ◌≡◌, ◌∷◌, [], Contains, length, Result, Err, sym, ◌∙◌, ap, subst, arith}
use Rattle.gb_store.specs.Files.{History}
use Rattle.object_store.specs.Held.{objects_after}
use Rattle.commit_walk.specs.Below.{AreBelow, IsClosed}
use Rattle.commit_walk.specs.Both.{BothAnswers}
use Rattle.commit_walk.specs.Reaches.{ReadsKnown, Reached, known}
use Rattle.commit_walk.specs.declared.both.Both.{Both}
use Rattle.commit_walk.specs.declared.fault.WalkStop.{WalkStop}
use Rattle.commit_walk.proofs.BothLemmas.{found_where_below, reads_first, whole_refused}
use Rattle.commit_walk.proofs.ReachLemmas.{are_below, is_closed, reads_both, walk_length}
use Rattle.commit_walk.proofs.SearchLemmas.{reads_nothing}
use Rattle.commit_walk.proofs.both.walk_both.Goals as goal

pub returns-then-eq-clause-until : goal.returns-then-eq-clause-until
returns-then-eq-clause-until g c = λ tells. reads_nothing (objects_after (g.S.Store.history c.args.disk.now) c.args.folder.now) c.args.first.now c.args.second.now _ _ (omega arith)

pub returns-in_err-reach-clause-each : goal.returns-in_err-reach-clause-each
returns-in_err-reach-clause-each g c = λ tells. reads_first _ _ _ _ _ (c.in_err-reach.ensures.until tells)

pub returns-then-leads_to-clause-answers : goal.returns-then-leads_to-clause-answers
returns-then-leads_to-clause-answers g c = λ tells.
    let apart : c.args.first.now ≡ c.args.second.now → ⊥ = search rules in
    (apart, (c.in_ok-reach.ensures.answers tells).below c.args.second.now (c.leads_to.ensures.0 c.if-leads_to.true))

pub returns-then-leads_to-clause-each : goal.returns-then-leads_to-clause-each
returns-then-leads_to-clause-each g c = λ tells. reads_first _ _ _ _ _ (c.in_ok-reach.ensures.until tells)

pub returns-in_err-walk-clause-answers : goal.returns-in_err-walk-clause-answers
returns-in_err-walk-clause-answers g c = λ tells.
    let objects = objects_after (g.S.Store.history c.args.disk.now) c.args.folder.now in
    let first = c.args.first.now in
    let second = c.args.second.now in
    let s = c.in_err-walk.field-0.0 in
    let is : c.from_residual-in_err-walk.result ≡ Err s = search rules in
    let found = c.in_ok-reach.ensures.answers tells in
    let not_known : Contains (known c.in_ok-reach.reach) second → ⊥ = λ h. let is_known = c.leads_to.ensures.1 h in cc (sym c.if-leads_to.false ∙ is_known) in
    let two : Reached objects (first ∷ second ∷ []) c.follow.new.self (length (known c.follow.new.self)) =
    subst (λ (h : History). Reached (objects_after h c.args.folder.now) (first ∷ second ∷ []) c.follow.new.self (length (known c.follow.new.self))) (c.in_ok-reach.ensures.unwritten tells)
    (c.in_ok-follow.ensures.reached tells (first ∷ []) (subst (λ (h : History). Reached (objects_after h c.args.folder.now) (first ∷ []) c.in_ok-reach.reach (length (known c.in_ok-reach.reach))) (sym (c.in_ok-reach.ensures.unwritten tells)) (found.all not_known))) in
    let is_two = c.in_ok-follow.ensures.reach (first ∷ []) (c.in_ok-reach.ensures.reach not_known) in
    subst (λ (r : Result Both WalkStop). BothAnswers objects first second r) (sym is)
    (whole_refused objects first second c.follow.new.self (found_where_below objects first second c.in_ok-reach.reach found not_known) c.in_ok-follow.ensures.queue.once is_two two s c.in_err-walk.ensures)

pub returns-clause-answers : goal.returns-clause-answers
returns-clause-answers g c = λ tells.
    let objects = objects_after (g.S.Store.history c.args.disk.now) c.args.folder.now in
    let first = c.args.first.now in
    let second = c.args.second.now in
    let found = c.in_ok-reach.ensures.answers tells in
    let not_known : Contains (known c.in_ok-reach.reach) second → ⊥ = λ h. let is_known = c.leads_to.ensures.1 h in cc (sym c.if-leads_to.false ∙ is_known) in
    let two : Reached objects (first ∷ second ∷ []) c.follow.new.self (length (known c.follow.new.self)) =
    subst (λ (h : History). Reached (objects_after h c.args.folder.now) (first ∷ second ∷ []) c.follow.new.self (length (known c.follow.new.self))) (c.in_ok-reach.ensures.unwritten tells)
    (c.in_ok-follow.ensures.reached tells (first ∷ []) (subst (λ (h : History). Reached (objects_after h c.args.folder.now) (first ∷ []) c.in_ok-reach.reach (length (known c.in_ok-reach.reach))) (sym (c.in_ok-reach.ensures.unwritten tells)) (found.all not_known))) in
    let is_two = c.in_ok-follow.ensures.reach (first ∷ []) (c.in_ok-reach.ensures.reach not_known) in
    let whole = are_below objects (first ∷ second ∷ []) c.follow.new.self two c.in_ok-follow.ensures.queue.once is_two c.in_ok-walk.ensures.0 in
    (found_where_below objects first second c.in_ok-reach.reach found not_known, subst (λ w. AreBelow objects (first ∷ second ∷ []) w.items) (sym c.in_ok-walk.ensures.1) whole, c.in_ok-walk.ensures.2)

pub returns-clause-closed : goal.returns-clause-closed
returns-clause-closed g c =
    let first = c.args.first.now in
    let second = c.args.second.now in
    let not_known : Contains (known c.in_ok-reach.reach) second → ⊥ = λ h. let is_known = c.leads_to.ensures.1 h in cc (sym c.if-leads_to.false ∙ is_known) in
    let is_two = c.in_ok-follow.ensures.reach (first ∷ []) (c.in_ok-reach.ensures.reach not_known) in
    subst (λ w. IsClosed (first ∷ second ∷ []) w.items) (sym c.in_ok-walk.ensures.1)
    (is_closed (first ∷ second ∷ []) c.follow.new.self c.in_ok-follow.ensures.queue.once is_two c.in_ok-walk.ensures.0)

pub returns-clause-once : goal.returns-clause-once
returns-clause-once g c =
    let first = c.args.first.now in
    let second = c.args.second.now in
    let not_known : Contains (known c.in_ok-reach.reach) second → ⊥ = λ h. let is_known = c.leads_to.ensures.1 h in cc (sym c.if-leads_to.false ∙ is_known) in
    let is_two = c.in_ok-follow.ensures.reach (first ∷ []) (c.in_ok-reach.ensures.reach not_known) in
    let count = walk_length (first ∷ second ∷ []) c.follow.new.self is_two c.in_ok-walk.ensures.0 in
    let same : length c.in_ok-walk.walk.items ≡ length c.follow.new.self.walk.items = ap (λ w. length w.items) c.in_ok-walk.ensures.1 in
    omega (arith, c.in_ok-reach.ensures.reads, c.in_ok-follow.ensures.reads, count, same)

pub returns-in_err-follow-clause-each : goal.returns-in_err-follow-clause-each
returns-in_err-follow-clause-each g c = λ tells.
    let objects = objects_after (g.S.Store.history c.args.disk.now) c.args.folder.now in
    let first = c.args.first.now in
    let second = c.args.second.now in
    let reach = c.in_ok-reach.reach in
    let found = c.in_ok-reach.ensures.answers tells in
    let not_known : Contains (known reach) second → ⊥ = λ h. let is_known = c.leads_to.ensures.1 h in cc (sym c.if-leads_to.false ∙ is_known) in
    let there = subst (λ (h : History). Reached (objects_after h c.args.folder.now) (first ∷ []) reach (length (known reach))) (sym (c.in_ok-reach.ensures.unwritten tells)) (found.all not_known) in
    let done = length (known reach) in
    let before = g.S.Store.object_reads c.args.disk.now in
    let mid = g.S.Store.object_reads c.seek.new.disk in
    let after = g.S.Store.object_reads c.follow.new.disk in
    reads_both objects (first ∷ second ∷ []) done before mid after c.in_ok-reach.ensures.reads
    (subst (λ (h : History). ReadsKnown (objects_after h c.args.folder.now) (first ∷ second ∷ []) done mid after) (c.in_ok-reach.ensures.unwritten tells) (c.in_err-follow.ensures.each tells (first ∷ []) there))

pub returns-in_err-walk-clause-each : goal.returns-in_err-walk-clause-each
returns-in_err-walk-clause-each g c = λ tells.
    let objects = objects_after (g.S.Store.history c.args.disk.now) c.args.folder.now in
    let first = c.args.first.now in
    let second = c.args.second.now in
    let reach = c.in_ok-reach.reach in
    let found = c.in_ok-reach.ensures.answers tells in
    let not_known : Contains (known reach) second → ⊥ = λ h. let is_known = c.leads_to.ensures.1 h in cc (sym c.if-leads_to.false ∙ is_known) in
    let there = subst (λ (h : History). Reached (objects_after h c.args.folder.now) (first ∷ []) reach (length (known reach))) (sym (c.in_ok-reach.ensures.unwritten tells)) (found.all not_known) in
    let done = length (known reach) in
    let before = g.S.Store.object_reads c.args.disk.now in
    let mid = g.S.Store.object_reads c.seek.new.disk in
    let after = g.S.Store.object_reads c.follow.new.disk in
    reads_both objects (first ∷ second ∷ []) done before mid after c.in_ok-reach.ensures.reads
    (subst (λ (h : History). ReadsKnown (objects_after h c.args.folder.now) (first ∷ second ∷ []) done mid after) (c.in_ok-reach.ensures.unwritten tells) (c.in_ok-follow.ensures.each tells (first ∷ []) there))

pub returns-clause-each : goal.returns-clause-each
returns-clause-each g c = λ tells.
    let objects = objects_after (g.S.Store.history c.args.disk.now) c.args.folder.now in
    let first = c.args.first.now in
    let second = c.args.second.now in
    let reach = c.in_ok-reach.reach in
    let found = c.in_ok-reach.ensures.answers tells in
    let not_known : Contains (known reach) second → ⊥ = λ h. let is_known = c.leads_to.ensures.1 h in cc (sym c.if-leads_to.false ∙ is_known) in
    let there = subst (λ (h : History). Reached (objects_after h c.args.folder.now) (first ∷ []) reach (length (known reach))) (sym (c.in_ok-reach.ensures.unwritten tells)) (found.all not_known) in
    let done = length (known reach) in
    let before = g.S.Store.object_reads c.args.disk.now in
    let mid = g.S.Store.object_reads c.seek.new.disk in
    let after = g.S.Store.object_reads c.follow.new.disk in
    reads_both objects (first ∷ second ∷ []) done before mid after c.in_ok-reach.ensures.reads
    (subst (λ (h : History). ReadsKnown (objects_after h c.args.folder.now) (first ∷ second ∷ []) done mid after) (c.in_ok-reach.ensures.unwritten tells) (c.in_ok-follow.ensures.each tells (first ∷ []) there))
