use Rattle.std.proofs.Common.{rules, ◌≡◌, ◌≤◌, ◌∙◌, arith, List, [], length, Ok, Err, sym, subst}
use Rattle.gb_text.specs.declared.id.Id.{Id}
use Rattle.gb_store.specs.Files.{History, files_of}
use Rattle.object_store.specs.Held.{objects_after}
use Rattle.bug_ops.specs.Kind.{bug_kind}
use Rattle.dag_entity.specs.Entities.{ReadsEach}
use Rattle.entity_merge.specs.Joins.{PlanAnswers, both_heads}
use Rattle.entity_merge.proofs.MergeLemmas.{few_texts}
use Rattle.repo_state.specs.Clocks.{clock_at}
use Rattle.repo_state.specs.declared.clocks.ClockFile.TheVariants as file
use Rattle.repo_state.specs.declared.side.Side.TheVariants as side
use Rattle.merge_steps.specs.Stops.{turn_of_store}
use Rattle.repo_merge.specs.Heads.{HasHeads}
use Rattle.repo_merge.specs.Turning.{OneBug}
use Rattle.repo_merge.proofs.HeadsLemmas.{bug_unread}
use Rattle.repo_merge.proofs.ReadingLemmas.{none_put, plan_put}
use Rattle.repo_merge.proofs.bugs.join_heads.Goals as goal

pub returns-in_err-seen-clause-answers : goal.returns-in_err-seen-clause-answers
returns-in_err-seen-clause-answers g c = λ tracked entity tells has.
    let history = g.S.Store.history in
    let a = c.args in
    let old = history a.disk.now in
    let new = history c.clock.new.disk in
    let fault = c.in_err-seen.field-0.0 in
    let is : c.from_residual.result ≡ Err (turn_of_store fault) = search rules in
    subst (OneBug a.folder.now a.maker.now tracked entity old new) (sym is)
    (bug_unread a.folder.now tracked entity old new (c.clock.ensures.unwritten tells) a.maker.now fault)

pub returns-in-Ok-clause-answers : goal.returns-in-Ok-clause-answers
returns-in-Ok-clause-answers g c = λ tracked entity tells has.
    let history = g.S.Store.history in
    let a = c.args in
    let maker = a.maker.now in
    let heads = a.heads.now in
    let plan = c.in-Ok.plan in
    let seen = c.in_ok-seen.seen in
    let unread = c.clock.ensures.unwritten tells in
    let planned =
    subst (λ (h : History). PlanAnswers bug_kind (objects_after h a.folder.now) heads.id heads.local heads.tracked maker.user maker.authors seen maker.time (Ok plan)) unread
    (subst (λ (authors : List Id). PlanAnswers bug_kind (objects_after (history c.clock.new.disk) a.folder.now) heads.id heads.local heads.tracked maker.user authors seen maker.time (Ok plan)) c.as_slice.ensures
    (c.in-Ok.ensures.answers tells)) in
    subst (λ (h : History). HasHeads (files_of h) a.folder.now side.Bugs entity heads → seen ≡ clock_at (files_of h) a.folder.now file.BugsEdit
    → PlanAnswers bug_kind (objects_after h a.folder.now) heads.id heads.local heads.tracked maker.user maker.authors seen maker.time (Ok plan)
    → OneBug a.folder.now maker tracked entity h (history c.follow.new.disk) c.follow.result)
    (c.plan_merge.ensures.unwritten tells ∙ unread) (c.follow.ensures.answers tracked entity tells) has (c.in_ok-seen.ensures.answers tells) planned

pub returns-in_err-seen-clause-reads : goal.returns-in_err-seen-clause-reads
returns-in_err-seen-clause-reads g c = λ tells.
    let heads = c.args.heads.now in
    none_put (objects_after (g.S.Store.history c.args.disk.now) c.args.folder.now) (both_heads heads.local heads.tracked) (g.S.Store.object_reads c.args.disk.now) (g.S.Store.object_reads c.clock.new.disk) c.clock.ensures.reads

pub returns-in-Ok-clause-reads : goal.returns-in-Ok-clause-reads
returns-in-Ok-clause-reads g c = λ tells.
    let reads = g.S.Store.object_reads in
    let history = g.S.Store.history in
    let a = c.args in
    let maker = a.maker.now in
    let heads = a.heads.now in
    let plan = c.in-Ok.plan in
    let one = history c.clock.new.disk in
    let few : length plan.objects ≤ 4 =
    few_texts bug_kind a.folder.now heads.id heads.tracked maker.user c.as_slice.result.now c.in_ok-seen.seen maker.time one one heads.local plan.merged plan.edit plan.create plan.objects (c.in-Ok.ensures.answers tells) in
    plan_put (objects_after (history a.disk.now) a.folder.now) (both_heads heads.local heads.tracked) (reads a.disk.now) (reads c.clock.new.disk) (reads c.plan_merge.new.disk) (reads c.follow.new.disk) plan.objects c.clock.ensures.reads
    (subst (λ (h : History). ReadsEach (objects_after h a.folder.now) (both_heads heads.local heads.tracked) 3 (reads c.clock.new.disk) (reads c.plan_merge.new.disk)) (c.clock.ensures.unwritten tells) (c.plan_merge.ensures.reads tells))
    few c.follow.ensures.reads

pub returns-in-Err-Invalid-clause-reads : goal.returns-in-Err-Invalid-clause-reads
returns-in-Err-Invalid-clause-reads g c = λ tells.
    let reads = g.S.Store.object_reads in
    let history = g.S.Store.history in
    let a = c.args in
    let heads = a.heads.now in
    plan_put (objects_after (history a.disk.now) a.folder.now) (both_heads heads.local heads.tracked) (reads a.disk.now) (reads c.clock.new.disk) (reads c.plan_merge.new.disk) (reads c.plan_merge.new.disk) [] c.clock.ensures.reads
    (subst (λ (h : History). ReadsEach (objects_after h a.folder.now) (both_heads heads.local heads.tracked) 3 (reads c.clock.new.disk) (reads c.plan_merge.new.disk)) (c.clock.ensures.unwritten tells) (c.plan_merge.ensures.reads tells))
    (omega arith) (omega arith)

pub returns-in-Err-Memory-clause-reads : goal.returns-in-Err-Memory-clause-reads
returns-in-Err-Memory-clause-reads g c = λ tells.
    let reads = g.S.Store.object_reads in
    let history = g.S.Store.history in
    let a = c.args in
    let heads = a.heads.now in
    plan_put (objects_after (history a.disk.now) a.folder.now) (both_heads heads.local heads.tracked) (reads a.disk.now) (reads c.clock.new.disk) (reads c.plan_merge.new.disk) (reads c.plan_merge.new.disk) [] c.clock.ensures.reads
    (subst (λ (h : History). ReadsEach (objects_after h a.folder.now) (both_heads heads.local heads.tracked) 3 (reads c.clock.new.disk) (reads c.plan_merge.new.disk)) (c.clock.ensures.unwritten tells) (c.plan_merge.ensures.reads tells))
    (omega arith) (omega arith)

pub returns-in-Err-Disk-clause-reads : goal.returns-in-Err-Disk-clause-reads
returns-in-Err-Disk-clause-reads g c = λ tells.
    let reads = g.S.Store.object_reads in
    let history = g.S.Store.history in
    let a = c.args in
    let heads = a.heads.now in
    plan_put (objects_after (history a.disk.now) a.folder.now) (both_heads heads.local heads.tracked) (reads a.disk.now) (reads c.clock.new.disk) (reads c.plan_merge.new.disk) (reads c.plan_merge.new.disk) [] c.clock.ensures.reads
    (subst (λ (h : History). ReadsEach (objects_after h a.folder.now) (both_heads heads.local heads.tracked) 3 (reads c.clock.new.disk) (reads c.plan_merge.new.disk)) (c.clock.ensures.unwritten tells) (c.plan_merge.ensures.reads tells))
    (omega arith) (omega arith)

pub returns-in-Err-Taken-clause-reads : goal.returns-in-Err-Taken-clause-reads
returns-in-Err-Taken-clause-reads g c = λ tells.
    let reads = g.S.Store.object_reads in
    let history = g.S.Store.history in
    let a = c.args in
    let heads = a.heads.now in
    plan_put (objects_after (history a.disk.now) a.folder.now) (both_heads heads.local heads.tracked) (reads a.disk.now) (reads c.clock.new.disk) (reads c.plan_merge.new.disk) (reads c.plan_merge.new.disk) [] c.clock.ensures.reads
    (subst (λ (h : History). ReadsEach (objects_after h a.folder.now) (both_heads heads.local heads.tracked) 3 (reads c.clock.new.disk) (reads c.plan_merge.new.disk)) (c.clock.ensures.unwritten tells) (c.plan_merge.ensures.reads tells))
    (omega arith) (omega arith)
