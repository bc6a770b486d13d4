use Rattle.std.proofs.Common.{◌≡◌, ℕ, length, Result, Err, sym, subst, rules, arith}
use Rattle.std.proofs.lemmas.Grind.{common_steps}
use Rattle.std.proofs.lemmas.List.{nil_from_length}
use Rattle.gb_store.proofs.FaultLemmas.{KeepsFaults_then}
use Rattle.object_store.specs.Held.{Objects, objects_after}
use Rattle.remote_copy.specs.Copies.{AreRead, CopyAnswers, ReadsEach}
use Rattle.remote_copy.specs.declared.fault.CopyFault.{CopyFault}
use Rattle.remote_copy.proofs.EndLemmas.{no_cause, stands_alike}
use Rattle.remote_copy.proofs.LoopLemmas.{way_copying, way_end, way_refused, way_start, way_step, way_wrote}
use Rattle.remote_copy.proofs.ReadLemmas.{read_end, read_refused, read_start}
use Rattle.remote_copy.proofs.closure.copy.Goals as goal

pub loop-alloc-init : goal.loop-alloc-init
loop-alloc-init g c = record {
  way = λ tells. way_start c.args.closed c.args.source.now c.args.target.now c.args.head.now (g.S.Store.history c.args.disk.now) (g.S.Store.history c.start.new.disk) c.in_ok-work.work
      (c.in_ok-work.ensures.unwritten tells) (c.in_ok-work.ensures.answers tells);
  read = λ tells. read_start c.args.closed (objects_after (g.S.Store.history c.args.disk.now) c.args.source.now) (objects_after (g.S.Store.history c.args.disk.now) c.args.target.now) c.args.head.now c.in_ok-work.work.index
      (g.S.Store.object_reads c.args.disk.now) (g.S.Store.object_reads c.start.new.disk) (c.in_ok-work.ensures.answers tells).0.first (c.in_ok-work.ensures.answers tells).2 (c.in_ok-work.ensures.reads tells);
  caused = grind (arith, common_steps, c.in_ok-work.ensures.caused);
}

pub loop-alloc-preserved : goal.loop-alloc-preserved
loop-alloc-preserved g c = record {
  way = λ tells.
      let start = g.S.Store.history c.args.disk.now in
      let way = c.loop-alloc.invariant.way tells in
      let copying = way_copying c.args.closed c.args.source.now c.args.target.now c.args.head.now start (g.S.Store.history c.loop-alloc.disk) c.loop-alloc.work way in
      way_step c.args.closed c.args.source.now c.args.target.now c.args.head.now start (g.S.Store.history c.loop-alloc.disk) (g.S.Store.history c.step.new.disk) c.loop-alloc.work c.step.new.work c.in_ok-step.field-0 way
      (c.in_ok-step.ensures.steps tells (objects_after start c.args.target.now) c.args.head.now copying);
  read = λ tells.
      let start = g.S.Store.history c.args.disk.now in
      let mid = g.S.Store.history c.loop-alloc.disk in
      let way = c.loop-alloc.invariant.way tells in
      let copying = way_copying c.args.closed c.args.source.now c.args.target.now c.args.head.now start mid c.loop-alloc.work way in
      let entry = objects_after start c.args.target.now in
      let before = g.S.Store.object_reads c.args.disk.now in
      let was = subst (λ (o : Objects). AreRead c.args.closed o entry c.args.head.now c.loop-alloc.work.index before (g.S.Store.object_reads c.loop-alloc.disk)) (sym way.kept) (c.loop-alloc.invariant.read tells) in
      subst (λ (o : Objects). AreRead c.args.closed o entry c.args.head.now c.step.new.work.index before (g.S.Store.object_reads c.step.new.disk)) way.kept
      (c.in_ok-step.ensures.reads tells entry c.args.head.now before copying was);
  caused = KeepsFaults_then g.S.Store.never_fails g.S.Store.faults _ ⊥ c.args.disk.now c.loop-alloc.disk c.step.new.disk c.loop-alloc.invariant.caused c.in_ok-step.ensures.caused (λ none. absurd none) (λ fails. absurd (cc));
}

pub returns-in_err-step-clause-wrote : goal.returns-in_err-step-clause-wrote
returns-in_err-step-clause-wrote g c = record {
  wrote = λ tells.
      let start = g.S.Store.history c.args.disk.now in
      let way = c.loop-alloc.invariant.way tells in
      let copying = way_copying c.args.closed c.args.source.now c.args.target.now c.args.head.now start (g.S.Store.history c.loop-alloc.disk) c.loop-alloc.work way in
      way_wrote c.args.closed c.args.source.now c.args.target.now c.args.head.now start (g.S.Store.history c.loop-alloc.disk) (g.S.Store.history c.step.new.disk) c.loop-alloc.work c.step.new.work (Err c.in_err-step.field-0.0) way
      (c.in_err-step.ensures.steps tells (objects_after start c.args.target.now) c.args.head.now copying);
}

pub returns-in_err-step-clause-answers : goal.returns-in_err-step-clause-answers
returns-in_err-step-clause-answers g c = λ tells.
    let start = g.S.Store.history c.args.disk.now in
    let way = c.loop-alloc.invariant.way tells in
    let e : CopyFault = c.in_err-step.field-0.0 in
    let is : c.from_residual-in_err-step.result ≡ Err e = search rules in
    let copying = way_copying c.args.closed c.args.source.now c.args.target.now c.args.head.now start (g.S.Store.history c.loop-alloc.disk) c.loop-alloc.work way in
    subst (λ (r : Result ℕ CopyFault). CopyAnswers c.args.closed (objects_after start c.args.source.now) (objects_after start c.args.target.now) c.args.head.now r) (sym is)
    (way_refused c.args.closed c.args.source.now c.args.target.now c.args.head.now start (g.S.Store.history c.loop-alloc.disk) (g.S.Store.history c.step.new.disk) c.loop-alloc.work c.step.new.work e way
    (c.in_err-step.ensures.steps tells (objects_after start c.args.target.now) c.args.head.now copying))

pub returns-clause-answers : goal.returns-clause-answers
returns-clause-answers g c = λ tells.
    let start = g.S.Store.history c.args.disk.now in
    let none : length c.loop-alloc.work.stack.items ≡ 0 = grind (arith, common_steps, c.is_empty.ensures, c.loop-alloc-test.false) in
    no_cause c.args.closed (objects_after start c.args.source.now) (objects_after start c.args.target.now) c.args.head.now (objects_after (g.S.Store.history c.loop-alloc.disk) c.args.target.now) c.loop-alloc.work
    (way_end c.args.closed c.args.source.now c.args.target.now c.args.head.now start (g.S.Store.history c.loop-alloc.disk) c.loop-alloc.work (nil_from_length c.loop-alloc.work.stack.items none) (c.loop-alloc.invariant.way tells))

pub returns-clause-copied : goal.returns-clause-copied
returns-clause-copied g c = λ tells.
    let start = g.S.Store.history c.args.disk.now in
    let none : length c.loop-alloc.work.stack.items ≡ 0 = grind (arith, common_steps, c.is_empty.ensures, c.loop-alloc-test.false) in
    stands_alike c.args.closed (objects_after start c.args.source.now) (objects_after start c.args.target.now) c.args.head.now (objects_after (g.S.Store.history c.loop-alloc.disk) c.args.target.now) c.loop-alloc.work
    (way_end c.args.closed c.args.source.now c.args.target.now c.args.head.now start (g.S.Store.history c.loop-alloc.disk) c.loop-alloc.work (nil_from_length c.loop-alloc.work.stack.items none) (c.loop-alloc.invariant.way tells))

pub returns-in_err-work-clause-reads : goal.returns-in_err-work-clause-reads
returns-in_err-work-clause-reads g c = λ tells.
    read_refused c.args.closed (objects_after (g.S.Store.history c.args.disk.now) c.args.source.now) (objects_after (g.S.Store.history c.args.disk.now) c.args.target.now) c.args.head.now
    (g.S.Store.object_reads c.args.disk.now) (g.S.Store.object_reads c.start.new.disk) (c.in_err-work.ensures.reads tells)

pub returns-in_err-step-clause-reads : goal.returns-in_err-step-clause-reads
returns-in_err-step-clause-reads g c = λ tells.
    let start = g.S.Store.history c.args.disk.now in
    let mid = g.S.Store.history c.loop-alloc.disk in
    let way = c.loop-alloc.invariant.way tells in
    let copying = way_copying c.args.closed c.args.source.now c.args.target.now c.args.head.now start mid c.loop-alloc.work way in
    let entry = objects_after start c.args.target.now in
    let before = g.S.Store.object_reads c.args.disk.now in
    let was = subst (λ (o : Objects). AreRead c.args.closed o entry c.args.head.now c.loop-alloc.work.index before (g.S.Store.object_reads c.loop-alloc.disk)) (sym way.kept) (c.loop-alloc.invariant.read tells) in
    subst (λ (o : Objects). ReadsEach c.args.closed o entry c.args.head.now before (g.S.Store.object_reads c.step.new.disk)) way.kept (c.in_err-step.ensures.reads tells entry c.args.head.now before copying was)

pub returns-clause-reads : goal.returns-clause-reads
returns-clause-reads g c = λ tells.
    read_end c.args.closed (objects_after (g.S.Store.history c.args.disk.now) c.args.source.now) (objects_after (g.S.Store.history c.args.disk.now) c.args.target.now) c.args.head.now c.loop-alloc.work.index
    (g.S.Store.object_reads c.args.disk.now) (g.S.Store.object_reads c.loop-alloc.disk) (c.loop-alloc.invariant.read tells)
