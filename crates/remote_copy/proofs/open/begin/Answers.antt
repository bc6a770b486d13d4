use Rattle.std.proofs.Common.{◌≡◌, inl, inr, Option, Result, Err, sym, subst, rules, arith}
use Rattle.gb_store.specs.Files.{History}
use Rattle.object_store.specs.Held.{objects_after}
use Rattle.remote_copy.specs.Opens.{BeginAnswers, IsBegun, OpenRefused}
use Rattle.remote_copy.specs.declared.fault.CopyFault.{CopyFault}
use Rattle.remote_copy.specs.declared.open.Open.{Open}
use Rattle.remote_copy.proofs.OpenLemmas.{begin_refused, left_false, left_true}
use Rattle.remote_copy.proofs.open.begin.Goals as goal

pub returns-then-branch-clause-answers : goal.returns-then-branch-clause-answers
returns-then-branch-clause-answers g c = λ tells.
    let target = objects_after (g.S.Store.history c.args.disk.now) c.args.target.now in
    left_true c.args.closed target c.args.need c.in_ok-is_left.field-0 c.if-branch.true (c.in_ok-is_left.ensures target (c.in_ok-there.ensures.found tells))

pub returns-in_err-found-clause-answers : goal.returns-in_err-found-clause-answers
returns-in_err-found-clause-answers g c = λ tells.
    let source = objects_after (g.S.Store.history c.args.disk.now) c.args.source.now in
    let target = objects_after (g.S.Store.history c.args.disk.now) c.args.target.now in
    let there = c.in_ok-there.ensures.found tells in
    let e : CopyFault = c.in_err-found.field-0.0 in
    let is : c.from_residual-in_err-found.result ≡ Err e = search rules in
    let refused : OpenRefused source target c.args.need e = subst (λ (h : History). OpenRefused (objects_after h c.args.source.now) target c.args.need e) (c.in_ok-there.ensures.unwritten tells)
    (c.in_err-found.ensures.answers tells target there) in
    subst (λ (r : Result (Option Open) CopyFault). BeginAnswers c.args.closed source target c.args.need r) (sym is)
    (begin_refused c.args.closed source target c.args.need e (left_false c.args.closed target c.args.need c.in_ok-is_left.field-0 c.if-branch.false (c.in_ok-is_left.ensures target there)) refused)

pub returns-clause-answers : goal.returns-clause-answers
returns-clause-answers g c = λ tells.
    let source = objects_after (g.S.Store.history c.args.disk.now) c.args.source.now in
    let target = objects_after (g.S.Store.history c.args.disk.now) c.args.target.now in
    let there = c.in_ok-there.ensures.found tells in (
      left_false c.args.closed target c.args.need c.in_ok-is_left.field-0 c.if-branch.false (c.in_ok-is_left.ensures target there),
      subst (λ (h : History). IsBegun (objects_after h c.args.source.now) target c.args.need c.in_ok-found.found) (c.in_ok-there.ensures.unwritten tells)
          (c.in_ok-found.ensures.answers tells target there),
    )

pub returns-in_err-there-clause-reads : goal.returns-in_err-there-clause-reads
returns-in_err-there-clause-reads g c = λ tells. inl c.in_err-there.ensures.reads

pub returns-in_err-is_left-clause-reads : goal.returns-in_err-is_left-clause-reads
returns-in_err-is_left-clause-reads g c = λ tells. inl c.in_ok-there.ensures.reads

pub returns-then-branch-clause-reads : goal.returns-then-branch-clause-reads
returns-then-branch-clause-reads g c = λ tells. inl c.in_ok-there.ensures.reads

pub returns-in_err-found-clause-reads : goal.returns-in_err-found-clause-reads
returns-in_err-found-clause-reads g c = λ tells.
    let target = objects_after (g.S.Store.history c.args.disk.now) c.args.target.now in
    let there = c.in_ok-there.ensures.found tells in
    let one = c.in_ok-there.ensures.reads in
    let two = c.in_err-found.ensures.reads in
    inr (left_false c.args.closed target c.args.need c.in_ok-is_left.field-0 c.if-branch.false (c.in_ok-is_left.ensures target there), omega (arith, one, two))

pub returns-clause-reads : goal.returns-clause-reads
returns-clause-reads g c = λ tells.
    let target = objects_after (g.S.Store.history c.args.disk.now) c.args.target.now in
    let there = c.in_ok-there.ensures.found tells in
    let one = c.in_ok-there.ensures.reads in
    let two = c.in_ok-found.ensures.reads in
    inr (left_false c.args.closed target c.args.need c.in_ok-is_left.field-0 c.if-branch.false (c.in_ok-is_left.ensures target there), omega (arith, one, two))
