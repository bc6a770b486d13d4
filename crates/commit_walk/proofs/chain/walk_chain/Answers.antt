use Rattle.std.proofs.Common.{◌≡◌, ◌≤◌, length, reverse, Result, Vec, Err, Ok, sym, subst, rules, arith}
use Rattle.std.proofs.lemmas.List.{length-reverse}
use Rattle.std.specs.declared.alloc.Global.{Global}
use Rattle.gb_store.specs.Files.{History, files_of}
use Rattle.object_store.specs.Held.{objects_in}
use Rattle.commit_walk.specs.ChainAnswers.{LinkAnswers, ChainAnswers}
use Rattle.commit_walk.specs.declared.chain.Link.{Link}
use Rattle.commit_walk.specs.declared.fault.ChainStop.{ChainStop}
use Rattle.commit_walk.proofs.ChainStepLemmas.{ChainRefused-step, ChainRefused-too_long}
use Rattle.commit_walk.proofs.chain.walk_chain.Goals as goal

pub returns-in_err-link-clause-answers : goal.returns-in_err-link-clause-answers
returns-in_err-link-clause-answers g c = λ tells.
    let objects = objects_in (files_of (g.S.Store.history c.args.disk.now)) c.args.folder.now in
    let is : c.from_residual.result ≡ Err c.in_err-link.field-0.0 = search rules in
    let step : LinkAnswers objects c.loop.name (Err c.in_err-link.field-0.0) =
    subst (λ (h : History). LinkAnswers (objects_in (files_of h) c.args.folder.now) c.loop.name (Err c.in_err-link.field-0.0)) (c.loop.invariant.unwritten tells) (c.in_err-link.ensures.answers tells) in
    let near : length (reverse c.loop.above.items) ≤ 65536 = omega (arith, length-reverse c.loop.above.items, c.loop.invariant.count, c.loop-test.true) in
    subst (λ (r : Result (Vec Link Global) ChainStop). ChainAnswers objects c.args.head.now r) (sym is)
    (ChainRefused-step objects c.args.head.now (reverse c.loop.above.items) c.loop.name c.in_err-link.field-0.0 (c.loop.invariant.chain tells) near step)

pub returns-in_err-step-clause-answers : goal.returns-in_err-step-clause-answers
returns-in_err-step-clause-answers g c = λ tells.
    let objects = objects_in (files_of (g.S.Store.history c.args.disk.now)) c.args.folder.now in
    let is : c.from_residual-in_err-step.result ≡ Err c.in_err-step.field-0.0 = search rules in
    let step : LinkAnswers objects c.loop.name (Err c.in_err-step.field-0.0) =
    subst (λ (h : History). LinkAnswers (objects_in (files_of h) c.args.folder.now) c.loop.name (Err c.in_err-step.field-0.0)) (c.loop.invariant.unwritten tells) (c.in_err-step.ensures.answers tells) in
    let near : length (reverse c.loop.above.items) ≤ 65536 = omega (arith, length-reverse c.loop.above.items, c.loop.invariant.count, c.loop.auto.counter-end) in
    subst (λ (r : Result (Vec Link Global) ChainStop). ChainAnswers objects c.args.head.now r) (sym is)
    (ChainRefused-step objects c.args.head.now (reverse c.loop.above.items) c.loop.name c.in_err-step.field-0.0 (c.loop.invariant.chain tells) near step)

pub returns-clause-answers : goal.returns-clause-answers
returns-clause-answers g c = λ tells.
    let objects = objects_in (files_of (g.S.Store.history c.args.disk.now)) c.args.folder.now in
    let step : LinkAnswers objects c.loop.name (Ok c.in_ok-step.field-0) =
    subst (λ (h : History). LinkAnswers (objects_in (files_of h) c.args.folder.now) c.loop.name (Ok c.in_ok-step.field-0)) (c.loop.invariant.unwritten tells) (c.in_ok-step.ensures.answers tells) in
    let far : length (reverse c.loop.above.items) ≡ 65536 = omega (arith, length-reverse c.loop.above.items, c.loop.invariant.count, c.loop.auto.counter-end, c.loop-test.false) in
    ChainRefused-too_long objects c.args.head.now (reverse c.loop.above.items) c.loop.name c.in_ok-step.field-0 (c.loop.invariant.chain tells) far step
