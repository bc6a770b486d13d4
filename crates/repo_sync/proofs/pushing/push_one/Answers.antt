use Rattle.std.proofs.Common.{inl, inr, rules, ◌≡◌, Option, Ok, Err, false, sym, subst}
use Rattle.gb_store.specs.Files.{History, files_of}
use Rattle.object_store.specs.Held.{objects_after}
use Rattle.repo_state.specs.Sides.{head_at}
use Rattle.sync_steps.specs.Carrying.{CarryAnswers, IsCarried, IsCutOff}
use Rattle.sync_steps.specs.Pushing.{HeadPushed}
use Rattle.sync_steps.specs.declared.line.CopyCause.{CopyCause}
use Rattle.words.proofs.PairLemmas.{apart_of}
use Rattle.repo_sync.proofs.StepLemmas.{goes_forward}
use Rattle.repo_sync.proofs.pushing.push_one.Goals as goal

pub returns-in_err-outcome-clause-answers : goal.returns-in_err-outcome-clause-answers
returns-in_err-outcome-clause-answers g c = λ tells alike.
    let history = g.S.Store.history in
    let a = c.args in
    let why = c.in_err-outcome.field-0.0 in
    let is : c.from_residual.result ≡ Err why = search rules in
    subst (HeadPushed a.pair.now.own a.pair.now.peer a.there.now.side a.head.now (history a.disk.now) (history c.settled.new.disk)) (sym is)
    (inl (c.in_err-outcome.ensures.unwritten tells))

pub returns-in-None-clause-answers : goal.returns-in-None-clause-answers
returns-in-None-clause-answers g c = λ tells alike.
    let history = g.S.Store.history in
    let a = c.args in
    let own = a.pair.now.own in
    let peer = a.pair.now.peer in
    let ref = head_at (files_of (history a.disk.now)) peer a.there.now.side a.head.now.id in (
      goes_forward (objects_after (history a.disk.now) own) ref a.head.now.name c.in_ok-outcome.field-0 c.in_default.not-Some (c.in_ok-outcome.ensures.answers tells alike),
      subst (λ (h : History). IsCarried false own peer a.there.now.side a.head.now h (history c.carry.new.disk)) (c.in_ok-outcome.ensures.unwritten tells)
          (subst (λ (why : Option CopyCause). CarryAnswers false own peer a.there.now.side a.head.now (history c.settled.new.disk) (history c.carry.new.disk) (Ok why)) c.in-None.is (c.in_ok-carry.ensures.answers tells)),
    )

pub returns-in_err-carry-clause-answers : goal.returns-in_err-carry-clause-answers
returns-in_err-carry-clause-answers g c = λ tells alike.
    let history = g.S.Store.history in
    let a = c.args in
    let own = a.pair.now.own in
    let peer = a.pair.now.peer in
    let ref = head_at (files_of (history a.disk.now)) peer a.there.now.side a.head.now.id in
    let why = c.in_err-carry.field-0.0 in
    let is : c.from_residual-in_err-carry.result ≡ Err why = search rules in
    let forward = goes_forward (objects_after (history a.disk.now) own) ref a.head.now.name c.in_ok-outcome.field-0 c.in_default.not-Some (c.in_ok-outcome.ensures.answers tells alike) in
    let cut = subst (λ (h : History). IsCutOff false own peer a.there.now.side a.head.now h (history c.carry.new.disk)) (c.in_ok-outcome.ensures.unwritten tells) (c.in_err-carry.ensures.answers tells) in
    subst (HeadPushed own peer a.there.now.side a.head.now (history a.disk.now) (history c.carry.new.disk)) (sym is) (inr (forward, cut))

pub carry-requires : goal.carry-requires
carry-requires g c = let pair = c.args.pair.now in apart_of pair.own pair.peer pair.apart
