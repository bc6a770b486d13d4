use Rattle.std.proofs.Common.{rules, ◌≡◌, true, Option, Some, Ok, Err, refl, sym, subst}
use Rattle.gb_store.specs.Files.{files_of}
use Rattle.gb_text.proofs.PathLemmas.{Overlap-mutual}
use Rattle.repo_state.specs.Stops.{read_of_store}
use Rattle.repo_state.specs.declared.side.HeadEntry.{HeadEntry}
use Rattle.sync_steps.specs.Carrying.{CarryAnswers}
use Rattle.sync_steps.specs.Fetching.{OneFetched}
use Rattle.sync_steps.specs.declared.line.CopyCause.{CopyCause}
use Rattle.words.proofs.PairLemmas.{apart_of}
use Rattle.repo_sync.proofs.StepLemmas.{copy_cut, copy_made, copy_refused, found_same, tracking_ends}
use Rattle.repo_sync.proofs.fetching.fetch_one.Goals as goal

pub returns-in_err-head-clause-answers : goal.returns-in_err-head-clause-answers
returns-in_err-head-clause-answers g c = λ tells alike.
    let history = g.S.Store.history in
    let a = c.args in
    let why = c.in_err-head.field-0.0 in
    let is : c.from_residual.result ≡ Err why = search rules in
    subst (OneFetched a.pair.now.own a.pair.now.peer a.seen.now.side a.entity.now (history a.disk.now) (history a.disk.now)) (sym is)
    (tracking_ends a.pair.now.own a.pair.now.peer a.seen.now.side a.entity.now c.in-Some.name (history a.disk.now) (history a.disk.now) why c.in-Some.is
    (c.in_err-head.ensures.answers (files_of (history a.disk.now)) alike) refl)

pub returns-in-Some-2-clause-answers : goal.returns-in-Some-2-clause-answers
returns-in-Some-2-clause-answers g c = λ tells alike.
    let history = g.S.Store.history in
    let a = c.args in
    let differ : c.in_ok-head.field-0 ≡ Some c.in-Some.name → ⊥ = search rules in
    copy_refused a.pair.now.own a.pair.now.peer a.seen.now.side a.entity.now c.in-Some.name c.in_ok-head.field-0 c.in-Some-2.why (history a.disk.now) (history a.disk.now) (history c.carry.new.disk)
    c.in-Some.is (c.in_ok-head.ensures.answers (files_of (history a.disk.now)) alike) differ refl
    (subst (λ (r : Option CopyCause). CarryAnswers true a.pair.now.peer a.pair.now.own a.seen.now.side (record { id = a.entity.now.id; name = c.in-Some.name }) (history a.disk.now) (history c.carry.new.disk) (Ok r)) c.in-Some-2.is (c.in_ok-carry.ensures.answers tells))

pub returns-then-eq-clause-answers : goal.returns-then-eq-clause-answers
returns-then-eq-clause-answers g c = λ tells alike.
    let a = c.args in
    let old = g.S.Store.history a.disk.now in
    let same : c.in_ok-head.field-0 ≡ Some c.in-Some.name = search rules in
    found_same a.pair.now.own a.pair.now.peer a.seen.now.side a.entity.now c.in-Some.name c.in_ok-head.field-0 old c.in-Some.is (c.in_ok-head.ensures.answers (files_of old) alike) same

pub returns-in_err-carry-clause-answers : goal.returns-in_err-carry-clause-answers
returns-in_err-carry-clause-answers g c = λ tells alike.
    let a = c.args in
    let old = g.S.Store.history a.disk.now in
    let new = g.S.Store.history c.carry.new.disk in
    let fault = c.in_err-carry.field-0.0 in
    let is : c.from_residual-in_err-carry.result ≡ Err (read_of_store fault) = search rules in
    let differ : c.in_ok-head.field-0 ≡ Some c.in-Some.name → ⊥ = search rules in
    subst (OneFetched a.pair.now.own a.pair.now.peer a.seen.now.side a.entity.now old new) (sym is)
    (copy_cut a.pair.now.own a.pair.now.peer a.seen.now.side a.entity.now c.in-Some.name c.in_ok-head.field-0 fault old new c.in-Some.is (c.in_ok-head.ensures.answers (files_of old) alike) differ (c.in_err-carry.ensures.answers tells))

pub returns-in-None-clause-answers : goal.returns-in-None-clause-answers
returns-in-None-clause-answers g c = λ tells alike.
    let a = c.args in
    let old = g.S.Store.history a.disk.now in
    let new = g.S.Store.history c.carry.new.disk in
    let entry : HeadEntry = record { id = a.entity.now.id; name = c.in-Some.name } in
    let differ : c.in_ok-head.field-0 ≡ Some c.in-Some.name → ⊥ = search rules in
    let carried = subst (λ (r : Option CopyCause). CarryAnswers true a.pair.now.peer a.pair.now.own a.seen.now.side entry old new (Ok r)) c.in-None.is (c.in_ok-carry.ensures.answers tells) in
    copy_made a.pair.now.own a.pair.now.peer a.seen.now.side a.entity.now c.in-Some.name c.in_ok-head.field-0 old new c.in-Some.is (c.in_ok-head.ensures.answers (files_of old) alike) differ carried

pub carry-requires : goal.carry-requires
carry-requires g c = let pair = c.args.pair.now in λ over. apart_of pair.own pair.peer pair.apart (Overlap-mutual pair.peer pair.own over)
