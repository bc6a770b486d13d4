use Rattle.std.proofs.Common.{Option, Some, None, Ok, subst}
use Rattle.gb_store.specs.Files.{History, files_of}
use Rattle.repo_state.specs.Answers.{EntityAnswers}
use Rattle.repo_state.specs.declared.refs.EntityRef.{EntityRef}
use Rattle.repo_state.proofs.FoundLemmas.{finds_no_entity, finds_ref}
use Rattle.repo_state.proofs.finding.find_ref.Goals as goal

pub returns-in-Some-clause-answers : goal.returns-in-Some-clause-answers
returns-in-Some-clause-answers g c = λ tells.
    let read : EntityAnswers (files_of (g.S.Store.history c.sought.new.disk)) c.args.folder.now c.args.side.now c.in_ok-id.id (Ok (Some c.in-Some.found)) =
    subst (λ (o : Option EntityRef). EntityAnswers (files_of (g.S.Store.history c.sought.new.disk)) c.args.folder.now c.args.side.now c.in_ok-id.id (Ok o)) c.in-Some.is (c.in_ok-found.ensures.answers tells) in
    finds_ref c.in_ok-id.id c.in-Some.found (c.in_ok-id.ensures.answers tells)
    (subst (λ (h : History). EntityAnswers (files_of h) c.args.folder.now c.args.side.now c.in_ok-id.id (Ok (Some c.in-Some.found))) (c.in_ok-id.ensures.unwritten tells) read)

pub returns-in-None-clause-answers : goal.returns-in-None-clause-answers
returns-in-None-clause-answers g c = λ tells.
    let read : EntityAnswers (files_of (g.S.Store.history c.sought.new.disk)) c.args.folder.now c.args.side.now c.in_ok-id.id (Ok None) =
    subst (λ (o : Option EntityRef). EntityAnswers (files_of (g.S.Store.history c.sought.new.disk)) c.args.folder.now c.args.side.now c.in_ok-id.id (Ok o)) c.in-None.is (c.in_ok-found.ensures.answers tells) in
    finds_no_entity c.in_ok-id.id (c.in_ok-id.ensures.answers tells)
    (subst (λ (h : History). EntityAnswers (files_of h) c.args.folder.now c.args.side.now c.in_ok-id.id (Ok None)) (c.in_ok-id.ensures.unwritten tells) read)
