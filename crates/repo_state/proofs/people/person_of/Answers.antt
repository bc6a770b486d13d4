use Rattle.std.proofs.Common.{◌≡◌, Result, Err, sym, subst, rules}
use Rattle.gb_store.specs.Files.{files_of}
use Rattle.identity.specs.declared.chain.Person.{Person}
use Rattle.repo_state.specs.Answers.{PersonOf}
use Rattle.repo_state.specs.declared.stop.ReadStop.{ReadStop}
use Rattle.repo_state.proofs.PeopleLemmas.{by_its_head, no_head}
use Rattle.repo_state.proofs.people.person_of.Goals as goal

pub returns-in_err-head-clause-answers : goal.returns-in_err-head-clause-answers
returns-in_err-head-clause-answers g c = λ tells.
    let is : c.from_residual.result ≡ Err c.in_err-head.field-0.0 = search rules in
    subst (λ (r : Result Person ReadStop). PersonOf (files_of (g.S.Store.history c.args.disk.now)) c.args.folder.now c.args.entry.now r) (sym is)
    (no_head (files_of (g.S.Store.history c.args.disk.now)) c.args.folder.now c.args.entry.now c.in_err-head.field-0.0 c.in_err-head.ensures)

pub returns-clause-answers : goal.returns-clause-answers
returns-clause-answers g c = λ tells.
    by_its_head (files_of (g.S.Store.history c.args.disk.now)) c.args.folder.now c.in_ok-head.head c.args.entry.now c.in_ok-head.ensures c.person_at.result (c.person_at.ensures.answers tells)
