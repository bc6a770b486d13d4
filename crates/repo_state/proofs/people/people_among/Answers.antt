use Rattle.std.proofs.Common.{◌≡◌, List, Result, Err, sym, subst, rules}
use Rattle.gb_store.specs.Files.{files_of}
use Rattle.identity.specs.declared.chain.Person.{Person}
use Rattle.repo_state.specs.Answers.{HasBadPerson, Reads}
use Rattle.repo_state.specs.People.{ArePeople}
use Rattle.repo_state.specs.declared.stop.ReadStop.{ReadStop}
use Rattle.repo_state.proofs.PeopleLemmas.{people_of_refs, stops_at_bad_person}
use Rattle.repo_state.proofs.people.people_among.Goals as goal

pub returns-in_err-people-clause-answers : goal.returns-in_err-people-clause-answers
returns-in_err-people-clause-answers g c = λ tells listed.
    let files = files_of (g.S.Store.history c.args.disk.now) in
    let folder = c.args.folder.now in
    let is : c.from_residual.result ≡ Err c.in_err-people.field-0.0 = search rules in
    subst (λ (r : Result (List Person) ReadStop). Reads (ArePeople files folder) (HasBadPerson files folder) r) (sym is)
    (stops_at_bad_person files folder c.args.identities.now listed c.in_err-people.field-0.0 (c.in_err-people.ensures.answers tells))

pub returns-clause-answers : goal.returns-clause-answers
returns-clause-answers g c = λ tells listed.
    let files = files_of (g.S.Store.history c.args.disk.now) in
    let folder = c.args.folder.now in
    subst (ArePeople files folder) (sym c.from_vec.ensures)
    (people_of_refs files folder c.args.identities.now listed c.in_ok-people.people.items (c.in_ok-people.ensures.answers tells))
