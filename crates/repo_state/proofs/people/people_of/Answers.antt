use Rattle.std.proofs.Common.{◌≡◌, ◌+◌, ◌∷◌, [], ◌++◌, Vec, Global, Result, Err, get_or, take, rules, sym, ◌∙◌, subst, arith}
use Rattle.std.proofs.lemmas.Grind.{common_steps}
use Rattle.gb_store.specs.Files.{History, files_of}
use Rattle.gb_store.proofs.FaultLemmas.{KeepsFaults_then}
use Rattle.object_store.specs.Held.{objects_in}
use Rattle.identity.specs.Persons.{Shows}
use Rattle.identity.specs.declared.chain.Person.{Person}
use Rattle.ref_store.specs.declared.listing.RefEntry.{RefEntry}
use Rattle.ref_store.specs.declared.listing.RefFound.TheVariants as found
use Rattle.repo_state.specs.Answers.{ArePersons, PeopleOf, PersonOf}
use Rattle.repo_state.specs.declared.stop.ReadStop.{ReadStop}
use Rattle.repo_state.proofs.PeopleLemmas.{ArePersons-more, people_stop}
use Rattle.repo_state.proofs.people.people_of.Goals as goal

none : RefEntry
none = record { id = record { bytes = [] }; found = found.Head (record { bytes = [] }) }

pub loop-entry-preserved : goal.loop-entry-preserved
unfolding none
loop-entry-preserved g c =
    let objects = objects_in (files_of (g.S.Store.history c.args.disk.now)) c.args.folder.now in
    let person = c.in_ok-person_of.field-0 in
    let pushed : c.push.new.self.items ≡ c.loop-entry.people.items ++ person ∷ [] = grind (arith, common_steps) in
    record {
      are = λ tells.
          let read = c.in_ok-person_of.ensures.answers tells in
          let shows : Shows objects person.id person.head person =
          subst (λ (h : History). Shows (objects_in (files_of h) c.args.folder.now) person.id person.head person) (c.loop-entry.invariant.unwritten tells) read.1 in
          subst (ArePersons objects (take (c.loop-entry.entry-index + 1) c.args.entries.now)) (sym pushed)
          (ArePersons-more objects c.args.entries.now c.loop-entry.people.items c.loop-entry.entry-index none person c.loop-entry-test.true (c.loop-entry.invariant.are tells) read.0 shows);
      unwritten = λ tells. c.in_ok-person_of.ensures.unwritten tells ∙ c.loop-entry.invariant.unwritten tells;
      reads = omega (arith, c.in_ok-person_of.ensures.reads, c.loop-entry.invariant.reads);
      caused = KeepsFaults_then g.S.Store.never_fails g.S.Store.faults _ ⊥ c.args.disk.now c.loop-entry.disk c.person_of.new.disk c.loop-entry.invariant.caused c.in_ok-person_of.ensures.caused (λ none. absurd none) (λ fails. absurd (cc));
    }

pub returns-in_err-person_of-clause-answers : goal.returns-in_err-person_of-clause-answers
unfolding none
returns-in_err-person_of-clause-answers g c = λ tells.
    let files = files_of (g.S.Store.history c.args.disk.now) in
    let entry = get_or c.args.entries.now c.loop-entry.entry-index none in
    let is : c.from_residual.result ≡ Err c.in_err-person_of.field-0.0 = search rules in
    let told : PersonOf files c.args.folder.now entry (Err c.in_err-person_of.field-0.0) =
    subst (λ (h : History). PersonOf (files_of h) c.args.folder.now entry (Err c.in_err-person_of.field-0.0)) (c.loop-entry.invariant.unwritten tells) (c.in_err-person_of.ensures.answers tells) in
    subst (λ (r : Result (Vec Person Global) ReadStop). PeopleOf files c.args.folder.now c.args.entries.now r) (sym is)
    (people_stop files c.args.folder.now c.args.entries.now c.loop-entry.people.items c.loop-entry.entry-index none c.loop-entry-test.true (c.loop-entry.invariant.are tells) c.in_err-person_of.field-0.0 told)
