use Rattle.std.proofs.Common.{rules, ◌≡◌, ◌∷◌, ◌∙◌, Ok, Err, ap, refl, sym, subst}
use Rattle.gb_store.specs.Files.{History}
use Rattle.object_store.specs.Held.{objects_after}
use Rattle.ref_store.specs.Setting.{ref_write}
use Rattle.repo_state.specs.Answers.{PutAnswers}
use Rattle.repo_state.specs.Sides.{ref_place}
use Rattle.repo_state.specs.declared.side.Side.TheVariants as side
use Rattle.identity.specs.Advancing.{AdvanceAnswers}
use Rattle.identity.specs.declared.advancing.Step.{Step}
use Rattle.merge_steps.specs.Stops.{turn_of_store}
use Rattle.merge_steps.specs.declared.line.MergeOutcome.TheVariants as outcome
use Rattle.repo_merge.specs.Turning.{OnePerson}
use Rattle.repo_merge.proofs.PersonLemmas.{person_cut, person_turn}
use Rattle.repo_merge.proofs.QuietLemmas.{equal_unread}
use Rattle.repo_merge.proofs.ReadingLemmas.{chains_then}
use Rattle.repo_merge.proofs.people.advance_person.Goals as goal

pub returns-in_err-set_head-in-Ok-New-clause-answers : goal.returns-in_err-set_head-in-Ok-New-clause-answers
returns-in_err-set_head-in-Ok-New-clause-answers g c = λ tracked entity tells has.
    let history = g.S.Store.history in
    let folder = c.args.folder.now in
    let heads = c.args.heads.now in
    let old = history c.args.disk.now in
    let new = history c.set_head.new.disk in
    let same = c.advance.ensures.unwritten tells in
    let fault = c.in_err-set_head-in-Ok-New.field-0.0 in
    let is : c.from_residual.result ≡ Err (turn_of_store fault) = search rules in
    subst (OnePerson folder tracked entity old new) (sym is)
    (person_cut folder entity heads old new has tracked outcome.New fault
    (subst (λ (h : History). PutAnswers (ref_write folder (ref_place side.Identities heads.id) heads.tracked) h new (Err fault)) same (c.in_err-set_head-in-Ok-New.ensures.answers tells))
    (λ made. (subst (λ (s : Step). AdvanceAnswers (objects_after old folder) heads.id heads.local heads.tracked (Ok s)) c.in-Ok-New.field-0-is (c.in-Ok-New.ensures.answers tells), made)))

pub returns-in_err-set_head-in-Ok-Forward-clause-answers : goal.returns-in_err-set_head-in-Ok-Forward-clause-answers
returns-in_err-set_head-in-Ok-Forward-clause-answers g c = λ tracked entity tells has.
    let history = g.S.Store.history in
    let folder = c.args.folder.now in
    let heads = c.args.heads.now in
    let old = history c.args.disk.now in
    let new = history c.set_head-in-Ok-Forward.new.disk in
    let same = c.advance.ensures.unwritten tells in
    let fault = c.in_err-set_head-in-Ok-Forward.field-0.0 in
    let is : c.from_residual-in_err-set_head-in-Ok-Forward.result ≡ Err (turn_of_store fault) = search rules in
    subst (OnePerson folder tracked entity old new) (sym is)
    (person_cut folder entity heads old new has tracked outcome.Forward fault
    (subst (λ (h : History). PutAnswers (ref_write folder (ref_place side.Identities heads.id) heads.tracked) h new (Err fault)) same (c.in_err-set_head-in-Ok-Forward.ensures.answers tells))
    (λ made. (subst (λ (s : Step). AdvanceAnswers (objects_after old folder) heads.id heads.local heads.tracked (Ok s)) c.in-Ok-Forward.field-0-is (c.in-Ok-Forward.ensures.answers tells), made)))

pub returns-in_ok-set_head-in-Ok-Forward-clause-answers : goal.returns-in_ok-set_head-in-Ok-Forward-clause-answers
returns-in_ok-set_head-in-Ok-Forward-clause-answers g c = λ tracked entity tells has.
    let history = g.S.Store.history in
    let folder = c.args.folder.now in
    let heads = c.args.heads.now in
    let old = history c.args.disk.now in
    person_turn folder entity heads old (history c.set_head-in-Ok-Forward.new.disk) has outcome.Forward (
      subst (λ (s : Step). AdvanceAnswers (objects_after old folder) heads.id heads.local heads.tracked (Ok s)) c.in-Ok-Forward.field-0-is (c.in-Ok-Forward.ensures.answers tells),
      c.in_ok-set_head-in-Ok-Forward.ensures.answers tells ∙ ap (λ (h : History). ref_write folder (ref_place side.Identities heads.id) heads.tracked ∷ h) (c.advance.ensures.unwritten tells),
    )

pub returns-in-Ok-Nothing-clause-unread : goal.returns-in-Ok-Nothing-clause-unread
returns-in-Ok-Nothing-clause-unread g c = λ tells known.
    let heads = c.args.heads.now in
    let old = g.S.Store.history c.args.disk.now in
    record {
      same = c.advance.ensures.unwritten tells;
      unread = equal_unread (objects_after old c.args.folder.now) heads.tracked (g.S.Store.object_reads c.args.disk.now) (g.S.Store.object_reads c.advance.new.disk) (c.advance.ensures.above heads.tracked tells known);
    }

pub returns-in-Err-Memory-clause-unread : goal.returns-in-Err-Memory-clause-unread
returns-in-Err-Memory-clause-unread g c = λ tells known.
    let heads = c.args.heads.now in
    let old = g.S.Store.history c.args.disk.now in
    record {
      same = c.advance.ensures.unwritten tells;
      unread = equal_unread (objects_after old c.args.folder.now) heads.tracked (g.S.Store.object_reads c.args.disk.now) (g.S.Store.object_reads c.advance.new.disk) (c.advance.ensures.above heads.tracked tells known);
    }

pub returns-in-Err-Disk-clause-unread : goal.returns-in-Err-Disk-clause-unread
returns-in-Err-Disk-clause-unread g c = λ tells known.
    let heads = c.args.heads.now in
    let old = g.S.Store.history c.args.disk.now in
    record {
      same = c.advance.ensures.unwritten tells;
      unread = equal_unread (objects_after old c.args.folder.now) heads.tracked (g.S.Store.object_reads c.args.disk.now) (g.S.Store.object_reads c.advance.new.disk) (c.advance.ensures.above heads.tracked tells known);
    }

pub returns-in-Ok-Nothing-clause-reads : goal.returns-in-Ok-Nothing-clause-reads
returns-in-Ok-Nothing-clause-reads g c = λ tells.
    let heads = c.args.heads.now in
    let reads = g.S.Store.object_reads in
    chains_then (objects_after (g.S.Store.history c.args.disk.now) c.args.folder.now) heads.local heads.tracked _ (reads c.args.disk.now) (reads c.advance.new.disk) (reads c.advance.new.disk)
    (λ head is. c.advance.ensures.above head tells is) c.advance.ensures.reads refl
    (λ is. absurd (cc))

pub returns-in-Err-Invalid-clause-reads : goal.returns-in-Err-Invalid-clause-reads
returns-in-Err-Invalid-clause-reads g c = λ tells.
    let heads = c.args.heads.now in
    let reads = g.S.Store.object_reads in
    chains_then (objects_after (g.S.Store.history c.args.disk.now) c.args.folder.now) heads.local heads.tracked _ (reads c.args.disk.now) (reads c.advance.new.disk) (reads c.advance.new.disk)
    (λ head is. c.advance.ensures.above head tells is) c.advance.ensures.reads refl
    (λ is. absurd (cc))

pub returns-in-Err-NotForward-clause-reads : goal.returns-in-Err-NotForward-clause-reads
returns-in-Err-NotForward-clause-reads g c = λ tells.
    let heads = c.args.heads.now in
    let reads = g.S.Store.object_reads in
    chains_then (objects_after (g.S.Store.history c.args.disk.now) c.args.folder.now) heads.local heads.tracked _ (reads c.args.disk.now) (reads c.advance.new.disk) (reads c.advance.new.disk)
    (λ head is. c.advance.ensures.above head tells is) c.advance.ensures.reads refl
    (λ is. absurd (cc))

pub returns-in-Err-Memory-clause-reads : goal.returns-in-Err-Memory-clause-reads
returns-in-Err-Memory-clause-reads g c = λ tells.
    let heads = c.args.heads.now in
    let reads = g.S.Store.object_reads in
    chains_then (objects_after (g.S.Store.history c.args.disk.now) c.args.folder.now) heads.local heads.tracked _ (reads c.args.disk.now) (reads c.advance.new.disk) (reads c.advance.new.disk)
    (λ head is. c.advance.ensures.above head tells is) c.advance.ensures.reads refl
    (λ is. absurd (cc))

pub returns-in-Err-Disk-clause-reads : goal.returns-in-Err-Disk-clause-reads
returns-in-Err-Disk-clause-reads g c = λ tells.
    let heads = c.args.heads.now in
    let reads = g.S.Store.object_reads in
    chains_then (objects_after (g.S.Store.history c.args.disk.now) c.args.folder.now) heads.local heads.tracked _ (reads c.args.disk.now) (reads c.advance.new.disk) (reads c.advance.new.disk)
    (λ head is. c.advance.ensures.above head tells is) c.advance.ensures.reads refl
    (λ is. absurd (cc))

pub returns-in_err-set_head-in-Ok-New-clause-reads : goal.returns-in_err-set_head-in-Ok-New-clause-reads
returns-in_err-set_head-in-Ok-New-clause-reads g c = λ tells.
    let heads = c.args.heads.now in
    let reads = g.S.Store.object_reads in
    let is : c.from_residual.result ≡ Err (turn_of_store c.in_err-set_head-in-Ok-New.field-0.0) = search rules in
    chains_then (objects_after (g.S.Store.history c.args.disk.now) c.args.folder.now) heads.local heads.tracked _ (reads c.args.disk.now) (reads c.advance.new.disk) (reads c.set_head.new.disk)
    (λ head is. c.advance.ensures.above head tells is) c.advance.ensures.reads c.set_head.ensures.reads
    (λ new. absurd (cc (is, new)))

pub returns-in_err-set_head-in-Ok-Forward-clause-reads : goal.returns-in_err-set_head-in-Ok-Forward-clause-reads
returns-in_err-set_head-in-Ok-Forward-clause-reads g c = λ tells.
    let heads = c.args.heads.now in
    let reads = g.S.Store.object_reads in
    let is : c.from_residual-in_err-set_head-in-Ok-Forward.result ≡ Err (turn_of_store c.in_err-set_head-in-Ok-Forward.field-0.0) = search rules in
    chains_then (objects_after (g.S.Store.history c.args.disk.now) c.args.folder.now) heads.local heads.tracked _ (reads c.args.disk.now) (reads c.advance.new.disk) (reads c.set_head-in-Ok-Forward.new.disk)
    (λ head is. c.advance.ensures.above head tells is) c.advance.ensures.reads c.set_head-in-Ok-Forward.ensures.reads
    (λ new. absurd (cc (is, new)))

pub returns-in_ok-set_head-in-Ok-Forward-clause-reads : goal.returns-in_ok-set_head-in-Ok-Forward-clause-reads
returns-in_ok-set_head-in-Ok-Forward-clause-reads g c = λ tells.
    let heads = c.args.heads.now in
    let reads = g.S.Store.object_reads in
    chains_then (objects_after (g.S.Store.history c.args.disk.now) c.args.folder.now) heads.local heads.tracked _ (reads c.args.disk.now) (reads c.advance.new.disk) (reads c.set_head-in-Ok-Forward.new.disk)
    (λ head is. c.advance.ensures.above head tells is) c.advance.ensures.reads c.set_head-in-Ok-Forward.ensures.reads
    (λ is. absurd (cc))

pub returns-in_ok-set_head-in-Ok-New-clause-reads : goal.returns-in_ok-set_head-in-Ok-New-clause-reads
returns-in_ok-set_head-in-Ok-New-clause-reads g c = λ tells.
    let heads = c.args.heads.now in
    let reads = g.S.Store.object_reads in
    chains_then (objects_after (g.S.Store.history c.args.disk.now) c.args.folder.now) heads.local heads.tracked _ (reads c.args.disk.now) (reads c.advance.new.disk) (reads c.set_head.new.disk)
    (λ head is. c.advance.ensures.above head tells is) c.advance.ensures.reads c.set_head.ensures.reads
    (λ is. c.in-Ok-New.ensures.begun tells
    (subst (λ (s : Step). AdvanceAnswers (objects_after (g.S.Store.history c.args.disk.now) c.args.folder.now) heads.id heads.local heads.tracked (Ok s)) c.in-Ok-New.field-0-is (c.in-Ok-New.ensures.answers tells)).0)
