use Rattle.std.proofs.Common.{rules, ◌≡◌, ◌∙◌, [], None, Ok, Err, get_or, ap, inr, refl, sym, subst}
use Rattle.gb_store.proofs.FaultLemmas.{KeepsFaults_then}
use Rattle.repo_state.specs.declared.refs.EntityRef.{EntityRef}
use Rattle.repo_state.specs.declared.side.Side.TheVariants as side
use Rattle.sync_steps.specs.declared.line.EntityWord.TheVariants as word
use Rattle.merge_steps.specs.Merging.{MergeTurn, MergesPerson, PersonStops}
use Rattle.merge_steps.specs.Turns.{EachMerged}
use Rattle.merge_steps.specs.declared.line.MergeOutcome.TheVariants as outcomes
use Rattle.merge_steps.specs.declared.stop.TurnStop.TheVariants as stop
use Rattle.repo_merge.specs.Reading.{EachPersonRead, PersonRead, ReadsPerson}
use Rattle.repo_merge.proofs.LocalLemmas.{next_person}
use Rattle.repo_merge.proofs.QuietLemmas.{next_quiet}
use Rattle.repo_sync.proofs.ReadingLemmas.{AllRead-next, SomeRead-at}
use Rattle.repo_merge.proofs.ReadingLemmas.{person_narrower}
use Rattle.repo_merge.proofs.TurnLemmas.{Ended-at, WentOn-next}
use Rattle.repo_merge.proofs.people.merge_people.Goals as goal

none : EntityRef
none = record { id = record { bytes = [] }; head = None }

pub returns-in_err-outcome-clause-answers : goal.returns-in_err-outcome-clause-answers
unfolding none
returns-in_err-outcome-clause-answers g c = λ tells here.
    let history = g.S.Store.history in
    let a = c.args in
    let step = MergesPerson a.folder.now in
    let stops = PersonStops a.folder.now a.tracked.now in
    let why = c.in_err-outcome.field-0.0 in
    let is : c.from_residual.result ≡ Err why = search rules in
    subst (EachMerged step stops word.Identity a.refs.now a.lines.now.items c.loop-entity.lines.items (history a.disk.now) (history c.merge_person.new.disk)) (sym is)
    (Ended-at step word.Identity stops why a.refs.now c.loop-entity.entity-index none a.lines.now.items c.loop-entity.lines.items (history a.disk.now) (history c.loop-entity.disk) (history c.merge_person.new.disk)
    c.loop-entity-test.true (c.loop-entity.invariant.went tells here) (c.in_err-outcome.ensures.answers tells
    (next_person a.folder.now a.locals.now a.refs.now c.loop-entity.entity-index none a.lines.now.items c.loop-entity.lines.items (history a.disk.now) (history c.loop-entity.disk) c.loop-entity-test.true here (c.loop-entity.invariant.went tells here))))

pub returns-in_err-push-clause-answers : goal.returns-in_err-push-clause-answers
unfolding none
returns-in_err-push-clause-answers g c = λ tells here.
    let history = g.S.Store.history in
    let a = c.args in
    let step = MergesPerson a.folder.now in
    let stops = PersonStops a.folder.now a.tracked.now in
    let is : c.from_residual-in_err-push.result ≡ Err stop.Memory = search rules in
    subst (EachMerged step stops word.Identity a.refs.now a.lines.now.items c.push.new.self.items (history a.disk.now) (history c.merge_person.new.disk)) (sym is)
    (Ended-at step word.Identity stops stop.Memory a.refs.now c.loop-entity.entity-index none a.lines.now.items c.loop-entity.lines.items (history a.disk.now) (history c.loop-entity.disk) (history c.merge_person.new.disk)
    c.loop-entity-test.true (c.loop-entity.invariant.went tells here) (inr (
      c.in_ok-outcome.outcome,
      c.in_ok-outcome.ensures.answers tells
          (next_person a.folder.now a.locals.now a.refs.now c.loop-entity.entity-index none a.lines.now.items c.loop-entity.lines.items (history a.disk.now) (history c.loop-entity.disk) c.loop-entity-test.true here (c.loop-entity.invariant.went tells here)),
    )))

pub loop-entity-preserved : goal.loop-entity-preserved
unfolding none
loop-entity-preserved g c =
    let history = g.S.Store.history in
    let reads = g.S.Store.object_reads in
    let a = c.args in
    let was = c.loop-entity.invariant in
    let told : c.merge_person.result ≡ Ok c.in_ok-outcome.outcome = search rules in
    record {
      went = λ tells here.
          WentOn-next (MergesPerson a.folder.now) word.Identity a.refs.now c.loop-entity.entity-index none c.in_ok-outcome.outcome a.lines.now.items c.loop-entity.lines.items c.push.new.self.items
          (history a.disk.now) (history c.loop-entity.disk) (history c.merge_person.new.disk) c.loop-entity-test.true (was.went tells here) (c.in_ok-outcome.ensures.answers tells
          (next_person a.folder.now a.locals.now a.refs.now c.loop-entity.entity-index none a.lines.now.items c.loop-entity.lines.items (history a.disk.now) (history c.loop-entity.disk) c.loop-entity-test.true here (was.went tells here))) c.in_ok-push.ensures.items;
      quiet = λ tells here known.
          next_quiet a.folder.now side.Identities a.refs.now c.loop-entity.entity-index none (history a.disk.now) (history c.loop-entity.disk) (history c.merge_person.new.disk)
          (reads a.disk.now) (reads c.loop-entity.disk) (reads c.merge_person.new.disk) c.loop-entity-test.true known (was.quiet tells here known) (c.merge_person.ensures.unread tells
          (next_person a.folder.now a.locals.now a.refs.now c.loop-entity.entity-index none a.lines.now.items c.loop-entity.lines.items (history a.disk.now) (history c.loop-entity.disk) c.loop-entity-test.true here (was.went tells here)));
      read = λ tells here.
          AllRead-next (λ (turn : MergeTurn). turn.entity) (PersonRead a.folder.now) a.refs.now c.loop-entity.entity-index none (record { entity = get_or a.refs.now c.loop-entity.entity-index none; outcome = c.in_ok-outcome.outcome }) (history a.disk.now) (history c.loop-entity.disk) (history c.merge_person.new.disk)
          (reads a.disk.now) (reads c.loop-entity.disk) (reads c.merge_person.new.disk) c.loop-entity-test.true refl (was.read tells here) (record {
            merged = c.in_ok-outcome.ensures.answers tells (next_person a.folder.now a.locals.now a.refs.now c.loop-entity.entity-index none a.lines.now.items c.loop-entity.lines.items (history a.disk.now) (history c.loop-entity.disk) c.loop-entity-test.true here (c.loop-entity.invariant.went tells here));
            reads = person_narrower a.folder.now (c.merge_person.result ≡ Ok outcomes.New) (c.in_ok-outcome.outcome ≡ outcomes.New) (get_or a.refs.now c.loop-entity.entity-index none) (history c.loop-entity.disk) (reads c.loop-entity.disk) (reads c.merge_person.new.disk) (λ is. told ∙ ap Ok is)
                (c.merge_person.ensures.reads tells (next_person a.folder.now a.locals.now a.refs.now c.loop-entity.entity-index none a.lines.now.items c.loop-entity.lines.items (history a.disk.now) (history c.loop-entity.disk) c.loop-entity-test.true here (c.loop-entity.invariant.went tells here)));
          });
      caused = KeepsFaults_then g.S.Store.never_fails g.S.Store.faults _ ⊥ a.disk.now c.loop-entity.disk c.merge_person.new.disk was.caused c.in_ok-outcome.ensures.caused (λ never. absurd never) (λ fails. absurd {A = ⊥} (cc));
    }

pub returns-in_err-outcome-clause-unread : goal.returns-in_err-outcome-clause-unread
unfolding none
returns-in_err-outcome-clause-unread g c = λ tells here known.
    let history = g.S.Store.history in
    let reads = g.S.Store.object_reads in
    let a = c.args in
    next_quiet a.folder.now side.Identities a.refs.now c.loop-entity.entity-index none (history a.disk.now) (history c.loop-entity.disk) (history c.merge_person.new.disk)
    (reads a.disk.now) (reads c.loop-entity.disk) (reads c.merge_person.new.disk) c.loop-entity-test.true known (c.loop-entity.invariant.quiet tells here known) (c.merge_person.ensures.unread tells
    (next_person a.folder.now a.locals.now a.refs.now c.loop-entity.entity-index none a.lines.now.items c.loop-entity.lines.items (history a.disk.now) (history c.loop-entity.disk) c.loop-entity-test.true here (c.loop-entity.invariant.went tells here)))

pub returns-in_err-push-clause-unread : goal.returns-in_err-push-clause-unread
unfolding none
returns-in_err-push-clause-unread g c = λ tells here known.
    let history = g.S.Store.history in
    let reads = g.S.Store.object_reads in
    let a = c.args in
    next_quiet a.folder.now side.Identities a.refs.now c.loop-entity.entity-index none (history a.disk.now) (history c.loop-entity.disk) (history c.merge_person.new.disk)
    (reads a.disk.now) (reads c.loop-entity.disk) (reads c.merge_person.new.disk) c.loop-entity-test.true known (c.loop-entity.invariant.quiet tells here known) (c.merge_person.ensures.unread tells
    (next_person a.folder.now a.locals.now a.refs.now c.loop-entity.entity-index none a.lines.now.items c.loop-entity.lines.items (history a.disk.now) (history c.loop-entity.disk) c.loop-entity-test.true here (c.loop-entity.invariant.went tells here)))

pub returns-in_err-outcome-clause-reads : goal.returns-in_err-outcome-clause-reads
unfolding none
returns-in_err-outcome-clause-reads g c = λ tells here.
    let history = g.S.Store.history in
    let reads = g.S.Store.object_reads in
    let a = c.args in
    let why = c.in_err-outcome.field-0.0 in
    let is : c.from_residual.result ≡ Err why = search rules in
    let at = SomeRead-at (λ (turn : MergeTurn). turn.entity) (PersonRead a.folder.now) (ReadsPerson a.folder.now ⊥) a.refs.now c.loop-entity.entity-index none (history a.disk.now) (history c.loop-entity.disk)
    (reads a.disk.now) (reads c.loop-entity.disk) (reads c.merge_person.new.disk) c.loop-entity-test.true (c.loop-entity.invariant.read tells here)
    (person_narrower a.folder.now (c.merge_person.result ≡ Ok outcomes.New) ⊥ (get_or a.refs.now c.loop-entity.entity-index none) (history c.loop-entity.disk) (reads c.loop-entity.disk) (reads c.merge_person.new.disk) (λ never. absurd never)
    (c.merge_person.ensures.reads tells (next_person a.folder.now a.locals.now a.refs.now c.loop-entity.entity-index none a.lines.now.items c.loop-entity.lines.items (history a.disk.now) (history c.loop-entity.disk) c.loop-entity-test.true here (c.loop-entity.invariant.went tells here)))) in
    subst (EachPersonRead a.folder.now a.refs.now (history a.disk.now) (history c.merge_person.new.disk) (reads a.disk.now) (reads c.merge_person.new.disk)) (sym is) at

pub returns-in_err-push-clause-reads : goal.returns-in_err-push-clause-reads
unfolding none
returns-in_err-push-clause-reads g c = λ tells here.
    let history = g.S.Store.history in
    let reads = g.S.Store.object_reads in
    let a = c.args in
    let is : c.from_residual-in_err-push.result ≡ Err stop.Memory = search rules in
    let at = SomeRead-at (λ (turn : MergeTurn). turn.entity) (PersonRead a.folder.now) (ReadsPerson a.folder.now ⊥) a.refs.now c.loop-entity.entity-index none (history a.disk.now) (history c.loop-entity.disk)
    (reads a.disk.now) (reads c.loop-entity.disk) (reads c.merge_person.new.disk) c.loop-entity-test.true (c.loop-entity.invariant.read tells here)
    (person_narrower a.folder.now (c.merge_person.result ≡ Ok outcomes.New) ⊥ (get_or a.refs.now c.loop-entity.entity-index none) (history c.loop-entity.disk) (reads c.loop-entity.disk) (reads c.merge_person.new.disk) (λ never. absurd never)
    (c.merge_person.ensures.reads tells (next_person a.folder.now a.locals.now a.refs.now c.loop-entity.entity-index none a.lines.now.items c.loop-entity.lines.items (history a.disk.now) (history c.loop-entity.disk) c.loop-entity-test.true here (c.loop-entity.invariant.went tells here)))) in
    subst (EachPersonRead a.folder.now a.refs.now (history a.disk.now) (history c.merge_person.new.disk) (reads a.disk.now) (reads c.merge_person.new.disk)) (sym is) at
