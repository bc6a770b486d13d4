use Rattle.std.proofs.Common.{◌≡◌, List, Some, None, Result, Err, refl, sym, ◌∙◌, ap, subst, rules}
use Rattle.std.specs.List.{slice_get}
use Rattle.std.proofs.lemmas.Option.{slice_get_within}
use Rattle.gb_store.specs.Files.{History}
use Rattle.object_store.specs.Held.{objects_after}
use Rattle.remote_copy.specs.Copies.{StepReads}
use Rattle.remote_copy.specs.Copying.{IsCopying, Steps}
use Rattle.remote_copy.specs.Index.{WasOpened, mark_of}
use Rattle.remote_copy.specs.declared.fault.CopyFault.{CopyFault}
use Rattle.remote_copy.specs.declared.index.Mark.TheVariants as mark
use Rattle.remote_copy.specs.declared.open.Open.{Open}
use Rattle.remote_copy.specs.declared.work.Work.{Work}
use Rattle.remote_copy.proofs.ReadLemmas.{advance_reads, begun_reads, descend_reads, finish_reads, next_asked, read_end, read_stop}
use Rattle.remote_copy.proofs.StepLemmas.{advance_steps, begin_steps, descend_steps, finish_steps, kind_steps, ring_steps}
use Rattle.remote_copy.proofs.WeightLemmas.{falls_advance, falls_descend}
use Rattle.remote_copy.proofs.work.step.Goals as goal

pub returns-in_default-upcoming-clause-steps : goal.returns-in_default-upcoming-clause-steps
returns-in_default-upcoming-clause-steps g c = λ tells entry head copying.
    let work = c.args.work.now in
    let before : Work = record { index = work.index; stack = c.pop.new.self; commits = work.commits; others = work.others; put = work.put } in
    let w = subst (λ (l : List Open). IsCopying c.args.closed (objects_after (g.S.Store.history c.args.disk.now) c.args.source.now) entry (objects_after (g.S.Store.history c.args.disk.now) c.args.target.now) head before l)
    c.in-Some.ensures.items copying in
    let ended : slice_get c.in-Some.top.needs.items c.in-Some.top.next ≡ None = sym c.upcoming.ensures ∙ c.in_default-upcoming.is in
    let s = finish_steps c.args.closed c.args.source.now c.args.target.now entry head c.requires (g.S.Store.history c.args.disk.now) before c.pop.new.self.items c.in-Some.top w ended
    (g.S.Store.history c.finish.new.disk) c.finish.new.work c.finish.result (c.finish.ensures.finishes tells) c.finish.ensures.stack c.finish.ensures.counts in
    record { wrote = s.wrote; kept = s.kept; counted = s.counted; answers = s.answers }

pub advance-requires : goal.advance-requires
advance-requires g c = slice_get_within c.in-Some.top.needs.items c.in-Some.top.next c.in-Some-upcoming.need (sym c.upcoming.ensures ∙ c.in-Some-upcoming.is)

pub descend-requires : goal.descend-requires
descend-requires g c = slice_get_within c.in-Some.top.needs.items c.in-Some.top.next c.in-Some-upcoming.need (sym c.upcoming.ensures ∙ c.in-Some-upcoming.is)

pub returns-in-Some-Done-clause-falls : goal.returns-in-Some-Done-clause-falls
returns-in-Some-Done-clause-falls g c =
    let work = c.args.work.now in
    let before : Work = record { index = work.index; stack = c.pop.new.self; commits = work.commits; others = work.others; put = work.put } in
    let within = slice_get_within c.in-Some.top.needs.items c.in-Some.top.next c.in-Some-upcoming.need (sym c.upcoming.ensures ∙ c.in-Some-upcoming.is) in
    falls_advance work before c.in-Some.top refl refl c.in-Some.ensures.items within c.advance.new.self c.advance.result c.advance.ensures.advances

pub returns-in_ok-found-in-None-2-clause-falls : goal.returns-in_ok-found-in-None-2-clause-falls
returns-in_ok-found-in-None-2-clause-falls g c =
    let work = c.args.work.now in
    let before : Work = record { index = work.index; stack = c.pop.new.self; commits = work.commits; others = work.others; put = work.put } in
    let within = slice_get_within c.in-Some.top.needs.items c.in-Some.top.next c.in-Some-upcoming.need (sym c.upcoming.ensures ∙ c.in-Some-upcoming.is) in
    falls_descend work before c.in-Some.top refl refl c.in-Some.ensures.items within c.in-Some-upcoming.need c.in_ok-found-in-None-2.found c.descend.new.self c.descend.result c.descend.ensures

pub returns-in-Some-Done-clause-steps : goal.returns-in-Some-Done-clause-steps
returns-in-Some-Done-clause-steps g c = λ tells entry head copying.
    let work = c.args.work.now in
    let before : Work = record { index = work.index; stack = c.pop.new.self; commits = work.commits; others = work.others; put = work.put } in
    let need = c.in-Some-upcoming.need in
    let w = subst (λ (l : List Open). IsCopying c.args.closed (objects_after (g.S.Store.history c.args.disk.now) c.args.source.now) entry (objects_after (g.S.Store.history c.args.disk.now) c.args.target.now) head before l)
    c.in-Some.ensures.items copying in
    let at : slice_get c.in-Some.top.needs.items c.in-Some.top.next ≡ Some need = sym c.upcoming.ensures ∙ c.in-Some-upcoming.is in
    let done : mark_of work.index need.kind need.name ≡ Some (mark.Done c.in-Some-Done.field-0-0) = sym c.get.ensures ∙ c.in-Some-Done.is ∙ ap Some c.in-Some-Done.field-0-is in
    let s = advance_steps c.args.closed c.args.source.now c.args.target.now entry head c.requires (g.S.Store.history c.args.disk.now) before c.pop.new.self.items c.in-Some.top need w at
    c.advance.new.self c.advance.result (c.in-Some-Done.field-0-0, done) c.advance.ensures.advances c.advance.ensures.stopped refl in
    record { wrote = s.wrote; kept = s.kept; counted = s.counted; answers = s.answers }

pub returns-in-Some-Open-clause-steps : goal.returns-in-Some-Open-clause-steps
returns-in-Some-Open-clause-steps g c = λ tells entry head copying.
    let work = c.args.work.now in
    let before : Work = record { index = work.index; stack = c.pop.new.self; commits = work.commits; others = work.others; put = work.put } in
    let need = c.in-Some-upcoming.need in
    let w = subst (λ (l : List Open). IsCopying c.args.closed (objects_after (g.S.Store.history c.args.disk.now) c.args.source.now) entry (objects_after (g.S.Store.history c.args.disk.now) c.args.target.now) head before l)
    c.in-Some.ensures.items copying in
    let at : slice_get c.in-Some.top.needs.items c.in-Some.top.next ≡ Some need = sym c.upcoming.ensures ∙ c.in-Some-upcoming.is in
    let marked : mark_of work.index need.kind need.name ≡ Some mark.Open = sym c.get.ensures ∙ c.in-Some-Open.is ∙ ap Some c.in-Some-Open.field-0-is in
    let s = ring_steps c.args.closed c.args.source.now c.args.target.now entry head c.requires (g.S.Store.history c.args.disk.now) before c.pop.new.self.items c.in-Some.top need w at before marked in
    let t = subst (λ (e : CopyFault). Steps c.args.closed c.args.source.now c.args.target.now entry head (g.S.Store.history c.args.disk.now) (g.S.Store.history c.args.disk.now) before before (Err e)) (sym c.ring.ensures) s in
    record { wrote = t.wrote; kept = t.kept; counted = t.counted; answers = t.answers }

pub returns-in_err-found-in-None-2-clause-steps : goal.returns-in_err-found-in-None-2-clause-steps
returns-in_err-found-in-None-2-clause-steps g c = λ tells entry head copying.
    let work = c.args.work.now in
    let before : Work = record { index = work.index; stack = c.pop.new.self; commits = work.commits; others = work.others; put = work.put } in
    let need = c.in-Some-upcoming.need in
    let w = subst (λ (l : List Open). IsCopying c.args.closed (objects_after (g.S.Store.history c.args.disk.now) c.args.source.now) entry (objects_after (g.S.Store.history c.args.disk.now) c.args.target.now) head before l)
    c.in-Some.ensures.items copying in
    let at : slice_get c.in-Some.top.needs.items c.in-Some.top.next ≡ Some need = sym c.upcoming.ensures ∙ c.in-Some-upcoming.is in
    let e : CopyFault = c.in_err-found-in-None-2.field-0.0 in
    let is : c.from_residual.result ≡ Err e = search rules in
    let s = begin_steps c.args.closed c.args.source.now c.args.target.now entry head c.requires (g.S.Store.history c.args.disk.now) before c.pop.new.self.items c.in-Some.top need w at before e
    (c.in_err-found-in-None-2.ensures.answers tells) in
    let t = subst (λ (h : History). Steps c.args.closed c.args.source.now c.args.target.now entry head (g.S.Store.history c.args.disk.now) h before before (Err e)) (sym (c.in_err-found-in-None-2.ensures.unwritten tells)) s in
    let u = subst (λ (r : Result Unit CopyFault). Steps c.args.closed c.args.source.now c.args.target.now entry head (g.S.Store.history c.args.disk.now) (g.S.Store.history c.begin.new.disk) before before r) (sym is) t in
    record { wrote = u.wrote; kept = u.kept; counted = u.counted; answers = u.answers }

pub returns-in_ok-found-in-None-2-clause-steps : goal.returns-in_ok-found-in-None-2-clause-steps
returns-in_ok-found-in-None-2-clause-steps g c = λ tells entry head copying.
    let work = c.args.work.now in
    let before : Work = record { index = work.index; stack = c.pop.new.self; commits = work.commits; others = work.others; put = work.put } in
    let need = c.in-Some-upcoming.need in
    let w = subst (λ (l : List Open). IsCopying c.args.closed (objects_after (g.S.Store.history c.args.disk.now) c.args.source.now) entry (objects_after (g.S.Store.history c.args.disk.now) c.args.target.now) head before l)
    c.in-Some.ensures.items copying in
    let at : slice_get c.in-Some.top.needs.items c.in-Some.top.next ≡ Some need = sym c.upcoming.ensures ∙ c.in-Some-upcoming.is in
    let fresh : mark_of work.index need.kind need.name ≡ None = sym c.get.ensures ∙ c.in-None-2.is in
    let s = descend_steps c.args.closed c.args.source.now c.args.target.now entry head c.requires (g.S.Store.history c.args.disk.now) before c.pop.new.self.items c.in-Some.top need w at
    c.in_ok-found-in-None-2.found c.descend.new.self c.descend.result fresh (c.in_ok-found-in-None-2.ensures.answers tells) c.descend.ensures refl in
    let t = subst (λ (h : History). Steps c.args.closed c.args.source.now c.args.target.now entry head (g.S.Store.history c.args.disk.now) h before c.descend.new.self c.descend.result) (sym (c.in_ok-found-in-None-2.ensures.unwritten tells)) s in
    record { wrote = t.wrote; kept = t.kept; counted = t.counted; answers = t.answers }

pub returns-in_default-upcoming-clause-reads : goal.returns-in_default-upcoming-clause-reads
returns-in_default-upcoming-clause-reads g c = λ tells entry head count copying r.
    let work = c.args.work.now in
    let before : Work = record { index = work.index; stack = c.pop.new.self; commits = work.commits; others = work.others; put = work.put } in
    finish_reads c.args.closed (objects_after (g.S.Store.history c.args.disk.now) c.args.source.now) entry head c.args.target.now (g.S.Store.history c.args.disk.now) (g.S.Store.history c.finish.new.disk) before c.finish.new.work c.in-Some.top
    count (g.S.Store.object_reads c.args.disk.now) (g.S.Store.object_reads c.finish.new.disk) c.finish.result (c.finish.ensures.finishes tells) c.finish.ensures.reads r

pub returns-in-Some-Done-clause-reads : goal.returns-in-Some-Done-clause-reads
returns-in-Some-Done-clause-reads g c = λ tells entry head count copying r.
    let work = c.args.work.now in
    let before : Work = record { index = work.index; stack = c.pop.new.self; commits = work.commits; others = work.others; put = work.put } in
    advance_reads c.args.closed (objects_after (g.S.Store.history c.args.disk.now) c.args.source.now) entry head before c.advance.new.self c.in-Some.top count (g.S.Store.object_reads c.args.disk.now) (g.S.Store.object_reads c.args.disk.now)
    c.advance.result c.advance.ensures.advances refl r

pub returns-in-Some-Open-clause-reads : goal.returns-in-Some-Open-clause-reads
returns-in-Some-Open-clause-reads g c = λ tells entry head count copying r.
    read_end c.args.closed (objects_after (g.S.Store.history c.args.disk.now) c.args.source.now) entry head c.args.work.now.index count (g.S.Store.object_reads c.args.disk.now) r

pub returns-in_err-found-in-None-2-clause-reads : goal.returns-in_err-found-in-None-2-clause-reads
returns-in_err-found-in-None-2-clause-reads g c = λ tells entry head count copying r.
    let work = c.args.work.now in
    let source = objects_after (g.S.Store.history c.args.disk.now) c.args.source.now in
    let target = objects_after (g.S.Store.history c.args.disk.now) c.args.target.now in
    let before : Work = record { index = work.index; stack = c.pop.new.self; commits = work.commits; others = work.others; put = work.put } in
    let need = c.in-Some-upcoming.need in
    let w = subst (λ (l : List Open). IsCopying c.args.closed source entry target head before l) c.in-Some.ensures.items copying in
    let at : slice_get c.in-Some.top.needs.items c.in-Some.top.next ≡ Some need = sym c.upcoming.ensures ∙ c.in-Some-upcoming.is in
    let fresh : mark_of work.index need.kind need.name ≡ None = sym c.get.ensures ∙ c.in-None-2.is in
    let unnamed : WasOpened work.index need.name → ⊥ = λ named. cc (sym named ∙ sym c.was_opened.ensures ∙ c.if-was_opened.false) in
    let e : CopyFault = c.in_err-found-in-None-2.field-0.0 in
    let is : c.from_residual.result ≡ Err e = search rules in
    subst (λ (r : Result Unit CopyFault). StepReads c.args.closed source entry head work.index count (g.S.Store.object_reads c.begin.new.disk) r) (sym is)
    (read_stop c.args.closed source entry head work.index count (g.S.Store.object_reads c.args.disk.now) (g.S.Store.object_reads c.begin.new.disk) need r fresh
    (next_asked c.args.closed source entry head target before c.pop.new.self.items c.in-Some.top need w at) unnamed
    (begun_reads c.args.closed entry target need (g.S.Store.object_reads c.args.disk.now) (g.S.Store.object_reads c.begin.new.disk) copying.grew (c.in_err-found-in-None-2.ensures.reads tells)))

pub returns-in_ok-found-in-None-2-clause-reads : goal.returns-in_ok-found-in-None-2-clause-reads
returns-in_ok-found-in-None-2-clause-reads g c = λ tells entry head count copying r.
    let work = c.args.work.now in
    let source = objects_after (g.S.Store.history c.args.disk.now) c.args.source.now in
    let target = objects_after (g.S.Store.history c.args.disk.now) c.args.target.now in
    let before : Work = record { index = work.index; stack = c.pop.new.self; commits = work.commits; others = work.others; put = work.put } in
    let need = c.in-Some-upcoming.need in
    let w = subst (λ (l : List Open). IsCopying c.args.closed source entry target head before l) c.in-Some.ensures.items copying in
    let at : slice_get c.in-Some.top.needs.items c.in-Some.top.next ≡ Some need = sym c.upcoming.ensures ∙ c.in-Some-upcoming.is in
    let fresh : mark_of work.index need.kind need.name ≡ None = sym c.get.ensures ∙ c.in-None-2.is in
    let unnamed : WasOpened work.index need.name → ⊥ = λ named. cc (sym named ∙ sym c.was_opened.ensures ∙ c.if-was_opened.false) in
    descend_reads c.args.closed source entry head work.index count (g.S.Store.object_reads c.args.disk.now) (g.S.Store.object_reads c.begin.new.disk) need r fresh
    (next_asked c.args.closed source entry head target before c.pop.new.self.items c.in-Some.top need w at)
    before c.descend.new.self c.in-Some.top c.in_ok-found-in-None-2.found c.descend.result refl target copying.grew unnamed (c.in_ok-found-in-None-2.ensures.reads tells) (c.in_ok-found-in-None-2.ensures.answers tells) c.descend.ensures

pub returns-in-None-clause-steps : goal.returns-in-None-clause-steps
returns-in-None-clause-steps g c = λ tells entry head copying.
    let work = c.args.work.now in
    let before : Work = record { index = work.index; stack = c.pop.new.self; commits = work.commits; others = work.others; put = work.put } in
    let need = c.in-Some-upcoming.need in
    let w = subst (λ (l : List Open). IsCopying c.args.closed (objects_after (g.S.Store.history c.args.disk.now) c.args.source.now) entry (objects_after (g.S.Store.history c.args.disk.now) c.args.target.now) head before l)
    c.in-Some.ensures.items copying in
    let at : slice_get c.in-Some.top.needs.items c.in-Some.top.next ≡ Some need = sym c.upcoming.ensures ∙ c.in-Some-upcoming.is in
    let fresh : mark_of work.index need.kind need.name ≡ None = sym c.get.ensures ∙ c.in-None.is in
    let opened : WasOpened work.index need.name = sym c.was_opened.ensures ∙ c.if-was_opened.true in
    let s = kind_steps c.args.closed c.args.source.now c.args.target.now entry head c.requires (g.S.Store.history c.args.disk.now) before c.pop.new.self.items c.in-Some.top need w at before fresh opened in
    record { wrote = s.wrote; kept = s.kept; counted = s.counted; answers = s.answers }

pub returns-in-None-clause-reads : goal.returns-in-None-clause-reads
returns-in-None-clause-reads g c = λ tells entry head count copying r.
    read_end c.args.closed (objects_after (g.S.Store.history c.args.disk.now) c.args.source.now) entry head c.args.work.now.index count (g.S.Store.object_reads c.args.disk.now) r
