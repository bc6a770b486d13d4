use Rattle.std.proofs.Common.{rules, ◌≡◌, List, false, Ok, Err, sym, subst}
use Rattle.std.specs.List.{list_any}
use Rattle.gb_store.specs.Files.{files_of}
use Rattle.listed_refs.specs.AsListed.{AreAsListed}
use Rattle.repo_state.specs.declared.refs.EntityRef.{EntityRef}
use Rattle.sync_steps.specs.Places.{local_side}
use Rattle.sync_steps.specs.Pushing.{PushAnswers, PushStops, Pushes}
use Rattle.sync_steps.specs.Turns.{Ended, WentOn, is_damage}
use Rattle.sync_steps.specs.declared.line.EntityWord.TheVariants as word
use Rattle.sync_steps.specs.declared.line.Exchange.TheVariants as verb
use Rattle.sync_steps.specs.declared.line.Line.{Line}
use Rattle.sync_steps.proofs.FetchedLemmas.{pushes_leave}
use Rattle.repo_sync.proofs.ExchangeLemmas.{bugs_as_listed, ended_at_bug, ended_at_person, held_as_told, is_done, people_as_listed}
use Rattle.repo_sync.proofs.pushing.push.Goals as goal

pub returns-in_err-push_each-clause-answers : goal.returns-in_err-push_each-clause-answers
returns-in_err-push_each-clause-answers g c = λ tells.
    let history = g.S.Store.history in
    let own = c.args.pair.now.own in
    let peer = c.args.pair.now.peer in
    let old = history c.args.disk.now in
    let one = history c.list_refs.new.disk in
    let mid = history c.push_each.new.disk in
    let refs = c.in_ok-refs.refs in
    let same = c.list_refs.ensures.unwritten tells in
    let listed = c.in_ok-refs.ensures.answers tells in
    let people = people_as_listed verb.Push (Pushes own peer) (PushStops own peer) own peer local_side refs old one listed same in
    let why = c.in_err-push_each.field-0.0 in
    let is : c.from_residual-in_err-push_each.result ≡ Err why = search rules in
    subst (PushAnswers own peer old mid) (sym is)
    (ended_at_person verb.Push (Pushes own peer) (PushStops own peer) own peer local_side refs old one listed same why mid
    (subst (λ (es : List EntityRef). Ended (Pushes own peer refs.people_there.side false) (PushStops own peer refs.people_there.side false) why es one mid) c.as_slice.ensures
    (c.in_err-push_each.ensures.answers tells (subst (AreAsListed (files_of one) peer refs.people_there) (sym c.as_slice.ensures) people))))

pub returns-in_err-push_each-2-clause-answers : goal.returns-in_err-push_each-2-clause-answers
returns-in_err-push_each-2-clause-answers g c = λ tells.
    let history = g.S.Store.history in
    let own = c.args.pair.now.own in
    let peer = c.args.pair.now.peer in
    let old = history c.args.disk.now in
    let one = history c.list_refs.new.disk in
    let mid = history c.push_each.new.disk in
    let refs = c.in_ok-refs.refs in
    let same = c.list_refs.ensures.unwritten tells in
    let listed = c.in_ok-refs.ensures.answers tells in
    let people = people_as_listed verb.Push (Pushes own peer) (PushStops own peer) own peer local_side refs old one listed same in
    let on = subst (λ (es : List EntityRef). WentOn verb.Push word.Identity (Pushes own peer refs.people_there.side false) es c.new-lines.result.items c.push_each.new.lines.items one mid) c.as_slice.ensures
    (c.in_ok-push_each.ensures.answers tells (subst (AreAsListed (files_of one) peer refs.people_there) (sym c.as_slice.ensures) people)) in
    let new = history c.push_each-2.new.disk in
    let held = c.are_damaged-held.result in
    let told : held ≡ list_any (λ (line : Line). is_damage line.outcome) c.push_each.new.lines.items = search rules in
    let is_held = held_as_told verb.Push (Pushes own peer) (PushStops own peer) own peer local_side refs old one listed same (λ e. cc) (pushes_leave own peer) c.new-lines.result.items c.push_each.new.lines.items c.new-lines.ensures.items mid on held told in
    let bugs = subst (AreAsListed (files_of mid) peer refs.bugs_there) (sym c.as_slice-3.ensures)
    (bugs_as_listed verb.Push (Pushes own peer) (PushStops own peer) own peer local_side refs old one listed same (λ e. cc) (pushes_leave own peer) c.new-lines.result.items c.push_each.new.lines.items c.new-lines.ensures.items mid on) in
    let why = c.in_err-push_each-2.field-0.0 in
    let is : c.from_residual-in_err-push_each-2.result ≡ Err why = search rules in
    subst (PushAnswers own peer old new) (sym is)
    (ended_at_bug verb.Push (Pushes own peer) (PushStops own peer) own peer local_side refs old one listed same (λ e. cc) (pushes_leave own peer) c.new-lines.result.items c.push_each.new.lines.items c.new-lines.ensures.items mid on
    held is_held new why
    (subst (λ (es : List EntityRef). Ended (Pushes own peer refs.bugs_there.side held) (PushStops own peer refs.bugs_there.side held) why es mid new) c.as_slice-3.ensures
    (c.in_err-push_each-2.ensures.answers tells bugs)))

pub returns-clause-answers : goal.returns-clause-answers
returns-clause-answers g c = λ tells.
    let history = g.S.Store.history in
    let own = c.args.pair.now.own in
    let peer = c.args.pair.now.peer in
    let old = history c.args.disk.now in
    let one = history c.list_refs.new.disk in
    let mid = history c.push_each.new.disk in
    let refs = c.in_ok-refs.refs in
    let same = c.list_refs.ensures.unwritten tells in
    let listed = c.in_ok-refs.ensures.answers tells in
    let people = people_as_listed verb.Push (Pushes own peer) (PushStops own peer) own peer local_side refs old one listed same in
    let on = subst (λ (es : List EntityRef). WentOn verb.Push word.Identity (Pushes own peer refs.people_there.side false) es c.new-lines.result.items c.push_each.new.lines.items one mid) c.as_slice.ensures
    (c.in_ok-push_each.ensures.answers tells (subst (AreAsListed (files_of one) peer refs.people_there) (sym c.as_slice.ensures) people)) in
    let new = history c.push_each-2.new.disk in
    let held = c.are_damaged-held.result in
    let told : held ≡ list_any (λ (line : Line). is_damage line.outcome) c.push_each.new.lines.items = search rules in
    let is_held = held_as_told verb.Push (Pushes own peer) (PushStops own peer) own peer local_side refs old one listed same (λ e. cc) (pushes_leave own peer) c.new-lines.result.items c.push_each.new.lines.items c.new-lines.ensures.items mid on held told in
    let bugs = subst (AreAsListed (files_of mid) peer refs.bugs_there) (sym c.as_slice-3.ensures)
    (bugs_as_listed verb.Push (Pushes own peer) (PushStops own peer) own peer local_side refs old one listed same (λ e. cc) (pushes_leave own peer) c.new-lines.result.items c.push_each.new.lines.items c.new-lines.ensures.items mid on) in
    let lines : c.push_each-2.new.lines.items ≡ c.from_vec.result = search rules in
    subst (λ (ls : List Line). PushAnswers own peer old new (Ok ls)) lines
    (is_done verb.Push (Pushes own peer) (PushStops own peer) own peer local_side refs old one listed same (λ e. cc) (pushes_leave own peer) c.new-lines.result.items c.push_each.new.lines.items c.new-lines.ensures.items mid on
    held is_held new c.push_each-2.new.lines.items
    (subst (λ (es : List EntityRef). WentOn verb.Push word.Bug (Pushes own peer refs.bugs_there.side held) es c.push_each.new.lines.items c.push_each-2.new.lines.items mid new) c.as_slice-3.ensures
    (c.in_ok-push_each-2.ensures.answers tells bugs)))
