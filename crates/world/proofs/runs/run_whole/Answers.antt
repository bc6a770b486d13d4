use Rattle.std.proofs.Common.{◌≡◌, map, string_bytes, Some}
use Rattle.world_events.specs.Words.{words_of}
use Rattle.world.proofs.RunLemmas.{event_ran}
use Rattle.world.proofs.runs.run_whole.Goals as goal

pub returns-in-Some-clause-runs : goal.returns-in-Some-clause-runs
returns-in-Some-clause-runs c =
    let words = map string_bytes c.deref.result.now in
    let asked = rw c.in-Some.is at c.in_ok-words.ensures in
    let are : words_of c.args.event.now c.in_ok-bugs.bugs ≡ Some words = cc (asked, c.as_slice.ensures, c.deref.ensures.value) in
    event_ran c.run_words.result c.args.event.now c.in_ok-bugs.bugs words c.moment_at.result c.args.store.now.history c.bugs_of.new.store.history c.run_words.new.store.history
    c.in_ok-bugs.ensures.has c.in_ok-bugs.ensures.unwritten are c.moment_at.ensures c.run_words.ensures.ends
