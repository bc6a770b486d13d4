use Rattle.std.proofs.Common.{◌≡◌, map, string_bytes}
use Rattle.world.specs.Shown.{show_words}
use Rattle.world.proofs.RunLemmas.{had_memory}
use Rattle.world.proofs.ShowLemmas.{show_writes_nothing, shows}
use Rattle.world.proofs.shown.shown.Goals as goal

pub returns-in_err-ended_of-clause-unwritten : goal.returns-in_err-ended_of-clause-unwritten
returns-in_err-ended_of-clause-unwritten c =
    let are : map string_bytes c.deref.result.now ≡ show_words c.args.folder c.args.bug.now = cc (c.in_ok-words.ensures, c.deref.ensures.value) in
    show_writes_nothing c.args.folder c.args.bug.now (map string_bytes c.deref.result.now) c.moment_of.result c.args.store.now.history c.run_over-status.new.store.history are c.run_over-status.ensures.wrote

pub returns : goal.returns
returns c =
    let words = map string_bytes c.deref.result.now in
    let ran = c.run_over-status in
    let are : map string_bytes c.deref.result.now ≡ show_words c.args.folder c.args.bug.now = cc (c.in_ok-words.ensures, c.deref.ensures.value) in
    let same = show_writes_nothing c.args.folder c.args.bug.now words c.moment_of.result c.args.store.now.history ran.new.store.history are ran.ensures.wrote in
    record {
      shows = shows c.args.folder c.args.bug.now words c.moment_of.result c.args.store.now.history ran.new.store.history ran.new.out.written ran.result are
          (record { now = c.moment_of.ensures.now; seeded = c.moment_of.ensures.seed }) (had_memory c.in_ok-ended_of.field-0 ran.result c.in_ok-ended_of.ensures) ran.ensures.runs same;
      unwritten = same;
      calm = ran.ensures.calm;
    }
