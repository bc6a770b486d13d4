use Rattle.std.proofs.Common.{refl, ap, map, string_bytes}
use Rattle.gb_store.specs.MemSink.{SinkState, has_no_fails}
use Rattle.world.proofs.RunLemmas.{run_is}
use Rattle.world.proofs.runs.run_over.Goals as goal

pub returns-in-Ok-clause-runs : goal.returns-in-Ok-clause-runs
returns-in-Ok-clause-runs c = λ memory.
    let ran = c.run.ensures in
    let a = c.args in
    run_is (map string_bytes a.words.now) a.moment a.store.now.history c.run.new.disk.history a.out.now.written c.run.new.out.written c.run.result
    (ap (λ (s : SinkState). s.written) c.requires.empty) ran.answers (ran.headline refl refl) (ran.sound refl) (ran.wrote.wrote refl) memory (ran.disk.calm c.requires.calm).0
    (ran.sink.calm (ap has_no_fails c.requires.empty)).0
