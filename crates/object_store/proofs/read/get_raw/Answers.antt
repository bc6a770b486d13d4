use Rattle.object_store.specs.Held.{objects_after}
use Rattle.object_store.proofs.read.get_raw.Goals as goal

pub returns-clause-answers : goal.returns-clause-answers
returns-clause-answers g c = λ tells.
    c.judge.ensures.answers (objects_after (g.S.Store.history c.args.disk.now) c.args.folder.now) (c.in_ok-read.ensures.found tells)
