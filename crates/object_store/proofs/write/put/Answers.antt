use Rattle.object_store.specs.Held.{objects_after}
use Rattle.object_store.proofs.PutLemmas.{IfOk-framed}
use Rattle.object_store.proofs.write.put.Goals as goal

pub returns-clause-held : goal.returns-clause-held
returns-clause-held g c = λ tells.
    IfOk-framed (objects_after (g.S.Store.history c.put_text.new.disk) c.args.folder.now) c.args.kind c.args.content.now c.in_ok-text.text c.put_text.result
    c.in_ok-text.ensures (c.put_text.ensures.held tells)
