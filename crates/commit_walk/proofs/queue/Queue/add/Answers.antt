use Rattle.std.proofs.Common.{◌∷◌, List, [], take, get_or, sym, subst}
use Rattle.std.proofs.lemmas.List.{take_more}
use Rattle.gb_text.specs.declared.id.Name.{Name}
use Rattle.commit_walk.specs.Queues.{Adds}
use Rattle.commit_walk.proofs.QueueLemmas.{Adds-then}
use Rattle.commit_walk.proofs.queue.Queue.add.Goals as goal

none : Name
none = record { bytes = [] }

pub loop-name-preserved : goal.loop-name-preserved
unfolding none
loop-name-preserved c =
    let old = c.args.self.now.names.items in
    let more = c.args.more.now in
    let place = c.loop-name.name-index in
    let name = get_or more place none in
    record {
      queue = c.in_ok-insert.ensures.queue;
      adds = subst (λ (l : List Name). Adds old l c.insert.new.self.names.items) (sym (take_more more place none c.loop-name-test.true))
          (Adds-then old (take place more) c.loop-name.self.names.items (name ∷ []) c.insert.new.self.names.items c.loop-name.invariant.adds c.in_ok-insert.ensures.adds);
    }
