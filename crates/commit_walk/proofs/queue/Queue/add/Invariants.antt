use Rattle.std.proofs.Common.{take}
use Rattle.commit_walk.specs.Queues.{Adds, IsQueue}
use Rattle.commit_walk.proofs.queue.Queue.add.Given as goal

abbrev pub invariant-loop-name : goal.invariant-loop-name
invariant-loop-name l = record {
  queue : IsQueue l.self;
  adds : Adds l.fn.self.names.items (take l.name-index l.more) l.self.names.items;
}
