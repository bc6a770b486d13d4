use Rattle.std.proofs.Common.{◌≡◌, false, arith}
use Rattle.std.specs.BTreeSet.{contains}
use Rattle.commit_walk.specs.Queues.{by_bytes}
use Rattle.commit_walk.proofs.QueueLemmas.{IsQueue-push}
use Rattle.commit_walk.proofs.queue.Queue.insert.Goals as goal

pub returns-in_ok-push-clause-queue : goal.returns-in_ok-push-clause-queue
returns-in_ok-push-clause-queue c =
    let absent : contains by_bytes c.args.self.now.known c.args.name ≡ false = grind (arith, c.if-branch.true, c.in_ok-insert.ensures.added) in
    IsQueue-push c.args.self.now (record { names = c.push.new.self; known = c.insert.new.self }) c.args.name c.requires absent c.in_ok-push.ensures.items c.in_ok-insert.ensures.updates.0
