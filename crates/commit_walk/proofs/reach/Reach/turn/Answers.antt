use Rattle.std.proofs.Common.{List, Err, refl, subst}
use Rattle.gb_text.specs.declared.id.Name.{Name}
use Rattle.object_store.specs.Held.{objects_after}
use Rattle.commit_walk.specs.Answers.{StepAnswers}
use Rattle.commit_walk.specs.Reaches.{a_commit, no_commit}
use Rattle.commit_walk.specs.Queues.{Adds}
use Rattle.commit_walk.proofs.reach.Reach.turn.Goals as goal

pub returns-in_ok-push-in-Ok-clause-turned : goal.returns-in_ok-push-in-Ok-clause-turned
returns-in_ok-push-in-Ok-clause-turned g c =
    let old = c.args.self.now.queue.names.items in
    let adds : Adds old c.in-Ok.met.parents c.add.new.self.names.items = subst (λ (l : List Name). Adds old l c.add.new.self.names.items) c.as_slice.ensures c.in_ok-add-in-Ok.ensures.adds in
    a_commit c.in-Ok.met tt c.in-Ok.ensures.named adds c.in_ok-push-in-Ok.ensures.items refl

pub returns-in_ok-push-in-Ok-clause-answers : goal.returns-in_ok-push-in-Ok-clause-answers
returns-in_ok-push-in-Ok-clause-answers g c = λ tells.
    let old = c.args.self.now.queue.names.items in
    let adds : Adds old c.in-Ok.met.parents c.add.new.self.names.items = subst (λ (l : List Name). Adds old l c.add.new.self.names.items) c.as_slice.ensures c.in_ok-add-in-Ok.ensures.adds in
    a_commit c.in-Ok.met (c.in-Ok.ensures.answers tells) c.in-Ok.ensures.named adds c.in_ok-push-in-Ok.ensures.items refl

pub returns-in-Err-Fault-clause-turned : goal.returns-in-Err-Fault-clause-turned
returns-in-Err-Fault-clause-turned g c = no_commit c.in-Err-Fault.fault tt refl refl refl

pub returns-in-Err-Fault-clause-answers : goal.returns-in-Err-Fault-clause-answers
returns-in-Err-Fault-clause-answers g c = λ tells.
    let objects = objects_after (g.S.Store.history c.args.disk.now) c.args.folder.now in
    no_commit c.in-Err-Fault.fault (subst (λ r. StepAnswers objects c.args.name.now (Err r)) c.in-Err-Fault.field-0-is (c.in-Err-Fault.ensures.answers tells)) refl refl refl
