use Rattle.std.proofs.Common.{◌≡◌, ◌∙◌, length, ap, arith}
use Rattle.gb_store.specs.Files.{files_of}
use Rattle.object_store.specs.Held.{objects_in}
use Rattle.commit_walk.proofs.ChainPassLemmas.{one_walk}
use Rattle.identity.proofs.chain.read_chain.Goals as goal

pub returns-clause-once : goal.returns-clause-once
returns-clause-once g c = λ tells walk walked.
    let objects = objects_in (files_of (g.S.Store.history c.args.disk.now)) c.args.folder.now in
    let has = c.in_ok-last.ensures.answers tells in
    let same : c.in_ok-last.field-0-0.items ≡ walk = has.walks ∙ one_walk objects c.args.head.now has.chain.walk walk has.chain.walked walked in
    omega (arith, ap length same, c.in_ok-last.ensures.once)
