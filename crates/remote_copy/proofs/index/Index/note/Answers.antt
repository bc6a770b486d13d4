use Rattle.std.proofs.Common.{◌≡◌, refl, arith}
use Rattle.remote_copy.specs.declared.index.Mark.TheVariants as mark
use Rattle.remote_copy.proofs.IndexLemmas.{opens_one}
use Rattle.remote_copy.proofs.index.Index.note.Goals as goal

pub returns-in_ok-insert : goal.returns-in_ok-insert
returns-in_ok-insert c =
    let is : c.args.mark ≡ mark.Open = grind (arith, c.if-eq.true, c.eq.ensures) in
    record { names = opens_one c.args.self.now _ c.args.need.now c.args.mark is c.in_ok-insert.ensures.updates.0; blobs = refl; trees = refl; commits = refl }
