use Rattle.std.proofs.Common.{◌∙◌, ap, subst}
use Rattle.gb_store.specs.Files.{History}
use Rattle.world.specs.Digests.{IsDigest}
use Rattle.world.specs.declared.world.World.{World}
use Rattle.world.proofs.ZipLemmas.{next_number}
use Rattle.world.proofs.summaries.digests.Goals as goal

pub loop-folder-preserved : goal.loop-folder-preserved
loop-folder-preserved c =
    let was = c.loop-folder.invariant in
    let told = c.in_ok-digest.ensures in
    let folder = c.loop-folder.folder in
    let digest = c.in_ok-digest.digest in
    record {
      are = next_number (IsDigest c.args.world.now.store.history) folder c.loop-folder.digests c.push.new.self digest was.are
          (subst (λ (h : History). IsDigest h folder digest) was.unwritten told.digest) c.in-Ok.ensures.ok;
      same = ap (λ (w : World). record w { store = c.digest_of.new.store }) was.same;
      unwritten = told.unwritten ∙ was.unwritten;
      calm = told.calm;
    }
