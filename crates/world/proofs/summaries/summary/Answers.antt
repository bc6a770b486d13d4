use Rattle.std.proofs.Common.{ap, arith, length}
use Rattle.std.proofs.lemmas.List.FromFn.{length-range_with_len}
use Rattle.std.proofs.lemmas.Slice.Zip.{AllZip-long}
use Rattle.std.specs.List.{range_with_len}
use Rattle.world.specs.Digests.{IsDigest}
use Rattle.world.proofs.summaries.summary.Goals as goal

pub summary_text-requires : goal.summary_text-requires
summary_text-requires c =
    let world = c.args.world.now in
    omega (
      arith,
      ap length c.as_slice.ensures,
      AllZip-long (IsDigest world.store.history) (range_with_len 0 world.folders) c.in_ok-digests.digests c.in_ok-digests.ensures.are,
      length-range_with_len 0 world.folders,
    )
