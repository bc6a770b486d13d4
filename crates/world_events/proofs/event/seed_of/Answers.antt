use Rattle.std.proofs.Common.{◌≡◌, ◌++◌, []}
use Rattle.sha2.specs.Sha256.{sha256}
use Rattle.world_events.proofs.event.seed_of.Goals as goal

pub returns : goal.returns
returns c =
    let e : c.finalize.result ≡ sha256 (([] ++ c.as_slice.result.now) ++ c.as_slice-2.result.now)
    = c.finalize.ensures _ (c.update-2.ensures _ (c.update.ensures _ c.new-hasher.ensures)) in
    let first = c.as_slice.ensures in
    let second = c.as_slice-2.ensures in
    cc (c.to_be_bytes.ensures, c.to_be_bytes-2.ensures)
