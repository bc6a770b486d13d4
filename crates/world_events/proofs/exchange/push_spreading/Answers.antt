use Rattle.std.proofs.Common.{sym, subst, arith}
use Rattle.world_events.specs.Within.{IsWithin}
use Rattle.world_events.proofs.ExchangeLemmas.{one_more, within_more}
use Rattle.world_events.proofs.exchange.push_spreading.Goals as goal

pub loop-folder-preserved : goal.loop-folder-preserved
loop-folder-preserved c =
    let within : IsWithin c.args.folders c.pull_at.result
    = subst (IsWithin c.args.folders) (sym c.pull_at.ensures) (record { folder = c.loop-folder-test.true; peer = record { below = omega arith; other = λ e. absurd (omega arith) } }) in
    record {
      made = one_more _ c.args.events.now c.loop-folder.events c.push.new.self c.pull_at.result c.loop-folder.folder c.loop-folder.auto.folder
          c.loop-folder.invariant.made c.pull_at.ensures c.in-Ok.ensures.ok;
      within = within_more c.args.folders c.loop-folder.events c.push.new.self c.pull_at.result c.loop-folder.invariant.within within c.in-Ok.ensures.ok;
    }
