use Rattle.std.proofs.Common.{sym, subst, arith}
use Rattle.world_events.specs.Within.{IsWithin}
use Rattle.world_events.proofs.ExchangeLemmas.{one_more, within_more}
use Rattle.world_events.proofs.exchange.push_gathering.Goals as goal

pub loop-peer-preserved : goal.loop-peer-preserved
loop-peer-preserved c =
    let within : IsWithin c.args.folders c.pull_at.result
    = subst (IsWithin c.args.folders) (sym c.pull_at.ensures) (record { folder = omega arith; peer = record { below = c.loop-peer-test.true; other = λ e. absurd (omega arith) } }) in
    record {
      made = one_more _ c.args.events.now c.loop-peer.events c.push.new.self c.pull_at.result c.loop-peer.peer c.loop-peer.auto.peer
          c.loop-peer.invariant.made c.pull_at.ensures c.in-Ok.ensures.ok;
      within = within_more c.args.folders c.loop-peer.events c.push.new.self c.pull_at.result c.loop-peer.invariant.within within c.in-Ok.ensures.ok;
    }
