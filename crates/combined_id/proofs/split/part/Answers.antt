use Rattle.std.proofs.Common.{◌≡◌, ◌<◌, ℕ, ap, sym, ◌∙◌, arith, length, rules, take}
use Rattle.std.proofs.Math.ListN.{length-set}
use Rattle.gb_text.specs.Prefix.{digits_of}
use Rattle.combined_id.specs.Combined.{digits_at}
use Rattle.combined_id.specs.Split.{takes}
use Rattle.combined_id.proofs.SplitLemmas.{part_reads, place_passed, place_taken}
use Rattle.combined_id.proofs.split.part.Goals as goal
use Rattle.combined_id.proofs.split.part.Goals.{then-takes, else-takes}

pub loop-place-preserved : goal.loop-place-preserved
loop-place-preserved c =
    let text = c.args.prefix.now.digits in
    let place = c.loop-place.place in
    let count = c.loop-place.count in
    let inv = c.loop-place.invariant in
    let low : place < length text = search rules in
    let room : count < length c.loop-place.digits = search rules in
    elim c.if-takes.branch [
      | then-takes w ↦
          let next = place_taken (takes c.args.second) text c.loop-place.digits place count low room (sym c.takes.ensures ∙ w.if-takes.true) inv.so_far in
          rw (w.digits-is, w.count-is) (record { within = omega (arith, c.loop-place-test.true); few = omega (arith, inv.few); sized = length-set _ _ _ ∙ inv.sized; so_far = next })
      | else-takes w ↦
          let next = place_passed (takes c.args.second) text c.loop-place.digits place count low (sym c.takes.ensures ∙ w.if-takes.false) inv.so_far in
          rw (w.digits-is, w.count-is) (record { within = omega (arith, c.loop-place-test.true); few = omega (arith, inv.few); sized = inv.sized; so_far = next })
    ]

pub returns : goal.returns
returns c =
    let inv = c.loop-place.invariant in
    let all : c.loop-place.place ≡ c.args.prefix.now.count = omega (arith, inv.within, c.loop-place-test.false) in
    let are = inv.so_far ∙ ap (λ (n : ℕ). digits_at (takes c.args.second) 0 (take n c.args.prefix.now.digits)) all in
    part_reads (takes c.args.second) (digits_of c.args.prefix.now) (take c.loop-place.count c.loop-place.digits) c.read.result c.args.prefix.now.is_prefix are c.read.ensures.found c.read.ensures.digits
