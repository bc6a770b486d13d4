use Rattle.std.proofs.Common.{◌≡◌, ◌<◌, true, false, sym, ◌∙◌, arith}
use Rattle.std.proofs.Math.ListN.{length-set}
use Rattle.combined_id.specs.Combined.{combined_of, is_second}
use Rattle.combined_id.proofs.CombinedLemmas.{all_places, one_first, one_second}
use Rattle.combined_id.proofs.places.mix.Goals as goal
use Rattle.combined_id.proofs.places.mix.Goals.{then-is_second, else-is_second}

pub loop-place-preserved : goal.loop-place-preserved
loop-place-preserved c =
    let one = c.args.primary.now in
    let two = c.args.secondary.now in
    let text = c.loop-place.digits in
    let place = c.loop-place.place in
    let first = c.loop-place.first in
    let second = c.loop-place.second in
    let whole = combined_of one two in
    let sized = c.loop-place.invariant.sized in
    let so_far = c.loop-place.invariant.so_far in
    let below : place < 64 = c.loop-place-test.true in
    elim c.if-is_second.branch [
      | then-is_second w ↦
          let is : is_second place ≡ true = sym c.is_second.ensures ∙ w.if-is_second.true in
          let next = one_second whole text one two place first second below sized (omega arith) is so_far in
          rw (w.digits-is, w.first-is, w.second-is) (record { sum = omega arith; sized = length-set _ _ _ ∙ sized; so_far = next })
      | else-is_second w ↦
          let is : is_second place ≡ false = sym c.is_second.ensures ∙ w.if-is_second.false in
          let next = one_first whole text one two place first second below sized (omega arith) is so_far in
          rw (w.digits-is, w.first-is, w.second-is) (record { sum = omega arith; sized = length-set _ _ _ ∙ sized; so_far = next })
    ]

pub returns-clause-places : goal.returns-clause-places
returns-clause-places c = all_places _ _ _ _ c.loop-place.place c.loop-place-test.false c.loop-place.invariant.sized c.loop-place.invariant.so_far
