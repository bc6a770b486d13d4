use Rattle.std.proofs.Common.{◌≡◌, ◌+◌, ◌∙◌, pos, to_z, of_z, w64, rules}
use Rattle.world.proofs.ToldLemmas.{told}
use Rattle.world.proofs.start.text_of.Goals as goal

pub returns : goal.returns
returns g c =
    let played = c.in_ok-world.ensures in
    let moved = c.in_ok-exchange.ensures in
    let time : to_z w64 (of_z w64 c.time_after.result) ≡ pos (1000000 + c.args.asked.events) = search rules in
    told c.args.asked c.as_slice.result.now c.in_ok-world.world c.exchange.new.world (to_z w64 (of_z w64 c.time_after.result)) (c.as_slice.ensures ∙ c.in_ok-events.ensures.exact)
    played.plays played.numbers.0 played.numbers.1 time moved.plays moved.same c.summary.result c.summary.ensures.text
