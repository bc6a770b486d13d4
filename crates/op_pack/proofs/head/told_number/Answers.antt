use Rattle.std.proofs.Common.{rules, inl, inr, refl}
use Rattle.std.proofs.lemmas.List.{drop_all}
use Rattle.op_pack.proofs.RestLemmas.{rests_skip, rests_next, told_more}
use Rattle.op_pack.proofs.head.told_number.Goals as goal

pub loop-entry-preserved-in_default : goal.loop-entry-preserved-in_default
loop-entry-preserved-in_default c n told =
    let e = rests_skip c.args.front.now c.args.entries.now c.loop-entry.entry-index _ c.rest_after.result c.loop-entry-test.true c.rest_after.ensures c.in_default.is in
    c.loop-entry.invariant n (rw e told)

pub returns-in-Some-read_decimal : goal.returns-in-Some-read_decimal
returns-in-Some-read_decimal c =
    let e = rests_next c.args.front.now c.args.entries.now c.loop-entry.entry-index _ c.rest_after.result c.loop-entry-test.true c.rest_after.ensures c.in-Some.rest c.in-Some.is in
    c.loop-entry.invariant c.in-Some-read_decimal.number (rw e (inl (inl (search rules))))

pub loop-entry-preserved : goal.loop-entry-preserved
loop-entry-preserved c n told =
    let e = rests_next c.args.front.now c.args.entries.now c.loop-entry.entry-index _ c.rest_after.result c.loop-entry-test.true c.rest_after.ensures c.in-Some.rest c.in-Some.is in
    c.loop-entry.invariant n (rw e (told_more n c.in-Some.rest.now _ (search rules) told))

pub returns : goal.returns
returns c =
    let done = drop_all c.loop-entry.entry-index c.args.entries.now c.loop-entry-test.false in
    c.loop-entry.invariant 0 (rw done (inr (refl, tt)))
