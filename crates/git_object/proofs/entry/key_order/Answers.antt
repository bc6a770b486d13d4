use Rattle.std.proofs.Common.{◌∙◌, sym, arith}
use Rattle.git_object.specs.Grammar.{sort_key}
use Rattle.git_object.proofs.DistinctLaws.{cmp}
use Rattle.git_object.proofs.OrderLaws.{order_next, order_here, order_longer, order_shorter, order_same, get_within}
use Rattle.git_object.proofs.entry.key_order.Goals as goal

pub returns-in_default-key_byte : goal.returns-in_default-key_byte
returns-in_default-key_byte c = order_longer (sort_key c.args.a.now) (sort_key c.args.b.now) c.loop-x.i c.in-Some.x (cmp (sort_key c.args.a.now) (sort_key c.args.b.now)) (sym c.in-Some.ensures.byte) (sym c.in_default-key_byte.ensures.byte) c.loop-x.invariant

pub returns-then-x-y : goal.returns-then-x-y
returns-then-x-y c = c.cmp.ensures ∙ order_here (sort_key c.args.a.now) (sort_key c.args.b.now) c.loop-x.i c.in-Some.x c.in-Some-key_byte.y (cmp (sort_key c.args.a.now) (sort_key c.args.b.now)) (sym c.in-Some.ensures.byte) (sym c.in-Some-key_byte.ensures.byte) c.if-x-y.true c.loop-x.invariant

pub loop-x-smaller : goal.loop-x-smaller
loop-x-smaller c = let within = get_within (sort_key c.args.a.now) c.loop-x.i c.in-Some.x (sym c.in-Some.ensures.byte) in omega arith

pub loop-x-preserved : goal.loop-x-preserved
loop-x-preserved c = order_next (sort_key c.args.a.now) (sort_key c.args.b.now) c.loop-x.i c.in-Some.x c.in-Some-key_byte.y (cmp (sort_key c.args.a.now) (sort_key c.args.b.now)) (sym c.in-Some.ensures.byte) (sym c.in-Some-key_byte.ensures.byte) c.if-x-y.false c.loop-x.invariant

pub returns-in-Some-key_byte-2 : goal.returns-in-Some-key_byte-2
returns-in-Some-key_byte-2 c = order_shorter (sort_key c.args.a.now) (sort_key c.args.b.now) c.loop-x.i c.in-Some-key_byte-2.field-0 (cmp (sort_key c.args.a.now) (sort_key c.args.b.now)) (sym c.in_default.ensures.byte) (sym c.in-Some-key_byte-2.ensures.byte) c.loop-x.invariant

pub returns-in-None : goal.returns-in-None
returns-in-None c = order_same (sort_key c.args.a.now) (sort_key c.args.b.now) c.loop-x.i (cmp (sort_key c.args.a.now) (sort_key c.args.b.now)) (sym c.in_default.ensures.byte) (sym c.in-None.ensures.byte) c.loop-x.invariant
