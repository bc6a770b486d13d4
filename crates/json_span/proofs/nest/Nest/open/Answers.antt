-- One more bit fits the word.
use Rattle.std.proofs.Common.{arith, ◌≤◌, subst, sym, ℕ}
use Rattle.json_span.proofs.NestLaws.{twice_fits, opened_is, opened_fits, bit_small}
use Rattle.json_span.proofs.nest.Nest.open.Goals as goal

pub overflow_mul-self : goal.overflow_mul-self
overflow_mul-self c = let f = twice_fits c.self.inside.bits c.self.inside.room c.self.invariant.0 c.self.invariant.1 in omega arith

pub overflow_add-self : goal.overflow_add-self
overflow_add-self c =
    let f = twice_fits c.self.inside.bits c.self.inside.room c.self.invariant.0 c.self.invariant.1 in
    let b : c.bit.result ≤ 1 = subst (λ (x : ℕ). x ≤ 1) (sym c.bit.ensures) (bit_small c.args.kind) in
    omega arith

pub invariant_of-self : goal.invariant_of-self
invariant_of-self c =
    let b : c.bit.result ≤ 1 = subst (λ (x : ℕ). x ≤ 1) (sym c.bit.ensures) (bit_small c.args.kind) in
    let room = c.self.invariant.0 in
    (omega arith, opened_fits c.self.inside.bits c.self.inside.room c.bit.result room c.if-room-eq0.false b c.self.invariant.1)

pub returns : goal.returns
returns c = rw (← c.self.view_is) (opened_is c.self.inside.bits c.self.inside.room c.bit.result c.args.kind c.self.invariant.0 c.if-room-eq0.false c.bit.ensures)
