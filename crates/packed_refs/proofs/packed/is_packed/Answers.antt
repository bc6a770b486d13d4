use Rattle.std.proofs.Common.{◌≡◌, [], true, false, sym, ◌∙◌, ap, arith}
use Rattle.std.specs.Prelude.{is_some}
use Rattle.std.proofs.lemmas.Grind.{common_steps}
use Rattle.packed_refs.specs.Packed.{is_packed}
use Rattle.packed_refs.proofs.LoopLemmas.{nothing_left, packed_nil, packed_not, packed_on}
use Rattle.packed_refs.proofs.packed.is_packed.Goals as goal

pub returns-then-is_none : goal.returns-then-is_none
returns-then-is_none c =
    let none : is_some c.read_line.result ≡ false = grind (arith, common_steps, c.is_none.ensures, c.if-is_none.true) in
    sym (packed_not c.loop-rest.rest.now _ _ c.read_line.result c.cut_line.ensures.lines c.read_line.ensures none) ∙ c.loop-rest.invariant

pub loop-rest-preserved : goal.loop-rest-preserved
loop-rest-preserved c =
    let some : is_some c.read_line.result ≡ true = grind (arith, common_steps, c.is_none.ensures, c.if-is_none.false) in
    packed_on c.loop-rest.rest.now _ _ c.read_line.result c.cut_line.ensures.lines c.read_line.ensures some ∙ c.loop-rest.invariant

pub returns : goal.returns
returns c =
    let nil : c.loop-rest.rest.now ≡ [] = nothing_left c.loop-rest.rest.now c.is_empty.result c.is_empty.ensures c.loop-rest-test.false in
    sym (ap is_packed nil ∙ packed_nil) ∙ c.loop-rest.invariant
