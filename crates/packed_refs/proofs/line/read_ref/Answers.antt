use Rattle.std.proofs.Common.{◌≡◌, length-take, take, Some, sym, ◌∙◌, arith}
use Rattle.gb_text.specs.Digits.{name_of}
use Rattle.packed_refs.proofs.LineLemmas.{line_is_ref}
use Rattle.packed_refs.proofs.line.read_ref.Goals as goal

pub slice_bounds-read-end : goal.slice_bounds-read-end
slice_bounds-read-end c = omega (arith, length-take 40 c.args.line.now)

pub returns-in-Some : goal.returns-in-Some
returns-in-Some c =
    let reads : name_of (take 40 c.args.line.now) ≡ Some c.in-Some.head = sym c.read.ensures.value ∙ c.in-Some.is in
    line_is_ref c.args.line.now c.in-Some.head c.if-line-gt41.true c.if-line-eq32.true reads
