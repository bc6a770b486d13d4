-- A chunk more is a longer front.
use Rattle.std.proofs.Common.{◌≡◌, ◌+◌, ◌-◌, ◌∙◌, ap, drop, take, sym, true, arith}
use Rattle.std.specs.List.{list_all}
use Rattle.json_span.specs.Grammar.{is_plain}
use Rattle.json_span.specs.declared.front.TheConstants.{CHUNK}
use Rattle.json_span.proofs.FrontLaws.{each_further, each_of_all}
use Rattle.json_span.proofs.front.plain_chunks.Goals as goal

pub chunks-preserved : goal.chunks-preserved
chunks-preserved c =
    let front = c.chunks.front in
    let rest = drop front c.args.text.now in
    let size : (front + CHUNK) - front ≡ CHUNK = omega arith in
    let all : list_all is_plain (take CHUNK rest) ≡ true = ap (λ n. list_all is_plain (take n rest)) (sym size) ∙ sym c.are_plain.ensures ∙ c.if-not-are_plain.false in
    let room = c.chunks-test.true in
    record {
      within = omega (arith, room);
      each = each_further is_plain front CHUNK c.args.text.now c.chunks.invariant.each (each_of_all is_plain (take CHUNK rest) all);
    }
