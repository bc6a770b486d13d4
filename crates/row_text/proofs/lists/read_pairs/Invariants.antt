use Rattle.std.proofs.Common.{◌≡◌, map, drop, []}
use Rattle.json_span.specs.Parts.{member_of}
use Rattle.row_text.specs.Lists.{pairs_from}
use Rattle.row_text.proofs.lists.read_pairs.Given as goal

abbrev pub invariant-loop-part : goal.invariant-loop-part
invariant-loop-part l =
    pairs_from [] (map (member_of l.json) l.part-items)
    ≡ pairs_from l.pairs.items (map (member_of l.json) (drop l.part-index l.part-items))
