use Rattle.std.proofs.Common.{◌≡◌, map, drop, []}
use Rattle.json_span.specs.Parts.{member_of}
use Rattle.op_kind.specs.Metadata.{entries_from}
use Rattle.op_kind.proofs.metadata.read_entries.Given as goal

abbrev pub invariant-loop-part : goal.invariant-loop-part
invariant-loop-part l =
    entries_from [] (map (member_of l.json) l.part-items)
    ≡ entries_from l.entries.entries (map (member_of l.json) (drop l.part-index l.part-items))
