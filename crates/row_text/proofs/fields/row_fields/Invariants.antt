use Rattle.std.proofs.Common.{◌≡◌, map, drop, ◌++◌}
use Rattle.json_span.specs.Parts.{member_of}
use Rattle.op_kind.specs.Members.{fields_of}
use Rattle.row_text.proofs.fields.row_fields.Given as goal

abbrev pub invariant-loop-part : goal.invariant-loop-part
invariant-loop-part l =
    fields_of (map (member_of l.text) l.part-items)
    ≡ map (λ f. (f.name, f.value.now)) l.fields.items ++ fields_of (map (member_of l.text) (drop l.part-index l.part-items))
