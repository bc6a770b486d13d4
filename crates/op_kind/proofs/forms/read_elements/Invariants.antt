use Rattle.std.proofs.Common.{◌≡◌, map, drop, []}
use Rattle.json_span.specs.Grammar.{cut_of}
use Rattle.op_kind.specs.Forms.{texts_from}
use Rattle.op_kind.proofs.forms.read_elements.Given as goal

abbrev pub invariant-loop-part : goal.invariant-loop-part
invariant-loop-part l =
    texts_from [] (map (cut_of l.json) l.part-items)
    ≡ texts_from l.texts.items (map (cut_of l.json) (drop l.part-index l.part-items))
