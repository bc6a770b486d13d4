use Rattle.std.proofs.Common.{◌≡◌, map, take}
use Rattle.json_span.specs.Grammar.{cut_of}
use Rattle.op_pack.proofs.parts.cut_elements.Given as goal

abbrev pub invariant-loop-span : goal.invariant-loop-span
invariant-loop-span l = map (λ s. s.now) l.slices.items ≡ map (cut_of l.json) (take l.span-index l.span-items)
