use Rattle.std.proofs.Common.{◌≡◌, ◌++◌, string_bytes, take, flat_map}
use Rattle.render.specs.Show.{person_line}
use Rattle.render.proofs.show.push_each.Given as goal

abbrev pub invariant-loop-id : goal.invariant-loop-id
invariant-loop-id l = string_bytes l.text ≡ string_bytes l.fn.text ++ flat_map (person_line l.names l.word) (take l.id-index l.ids)
