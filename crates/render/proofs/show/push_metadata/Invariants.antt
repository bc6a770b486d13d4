use Rattle.std.proofs.Common.{◌≡◌, ◌++◌, string_bytes, take, flat_map}
use Rattle.render.specs.Show.{metadata_line}
use Rattle.render.proofs.show.push_metadata.Given as goal

abbrev pub invariant-loop-pair : goal.invariant-loop-pair
invariant-loop-pair l = string_bytes l.text ≡ string_bytes l.fn.text ++ flat_map metadata_line (take l.pair-index l.pairs)
