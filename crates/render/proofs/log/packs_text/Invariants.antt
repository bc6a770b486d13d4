use Rattle.std.proofs.Common.{◌≡◌, string_bytes, take, flat_map}
use Rattle.render.specs.Log.{log_line}
use Rattle.render.proofs.log.packs_text.Given as goal

abbrev pub invariant-loop-placed : goal.invariant-loop-placed
invariant-loop-placed l = string_bytes l.text ≡ flat_map log_line (take l.placed-index l.packs)
