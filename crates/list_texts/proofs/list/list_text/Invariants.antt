-- The lines of the places before.
use Rattle.std.proofs.Common.{◌≡◌, take, string_bytes}
use Rattle.list_texts.specs.Lists.{list_line, lines_of}
use Rattle.list_texts.proofs.list.list_text.Given as goal

abbrev pub invariant-loop-place : goal.invariant-loop-place
invariant-loop-place l = string_bytes l.text ≡ lines_of (list_line l.names) l.rows (take l.place-index l.order)
