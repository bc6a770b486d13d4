-- The lines of the places before.
use Rattle.std.proofs.Common.{◌≡◌, ◌++◌, take, string_bytes}
use Rattle.list_texts.specs.Boards.{board_line}
use Rattle.list_texts.specs.Lists.{lines_of}
use Rattle.list_texts.proofs.board.push_lines.Given as goal

abbrev pub invariant-loop-place : goal.invariant-loop-place
invariant-loop-place l = string_bytes l.text ≡ string_bytes l.fn.text ++ lines_of (board_line l.names) l.rows (take l.place-index l.order)
