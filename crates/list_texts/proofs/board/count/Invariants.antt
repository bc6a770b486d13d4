-- Those that count before.
use Rattle.std.proofs.Common.{◌≡◌, take}
use Rattle.std.specs.List.{count_by}
use Rattle.list_texts.specs.Boards.{row_has}
use Rattle.list_texts.proofs.board.count.Given as goal

abbrev pub invariant-loop-place : goal.invariant-loop-place
invariant-loop-place l = l.count ≡ count_by (row_has l.rows l.status) (take l.place-index l.order)
