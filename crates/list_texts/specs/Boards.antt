-- A board of bugs: a header, a line of five cells for each, and how many are open and closed.
use Rattle.std.specs.Prelude.{ℕ, ◌-◌, Bool, true, false, List, ◌++◌, length, codes, decimal, Option, Some, None, slice_get}
use Rattle.std.specs.List.{count_by}
use Rattle.bug_ops.specs.declared.op.BugStatus.{BugStatus}
use Rattle.bug_ops.specs.declared.op.BugStatus.TheVariants.{Opened, Closed}
use Rattle.bug_ops.specs.declared.snapshot.Excerpt.{Excerpt}
use Rattle.identity.specs.declared.chain.Person.{Person}
use Rattle.columns.specs.Cells.{cell_of, spaces}
use Rattle.person_names.specs.Named.{name_among, short_of}
use Rattle.list_texts.specs.Lists.{lines_of}

-- the cells of the header, 7, 6, 40, 15 and 4 columns wide, with a space between two
abbrev pub header : List ℕ
header = codes "ID      STATUS TITLE                                    AUTHOR          CMTS\n"

-- the cell of a status, six columns wide, between two spaces
abbrev pub status_cell : BugStatus → List ℕ
status_cell Opened = codes " open   "
status_cell Closed = codes " closed "

-- a number at the right of four columns, or whole if it is longer
abbrev pub number_cell : ℕ → List ℕ
number_cell number = spaces (4 - length (decimal number)) ++ decimal number

-- the line of a row
abbrev pub board_line : List Person → Excerpt → List ℕ
board_line names row =
    short_of row.id ++ status_cell row.status ++ cell_of 40 row.title ++ codes " " ++ cell_of 15 (name_among names row.author)
    ++ codes " " ++ number_cell row.comments ++ codes "\n"

-- the lines of the rows at these places
abbrev pub board_lines : List Person → List Excerpt → List ℕ → List ℕ
board_lines names rows order = lines_of (board_line names) rows order

abbrev pub same_status : BugStatus → BugStatus → Bool
same_status Opened Opened = true
same_status Closed Closed = true
same_status _ _ = false

-- the row, if there is one, has this status
abbrev pub has_status : BugStatus → Option Excerpt → Bool
has_status status None = false
has_status status (Some row) = same_status row.status status

-- the row at a place has this status
abbrev pub row_has : List Excerpt → BugStatus → ℕ → Bool
row_has rows status place = has_status status (slice_get rows place)

-- how many of the rows at these places are open and closed
abbrev pub last_line : List Excerpt → List ℕ → List ℕ
last_line rows order =
    decimal (count_by (row_has rows Opened) order) ++ codes " open, " ++ decimal (count_by (row_has rows Closed) order) ++ codes " closed\n"

-- the board
abbrev pub board_text_of : List Person → List Excerpt → List ℕ → List ℕ
board_text_of names rows order = header ++ board_lines names rows order ++ last_line rows order
