-- The clock rule, as functions on numbers (Lamport, "Time, clocks, and the ordering of events in a
-- distributed system"). The cap of a clock file and that of a jump are this project's.
use Rattle.std.specs.Prelude.{ℕ, ◌+◌, ◌&&◌, nat_le, if◌then◌else◌, min, max, List, Option, Some, None}
use Rattle.gb_text.specs.Decimal.{decimal_of}
use Rattle.gb_text.specs.LineEnd.{line_of}
use Rattle.gb_text.specs.declared.decimal.TheConstants.{GREATEST_TIME}
use Rattle.lamport.specs.declared.clock.TheConstants.{CAP, JUMP}

-- the clock of a commit that is this number, if it is one
abbrev pub time_of : ℕ → Option ℕ
time_of n = if nat_le 1 n && nat_le n GREATEST_TIME then Some n else None

-- a number that was read, up to the cap; 0 where none was
abbrev pub number_of : Option ℕ → ℕ
number_of None = 0
number_of (Some n) = min n CAP

-- what the text of a clock file reads as
abbrev pub clock_of : List ℕ → ℕ
clock_of text = number_of (decimal_of (line_of text))

-- a clock that has seen an edit clock
abbrev pub seen_by : ℕ → ℕ → ℕ
seen_by clock edit = max clock (min edit CAP)

-- the clock of a new root
abbrev pub root_time_of : ℕ → ℕ
root_time_of clock = min (clock + 1) CAP

-- the clock of an edit on a head
abbrev pub edit_time_of : ℕ → ℕ → ℕ
edit_time_of clock head = min (max clock head + 1) (head + JUMP)

-- the clock of a commit that joins two heads
abbrev pub merge_time_of : ℕ → ℕ → ℕ → ℕ
merge_time_of clock one two = max clock (max one two) + 1
