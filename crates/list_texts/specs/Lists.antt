-- A list of bugs: a line of parts for each.
use Rattle.std.specs.Prelude.{ℕ, List, [], ◌++◌, codes, decimal, Option, Some, None, slice_get}
use Rattle.std.specs.List.{flat_map}
use Rattle.bug_ops.specs.declared.op.BugStatus.{BugStatus}
use Rattle.bug_ops.specs.declared.op.BugStatus.TheVariants.{Opened, Closed}
use Rattle.bug_ops.specs.declared.snapshot.Excerpt.{Excerpt}
use Rattle.identity.specs.declared.chain.Person.{Person}
use Rattle.person_names.specs.Named.{name_among, short_of}

-- the lines of the row at a place, if there is one
abbrev pub at_place : (Excerpt → List ℕ) → Option Excerpt → List ℕ
at_place line None = []
at_place line (Some row) = line row

-- the lines of the rows at these places, in this order
abbrev pub lines_of : (Excerpt → List ℕ) → List Excerpt → List ℕ → List ℕ
lines_of line rows order = flat_map (λ place. at_place line (slice_get rows place)) order

-- the word of a status
abbrev pub status_word : BugStatus → List ℕ
status_word Opened = codes "open"
status_word Closed = codes "closed"

-- the parts of a row before its labels, with TABs between
abbrev pub row_parts : List Person → Excerpt → List ℕ
row_parts names row =
    short_of row.id ++ codes "\t" ++ status_word row.status ++ codes "\t" ++ row.title ++ codes "\t"
    ++ name_among names row.author ++ codes "\t" ++ decimal row.comments

-- a label, after a TAB
abbrev pub label_part : List ℕ → List ℕ
label_part label = codes "\t" ++ label

-- the line of a row
abbrev pub list_line : List Person → Excerpt → List ℕ
list_line names row = row_parts names row ++ flat_map label_part row.labels ++ codes "\n"

-- the list
abbrev pub list_text_of : List Person → List Excerpt → List ℕ → List ℕ
list_text_of names rows order = lines_of (list_line names) rows order
