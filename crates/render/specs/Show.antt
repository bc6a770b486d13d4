-- A bug as text: what lists show of it, and its comments.
use Rattle.std.specs.Prelude.{ℕ, ◌==◌, List, ◌++◌, codes, decimal}
use Rattle.std.specs.List.{flat_map, slice_split}
use Rattle.hex.specs.Hex.{encode_lower}
use Rattle.json.specs.Print.{quoted}
use Rattle.gb_text.specs.declared.id.Id.{Id}
use Rattle.op_kind.specs.declared.place.Pair.{Pair}
use Rattle.bug_ops.specs.declared.op.BugStatus.{BugStatus}
use Rattle.bug_ops.specs.declared.op.BugStatus.TheVariants.{Opened, Closed}
use Rattle.bug_ops.specs.declared.snapshot.Comment.{Comment}
use Rattle.bug_ops.specs.declared.snapshot.Excerpt.{Excerpt}
use Rattle.bug_ops.specs.declared.snapshot.Snapshot.{Snapshot}
use Rattle.combined_id.specs.Combined.{combined_of}
use Rattle.identity.specs.declared.chain.Person.{Person}
use Rattle.person_names.specs.Named.{name_among}
use Rattle.render.specs.Lines.{told_line}

-- ---- the bug

-- the word of a status
abbrev pub status_word : BugStatus → List ℕ
status_word Opened = codes "open"
status_word Closed = codes "closed"

-- the line of a label
abbrev pub label_line : List ℕ → List ℕ
label_line label = told_line (codes "label") label

-- a line that names a person
abbrev pub person_line : List Person → List ℕ → Id → List ℕ
person_line persons word id = told_line word (name_among persons id)

-- a line of a clock and a time
abbrev pub moment_line : List ℕ → ℕ → ℕ → List ℕ
moment_line word clock time = told_line word (decimal clock ++ codes " " ++ decimal time)

-- the line of a pair of metadata, each text as a JSON string
abbrev pub metadata_line : Pair → List ℕ
metadata_line pair = told_line (codes "metadata") (quoted pair.key ++ codes " " ++ quoted pair.value)

-- the lines that name the bug: its id, its title, its status and its labels
abbrev pub title_lines : Excerpt → List ℕ
title_lines row =
    told_line (codes "bug") (encode_lower row.id.bytes) ++ told_line (codes "title") row.title
    ++ told_line (codes "status") (status_word row.status) ++ flat_map label_line row.labels

-- the lines of its author, its clocks, its actors and its participants
abbrev pub person_lines : List Person → Excerpt → List ℕ
person_lines persons row =
    person_line persons (codes "author") row.author ++ moment_line (codes "created") row.create row.first
    ++ moment_line (codes "edited") row.edit row.last ++ flat_map (person_line persons (codes "actor")) row.actors
    ++ flat_map (person_line persons (codes "participant")) row.participants

-- ---- its comments

-- a line of a message, behind four spaces
abbrev pub message_line : List ℕ → List ℕ
message_line line = codes "    " ++ line ++ codes "\n"

-- the lines of a message, which is cut at LF alone
abbrev pub message_lines : List ℕ → List ℕ
message_lines message = flat_map message_line (slice_split (λ byte. byte == 10) message)

-- the line of a comment: its id in the bug, its author and its time
abbrev pub comment_line : List Person → Id → Comment → List ℕ
comment_line persons bug comment =
    told_line (codes "comment") (combined_of (encode_lower bug.bytes) (encode_lower comment.id.bytes) ++ codes " "
    ++ name_among persons comment.author ++ codes " " ++ decimal comment.time)

-- a comment
abbrev pub comment_lines : List Person → Id → Comment → List ℕ
comment_lines persons bug comment = comment_line persons bug comment ++ message_lines comment.message

-- ---- all of it

abbrev pub show_text_of : Snapshot → List Person → List ℕ
show_text_of bug persons =
    title_lines bug.row ++ person_lines persons bug.row ++ flat_map metadata_line bug.row.metadata
    ++ flat_map (comment_lines persons bug.row.id) bug.list
