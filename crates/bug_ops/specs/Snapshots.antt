-- What the operations of a bug add up to, one operation at a time.
use Rattle.std.specs.Prelude.{⊤, ℕ, ◌+◌, ◌-◌, ◌^◌, min, Bool, not, is_some, List, [], ◌∷◌, ◌++◌, map, filter, Option, Some, None, if◌then◌else◌}
use Rattle.std.specs.BTreeMap.{insert_entry, is_at}
use Rattle.std.specs.Map.{lookup}
use Rattle.op_kind.specs.Metadata.{Entries, pair_of}
use Rattle.std.specs.List.{list_any, repeat}
use Rattle.std.specs.Str.{bytes_eq}
use Rattle.std.specs.Cmp.Lexicographic.{slice_cmp}
use Rattle.std.specs.Ordering.{nat_cmp}
use Rattle.std.specs.declared.cmp.Ordering.{Ordering}
use Rattle.gb_text.specs.declared.id.Id.{Id}
use Rattle.op_kind.specs.declared.place.Common.{Common}
use Rattle.op_kind.specs.declared.place.Pair.{Pair}
use Rattle.bug_ops.specs.BugTable.{common_of_op}
use Rattle.bug_ops.specs.declared.op.BugOp.{BugOp}
use Rattle.bug_ops.specs.declared.op.BugOp.TheVariants.{Create, SetTitle, AddComment, SetStatus, LabelChange, EditComment, SetMetadata}
use Rattle.bug_ops.specs.declared.op.BugStatus.{BugStatus}
use Rattle.bug_ops.specs.declared.op.BugStatus.TheVariants.{Opened}
use Rattle.bug_ops.specs.declared.snapshot.Comment.{Comment}
use Rattle.bug_ops.specs.declared.snapshot.Excerpt.{Excerpt}
use Rattle.bug_ops.specs.declared.snapshot.Snapshot.{Snapshot}

-- ---- parts

abbrev pub same_id : Id → Id → Bool
same_id a b = bytes_eq a.bytes b.bytes

-- byte order
abbrev pub by_bytes : List ℕ → List ℕ → Ordering
by_bytes = slice_cmp nat_cmp

-- texts in byte order, each once
abbrev pub Marks : Type 0
Marks = List (List ℕ × ⊤)

-- some texts with further ones
abbrev pub with_texts : Marks → List (List ℕ) → Marks
with_texts marks [] = marks
with_texts marks (t ∷ ts) = with_texts (insert_entry by_bytes marks t tt) ts

-- the text is one of these
abbrev pub is_marked : Marks → List ℕ → Bool
is_marked marks t = is_some (lookup (is_at (by_bytes t)) marks)

-- the texts in their order
abbrev pub texts_of : Marks → List (List ℕ)
texts_of marks = map (λ e. e.0) marks

-- the labels with those that are added, but for those that are removed
abbrev pub changed : List (List ℕ) → List (List ℕ) → List (List ℕ) → List (List ℕ)
changed labels added removed = filter (λ t. not (is_marked (with_texts [] removed) t)) (texts_of (with_texts (with_texts [] labels) added))

-- some pairs with a further one, unless its key is set
abbrev pub with_pair : Entries → Pair → Entries
with_pair es p = if is_some (lookup (is_at (by_bytes p.key)) es) then es else insert_entry by_bytes es p.key p.value

-- some pairs with further ones
abbrev pub with_pairs : Entries → List Pair → Entries
with_pairs es [] = es
with_pairs es (p ∷ ps) = with_pairs (with_pair es p) ps

-- the pairs with further ones whose keys are not set, in byte order of the keys
abbrev pub joined_pairs : List Pair → List Pair → List Pair
joined_pairs pairs others = map pair_of (with_pairs (with_pairs [] pairs) others)

-- the person is one of these
abbrev pub is_seen : List Id → Id → Bool
is_seen ids id = list_any (λ other. same_id other id) ids

-- a person among those who were seen, by first appearance
abbrev pub with_person : List Id → Id → List Id
with_person ids id = if is_seen ids id then ids else ids ++ id ∷ []

-- one more, up to the greatest number of 64 bits
abbrev pub one_more : ℕ → ℕ
one_more n = min (n + 1) (2 ^ 64 - 1)

-- a clock, 0 where there is none
abbrev pub clock_or_zero : Option ℕ → ℕ
clock_or_zero None = 0
clock_or_zero (Some n) = n

-- a comment of an operation
abbrev pub comment_of : Common → List ℕ → Comment
comment_of c message = record { id = c.place.id; author = c.place.author; time = c.time; message = message }

-- a comment with another message, if its id is the target
abbrev pub edited : Id → List ℕ → Comment → Comment
edited target message c = if same_id c.id target then record c { message = message } else c

-- ---- the fields one operation further

abbrev pub id_after : Id → BugOp → Id
id_after id (Create c title message files) = c.place.id
id_after id _ = id

abbrev pub title_after : List ℕ → BugOp → List ℕ
title_after old (Create c title message files) = title
title_after old (SetTitle c title was) = title
title_after old _ = old

abbrev pub status_after : BugStatus → BugOp → BugStatus
status_after old (SetStatus c status) = status
status_after old _ = old

-- the labels of `added` are put on, and those of `removed` taken off
abbrev pub labels_after : List (List ℕ) → BugOp → List (List ℕ)
labels_after old (LabelChange c added removed) = changed old added removed
labels_after old _ = old

abbrev pub author_after : Id → BugOp → Id
author_after author (Create c title message files) = c.place.author
author_after author _ = author

abbrev pub participants_after : List Id → BugOp → List Id
participants_after ids (Create c title message files) = with_person ids c.place.author
participants_after ids (AddComment c message files) = with_person ids c.place.author
participants_after ids _ = ids

abbrev pub create_after : ℕ → BugOp → ℕ
create_after old (Create c title message files) = clock_or_zero c.place.create
create_after old _ = old

abbrev pub first_after : ℕ → BugOp → ℕ
first_after old (Create c title message files) = c.time
first_after old _ = old

abbrev pub comments_after : ℕ → BugOp → ℕ
comments_after n (Create c title message files) = one_more n
comments_after n (AddComment c message files) = one_more n
comments_after n _ = n

-- the metadata of a bug with an id
abbrev pub metadata_after : Id → List Pair → BugOp → List Pair
metadata_after id old (Create c title message files) = c.metadata
metadata_after id old (SetMetadata c target pairs) = if same_id target id then joined_pairs old pairs else old
metadata_after id old _ = old

abbrev pub list_after : List Comment → BugOp → List Comment
list_after list (Create c title message files) = list ++ comment_of c message ∷ []
list_after list (AddComment c message files) = list ++ comment_of c message ∷ []
list_after list (EditComment c target message files) = map (edited target message) list
list_after list _ = list

-- ---- rows and snapshots

-- The row one operation further.
unfoldable pub row_after : Excerpt → BugOp → Excerpt
row_after r o = record {
  id = id_after r.id o;
  title = title_after r.title o;
  status = status_after r.status o;
  labels = labels_after r.labels o;
  author = author_after r.author o;
  actors = with_person r.actors (common_of_op o).place.author;
  participants = participants_after r.participants o;
  create = create_after r.create o;
  edit = (common_of_op o).place.edit;
  first = first_after r.first o;
  last = (common_of_op o).time;
  comments = comments_after r.comments o;
  metadata = metadata_after r.id r.metadata o;
}

-- The snapshot one operation further.
abbrev pub snapshot_after : Snapshot → BugOp → Snapshot
snapshot_after s o = record { row = row_after s.row o; list = list_after s.list o }

-- the id of 32 zeros
abbrev pub zero_id : Id
zero_id = record { bytes = repeat 32 (0 ∷ []) }

-- The row and the snapshot before any operation.
abbrev pub empty_row : Excerpt
empty_row = record { id = zero_id; title = []; status = Opened; labels = []; author = zero_id; actors = []; participants = []; create = 0; edit = 0; first = 0; last = 0; comments = 0; metadata = [] }

abbrev pub empty_snapshot : Snapshot
empty_snapshot = record { row = empty_row; list = [] }
