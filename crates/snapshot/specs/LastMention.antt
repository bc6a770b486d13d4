-- What a bug is, said by the last mention of each thing in the whole list of its operations: nothing is kept from one operation to the next.
use Rattle.std.specs.Prelude.{◌≡◌, ℕ, ◌-◌, ◌^◌, ◌||◌, ◌&&◌, min, length, Bool, true, false, not, List, [], ◌∷◌, ◌++◌, map, filter, flat_map, filter_map, Option, Some, None, if◌then◌else◌}
use Rattle.std.specs.BTreeMap.{is_at}
use Rattle.std.specs.List.{AllByRecursion}
use Rattle.std.specs.Map.{lookup}
use Rattle.std.specs.Option.{option_or, unwrap_or}
use Rattle.gb_text.specs.declared.id.Id.{Id}
use Rattle.op_kind.specs.Metadata.{Entries}
use Rattle.op_kind.specs.Pairs.{AreInKeyOrder}
use Rattle.op_kind.specs.declared.place.Common.{Common}
use Rattle.op_kind.specs.declared.place.Pair.{Pair}
use Rattle.bug_ops.specs.BugTable.{common_of_op}
use Rattle.bug_ops.specs.Kind.{bug_kind}
use Rattle.bug_ops.specs.Mentions.{is_among}
use Rattle.bug_ops.specs.Snapshots.{same_id, by_bytes, with_texts, texts_of, empty_snapshot}
use Rattle.bug_ops.specs.declared.op.BugOp.{BugOp}
use Rattle.bug_ops.specs.declared.op.BugOp.TheVariants.{Create, SetTitle, AddComment, SetStatus, LabelChange, EditComment, SetMetadata}
use Rattle.bug_ops.specs.declared.op.BugStatus.{BugStatus}
use Rattle.bug_ops.specs.declared.op.BugStatus.TheVariants.{Opened}
use Rattle.bug_ops.specs.declared.snapshot.Comment.{Comment}
use Rattle.bug_ops.specs.declared.snapshot.Excerpt.{Excerpt}
use Rattle.bug_ops.specs.declared.snapshot.Snapshot.{Snapshot}

-- ---- searches

-- the last value that is found in a list
abbrev pub last_found : {A B : Type 0} → (A → Option B) → List A → Option B
last_found f [] = None
last_found f (x ∷ xs) = option_or (last_found f xs) (f x)

-- the last item of a list that begins with an item
abbrev pub last_item : {A : Type 0} → A → List A → A
last_item x [] = x
last_item x (y ∷ ys) = last_item y ys

-- each id once, where it comes first
abbrev pub each_once : List Id → List Id
each_once [] = []
each_once (id ∷ ids) = id ∷ filter (λ other. not (same_id id other)) (each_once ids)

-- texts in byte order, each once
abbrev pub in_order : List (List ℕ) → List (List ℕ)
in_order ts = texts_of (with_texts [] ts)

-- ---- title and status

-- the title that an operation sets
abbrev pub title_in : BugOp → Option (List ℕ)
title_in (Create c title message files) = Some title
title_in (SetTitle c title was) = Some title
title_in _ = None

-- the title that was set last
abbrev pub title_of : List BugOp → List ℕ
title_of ops = unwrap_or (last_found title_in ops) []

-- the status that an operation sets
abbrev pub status_in : BugOp → Option BugStatus
status_in (SetStatus c status) = Some status
status_in _ = None

-- the status that was set last, and open where none was
abbrev pub status_of : List BugOp → BugStatus
status_of ops = unwrap_or (last_found status_in ops) Opened

-- ---- labels

-- the labels that an operation names
abbrev pub labels_in : BugOp → List (List ℕ)
labels_in (LabelChange c added removed) = added ++ removed
labels_in _ = []

-- whether an operation that names a label puts it on: it is added there, and not removed there
abbrev pub mention_in : List ℕ → BugOp → Option Bool
mention_in label (LabelChange c added removed) = if is_among added label || is_among removed label then Some (is_among added label && not (is_among removed label)) else None
mention_in label _ = None

-- A label is on where the last operation that names it puts it on.
abbrev pub label_is_on : List BugOp → List ℕ → Bool
label_is_on ops label = unwrap_or (last_found (mention_in label) ops) false

-- The labels that are on, in byte order, among all that were ever named.
abbrev pub labels_of : List BugOp → List (List ℕ)
labels_of ops = filter (label_is_on ops) (in_order (flat_map labels_in ops))

-- ---- comments

-- the message that an operation gives to the comment with an id
abbrev pub message_in : Id → BugOp → Option (List ℕ)
message_in id (EditComment c target message files) = if same_id id target then Some message else None
message_in id _ = None

-- the comment that an operation with a message makes: its message is that of the last later edit of it, and else its own
abbrev pub comment_by_now : Common → List ℕ → List BugOp → Comment
comment_by_now c message later = record {
  id = c.place.id;
  author = c.place.author;
  time = c.time;
  message = unwrap_or (last_found (message_in c.place.id) later) message;
}

-- the comment of an operation, if it makes one
abbrev pub comment_in : BugOp → List BugOp → List Comment
comment_in (Create c title message files) later = comment_by_now c message later ∷ []
comment_in (AddComment c message files) later = comment_by_now c message later ∷ []
comment_in _ later = []

-- The comments in their order.
abbrev pub comments_of : List BugOp → List Comment
comments_of [] = []
comments_of (o ∷ later) = comment_in o later ++ comments_of later

-- ---- persons

-- the author of an operation
abbrev pub author_of : BugOp → Id
author_of o = (common_of_op o).place.author

-- the author of an operation that makes a comment
abbrev pub commenter_in : BugOp → Option Id
commenter_in (Create c title message files) = Some c.place.author
commenter_in (AddComment c message files) = Some c.place.author
commenter_in _ = None

-- The authors of all operations.
abbrev pub actors_of : List BugOp → List Id
actors_of ops = each_once (map author_of ops)

-- The authors of comments.
abbrev pub participants_of : List BugOp → List Id
participants_of ops = each_once (filter_map commenter_in ops)

-- ---- metadata

-- pairs as entries
abbrev pub entries_of : List Pair → Entries
entries_of ps = map (λ p. (p.key, p.value)) ps

-- the value of the first pair with a key
abbrev pub first_value : List Pair → List ℕ → Option (List ℕ)
first_value ps key = lookup (is_at (by_bytes key)) (entries_of ps)

-- the pairs in byte order of their keys, of each key the first
abbrev pub first_of_each : List Pair → List Pair
first_of_each ps = map (λ key. record { key = key; value = unwrap_or (first_value ps key) [] }) (in_order (map (λ p. p.key) ps))

-- the pairs that an operation sets where its target is the id
abbrev pub pairs_in : Id → BugOp → List Pair
pairs_in id (SetMetadata c target pairs) = if same_id target id then pairs else []
pairs_in id _ = []

-- The metadata of the first operation, and of each later one that sets some.
abbrev pub metadata_of : Common → List BugOp → List Pair
metadata_of first later = first_of_each (first.metadata ++ flat_map (pairs_in first.place.id) later)

-- ---- the whole

-- the row of a first operation and later ones
abbrev pub row_of : BugOp → List BugOp → Excerpt
row_of o later = record {
  id = (common_of_op o).place.id;
  title = title_of (o ∷ later);
  status = status_of (o ∷ later);
  labels = labels_of (o ∷ later);
  author = author_of o;
  actors = actors_of (o ∷ later);
  participants = participants_of (o ∷ later);
  create = unwrap_or (common_of_op o).place.create 0;
  edit = (common_of_op (last_item o later)).place.edit;
  first = (common_of_op o).time;
  last = (common_of_op (last_item o later)).time;
  comments = min (length (comments_of (o ∷ later))) (2 ^ 64 - 1);
  metadata = metadata_of (common_of_op o) later;
}

-- What the operations of a bug add up to.
abbrev pub snapshot_of : List BugOp → Snapshot
snapshot_of [] = empty_snapshot
snapshot_of (o ∷ later) = record { row = row_of o later; list = comments_of (o ∷ later) }

-- an operation that may stand behind others: it is no creation
abbrev pub IsLater : BugOp → Type 0
IsLater o = bug_kind.is_following o ≡ true

-- A first operation and later ones are those of a bug: the first alone is a creation, and its metadata are in byte order of their keys, as those of each operation that keeps the rules.
pub record IsBug (o : BugOp) (later : List BugOp) : Type 0 where
  pub first : bug_kind.is_opening o ≡ true
  pub metadata : AreInKeyOrder (common_of_op o).metadata
  pub rest : AllByRecursion IsLater later

-- The operations are those of a bug.
abbrev pub IsBugList : List BugOp → Type 0
IsBugList [] = ⊥
IsBugList (o ∷ later) = IsBug o later
