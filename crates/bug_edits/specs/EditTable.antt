-- The edits of a bug: a table with a row for each, and a table of their names.
use Rattle.std.specs.Prelude.{◌≡◌, ◌||◌, ◌&&◌, ⊤, ℕ, Bool, true, false, not, List, [], ◌∷◌, ◌++◌, codes, filter, find, Option, Some, None, Result, Ok, Err, if◌then◌else◌}
use Rattle.std.specs.Option.{option_or}
use Rattle.std.specs.Str.{bytes_eq}
use Rattle.op_kind.specs.declared.place.Place.{Place}
use Rattle.bug_ops.specs.Mentions.{is_among}
use Rattle.bug_ops.specs.Snapshots.{one_more, with_person}
use Rattle.bug_ops.specs.declared.op.BugOp.{BugOp}
use Rattle.bug_ops.specs.declared.op.BugStatus.{BugStatus}
use Rattle.bug_ops.specs.declared.op.BugStatus.TheVariants.{Opened, Closed}
use Rattle.bug_ops.specs.declared.snapshot.Snapshot.{Snapshot}
use Rattle.snapshot.specs.LastMention.{first_value, in_order, snapshot_of}
use Rattle.bug_edits.specs.Given.{given_by}
use Rattle.bug_edits.specs.NewOps.{comment_op, labels_op, metadata_op, noop_op, status_op, texts_of, title_op}
use Rattle.bug_edits.specs.declared.edit.BugEdit.{BugEdit}
use Rattle.bug_edits.specs.declared.edit.BugEdit.TheVariants as edit
use Rattle.bug_edits.specs.declared.edit.NoChange.{NoChange}
use Rattle.bug_edits.specs.declared.edit.NoChange.TheVariants as no_change
use Rattle.bug_edits.specs.declared.given.Form.{Form}
use Rattle.bug_edits.specs.declared.given.Form.TheVariants as form
use Rattle.bug_edits.specs.declared.given.Given.{Given}
use Rattle.bug_edits.specs.declared.given.Given.TheVariants as given
use Rattle.bug_edits.specs.declared.moment.Moment.{Moment}
use Rattle.bug_edits.specs.declared.names.EditName.{EditName}
use Rattle.bug_edits.specs.declared.names.EditName.TheVariants as named
use Rattle.bug_edits.specs.declared.names.TheConstants.{EDITS}

-- ---- rows

-- What is to be known of an edit.
pub record EditRow : Type 1 where
  -- its name, and its arguments after that of the bug
  pub name : EditName
  pub words : Given
  -- the operation that it makes, by what the bug says
  pub made : Moment → Snapshot → BugOp
  -- why it adds none, by what the bug says
  pub barred : Snapshot → Option NoChange
  -- for this reason what the bug says would stay as it is
  pub ChangesNothing : NoChange → Snapshot → Type 0
  -- a bug with the fields that the edit sets as another has them, and all else as it was
  pub sets : Snapshot → Snapshot → Snapshot
  -- what a bug says after the operation, at this place, by what it said before
  pub Says : Moment → Place → Snapshot → Snapshot → Type 0

-- ---- status and labels

abbrev pub same_status : BugStatus → BugStatus → Bool
same_status Opened Opened = true
same_status Closed Closed = true
same_status _ _ = false

-- the labels that are on after these operations
abbrev pub labels_on : List BugOp → List (List ℕ)
labels_on ops = (snapshot_of ops).row.labels

-- whether a label is as it is sought: on, or off
abbrev pub is_so : Bool → Bool → Bool
is_so true on = on
is_so false on = not on

-- of the labels that are named those that are among others, or those that are not: in byte order, each once
abbrev pub named_where : Bool → List (List ℕ) → List (List ℕ) → List (List ℕ)
named_where sought on named = in_order (filter (λ label. is_so sought (is_among on label)) named)

-- those that are off, where these are on
abbrev pub named_off : List (List ℕ) → List (List ℕ) → List (List ℕ)
named_off = named_where false

-- those that are on
abbrev pub named_on : List (List ℕ) → List (List ℕ) → List (List ℕ)
named_on = named_where true

-- labels that change, or else the reason to refuse
abbrev pub unless_some : List (List ℕ) → Option NoChange
unless_some [] = Some no_change.NoLabelChange
unless_some (label ∷ labels) = None

-- the edit that sets a status
abbrev pub name_of_status : BugStatus → EditName
name_of_status Opened = named.Open
name_of_status Closed = named.Close

-- ---- the table

-- every edit but these changes something, if only the clock and the time of the last operation
abbrev never : Snapshot → Option NoChange
never bug = None

-- The row of an edit.
abbrev pub row_of : BugEdit → EditRow
row_of (edit.Comment message) = record {
  name = named.Comment;
  words = given.Message message;
  made = λ moment bug. comment_op moment message;
  barred = never;
  ChangesNothing = λ why bug. ⊥;
  sets = λ old new. record old { row = record old.row { participants = new.row.participants; comments = new.row.comments }; list = new.list };
  Says = λ moment place old new.
      (new.list ≡ old.list ++ record { id = place.id; author = place.author; time = moment.now; message = message.text } ∷ [])
      × (new.row.participants ≡ with_person old.row.participants place.author)
      × (new.row.comments ≡ one_more old.row.comments);
}
row_of edit.Noop = record {
  name = named.Noop;
  words = given.Nothing;
  made = λ moment bug. noop_op moment;
  barred = never;
  ChangesNothing = λ why bug. ⊥;
  sets = λ old new. old;
  Says = λ moment place old new. ⊤;
}
row_of (edit.Title title) = record {
  name = named.Title;
  words = given.Title title;
  made = λ moment bug. title_op moment title bug.row.title;
  barred = never;
  ChangesNothing = λ why bug. ⊥;
  sets = λ old new. record old { row = record old.row { title = new.row.title } };
  Says = λ moment place old new. new.row.title ≡ title.text;
}
row_of (edit.Status status) = record {
  name = name_of_status status;
  words = given.Nothing;
  made = λ moment bug. status_op moment status;
  barred = λ bug. if same_status bug.row.status status then Some no_change.SameStatus else None;
  ChangesNothing = λ why bug. (why ≡ no_change.SameStatus) × (bug.row.status ≡ status);
  sets = λ old new. record old { row = record old.row { status = new.row.status } };
  Says = λ moment place old new. new.row.status ≡ status;
}
row_of (edit.AddLabels labels) = record {
  name = named.LabelAdd;
  words = given.Titles labels;
  made = λ moment bug. labels_op moment (named_off bug.row.labels (texts_of labels)) [];
  barred = λ bug. unless_some (named_off bug.row.labels (texts_of labels));
  ChangesNothing = λ why bug. (why ≡ no_change.NoLabelChange) × ((label : List ℕ) → is_among (texts_of labels) label ≡ true → is_among bug.row.labels label ≡ true);
  sets = λ old new. record old { row = record old.row { labels = new.row.labels } };
  Says = λ moment place old new. (label : List ℕ) → is_among new.row.labels label ≡ (is_among (texts_of labels) label || is_among old.row.labels label);
}
row_of (edit.RemoveLabels labels) = record {
  name = named.LabelRm;
  words = given.Titles labels;
  made = λ moment bug. labels_op moment [] (named_on bug.row.labels (texts_of labels));
  barred = λ bug. unless_some (named_on bug.row.labels (texts_of labels));
  ChangesNothing = λ why bug. (why ≡ no_change.NoLabelChange) × ((label : List ℕ) → is_among (texts_of labels) label ≡ true → is_among bug.row.labels label ≡ false);
  sets = λ old new. record old { row = record old.row { labels = new.row.labels } };
  Says = λ moment place old new. (label : List ℕ) → is_among new.row.labels label ≡ (is_among old.row.labels label && not (is_among (texts_of labels) label));
}
row_of (edit.Metadata key value) = record {
  name = named.Meta;
  words = given.TitleAndMessage key value;
  made = λ moment bug. metadata_op moment bug.row.id key value;
  barred = never;
  ChangesNothing = λ why bug. ⊥;
  sets = λ old new. record old { row = record old.row { metadata = new.row.metadata } };
  Says = λ moment place old new. (other : List ℕ)
      → first_value new.row.metadata other ≡ option_or (first_value old.row.metadata other) (first_value (record { key = key.text; value = value.text } ∷ []) other);
}

-- ---- what follows from a row

-- the operation, unless there is a reason to add none
abbrev pub unless : Option NoChange → BugOp → Result BugOp NoChange
unless None op = Ok op
unless (Some why) op = Err why

-- The operation that an edit adds to a bug that says this, or why it adds none.
abbrev pub edit_op : Moment → BugEdit → Snapshot → Result BugOp NoChange
edit_op moment edit bug = unless ((row_of edit).barred bug) ((row_of edit).made moment bug)

-- What an edit does not set is as it was. Who acted, and the clock and the time of the last operation, follow every edit.
abbrev pub KeepsAllElse : EditRow → Snapshot → Snapshot → Type 0
KeepsAllElse row old new = let kept = row.sets old new in new ≡ record kept { row = record kept.row { actors = new.row.actors; edit = new.row.edit; last = new.row.last } }

-- ---- names

-- the text of a name
abbrev pub name_of : EditName → List ℕ
name_of named.Comment = codes "comment"
name_of named.Title = codes "title"
name_of named.Close = codes "close"
name_of named.Open = codes "open"
name_of named.LabelAdd = codes "label-add"
name_of named.LabelRm = codes "label-rm"
name_of named.Meta = codes "meta"
name_of named.Noop = codes "noop"

-- the types of the arguments that an edit takes
abbrev pub form_of : EditName → Form
form_of named.Comment = form.Message
form_of named.Title = form.Title
form_of named.Close = form.Nothing
form_of named.Open = form.Nothing
form_of named.LabelAdd = form.Titles
form_of named.LabelRm = form.Titles
form_of named.Meta = form.TitleAndMessage
form_of named.Noop = form.Nothing

-- the edit of a name with arguments, if they are of its types
abbrev pub edit_of : EditName → Given → Option BugEdit
edit_of named.Comment (given.Message message) = Some (edit.Comment message)
edit_of named.Title (given.Title title) = Some (edit.Title title)
edit_of named.Close given.Nothing = Some (edit.Status Closed)
edit_of named.Open given.Nothing = Some (edit.Status Opened)
edit_of named.LabelAdd (given.Titles labels) = Some (edit.AddLabels labels)
edit_of named.LabelRm (given.Titles labels) = Some (edit.RemoveLabels labels)
edit_of named.Meta (given.TitleAndMessage key value) = Some (edit.Metadata key value)
edit_of named.Noop given.Nothing = Some edit.Noop
edit_of _ _ = None

-- ---- what follows from a name

-- the edit of a name, if there is one
abbrev pub name_read : List ℕ → Option EditName
name_read text = find (λ n. bytes_eq (name_of n) text) EDITS

-- an edit that is read
abbrev pub is_read : Option BugEdit → Option (Result BugEdit ℕ)
is_read None = None
is_read (Some e) = Some (Ok e)

-- the edit of a name, of the arguments that were read
abbrev pub edit_by : EditName → Option (Result Given ℕ) → Option (Result BugEdit ℕ)
edit_by n None = None
edit_by n (Some (Err place)) = Some (Err place)
edit_by n (Some (Ok g)) = is_read (edit_of n g)

-- The edit of a name with these arguments, or the place of the first that breaks its rule; none where they are not as many as it takes.
abbrev pub edit_from : EditName → List (List ℕ) → Option (Result BugEdit ℕ)
edit_from n words = edit_by n (given_by (form_of n) words)
