-- The operations that commands make, and their ids.
use Rattle.std.specs.Prelude.{◌≡◌, ℕ, List, [], ◌∷◌, ◌++◌, None, map}
use Rattle.sha2.specs.Sha256.{sha256}
use Rattle.gb_text.specs.declared.id.Id.{Id}
use Rattle.gb_text.specs.declared.id.Name.{Name}
use Rattle.gb_text.specs.declared.ruled.Message.{Message}
use Rattle.gb_text.specs.declared.ruled.Title.{Title}
use Rattle.op_kind.specs.declared.place.Common.{Common}
use Rattle.op_kind.specs.declared.place.Place.{Place}
use Rattle.bug_ops.specs.Kind.{bug_kind}
use Rattle.bug_ops.specs.Snapshots.{zero_id}
use Rattle.bug_ops.specs.declared.op.BugOp.{BugOp}
use Rattle.bug_ops.specs.declared.op.BugOp.TheVariants.{AddComment, Create, EditComment, LabelChange, NoOp, SetMetadata, SetStatus, SetTitle}
use Rattle.bug_ops.specs.declared.op.BugStatus.{BugStatus}
use Rattle.op_pack.specs.Packs.{hash_of}
use Rattle.bug_edits.specs.declared.moment.Moment.{Moment}

-- ---- what they have in common

-- the nonce of what a command makes: the SHA-256 of its seed and one zero byte
abbrev pub nonce_from : List ℕ → List ℕ
nonce_from seed = sha256 (seed ++ 0 ∷ [])

-- the place of an operation that is not written yet: where it will be follows from what is written
abbrev pub nowhere : Place
nowhere = record { id = zero_id; author = zero_id; edit = 0; create = None }

-- what an operation of a type has that a command makes: the time, the nonce, and no metadata
abbrev pub new_common : Moment → ℕ → Common
new_common moment kind = record { place = nowhere; kind = kind; time = moment.now; nonce = nonce_from moment.seed; metadata = [] }

-- the files that belong to the message of an operation
abbrev pub attached_to : BugOp → List Name
attached_to (Create common title message files) = files
attached_to (SetTitle common title was) = []
attached_to (AddComment common message files) = files
attached_to (SetStatus common status) = []
attached_to (LabelChange common added removed) = []
attached_to (EditComment common target message files) = files
attached_to (NoOp common) = []
attached_to (SetMetadata common target pairs) = []

-- the operation has the time and the seed of the command, and neither metadata of its own nor files
pub record IsOfTheMoment (moment : Moment) (op : BugOp) : Type 0 where
  pub time : (bug_kind.common_of op).time ≡ moment.now
  pub nonce : (bug_kind.common_of op).nonce ≡ nonce_from moment.seed
  pub bare : (bug_kind.common_of op).metadata ≡ []
  pub no_files : attached_to op ≡ []

-- the id of an operation: the SHA-256 of its text
abbrev pub op_id : BugOp → Id
op_id op = hash_of (bug_kind.written op)

-- ---- the operations

-- the operation that begins a bug
abbrev pub create_op : Moment → Title → Message → BugOp
create_op moment title message = Create (new_common moment 1) title.text message.text []

-- another title, and the one before
abbrev pub title_op : Moment → Title → List ℕ → BugOp
title_op moment title was = SetTitle (new_common moment 2) title.text was

-- a comment
abbrev pub comment_op : Moment → Message → BugOp
comment_op moment message = AddComment (new_common moment 3) message.text []

-- another status
abbrev pub status_op : Moment → BugStatus → BugOp
status_op moment status = SetStatus (new_common moment 4) status

-- labels that are put on, and labels that are taken off
abbrev pub labels_op : Moment → List (List ℕ) → List (List ℕ) → BugOp
labels_op moment added removed = LabelChange (new_common moment 5) added removed

-- another message of the comment with this id
abbrev pub edited_comment_op : Moment → Id → Message → BugOp
edited_comment_op moment comment message = EditComment (new_common moment 6) comment message.text []

-- an operation that changes nothing
abbrev pub noop_op : Moment → BugOp
noop_op moment = NoOp (new_common moment 7)

-- a value under a key of the bug whose first operation has this id
abbrev pub metadata_op : Moment → Id → Title → Message → BugOp
metadata_op moment target key value = SetMetadata (new_common moment 8) target (record { key = key.text; value = value.text } ∷ [])

-- ---- labels

-- the texts of labels
abbrev pub texts_of : List Title → List (List ℕ)
texts_of labels = map (λ (label : Title). label.text) labels
