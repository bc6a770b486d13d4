-- What each operation says of who acted and when, what it changes, and which operations may be first.
use Rattle.std.proofs.Common.{◌≡◌, ◌++◌, refl, ap, subst, true, List, [], ◌∷◌, ℕ}
use Rattle.std.specs.Prelude.{not, ◌||◌, ◌&&◌}
use Rattle.gb_text.specs.declared.id.Id.{Id}
use Rattle.gb_text.specs.declared.id.Name.{Name}
use Rattle.op_kind.specs.declared.place.Common.{Common}
use Rattle.op_kind.specs.declared.place.Pair.{Pair}
use Rattle.bug_ops.specs.BugTable.{common_of_op}
use Rattle.bug_ops.specs.Kind.{bug_kind}
use Rattle.bug_ops.specs.Mentions.{is_among}
use Rattle.bug_ops.specs.Snapshots.{one_more, with_person, row_after, snapshot_after}
use Rattle.bug_ops.specs.declared.op.BugOp.{BugOp}
use Rattle.bug_ops.specs.declared.op.BugOp.TheVariants.{Create, SetTitle, AddComment, SetStatus, LabelChange, EditComment, NoOp, SetMetadata}
use Rattle.bug_ops.specs.declared.op.BugStatus.{BugStatus}
use Rattle.bug_ops.specs.declared.snapshot.Snapshot.{Snapshot}
use Rattle.bug_ops.proofs.LabelLaws.{label_change}
use Rattle.snapshot.specs.LastMention.{snapshot_of, IsBugList, IsLater}
use Rattle.snapshot.proofs.MetadataLemmas.{first_has}
use Rattle.snapshot.proofs.StepLemmas.{more_is_step}

-- What holds after one step of the fold holds after one operation more.
after_step : (P : Snapshot → Type 0) (ops : List BugOp) (op : BugOp) → IsBugList ops → IsLater op → P (snapshot_after (snapshot_of ops) op) → P (snapshot_of (ops ++ op ∷ []))
after_step P ops op bug later holds = subst P (more_is_step ops op bug later) holds

-- ---- who acted and when

abbrev HasActed : BugOp → Snapshot → Snapshot → Type 0
HasActed op old new =
    (new.row.actors ≡ with_person old.row.actors (common_of_op op).place.author) × (new.row.edit ≡ (common_of_op op).place.edit) × (new.row.last ≡ (common_of_op op).time)

acted_step : (old : Snapshot) (op : BugOp) → HasActed op old (snapshot_after old op)
unfolding row_after
acted_step old op = (refl, refl, refl)

-- The author of each operation acted, at its clock and its time.
pub who_acted : (ops : List BugOp) (op : BugOp) → IsBugList ops → IsLater op → HasActed op (snapshot_of ops) (snapshot_of (ops ++ op ∷ []))
who_acted ops op bug later = after_step (HasActed op (snapshot_of ops)) ops op bug later (acted_step (snapshot_of ops) op)

-- ---- what each operation changes

abbrev HasComment : Common → List ℕ → Snapshot → Snapshot → Type 0
HasComment c message old new =
    new
    ≡ record {
      row = record old.row {
        actors = new.row.actors;
        edit = new.row.edit;
        last = new.row.last;
        participants = with_person old.row.participants c.place.author;
        comments = one_more old.row.comments;
      };
      list = old.list ++ record { id = c.place.id; author = c.place.author; time = c.time; message = message } ∷ [];
    }

comment_step : (old : Snapshot) (c : Common) (message : List ℕ) (files : List Name) → HasComment c message old (snapshot_after old (AddComment c message files))
unfolding row_after
comment_step old c message files = refl

-- A comment comes after the others.
pub comment_added : (ops : List BugOp) (c : Common) (message : List ℕ) (files : List Name) → IsBugList ops
    → HasComment c message (snapshot_of ops) (snapshot_of (ops ++ AddComment c message files ∷ []))
comment_added ops c message files bug =
    after_step (HasComment c message (snapshot_of ops)) ops (AddComment c message files) bug refl (comment_step (snapshot_of ops) c message files)

abbrev HasTitle : List ℕ → Snapshot → Snapshot → Type 0
HasTitle title old new = new ≡ record old { row = record old.row { actors = new.row.actors; edit = new.row.edit; last = new.row.last; title = title } }

title_step : (old : Snapshot) (c : Common) (title was : List ℕ) → HasTitle title old (snapshot_after old (SetTitle c title was))
unfolding row_after
title_step old c title was = refl

-- A title changes the title alone.
pub title_alone : (ops : List BugOp) (c : Common) (title was : List ℕ) → IsBugList ops → HasTitle title (snapshot_of ops) (snapshot_of (ops ++ SetTitle c title was ∷ []))
title_alone ops c title was bug = after_step (HasTitle title (snapshot_of ops)) ops (SetTitle c title was) bug refl (title_step (snapshot_of ops) c title was)

abbrev HasStatus : BugStatus → Snapshot → Snapshot → Type 0
HasStatus status old new = new ≡ record old { row = record old.row { actors = new.row.actors; edit = new.row.edit; last = new.row.last; status = status } }

status_step : (old : Snapshot) (c : Common) (status : BugStatus) → HasStatus status old (snapshot_after old (SetStatus c status))
unfolding row_after
status_step old c status = refl

-- A status changes the status alone.
pub status_alone : (ops : List BugOp) (c : Common) (status : BugStatus) → IsBugList ops → HasStatus status (snapshot_of ops) (snapshot_of (ops ++ SetStatus c status ∷ []))
status_alone ops c status bug = after_step (HasStatus status (snapshot_of ops)) ops (SetStatus c status) bug refl (status_step (snapshot_of ops) c status)

abbrev HasLabels : Snapshot → Snapshot → Type 0
HasLabels old new = new ≡ record old { row = record old.row { actors = new.row.actors; edit = new.row.edit; last = new.row.last; labels = new.row.labels } }

labels_step : (old : Snapshot) (c : Common) (added removed : List (List ℕ)) → HasLabels old (snapshot_after old (LabelChange c added removed))
unfolding row_after
labels_step old c added removed = refl

-- A change of labels changes the labels alone.
pub labels_alone : (ops : List BugOp) (c : Common) (added removed : List (List ℕ)) → IsBugList ops → HasLabels (snapshot_of ops) (snapshot_of (ops ++ LabelChange c added removed ∷ []))
labels_alone ops c added removed bug = after_step (HasLabels (snapshot_of ops)) ops (LabelChange c added removed) bug refl (labels_step (snapshot_of ops) c added removed)

-- Whether the label is on after a change of labels.
abbrev IsOnAfter : List (List ℕ) → List (List ℕ) → List ℕ → Snapshot → Snapshot → Type 0
IsOnAfter added removed label old new = is_among new.row.labels label ≡ ((is_among added label || is_among old.row.labels label) && not (is_among removed label))

on_step : (old : Snapshot) (c : Common) (added removed : List (List ℕ)) (label : List ℕ) → IsOnAfter added removed label old (snapshot_after old (LabelChange c added removed))
unfolding row_after
on_step old c added removed label = label_change old.row.labels added removed label

-- A label is on where it was added or was on, and was not removed.
pub label_on : (ops : List BugOp) (c : Common) (added removed : List (List ℕ)) (label : List ℕ) → IsBugList ops
    → IsOnAfter added removed label (snapshot_of ops) (snapshot_of (ops ++ LabelChange c added removed ∷ []))
label_on ops c added removed label bug =
    after_step (IsOnAfter added removed label (snapshot_of ops)) ops (LabelChange c added removed) bug refl (on_step (snapshot_of ops) c added removed label)

abbrev HasMetadata : Snapshot → Snapshot → Type 0
HasMetadata old new = new ≡ record old { row = record old.row { actors = new.row.actors; edit = new.row.edit; last = new.row.last; metadata = new.row.metadata } }

metadata_step : (old : Snapshot) (c : Common) (target : Id) (pairs : List Pair) → HasMetadata old (snapshot_after old (SetMetadata c target pairs))
unfolding row_after
metadata_step old c target pairs = refl

-- Metadata changes the metadata alone.
pub metadata_alone : (ops : List BugOp) (c : Common) (target : Id) (pairs : List Pair) → IsBugList ops → HasMetadata (snapshot_of ops) (snapshot_of (ops ++ SetMetadata c target pairs ∷ []))
metadata_alone ops c target pairs bug = after_step (HasMetadata (snapshot_of ops)) ops (SetMetadata c target pairs) bug refl (metadata_step (snapshot_of ops) c target pairs)

-- ---- creations

-- Only a creation is first.
pub only_creations : (op : BugOp) → bug_kind.is_opening op ≡ true → (c : Common) × (title : List ℕ) × (message : List ℕ) × (files : List Name) × (op ≡ Create c title message files)
only_creations (Create c title message files) first = (c, title, message, files, refl)
only_creations (SetTitle c title was) first = absurd (cc (first))
only_creations (AddComment c message files) first = absurd (cc (first))
only_creations (SetStatus c status) first = absurd (cc (first))
only_creations (LabelChange c added removed) first = absurd (cc (first))
only_creations (EditComment c target message files) first = absurd (cc (first))
only_creations (NoOp c) first = absurd (cc (first))
only_creations (SetMetadata c target pairs) first = absurd (cc (first))

-- The bug of one creation has its metadata.
pub creation_says : (c : Common) (title message : List ℕ) (files : List Name) → IsBugList (Create c title message files ∷ [])
    → let made = snapshot_of (Create c title message files ∷ []) in made ≡ record made { row = record made.row { metadata = c.metadata } }
creation_says c title message files bug =
    let made = snapshot_of (Create c title message files ∷ []) in
    ap (λ pairs. record made { row = record made.row { metadata = pairs } }) (first_has (Create c title message files) bug)
