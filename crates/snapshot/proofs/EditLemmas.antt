-- What an operation says that stands behind all others: an edit of a comment, a title, a status.
use Rattle.std.proofs.Common.{◌≡◌, ◌∙◌, ◌++◌, refl, sym, ap, subst, Bool, List, [], ◌∷◌, ℕ, map}
use Rattle.std.specs.Prelude.{if◌then◌else◌}
use Rattle.gb_text.specs.declared.id.Id.{Id}
use Rattle.gb_text.specs.declared.id.Name.{Name}
use Rattle.op_kind.specs.declared.place.Common.{Common}
use Rattle.bug_ops.specs.Snapshots.{same_id, edited, row_after, snapshot_after}
use Rattle.bug_ops.specs.declared.op.BugOp.TheVariants.{SetTitle, SetStatus, EditComment}
use Rattle.bug_ops.specs.declared.op.BugOp.{BugOp}
use Rattle.bug_ops.specs.declared.op.BugStatus.{BugStatus}
use Rattle.bug_ops.specs.declared.snapshot.Comment.{Comment}
use Rattle.bug_ops.specs.declared.snapshot.Snapshot.{Snapshot}
use Rattle.snapshot.specs.CommentEdits.{AreEdited, IsEdited}
use Rattle.snapshot.specs.LastMention.{comments_of, snapshot_of, IsBugList}
use Rattle.snapshot.proofs.CommentLemmas.{all_edited}
use Rattle.snapshot.proofs.FoundLemmas.{title_more, status_more}
use Rattle.snapshot.proofs.MetadataLemmas.{other_id, own_id}
use Rattle.snapshot.proofs.StepLemmas.{more_is_step}

-- ---- an edit of a comment

one_is : (target : Id) (message : List ℕ) (c : Comment) → IsEdited target message c (edited target message c)
one_is target message c =
    let by = λ (b : Bool). if b then record c { message = message } else c in
    record {
      reached = λ same. ap by (ap (λ (id : Id). same_id c.id id) (sym same) ∙ own_id c.id);
      left = λ differ. ap by (other_id c.id target differ);
    }

all_are : (target : Id) (message : List ℕ) (cs : List Comment) → AreEdited target message cs (map (edited target message) cs)
all_are target message [] = refl
all_are target message (c ∷ cs) = (one_is target message c, all_are target message cs)

-- The comments behind an edit are those of before, each edited where it is the target.
pub comments_edited : (ops : List BugOp) (common : Common) (target : Id) (message : List ℕ) (files : List Name) → IsBugList ops
    → AreEdited target message (snapshot_of ops).list (snapshot_of (ops ++ EditComment common target message files ∷ [])).list
comments_edited [] common target message files bug = absurd bug
comments_edited (o ∷ later) common target message files bug =
    subst (AreEdited target message (comments_of (o ∷ later))) (sym (all_edited common target message files (o ∷ later))) (all_are target message (comments_of (o ∷ later)))

-- the snapshot is an old one but for its comments and its actors, and for the clock and the time of its last operation
abbrev IsTheRest : Snapshot → Snapshot → Type 0
IsTheRest old new = new ≡ record { row = record old.row { actors = new.row.actors; edit = new.row.edit; last = new.row.last }; list = new.list }

edit_step : (old : Snapshot) (common : Common) (target : Id) (message : List ℕ) (files : List Name) → IsTheRest old (snapshot_after old (EditComment common target message files))
unfolding row_after
edit_step old common target message files = refl

-- Nothing else changes but who acted, and the clock and the time of the last operation.
pub edit_keeps_rest : (ops : List BugOp) (common : Common) (target : Id) (message : List ℕ) (files : List Name) → IsBugList ops
    → IsTheRest (snapshot_of ops) (snapshot_of (ops ++ EditComment common target message files ∷ []))
edit_keeps_rest ops common target message files bug =
    subst (IsTheRest (snapshot_of ops)) (more_is_step ops (EditComment common target message files) bug refl) (edit_step (snapshot_of ops) common target message files)

-- ---- a title and a status

-- The title is the last that was set.
pub title_set : (ops : List BugOp) (common : Common) (title was : List ℕ) → IsBugList ops → (snapshot_of (ops ++ SetTitle common title was ∷ [])).row.title ≡ title
title_set [] common title was bug = absurd bug
title_set (o ∷ later) common title was bug = sym (title_more (o ∷ later) (SetTitle common title was))

-- The status is the last that was set.
pub status_set : (ops : List BugOp) (common : Common) (status : BugStatus) → IsBugList ops → (snapshot_of (ops ++ SetStatus common status ∷ [])).row.status ≡ status
status_set [] common status bug = absurd bug
status_set (o ∷ later) common status bug = sym (status_more (o ∷ later) (SetStatus common status))
