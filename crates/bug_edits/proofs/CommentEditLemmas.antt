-- What an edit of a comment changes of what a bug says, and that it keeps the rules.
use Rattle.std.proofs.Common.{◌≡◌, true, ℕ, List, [], refl, sym, ap, arith}
use Rattle.std.specs.Str.{is_utf8}
use Rattle.std.proofs.lemmas.Str.{IsUtf8-from_is_utf8}
use Rattle.gb_text.specs.Digits.{IsId}
use Rattle.gb_text.specs.Rules.{is_message_text}
use Rattle.gb_text.specs.declared.id.Id.{Id}
use Rattle.gb_text.specs.declared.id.Name.{Name}
use Rattle.gb_text.specs.declared.ruled.Message.{Message}
use Rattle.op_kind.specs.Bounds.{IsWithinBounds}
use Rattle.op_kind.specs.declared.place.Common.{Common}
use Rattle.op_kind.specs.declared.place.Place.{Place}
use Rattle.bug_ops.specs.Kind.{bug_kind}
use Rattle.bug_ops.specs.Snapshots.{row_after, with_person}
use Rattle.bug_ops.specs.declared.op.BugOp.{BugOp}
use Rattle.bug_ops.specs.declared.op.BugOp.TheVariants.{EditComment}
use Rattle.bug_ops.specs.declared.snapshot.Snapshot.{Snapshot}
use Rattle.snapshot.specs.CommentEdits.{AreEdited}
use Rattle.snapshot.specs.LastMention.{IsBugList, snapshot_of}
use Rattle.snapshot.proofs.EditLemmas.{comments_edited}
use Rattle.snapshot.proofs.StepLemmas.{more_is_step}
use Rattle.bug_edits.specs.EditLaws.{with_op}
use Rattle.bug_edits.specs.NewOps.{edited_comment_op, new_common}
use Rattle.bug_edits.specs.declared.moment.Moment.{Moment}
use Rattle.bug_edits.proofs.RuleLemmas.{is_within, no_names}

-- an edit of a comment whose id is 32 bytes keeps the rules
pub edit_rules : (common : Common) (within : IsWithinBounds common) (target : Id) (message : List ℕ) (files : List Name) → common.kind ≡ 6 → IsId target → is_utf8 message ≡ true → is_message_text message ≡ true → files ≡ []
    → bug_kind.KeepsRules (EditComment common target message files)
edit_rules common within target message files kind is_id utf8 is_message none = record {
  within = within;
  kind = kind;
  values = (is_id, (record { utf8 = IsUtf8-from_is_utf8 message utf8; message = is_message }, (no_names files none, tt)));
}

pub edited_keeps : (moment : Moment) (comment : Id) (message : Message) → IsId comment → bug_kind.KeepsRules (edited_comment_op moment comment message)
edited_keeps moment comment message is_id = edit_rules (new_common moment 6) (is_within moment 6 (omega arith)) comment message.text [] refl is_id message.utf8 message.is_message refl

module _ (moment : Moment) (ops : List BugOp) (place : Place) (comment : Id) (message : Message) (bug : IsBugList ops) where
  -- its comments
  pub comments_of_edit : AreEdited comment message.text (snapshot_of ops).list (with_op ops place (edited_comment_op moment comment message)).list
  comments_of_edit = comments_edited ops (record (new_common moment 6) { place = place }) comment message.text [] bug

  -- and the rest of it
  pub rest_of_edit : (with_op ops place (edited_comment_op moment comment message)).row
      ≡ record (snapshot_of ops).row { actors = with_person (snapshot_of ops).row.actors place.author; edit = place.edit; last = moment.now }
  unfolding row_after
  rest_of_edit = ap (λ (s : Snapshot). s.row) (sym (more_is_step ops (bug_kind.placed place (edited_comment_op moment comment message)) bug refl))
