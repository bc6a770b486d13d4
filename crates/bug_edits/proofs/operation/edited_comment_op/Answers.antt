use Rattle.std.proofs.Common.{◌≡◌, sym, subst, rules}
use Rattle.bug_ops.specs.Kind.{bug_kind}
use Rattle.bug_ops.specs.declared.op.BugOp.{BugOp}
use Rattle.bug_ops.specs.declared.op.BugOp.TheVariants.{EditComment}
use Rattle.bug_edits.specs.NewOps.{edited_comment_op}
use Rattle.bug_edits.proofs.CommentEditLemmas.{edited_keeps}
use Rattle.bug_edits.proofs.operation.edited_comment_op.Goals as goal

pub invariant_of-result : goal.invariant_of-result
invariant_of-result c =
    let moment = c.args.moment.now in
    let op : BugOp = EditComment c.in_ok-new_common.field-0 c.args.comment c.in_ok-from_str.field-0 c.new.result in
    let is : op ≡ edited_comment_op moment c.args.comment c.args.message.now = search rules in
    record { rules = ∣ subst bug_kind.KeepsRules (sym is) (edited_keeps moment c.args.comment c.args.message.now c.text-digits.ensures.sized) ∣₁ }
