use Rattle.std.proofs.Common.{◌≡◌, sym, subst, refl, arith, rules}
use Rattle.bug_ops.specs.Kind.{bug_kind}
use Rattle.bug_ops.specs.declared.op.BugOp.{BugOp}
use Rattle.bug_ops.specs.declared.op.BugOp.TheVariants.{SetMetadata}
use Rattle.bug_edits.specs.NewOps.{metadata_op, new_common}
use Rattle.bug_edits.proofs.RowLemmas.{metadata_rules}
use Rattle.bug_edits.proofs.RuleLemmas.{is_within}
use Rattle.bug_edits.proofs.operation.metadata_op.Goals as goal

pub invariant_of-result : goal.invariant_of-result
invariant_of-result c =
    let moment = c.args.moment.now in
    let key = c.args.key.now in
    let value = c.args.value.now in
    let op : BugOp = SetMetadata c.in_ok-new_common.field-0 c.args.target c.from_vec.result in
    let is : op ≡ metadata_op moment c.args.target key value = search rules in
    record {
      rules = ∣ subst bug_kind.KeepsRules (sym is) (metadata_rules (new_common moment 8) (is_within moment 8 (omega arith)) c.args.target key.text value.text refl c.text-digits.ensures.sized key.utf8 value.utf8) ∣₁;
    }
