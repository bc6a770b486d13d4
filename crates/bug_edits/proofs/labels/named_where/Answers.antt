use Rattle.std.proofs.Common.{◌≡◌, ◌∙◌, ◌+◌, List, ℕ, BTreeSet, Result, Ok, Err, IfOk, ap, sym, subst}
use Rattle.std.specs.BTreeSet.{IsOrdered}
use Rattle.gb_text.specs.declared.memory.Memory.{Memory}
use Rattle.bug_ops.specs.BugForms.{AreLabels}
use Rattle.bug_ops.specs.Folds.{marks_of}
use Rattle.bug_ops.specs.Snapshots.{by_bytes, with_texts}
use Rattle.snapshot.specs.LastMention.{snapshot_of}
use Rattle.bug_edits.specs.EditTable.{is_so, named_where}
use Rattle.bug_edits.specs.NewOps.{texts_of}
use Rattle.bug_edits.proofs.LabelLemmas.{is_sought, left, left_here, put_here, put_in_order, where_are_labels}
use Rattle.bug_edits.proofs.labels.named_where.Goals as goal
use Rattle.bug_edits.proofs.labels.named_where.Goals.{then-has_label-on+in_ok-copy_text+in_ok-insert, else-has_label-on}

pub loop-label-preserved : goal.loop-label-preserved
loop-label-preserved c = elim c.if-has_label-on.branch [
  | then-has_label-on+in_ok-copy_text+in_ok-insert w ↦ record {
    labels =
        c.loop-label.invariant.labels
        ∙ put_here c.args.on (snapshot_of c.args.ops.now).row.labels c.args.named.now c.loop-label.label-index c.label-item.result c.loop-label-test.true c.label-item.is
        c.loop-label.found.keys c.if-has_label-on.found.keys w.in_ok-copy_text.field-0 (ap (is_so c.args.on) (sym c.has_label.ensures) ∙ is_sought c.args.on c.has_label.result ∙ w.if-has_label-on.true) w.in_ok-copy_text.ensures
        (ap (λ (s : BTreeSet (List ℕ)). s.keys) w.found-is ∙ w.in_ok-insert.ensures.keys);
    ascend = subst (IsOrdered by_bytes) (sym w.found-is) w.insert.ensures.ordered;
  }
  | else-has_label-on w ↦ record {
    labels =
        c.loop-label.invariant.labels
        ∙ ap (with_texts (marks_of c.loop-label.found.keys))
        (left_here c.args.on (snapshot_of c.args.ops.now).row.labels c.args.named.now c.loop-label.label-index c.label-item.result c.loop-label-test.true c.label-item.is
        (ap (is_so c.args.on) (sym c.has_label.ensures) ∙ is_sought c.args.on c.has_label.result ∙ w.if-has_label-on.false))
        ∙ ap (λ (s : BTreeSet (List ℕ)). with_texts (marks_of s.keys) (left c.args.on (snapshot_of c.args.ops.now).row.labels c.args.named.now (c.loop-label.label-index + 1))) (sym w.found-is);
    ascend = subst (IsOrdered by_bytes) (sym w.found-is) c.loop-label.invariant.ascend;
  }
]

pub returns-clause-labels : goal.returns-clause-labels
returns-clause-labels c = listed_are c.listed.result c.listed.ensures
  where
    is : c.loop-label.found.keys ≡ named_where c.args.on (snapshot_of c.args.ops.now).row.labels (texts_of c.args.named.now)
    is = put_in_order c.args.on (snapshot_of c.args.ops.now).row.labels c.args.named.now c.loop-label.found.keys c.loop-label.label-index c.loop-label-test.false c.loop-label.invariant.labels

    listed_are : (r : Result (List (List ℕ)) Memory) → IfOk r (λ list. list ≡ c.loop-label.found.keys) → IfOk r (λ list. list ≡ named_where c.args.on (snapshot_of c.args.ops.now).row.labels (texts_of c.args.named.now))
    listed_are (Ok list) same = same ∙ is
    listed_are (Err e) same = same

pub returns-clause-rules : goal.returns-clause-rules
returns-clause-rules c = listed_are c.listed.result c.listed.ensures
  where
    is : c.loop-label.found.keys ≡ named_where c.args.on (snapshot_of c.args.ops.now).row.labels (texts_of c.args.named.now)
    is = put_in_order c.args.on (snapshot_of c.args.ops.now).row.labels c.args.named.now c.loop-label.found.keys c.loop-label.label-index c.loop-label-test.false c.loop-label.invariant.labels

    listed_are : (r : Result (List (List ℕ)) Memory) → IfOk r (λ list. list ≡ c.loop-label.found.keys) → IfOk r (λ list. AreLabels list)
    listed_are (Ok list) same = subst AreLabels (sym (same ∙ is)) (where_are_labels c.args.on (snapshot_of c.args.ops.now).row.labels c.args.named.now)
    listed_are (Err e) same = same
