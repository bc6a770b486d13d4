use Rattle.std.proofs.Common.{◌≡◌, ap, sym, ◌∙◌, Some, None, Option}
use Rattle.gb_text.specs.declared.id.Name.{Name}
use Rattle.git_object.specs.Reading.{parent_at, all_at}
use Rattle.git_object.proofs.RepeatLaws.{so_far_next, so_far_end, so_far_fails}
use Rattle.git_object.proofs.CommitLaws.{parent_takes_some}
use Rattle.git_object.proofs.commit_view.read_parents.Goals as goal

pub returns-in_default : goal.returns-in_default
returns-in_default c = so_far_fails parent_at c.loop-parent.parents.items c.loop-parent.rest.now (all_at parent_at c.args.bytes.now) (sym c.in_default.ensures) c.loop-parent.invariant

pub returns-in_default-parent : goal.returns-in_default-parent
returns-in_default-parent c =
    let at : parent_at c.loop-parent.rest.now ≡ Some (None, c.in-Some.next.now) = sym c.in-Some.ensures ∙ ap (λ (o : Option Name). Some (o, c.in-Some.next.now)) c.in_default-parent.is in
    rw c.from_vec.ensures (so_far_end parent_at c.loop-parent.parents.items c.loop-parent.rest.now (all_at parent_at c.args.bytes.now) c.in-Some.next.now at c.loop-parent.invariant)

pub loop-parent-smaller : goal.loop-parent-smaller
loop-parent-smaller c =
    let at : parent_at c.loop-parent.rest.now ≡ Some (Some c.in-Some-parent.parent, c.in-Some.next.now) = sym c.in-Some.ensures ∙ ap (λ (o : Option Name). Some (o, c.in-Some.next.now)) c.in-Some-parent.is in
    parent_takes_some.less c.loop-parent.rest.now c.in-Some-parent.parent c.in-Some.next.now at

pub loop-parent-preserved : goal.loop-parent-preserved
loop-parent-preserved c =
    let at : parent_at c.loop-parent.rest.now ≡ Some (Some c.in-Some-parent.parent, c.in-Some.next.now) = sym c.in-Some.ensures ∙ ap (λ (o : Option Name). Some (o, c.in-Some.next.now)) c.in-Some-parent.is in
    rw c.in-Ok.ensures.items (so_far_next parent_at parent_takes_some c.loop-parent.parents.items c.loop-parent.rest.now (all_at parent_at c.args.bytes.now) c.in-Some-parent.parent c.in-Some.next.now at c.loop-parent.invariant)
