use Rattle.std.proofs.Common.{take, get_or, []}
use Rattle.gb_text.specs.Digits.{IsName}
use Rattle.gb_text.specs.declared.id.Name.{Name}
use Rattle.git_object.specs.Grammar.{parent_line}
use Rattle.git_object.proofs.RepeatLaws.{texts_more, each_more, one_more}
use Rattle.git_object.proofs.commit.append_parents.Goals as goal

pub loop-parent-preserved : goal.loop-parent-preserved
loop-parent-preserved c =
    let none : Name = record { bytes = [] } in
    let parent : Name = get_or c.args.parents.now c.loop-parent.parent-index none in
    let more = one_more c.args.parents.now c.loop-parent.parent-index none c.loop-parent-test.true in (
      texts_more parent_line c.args.text.now.items c.loop-parent.text.items c.append_name.new.text.items (take c.loop-parent.parent-index c.args.parents.now) _ parent more c.loop-parent.invariant.0 c.in_ok-append_name.ensures.text,
      each_more IsName (take c.loop-parent.parent-index c.args.parents.now) _ parent more c.loop-parent.invariant.1 c.in_ok-append_name.ensures.name,
    )
