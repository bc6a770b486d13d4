use Rattle.std.proofs.Common.{take}
use Rattle.git_object.proofs.OrderLaws.{held, held_more, objects_more}
use Rattle.git_object.proofs.RepeatLaws.{texts_more}
use Rattle.git_object.specs.Grammar.{entry_text}
use Rattle.git_object.proofs.tree.append_entries.Goals as goal

pub loop-entry-preserved : goal.loop-entry-preserved
loop-entry-preserved c =
    let more = held_more c.args.entries.now c.loop-entry.entry-index c.entry-item.result c.loop-entry-test.true c.entry-item.is in (
      texts_more entry_text c.args.text.now.items c.loop-entry.text.items c.append_entry.new.text.items (held (take c.loop-entry.entry-index c.args.entries.now)) _ c.entry-item.result.now more c.loop-entry.invariant.0 c.in_ok-append_entry.ensures.text,
      objects_more (held (take c.loop-entry.entry-index c.args.entries.now)) _ c.entry-item.result.now more c.loop-entry.invariant.1 c.in_ok-append_entry.ensures.object,
    )
