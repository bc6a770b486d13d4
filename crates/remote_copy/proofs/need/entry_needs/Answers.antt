use Rattle.std.proofs.Common.{◌++◌, ◌∙◌, ap}
use Rattle.git_object.specs.declared.entry.Entry.{Entry}
use Rattle.remote_copy.specs.Needs.{entry_need}
use Rattle.remote_copy.proofs.NeedLemmas.{entry_needs-more}
use Rattle.remote_copy.proofs.need.entry_needs.Goals as goal

pub loop-entry-preserved : goal.loop-entry-preserved
loop-entry-preserved c =
    let old = c.loop-entry.needs.items in
    entry_needs-more c.args.entries.now c.loop-entry.entry-index c.entry-item.result old c.push_entry.new.needs.items c.loop-entry-test.true c.loop-entry.invariant
    (c.in_ok-push_entry.ensures ∙ ap (λ (e : Entry). old ++ entry_need e) c.entry-item.is)
