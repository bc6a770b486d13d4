use Rattle.std.proofs.Common.{◌≡◌, ◌∙◌, sym, ap, None, List, map}
use Rattle.std.proofs.lemmas.List.{drop_all}
use Rattle.std.specs.List.{find}
use Rattle.git_object.specs.declared.tree_view.EntryView.{EntryView}
use Rattle.git_object.specs.Views.{entry_seen, tree_seen}
use Rattle.op_pack.specs.Heads.{is_ops}
use Rattle.op_pack.proofs.RestLemmas.{find_none}
use Rattle.op_pack.proofs.head.ops_in.Goals as goal

pub returns : goal.returns
returns c =
    let none : find is_ops (tree_seen c.args.tree.now).entries ≡ None = sym c.loop-entry.invariant ∙ ap (λ (l : List EntryView). find is_ops (map entry_seen l)) (drop_all c.loop-entry.entry-index c.as_slice-entry-items.result.now c.loop-entry-test.false) in
    find_none is_ops (tree_seen c.args.tree.now).entries none
