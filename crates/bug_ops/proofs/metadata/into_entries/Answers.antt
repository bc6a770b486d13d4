-- Pairs that were joined are entries in order.
use Rattle.std.proofs.Common.{◌∙◌, [], sym, ap, subst}
use Rattle.bug_ops.specs.Folds.{AreJoined, pairs_in}
use Rattle.bug_ops.specs.Snapshots.{with_pairs}
use Rattle.bug_ops.proofs.PairMaps.{entries_are}
use Rattle.bug_ops.proofs.metadata.into_entries.Goals as goal

pub returns-in-Joined : goal.returns-in-Joined
returns-in-Joined c = entries_are c.in-Joined.entries.entries (subst AreJoined c.in-Joined.is c.requires) ∙ ap (λ m. with_pairs [] (pairs_in m)) (sym c.in-Joined.is)
