use Rattle.folder_store.proofs.OrderLemmas.{rising_once, same_names}
use Rattle.folder_store.proofs.disk.in_order.Goals as goal

pub returns-clause-rising : goal.returns-clause-rising
returns-clause-rising c =
    rising_once c.sort_unstable.new.self.items c.dedup.new.self.items c.sort_unstable.ensures.sorted c.dedup.ensures.filtered

pub returns-clause-members : goal.returns-clause-members
returns-clause-members c =
    same_names c.args.names.items c.sort_unstable.new.self.items c.dedup.new.self.items
    c.sort_unstable.ensures.permutation c.dedup.ensures.filtered
