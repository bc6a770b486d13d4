use Rattle.std.proofs.Common.{rules}
use Rattle.std.specs.List.Sorted.{IsSorted}
use Rattle.std.proofs.lemmas.List.Sorted.{answers_always}
use Rattle.dag_entity.specs.Order.{placed_cmp, rank_of}
use Rattle.dag_entity.proofs.OrderLemmas.{sorted_rises}
use Rattle.dag_entity.proofs.order.sort_packs.Goals as goal

pub returns-clause-rise : goal.returns-clause-rise
returns-clause-rise g c =
    let new = c.sort_unstable_by_key.new.self.items in
    let sorted : IsSorted placed_cmp new = c.sort_unstable_by_key.ensures.sorted rank_of (answers_always _ _ _ (λ f a r f' called. search rules)) in
    sorted_rises c.args.packs.now.items new c.requires c.sort_unstable_by_key.ensures.permutation sorted
