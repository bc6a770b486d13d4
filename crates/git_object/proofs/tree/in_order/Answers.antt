use Rattle.std.proofs.Common.{rules, ◌≡◌, ap, subst, List, Bor}
use Rattle.std.specs.Ordering.{is_lt}
use Rattle.std.specs.List.Sorted.{IsPermutation}
use Rattle.std.proofs.lemmas.List.Sorted.{IsPermutation-map, answers_always}
use Rattle.git_object.specs.declared.entry.Entry.{Entry}
use Rattle.git_object.specs.Grammar.{sort_key}
use Rattle.git_object.proofs.DistinctLaws.{cmp}
use Rattle.git_object.proofs.OrderLaws.{held, key_ranks, sorted_held}
use Rattle.git_object.proofs.tree.in_order.Goals as goal

pub returns-clause-permutation : goal.returns-clause-permutation
returns-clause-permutation c =
    subst (λ (es : List Entry). IsPermutation es (held c.sort_by.new.self.items)) c.in_ok-sorted.ensures (IsPermutation-map (λ (r : Bor Entry). r.now) c.in_ok-sorted.sorted.items c.sort_by.new.self.items c.in_ok-sort_by.ensures.permutation)

pub returns-clause-order : goal.returns-clause-order
returns-clause-order c = sorted_held c.sort_by.new.self.items
    (c.in_ok-sort_by.ensures.sorted (λ x y. is_lt (cmp (sort_key x.now) (sort_key y.now))) key_ranks (answers_always _ _ _ (λ f a r f' k. (let e : r ≡ cmp (sort_key a.0.now.now) (sort_key a.1.0.now.now) = search rules in ap is_lt e))))
