use Rattle.std.proofs.Common.{◌≡◌, sym, ◌∙◌, ap, subst, append-nil, reverse, List, ℕ, ◌++◌}
use Rattle.gb_store.specs.Files.{IsListing, files_of}
use Rattle.gb_store.specs.MemIndex.{listed}
use Rattle.gb_store.proofs.ListingLemmas.{IsListing-listed, listed-between, bounds_in_order}
use Rattle.gb_store.proofs.mem_index.names.Goals as goal

pub range-path-items-requires : goal.range-path-items-requires
range-path-items-requires c = bounds_in_order c.args.dir.now c.in_ok-start.start c.in_ok-end.end c.in_ok-start.ensures c.in_ok-end.ensures

pub loop-path-init : goal.loop-path-init
loop-path-init c =
    ap (λ (xs : List (List ℕ)). xs ++ listed c.args.changes.now c.args.dir.now c.into_iter-path-iterator.result) c.new-names.ensures.items
    ∙ ap (listed c.args.changes.now c.args.dir.now) (c.into_iter-path-iterator.ensures.into_iter_gives ∙ c.range-path-items.ensures.between tt)
    ∙ listed-between c.args.changes.now c.args.dir.now c.in_ok-start.start c.in_ok-end.end c.in_ok-start.ensures c.in_ok-end.ensures c.args.latest.now.entries

pub returns : goal.returns
returns c =
    let all : c.loop-path.names.items ≡ listed c.args.changes.now c.args.dir.now c.args.latest.now.entries =
    sym (append-nil c.loop-path.names.items) ∙ rw c.in-None.ensures.steps.0 at c.loop-path.invariant in
    subst (IsListing (files_of (reverse c.args.changes.now)) c.args.dir.now) (sym all)
    (IsListing-listed c.args.latest.now c.args.changes.now c.args.dir.now c.range-path-items.ensures.ordered c.requires)
