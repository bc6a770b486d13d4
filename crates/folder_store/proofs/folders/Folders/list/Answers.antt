use Rattle.std.proofs.Common.{sym, subst}
use Rattle.std.specs.Cmp.Lexicographic.{slice_cmp}
use Rattle.std.specs.List.Sorted.{IsStrictlySortedBy}
use Rattle.std.specs.Ordering.{nat_cmp}
use Rattle.folder_store.proofs.folders.Folders.list.Goals as goal

pub returns-then-not-branch : goal.returns-then-not-branch
unfolding IsStrictlySortedBy
returns-then-not-branch g c = subst (IsStrictlySortedBy (slice_cmp nat_cmp)) (sym c.new.ensures.items) tt
