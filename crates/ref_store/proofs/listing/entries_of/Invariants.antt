use Rattle.std.proofs.Common.{◌≡◌, map, ◌++◌}
use Rattle.ref_store.specs.Listing.{entry_of}
use Rattle.ref_store.proofs.listing.entries_of.Given as goal

abbrev pub invariant-loop-id : goal.invariant-loop-id
invariant-loop-id l = map entry_of l.fn.last.entries ≡ l.entries.items ++ map entry_of l.id-iterator
