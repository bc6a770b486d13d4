use Rattle.std.proofs.Common.{◌≡◌, IsTrue, List, ℕ, take, flat_map}
use Rattle.std.specs.List.{AllZip}
use Rattle.sha2.specs.Hashers.{Holds256}
use Rattle.gb_store.specs.MemStore.{has_no_fails}
use Rattle.world.specs.Shown.{Shows}
use Rattle.world.proofs.shown.hash_of.Given as goal

abbrev pub invariant-loop-bug : goal.invariant-loop-bug
invariant-loop-bug l = record {
  shown : (texts : List (List ℕ)) × AllZip (Shows l.fn.store.history l.folder) (take l.bug-index l.bugs) texts × Holds256 l.hasher (flat_map (λ text. text) texts);
  unwritten : l.store.history ≡ l.fn.store.history;
  calm : IsTrue (has_no_fails l.store);
}
