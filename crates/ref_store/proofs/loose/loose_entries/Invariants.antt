use Rattle.std.proofs.Common.{◌≡◌, IsTrue, take}
use Rattle.std.specs.List.{filter_map}
use Rattle.gb_store.specs.Faults.{KeepsFaults}
use Rattle.gb_store.specs.Files.{files_of}
use Rattle.ref_store.specs.Listing.{loose_named}
use Rattle.ref_store.proofs.loose.loose_entries.Given as goal

abbrev pub invariant-loop-name : goal.invariant-loop-name
invariant-loop-name g l = record {
  entries : IsTrue g.S.Store.tells → l.entries.items ≡ filter_map (loose_named (files_of (g.S.Store.history l.fn.disk)) l.folder l.dir) (take l.name-index l.names);
  unwritten : IsTrue g.S.Store.tells → g.S.Store.history l.disk ≡ g.S.Store.history l.fn.disk;
  reads : g.S.Store.object_reads l.disk ≡ g.S.Store.object_reads l.fn.disk;
  caused : KeepsFaults g.S.Store.never_fails g.S.Store.faults ⊥ l.fn.disk l.disk;
}
