use Rattle.std.proofs.Common.{◌≡◌, ◌++◌, IsTrue, take}
use Rattle.std.specs.Prelude.{All}
use Rattle.std.specs.List.{filter_map}
use Rattle.gb_store.specs.Faults.{KeepsFaults}
use Rattle.gb_store.specs.Files.{files_of}
use Rattle.ref_packing.specs.Reading.{IsGoodName, named_line}
use Rattle.ref_packing.proofs.loose.take_names.Given as goal

abbrev pub invariant-loop-name : goal.invariant-loop-name
invariant-loop-name g l = record {
  lines : IsTrue g.S.Store.tells → l.taken.items ≡ l.fn.taken.items ++ filter_map (named_line (files_of (g.S.Store.history l.fn.disk)) l.folder l.dir) (take l.name-index l.names);
  good : IsTrue g.S.Store.tells → All (IsGoodName (files_of (g.S.Store.history l.fn.disk)) l.folder l.dir) (take l.name-index l.names);
  unwritten : IsTrue g.S.Store.tells → g.S.Store.history l.disk ≡ g.S.Store.history l.fn.disk;
  reads : g.S.Store.object_reads l.disk ≡ g.S.Store.object_reads l.fn.disk;
  caused : KeepsFaults g.S.Store.never_fails g.S.Store.faults ⊥ l.fn.disk l.disk;
}
