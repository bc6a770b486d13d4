use Rattle.std.proofs.Common.{IsTrue, drop, take}
use Rattle.gb_store.specs.Faults.{KeepsFaults}
use Rattle.gb_store.specs.Files.{files_of}
use Rattle.gb_store.specs.Moments.{Wrote}
use Rattle.ref_store.specs.Listing.{IsRefList}
use Rattle.repo_state.specs.Listed.{AreIdentityRefs}
use Rattle.repo_state.specs.Sides.{dir_of}
use Rattle.repo_state.specs.declared.side.Side.TheVariants as side
use Rattle.repo_writes.specs.Kinds.{IsRowWrite}
use Rattle.repo_rows.specs.Reading.{AreRowsOf}
use Rattle.repo_rows.proofs.ReadLemmas.{ReadsSome, RestStays}
use Rattle.repo_rows.proofs.bugs.rows_of.Given as goal

abbrev pub invariant-loop-entry : goal.invariant-loop-entry
invariant-loop-entry g l = record {
  are : IsTrue g.S.Store.tells → AreIdentityRefs (files_of (g.S.Store.history l.fn.disk)) l.folder l.identities
      → IsRefList (files_of (g.S.Store.history l.fn.disk)) l.folder (dir_of side.Bugs) l.bugs
      → AreRowsOf l.folder (files_of (g.S.Store.history l.fn.disk)) (files_of (g.S.Store.history l.disk)) (take l.entry-index l.bugs) l.rows.items;
  wrote : IsTrue g.S.Store.tells → AreIdentityRefs (files_of (g.S.Store.history l.fn.disk)) l.folder l.identities
      → IsRefList (files_of (g.S.Store.history l.fn.disk)) l.folder (dir_of side.Bugs) l.bugs
      → Wrote (IsRowWrite l.folder) (g.S.Store.history l.fn.disk) (g.S.Store.history l.disk);
  rest : IsTrue g.S.Store.tells → AreIdentityRefs (files_of (g.S.Store.history l.fn.disk)) l.folder l.identities
      → IsRefList (files_of (g.S.Store.history l.fn.disk)) l.folder (dir_of side.Bugs) l.bugs
      → RestStays l.folder (files_of (g.S.Store.history l.fn.disk)) (files_of (g.S.Store.history l.disk)) (drop l.entry-index l.bugs);
  reads : IsTrue g.S.Store.tells → AreIdentityRefs (files_of (g.S.Store.history l.fn.disk)) l.folder l.identities
      → IsRefList (files_of (g.S.Store.history l.fn.disk)) l.folder (dir_of side.Bugs) l.bugs
      → ReadsSome (files_of (g.S.Store.history l.fn.disk)) l.folder (take l.entry-index l.bugs) (g.S.Store.object_reads l.fn.disk) (g.S.Store.object_reads l.disk);
  caused : KeepsFaults g.S.Store.never_fails g.S.Store.faults ⊥ l.fn.disk l.disk;
}
