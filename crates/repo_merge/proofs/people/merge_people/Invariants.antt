use Rattle.std.proofs.Common.{IsTrue, take}
use Rattle.gb_store.specs.Faults.{KeepsFaults}
use Rattle.gb_store.specs.Files.{files_of}
use Rattle.repo_state.specs.declared.side.Side.TheVariants as side
use Rattle.merge_steps.specs.Merging.{MergesPerson}
use Rattle.merge_steps.specs.Turns.{WentOn}
use Rattle.sync_steps.specs.declared.line.EntityWord.TheVariants as word
use Rattle.repo_merge.specs.Heads.{AreLocals}
use Rattle.repo_merge.specs.Quiet.{AreKnownRefs, WasQuiet}
use Rattle.repo_merge.specs.Reading.{AllPeopleRead}
use Rattle.repo_merge.proofs.people.merge_people.Given as goal

abbrev pub invariant-loop-entity : goal.invariant-loop-entity
invariant-loop-entity g l = record {
  went : IsTrue g.S.Store.tells → AreLocals (files_of (g.S.Store.history l.fn.disk)) l.folder side.Identities l.locals l.refs
      → WentOn (MergesPerson l.folder) word.Identity (take l.entity-index l.refs) l.fn.lines.items l.lines.items (g.S.Store.history l.fn.disk) (g.S.Store.history l.disk);
  quiet : IsTrue g.S.Store.tells → AreLocals (files_of (g.S.Store.history l.fn.disk)) l.folder side.Identities l.locals l.refs → AreKnownRefs (files_of (g.S.Store.history l.fn.disk)) l.folder side.Identities l.refs
      → WasQuiet (g.S.Store.history l.fn.disk) (g.S.Store.history l.disk) (g.S.Store.object_reads l.fn.disk) (g.S.Store.object_reads l.disk);
  read : IsTrue g.S.Store.tells → AreLocals (files_of (g.S.Store.history l.fn.disk)) l.folder side.Identities l.locals l.refs
      → AllPeopleRead l.folder (take l.entity-index l.refs) (g.S.Store.history l.fn.disk) (g.S.Store.history l.disk) (g.S.Store.object_reads l.fn.disk) (g.S.Store.object_reads l.disk);
  caused : KeepsFaults g.S.Store.never_fails g.S.Store.faults ⊥ l.fn.disk l.disk;
}
