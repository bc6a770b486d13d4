use Rattle.std.proofs.Common.{IsTrue, take}
use Rattle.gb_store.specs.Faults.{KeepsFaults}
use Rattle.gb_store.specs.Files.{files_of}
use Rattle.listed_refs.specs.AsListed.{AreAsListed}
use Rattle.sync_steps.specs.Fetching.{Fetches}
use Rattle.sync_steps.specs.Turns.{AddsLines, WentOn}
use Rattle.sync_steps.specs.declared.line.Exchange.TheVariants as verb
use Rattle.repo_sync.specs.Reading.{AllFetchesRead}
use Rattle.repo_sync.proofs.fetching.fetch_each.Given as goal

abbrev pub invariant-loop-entity : goal.invariant-loop-entity
invariant-loop-entity g l = record {
  went : IsTrue g.S.Store.tells → AreAsListed (files_of (g.S.Store.history l.fn.disk)) l.pair.own l.seen l.refs
      → WentOn verb.Fetch l.word (Fetches l.pair.own l.pair.peer l.seen.side) (take l.entity-index l.refs) l.fn.lines.items l.lines.items (g.S.Store.history l.fn.disk) (g.S.Store.history l.disk);
  adds : AddsLines l.fn.lines.items l.lines.items (g.S.Store.object_reads l.fn.disk) (g.S.Store.object_reads l.disk);
  read : IsTrue g.S.Store.tells → AreAsListed (files_of (g.S.Store.history l.fn.disk)) l.pair.own l.seen l.refs
      → AllFetchesRead l.pair.own l.pair.peer l.seen.side (take l.entity-index l.refs) (g.S.Store.history l.fn.disk) (g.S.Store.history l.disk) (g.S.Store.object_reads l.fn.disk) (g.S.Store.object_reads l.disk);
  caused : KeepsFaults g.S.Store.never_fails g.S.Store.faults ⊥ l.fn.disk l.disk;
}
