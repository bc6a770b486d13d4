-- What was found in the bugs so far.
use Rattle.std.proofs.Common.{◌≡◌, IsTrue, take}
use Rattle.gb_store.specs.Faults.{KeepsFaults}
use Rattle.gb_store.specs.Files.{files_of}
use Rattle.gb_text.specs.Prefix.{digits_of}
use Rattle.repo_state.specs.Listed.{AreIdentityRefs}
use Rattle.repo_state.specs.Seeking.{HasRules, IsSoughtAmong, ReadsAmong}
use Rattle.repo_state.specs.Sides.{AreIds}
use Rattle.repo_state.specs.declared.side.Side.TheVariants as side
use Rattle.repo_state.proofs.seeking.seek.Given as goal

abbrev pub invariant-loop-id : goal.invariant-loop-id
invariant-loop-id g l =
    let files = files_of (g.S.Store.history l.fn.disk) in
    record {
      found : IsTrue g.S.Store.tells → AreIds files l.folder side.Bugs l.ids → AreIdentityRefs files l.folder l.identities
          → IsSoughtAmong files l.folder (digits_of l.prefix) (take l.id-index l.ids) l.sought;
      rules : HasRules l.sought.entity;
      unwritten : IsTrue g.S.Store.tells → g.S.Store.history l.disk ≡ g.S.Store.history l.fn.disk;
      reads : IsTrue g.S.Store.tells → AreIds files l.folder side.Bugs l.ids
          → ReadsAmong files l.folder (digits_of l.prefix) (take l.id-index l.ids) (g.S.Store.object_reads l.fn.disk) (g.S.Store.object_reads l.disk);
      caused : KeepsFaults g.S.Store.never_fails g.S.Store.faults ⊥ l.fn.disk l.disk;
    }
