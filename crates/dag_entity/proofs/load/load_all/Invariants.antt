use Rattle.std.proofs.Common.{◌≡◌, ◌≤◌, ◌+◌, ◌*◌, ◌++◌, All, length, map, Contains, IsTrue}
use Rattle.std.specs.List.{AllByRecursion}
use Rattle.gb_store.specs.Faults.{KeepsFaults}
use Rattle.object_store.specs.Held.{objects_after}
use Rattle.commit_walk.specs.declared.below.Met.{Met}
use Rattle.dag_entity.specs.Loading.{AreLoadedOf, lineage_of_loaded, lineage_of_met}
use Rattle.dag_entity.proofs.load.load_all.Given as goal

abbrev pub invariant-loop-met : goal.invariant-loop-met
invariant-loop-met g l = record {
  can_next : (goal.iterator-loop-met g).can_next l.met-iterator;
  is_finite : (goal.iterator-loop-met g).is_finite l.met-iterator;
  lineages : map lineage_of_loaded l.loaded.items ++ map lineage_of_met l.met-iterator.rest.items ≡ map lineage_of_met l.fn.walk.items;
  left : (met : Met) → Contains l.met-iterator.rest.items met → Contains l.fn.walk.items met;
  each : IsTrue g.S.Store.tells → AreLoadedOf g.K.OpKind.meaning (objects_after (g.S.Store.history l.fn.disk) l.folder) l.fn.walk.items l.loaded.items;
  rules : All (λ one. AllByRecursion g.K.OpKind.meaning.KeepsRules one.placed.pack.ops) l.loaded.items;
  count : length l.loaded.items + length l.met-iterator.rest.items ≡ length l.fn.walk.items;
  unwritten : IsTrue g.S.Store.tells → g.S.Store.history l.disk ≡ g.S.Store.history l.fn.disk;
  reads : g.S.Store.object_reads l.disk ≤ g.S.Store.object_reads l.fn.disk + 2 * length l.loaded.items;
  caused : KeepsFaults g.S.Store.never_fails g.S.Store.faults ⊥ l.fn.disk l.disk;
}
