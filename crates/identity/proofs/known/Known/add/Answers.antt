use Rattle.std.proofs.Common.{sym, subst}
use Rattle.std.specs.List.{AllByRecursion}
use Rattle.identity.specs.Knowing.{TreeHas, IsVersion}
use Rattle.identity.proofs.KnownLemmas.{TreeHas-named, all_inserted}
use Rattle.identity.proofs.known.Known.add.Goals as goal

pub returns-clause-are : goal.returns-clause-are
returns-clause-are c = λ objects known named is. record {
  trees = subst (AllByRecursion (TreeHas objects)) (sym c.in_ok-insert.ensures.keys)
      (all_inserted _ (TreeHas objects) c.args.self.now.trees.keys c.args.tree known.trees (TreeHas-named objects c.args.tree c.args.object named is));
  objects_are = subst (AllByRecursion (IsVersion objects)) (sym c.in_ok-insert-2.ensures.keys)
      (all_inserted _ (IsVersion objects) c.args.self.now.objects.keys c.args.object known.objects_are is);
}
