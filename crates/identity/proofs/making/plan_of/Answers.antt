use Rattle.std.proofs.Common.{List, ℕ, refl, sym, subst}
use Rattle.git_object.specs.declared.object.Object.TheVariants as objects
use Rattle.git_object.specs.Grammar.{IsCommitText, IsTreeText}
use Rattle.identity.specs.Making.{version_commit, version_tree}
use Rattle.identity.proofs.making.plan_of.Goals as goal

pub new-requires : goal.new-requires
new-requires c = record { object = objects.Blob c.args.version.now; is_kind = refl; is = refl }

pub new-requires-2 : goal.new-requires-2
new-requires-2 c = record {
  object = objects.Tree (version_tree c.name.result);
  is_kind = refl;
  is = subst (λ (t : List ℕ). IsTreeText t (version_tree c.name.result)) (sym c.as_slice-2.ensures) c.in_ok-tree_content.ensures.tree;
}

pub new-requires-3 : goal.new-requires-3
new-requires-3 c = record {
  object = objects.Commit (version_commit c.name-2.result c.args.parent c.args.now);
  is_kind = refl;
  is = subst (λ (t : List ℕ). IsCommitText t (version_commit c.name-2.result c.args.parent c.args.now)) (sym c.as_slice-3.ensures) c.in_ok-content.ensures.commit;
}
