use Rattle.std.proofs.Common.{inl, inr, refl}
use Rattle.git_object.specs.declared.frame.Kind.TheVariants as kinds
use Rattle.object_batch.proofs.LeadLemmas.{commit_needs, held_commit, held_tree}
use Rattle.object_batch.proofs.laws.commits_need_their_tree_and_parents.Goals as goal

pub returns-clause-tree : goal.returns-clause-tree
returns-clause-tree c = λ held commit all. held_tree held commit.tree (all commit.tree kinds.Tree (inl (refl, refl)))

pub returns-clause-parent : goal.returns-clause-parent
returns-clause-parent c = λ held commit parent all member. held_commit held parent (all parent kinds.Commit (inr (member, refl)))

pub returns-clause-only : goal.returns-clause-only
returns-clause-only c = commit_needs

pub returns-clause-blob : goal.returns-clause-blob
returns-clause-blob c = λ held content name kind never. absurd never
