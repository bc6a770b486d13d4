use Rattle.std.proofs.Common.{refl, ap}
use Rattle.git_object.specs.declared.frame.Kind.TheVariants as kinds
use Rattle.object_batch.specs.Needs.{kind_named}
use Rattle.object_batch.proofs.LeadLemmas.{held_blob, held_tree, tree_needs}
use Rattle.object_batch.proofs.laws.trees_need_their_entries.Goals as goal

pub returns-clause-plain : goal.returns-clause-plain
returns-clause-plain c = λ held tree entry all member mode. held_blob held entry.object (all entry.object kinds.Blob (entry, member, refl, ap kind_named mode))

pub returns-clause-exec : goal.returns-clause-exec
returns-clause-exec c = λ held tree entry all member mode. held_blob held entry.object (all entry.object kinds.Blob (entry, member, refl, ap kind_named mode))

pub returns-clause-link : goal.returns-clause-link
returns-clause-link c = λ held tree entry all member mode. held_blob held entry.object (all entry.object kinds.Blob (entry, member, refl, ap kind_named mode))

pub returns-clause-folder : goal.returns-clause-folder
returns-clause-folder c = λ held tree entry all member mode. held_tree held entry.object (all entry.object kinds.Tree (entry, member, refl, ap kind_named mode))

pub returns-clause-only : goal.returns-clause-only
returns-clause-only c = tree_needs
