use Rattle.std.proofs.Common.{refl}
use Rattle.remote_copy.proofs.IndexLemmas.{sets_blob, sets_commit, sets_tree}
use Rattle.remote_copy.proofs.index.Index.set.Goals as goal

pub returns-in_ok-insert-in-Blob : goal.returns-in_ok-insert-in-Blob
returns-in_ok-insert-in-Blob c = sets_blob c.args.self.now c.note.new.self _ c.args.need.now c.args.mark c.in_ok-note.ensures refl c.in-Blob.is c.in_ok-insert-in-Blob.ensures.updates.0 refl refl

pub returns-in_ok-insert-in-Tree : goal.returns-in_ok-insert-in-Tree
returns-in_ok-insert-in-Tree c = sets_tree c.args.self.now c.note.new.self _ c.args.need.now c.args.mark c.in_ok-note.ensures refl c.in-Tree.is c.in_ok-insert-in-Tree.ensures.updates.0 refl refl

pub returns-in_ok-insert-in-Commit : goal.returns-in_ok-insert-in-Commit
returns-in_ok-insert-in-Commit c = sets_commit c.args.self.now c.note.new.self _ c.args.need.now c.args.mark c.in_ok-note.ensures refl c.in-Commit.is c.in_ok-insert-in-Commit.ensures.updates.0 refl refl
