-- The values that views show: what a view borrows from a text, as an object that owns it has it.
use Rattle.std.specs.Prelude.{map}
use Rattle.git_object.specs.declared.entry.Entry.{Entry}
use Rattle.git_object.specs.declared.tree.Tree.{Tree}
use Rattle.git_object.specs.declared.commit.Commit.{Commit}
use Rattle.git_object.specs.declared.object.Object.{Object}
use Rattle.git_object.specs.declared.object.Object.TheVariants as objects
use Rattle.git_object.specs.declared.tree_view.EntryView.{EntryView}
use Rattle.git_object.specs.declared.tree_view.TreeView.{TreeView}
use Rattle.git_object.specs.declared.commit_view.CommitView.{CommitView}
use Rattle.git_object.specs.declared.object_view.ObjectView.{ObjectView}
use Rattle.git_object.specs.declared.object_view.ObjectView.TheVariants as views

-- the entry that a view shows
abbrev pub entry_seen : EntryView → Entry
entry_seen v = record { mode = v.mode; name = v.name.now; object = v.object }

-- the tree that a view shows
abbrev pub tree_seen : TreeView → Tree
tree_seen v = record { entries = map entry_seen v.entries }

-- the commit that a view shows
abbrev pub commit_seen : CommitView → Commit
commit_seen v = record { tree = v.tree; parents = v.parents; author = v.author.now; committer = v.committer.now; more = v.more.now; message = v.message.now }

-- the object that a view shows
abbrev pub object_seen : ObjectView → Object
object_seen (views.Blob content) = objects.Blob content.now
object_seen (views.Tree t) = objects.Tree (tree_seen t)
object_seen (views.Commit c) = objects.Commit (commit_seen c)
