-- What an object names, in order.
use Rattle.std.specs.Prelude.{List, [], ◌∷◌, ◌++◌, map, Option, Some, None}
use Rattle.gb_text.specs.declared.id.Name.{Name}
use Rattle.git_object.specs.declared.entry.Entry.{Entry}
use Rattle.git_object.specs.declared.frame.Kind.{Kind}
use Rattle.git_object.specs.declared.frame.Kind.TheVariants as kinds
use Rattle.git_object.specs.declared.object.Object.{Object}
use Rattle.git_object.specs.declared.object.Object.TheVariants as objects
use Rattle.object_batch.specs.Needs.{kind_named}
use Rattle.remote_copy.specs.declared.need.Need.{Need}

-- a name, as that of an object of this kind
abbrev pub as_kind : Kind → Name → Need
as_kind kind name = record { name = name; kind = kind }

-- what a name is called for where a kind is known; nothing, where it is not
abbrev pub named_so : Option Kind → Name → List Need
named_so None name = []
named_so (Some kind) name = as_kind kind name ∷ []

-- what an entry of a tree names, but for a module
abbrev pub entry_need : Entry → List Need
entry_need entry = named_so (kind_named entry.mode) entry.object

abbrev pub entry_needs : List Entry → List Need
entry_needs [] = []
entry_needs (entry ∷ entries) = entry_need entry ++ entry_needs entries

-- a commit's tree, and its parents
abbrev pub commit_needs : Name → List Name → List Need
commit_needs tree parents = as_kind kinds.Tree tree ∷ map (as_kind kinds.Commit) parents

-- what an object names, in order
abbrev pub needs_of : Object → List Need
needs_of (objects.Blob content) = []
needs_of (objects.Tree tree) = entry_needs tree.entries
needs_of (objects.Commit commit) = commit_needs commit.tree commit.parents
