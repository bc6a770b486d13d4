-- Worked examples of the definitions, computed: names and texts are those that `git hash-object` gives and takes.
use Rattle.std.specs.Prelude.{◌≡◌, ⊤, ℕ, List, codes, [], ◌∷◌, ◌++◌, Some, None}
use Rattle.std.specs.Fmt.{digits}
use Rattle.std.proofs.Common.{refl}
use Rattle.hex.proofs.OnLiterals.{hex_on_literals}
use Rattle.sha1.specs.Sha1.{first_words, schedule, rounds, compress, hash_after, digest_bytes, sha1}
use Rattle.gb_text.specs.declared.id.Name.{Name}
use Rattle.git_object.specs.Grammar.{framed, object_name, sort_key}
use Rattle.git_object.specs.Reading.{commit_of, cut_at, entries_at, entry_at, entry_step, frame_of, lines_at, many_at, name_at, named_at, object_of, parent_at, text_at, tree_at, tree_of}
use Rattle.git_object.specs.declared.entry.Mode.TheVariants.{Exec, Folder, Plain}
use Rattle.git_object.specs.declared.frame.Kind.TheVariants as kinds
use Rattle.git_object.specs.declared.object.Object.TheVariants as objects

-- what an answer unfolds to read a text on a literal
unfoldable pub git_object_on_literals : ⊤
unfolding digits hex_on_literals commit_of cut_at entries_at entry_at entry_step frame_of lines_at many_at name_at named_at object_of parent_at text_at tree_at tree_of
git_object_on_literals = tt

-- what an answer unfolds to compute a name on a literal
unfoldable pub names_on_literals : ⊤
unfolding digits first_words schedule rounds compress hash_after digest_bytes sha1
names_on_literals = tt

-- the names of the blob of no bytes and of the tree of no entries
abbrev empty_blob : Name
empty_blob = record { bytes = 230 ∷ 157 ∷ 226 ∷ 155 ∷ 178 ∷ 209 ∷ 214 ∷ 67 ∷ 75 ∷ 139 ∷ 41 ∷ 174 ∷ 119 ∷ 90 ∷ 216 ∷ 194 ∷ 228 ∷ 140 ∷ 83 ∷ 145 ∷ [] }

abbrev empty_tree : Name
empty_tree = record { bytes = 75 ∷ 130 ∷ 93 ∷ 198 ∷ 66 ∷ 203 ∷ 110 ∷ 185 ∷ 160 ∷ 96 ∷ 229 ∷ 75 ∷ 248 ∷ 214 ∷ 146 ∷ 136 ∷ 251 ∷ 238 ∷ 73 ∷ 4 ∷ [] }

-- the text of an entry that names the blob of no bytes, behind its mode and name
abbrev entry_text : List ℕ → List ℕ
entry_text front = front ++ 0 ∷ empty_blob.bytes

-- names
name_of_no_bytes : object_name (framed kinds.Blob []) ≡ empty_blob
unfolding names_on_literals
name_of_no_bytes = refl

name_of_no_entries : object_name (framed kinds.Tree []) ≡ empty_tree
unfolding names_on_literals
name_of_no_entries = refl

name_of_hello : object_name (framed kinds.Blob (codes "hello")) ≡ record { bytes = 182 ∷ 252 ∷ 76 ∷ 98 ∷ 11 ∷ 103 ∷ 217 ∷ 95 ∷ 149 ∷ 58 ∷ 92 ∷ 28 ∷ 18 ∷ 48 ∷ 170 ∷ 171 ∷ 93 ∷ 181 ∷ 161 ∷ 176 ∷ [] }
unfolding names_on_literals
name_of_hello = refl

-- the front of an object
blob_text : framed kinds.Blob (codes "hello") ≡ codes "blob 5" ++ 0 ∷ codes "hello"
unfolding git_object_on_literals
blob_text = refl

blob_reads : object_of (codes "blob 5" ++ 0 ∷ codes "hello") ≡ Some (objects.Blob (codes "hello"))
unfolding git_object_on_literals
blob_reads = refl

blob_empty : object_of (codes "blob 0" ++ 0 ∷ []) ≡ Some (objects.Blob [])
unfolding git_object_on_literals
blob_empty = refl

blob_zero_byte : object_of (codes "blob 1" ++ 0 ∷ 0 ∷ []) ≡ Some (objects.Blob (0 ∷ []))
unfolding git_object_on_literals
blob_zero_byte = refl

size_leading_zero : object_of (codes "blob 05" ++ 0 ∷ codes "hello") ≡ None
unfolding git_object_on_literals
size_leading_zero = refl

size_less : object_of (codes "blob 4" ++ 0 ∷ codes "hello") ≡ None
unfolding git_object_on_literals
size_less = refl

size_more : object_of (codes "blob 6" ++ 0 ∷ codes "hello") ≡ None
unfolding git_object_on_literals
size_more = refl

size_absent : object_of (codes "blob " ++ 0 ∷ []) ≡ None
unfolding git_object_on_literals
size_absent = refl

no_zero_byte : object_of (codes "blob 0") ≡ None
unfolding git_object_on_literals
no_zero_byte = refl

two_spaces : object_of (codes "blob  0" ++ 0 ∷ []) ≡ None
unfolding git_object_on_literals
two_spaces = refl

kind_capital : object_of (codes "Blob 0" ++ 0 ∷ []) ≡ None
unfolding git_object_on_literals
kind_capital = refl

kind_tag : object_of (codes "tag 0" ++ 0 ∷ []) ≡ None
unfolding git_object_on_literals
kind_tag = refl

nothing : object_of [] ≡ None
unfolding git_object_on_literals
nothing = refl

-- trees
tree_empty : tree_of [] ≡ Some (record { entries = [] })
unfolding git_object_on_literals
tree_empty = refl

tree_one : tree_of (entry_text (codes "100644 a")) ≡ Some (record { entries = record { mode = Plain; name = codes "a"; object = empty_blob } ∷ [] })
unfolding git_object_on_literals
tree_one = refl

tree_folder : tree_of (entry_text (codes "40000 a b")) ≡ Some (record { entries = record { mode = Folder; name = codes "a b"; object = empty_blob } ∷ [] })
unfolding git_object_on_literals
tree_folder = refl

tree_unsorted : tree_of (entry_text (codes "100644 b") ++ entry_text (codes "100755 a")) ≡ Some (record { entries = record { mode = Plain; name = codes "b"; object = empty_blob } ∷ record { mode = Exec; name = codes "a"; object = empty_blob } ∷ [] })
unfolding git_object_on_literals
tree_unsorted = refl

tree_repeated : tree_of (entry_text (codes "100644 a") ++ entry_text (codes "40000 a")) ≡ None
unfolding git_object_on_literals
tree_repeated = refl

-- names are distinct where other entries stand between them, also in git's order
tree_repeated_apart : tree_of (entry_text (codes "100644 a") ++ entry_text (codes "100644 b") ++ entry_text (codes "100644 a")) ≡ None
unfolding git_object_on_literals
tree_repeated_apart = refl

tree_repeated_around : tree_of (entry_text (codes "100644 a") ++ entry_text (codes "100644 a.b") ++ entry_text (codes "40000 a")) ≡ None
unfolding git_object_on_literals
tree_repeated_around = refl

tree_three_names : tree_of (entry_text (codes "100644 a") ++ entry_text (codes "100644 a.b") ++ entry_text (codes "40000 ab")) ≡ Some (record { entries = record { mode = Plain; name = codes "a"; object = empty_blob } ∷ record { mode = Plain; name = codes "a.b"; object = empty_blob } ∷ record { mode = Folder; name = codes "ab"; object = empty_blob } ∷ [] })
unfolding git_object_on_literals
tree_three_names = refl

tree_mode_of_six : tree_of (entry_text (codes "040000 a")) ≡ None
unfolding git_object_on_literals
tree_mode_of_six = refl

tree_mode_of_a_group : tree_of (entry_text (codes "100664 a")) ≡ None
unfolding git_object_on_literals
tree_mode_of_a_group = refl

tree_no_name : tree_of (entry_text (codes "100644 ")) ≡ None
unfolding git_object_on_literals
tree_no_name = refl

tree_slash : tree_of (entry_text (codes "100644 a/b")) ≡ None
unfolding git_object_on_literals
tree_slash = refl

tree_cut : tree_of (codes "100644 a" ++ 0 ∷ 1 ∷ 2 ∷ []) ≡ None
unfolding git_object_on_literals
tree_cut = refl

key_of_a_file : sort_key (record { mode = Plain; name = codes "a"; object = empty_blob }) ≡ codes "a"
unfolding git_object_on_literals
key_of_a_file = refl

key_of_a_folder : sort_key (record { mode = Folder; name = codes "a"; object = empty_blob }) ≡ codes "a/"
unfolding git_object_on_literals
key_of_a_folder = refl

-- commits
commit_root : commit_of (codes "tree 4b825dc642cb6eb9a060e54bf8d69288fbee4904\nauthor a <b> 1 +0000\ncommitter c <d> 2 +0000\n\nx\n") ≡ Some (record { tree = empty_tree; parents = []; author = codes "a <b> 1 +0000"; committer = codes "c <d> 2 +0000"; more = []; message = codes "x\n" })
unfolding git_object_on_literals
commit_root = refl

commit_no_message : commit_of (codes "tree 4b825dc642cb6eb9a060e54bf8d69288fbee4904\nauthor a <b> 1 +0000\ncommitter c <d> 2 +0000\n\n") ≡ Some (record { tree = empty_tree; parents = []; author = codes "a <b> 1 +0000"; committer = codes "c <d> 2 +0000"; more = []; message = [] })
unfolding git_object_on_literals
commit_no_message = refl

commit_no_empty_line : commit_of (codes "tree 4b825dc642cb6eb9a060e54bf8d69288fbee4904\nauthor a <b> 1 +0000\ncommitter c <d> 2 +0000\n") ≡ None
unfolding git_object_on_literals
commit_no_empty_line = refl

commit_parents : commit_of (codes "tree 4b825dc642cb6eb9a060e54bf8d69288fbee4904\nparent e69de29bb2d1d6434b8b29ae775ad8c2e48c5391\nparent 4b825dc642cb6eb9a060e54bf8d69288fbee4904\nauthor a <b> 1 +0000\ncommitter c <d> 2 +0000\n\n") ≡ Some (record { tree = empty_tree; parents = empty_blob ∷ empty_tree ∷ []; author = codes "a <b> 1 +0000"; committer = codes "c <d> 2 +0000"; more = []; message = [] })
unfolding git_object_on_literals
commit_parents = refl

commit_repeated_parent : commit_of (codes "tree 4b825dc642cb6eb9a060e54bf8d69288fbee4904\nparent e69de29bb2d1d6434b8b29ae775ad8c2e48c5391\nparent e69de29bb2d1d6434b8b29ae775ad8c2e48c5391\nauthor a <b> 1 +0000\ncommitter c <d> 2 +0000\n\n") ≡ Some (record { tree = empty_tree; parents = empty_blob ∷ empty_blob ∷ []; author = codes "a <b> 1 +0000"; committer = codes "c <d> 2 +0000"; more = []; message = [] })
unfolding git_object_on_literals
commit_repeated_parent = refl

commit_more : commit_of (codes "tree 4b825dc642cb6eb9a060e54bf8d69288fbee4904\nauthor a <b> 1 +0000\ncommitter c <d> 2 +0000\ngpgsig a\n b\n\nx") ≡ Some (record { tree = empty_tree; parents = []; author = codes "a <b> 1 +0000"; committer = codes "c <d> 2 +0000"; more = codes "gpgsig a\n b\n"; message = codes "x" })
unfolding git_object_on_literals
commit_more = refl

commit_empty_lines : commit_of (codes "tree 4b825dc642cb6eb9a060e54bf8d69288fbee4904\nauthor a <b> 1 +0000\ncommitter c <d> 2 +0000\n\n\nx") ≡ Some (record { tree = empty_tree; parents = []; author = codes "a <b> 1 +0000"; committer = codes "c <d> 2 +0000"; more = []; message = codes "\nx" })
unfolding git_object_on_literals
commit_empty_lines = refl

commit_upper_case : commit_of (codes "tree 4B825DC642CB6EB9A060E54BF8D69288FBEE4904\nauthor a\ncommitter b\n\n") ≡ None
unfolding git_object_on_literals
commit_upper_case = refl

commit_no_tree : commit_of (codes "author a\ncommitter b\n\n") ≡ None
unfolding git_object_on_literals
commit_no_tree = refl

commit_no_author : commit_of (codes "tree 4b825dc642cb6eb9a060e54bf8d69288fbee4904\ncommitter b\n\n") ≡ None
unfolding git_object_on_literals
commit_no_author = refl

commit_empty_author : commit_of (codes "tree 4b825dc642cb6eb9a060e54bf8d69288fbee4904\nauthor \ncommitter b\n\n") ≡ None
unfolding git_object_on_literals
commit_empty_author = refl

commit_late_parent : commit_of (codes "tree 4b825dc642cb6eb9a060e54bf8d69288fbee4904\nauthor a\nparent e69de29bb2d1d6434b8b29ae775ad8c2e48c5391\ncommitter b\n\n") ≡ None
unfolding git_object_on_literals
commit_late_parent = refl

commit_two_trees : commit_of (codes "tree 4b825dc642cb6eb9a060e54bf8d69288fbee4904\ntree 4b825dc642cb6eb9a060e54bf8d69288fbee4904\nauthor a\ncommitter b\n\n") ≡ None
unfolding git_object_on_literals
commit_two_trees = refl
