-- New versions of an identity: the three objects that are written of one.
use Rattle.std.specs.Prelude.{◌≡◌, ◌+◌, ⊤, ℕ, List, [], ◌∷◌, ◌++◌, All, codes, reverse, Option, Some, None, Result, Ok, Err}
use Rattle.std.specs.List.{flat_map}
use Rattle.std.specs.Option.{option_to_list}
use Rattle.gb_text.specs.declared.id.Name.{Name}
use Rattle.gb_store.specs.Files.{History, files_of}
use Rattle.git_object.specs.declared.commit.Commit.{Commit}
use Rattle.git_object.specs.declared.entry.Mode.TheVariants.{Plain}
use Rattle.git_object.specs.declared.frame.Kind.TheVariants as kinds
use Rattle.git_object.specs.declared.object.Object.TheVariants as object
use Rattle.git_object.specs.declared.tree.Tree.{Tree}
use Rattle.git_object.specs.Grammar.{IsCommitText, IsTreeText, commit_text, entry_text, framed, object_name}
use Rattle.object_store.specs.Held.{Objects, object_at}
use Rattle.object_store.specs.declared.read.TheConstants.{MOST_BYTES}
use Rattle.object_store.specs.declared.fault.PutFault.{PutFault}
use Rattle.object_store.specs.declared.fault.PutFault.TheVariants as fault
use Rattle.object_batch.specs.Batches.{BatchAnswers, HasLong, missing_writes}
use Rattle.object_store.specs.Texts.{IsShort}
use Rattle.object_batch.specs.Needs.{IsHeldAs}
use Rattle.object_batch.specs.Commits.{written_commit}
use Rattle.identity.specs.declared.making.Made.{Made}
use Rattle.identity.specs.declared.making.VersionPlan.{VersionPlan}
use Rattle.identity.specs.Version.{version_id}

-- the tree with one entry, `version`, of mode 100644
abbrev pub version_tree : Name → Tree
version_tree blob = record { entries = record { mode = Plain; name = codes "version"; object = blob } ∷ [] }

-- its content
abbrev pub tree_content : Name → List ℕ
tree_content blob = flat_map entry_text (version_tree blob).entries

-- the commit of a tree behind a parent, if there is one
abbrev pub version_commit : Name → Option Name → ℕ → Commit
version_commit tree parent now = written_commit tree (option_to_list parent) now

-- its content
abbrev pub commit_content : Name → Option Name → ℕ → List ℕ
commit_content tree parent now = commit_text (version_commit tree parent now)

-- the text of the blob that holds a version's text
abbrev pub blob_object : List ℕ → List ℕ
blob_object version = framed kinds.Blob version

-- the text of the tree that names the blob
abbrev pub tree_object : List ℕ → List ℕ
tree_object version = framed kinds.Tree (tree_content (object_name (blob_object version)))

-- the text of the commit that names the tree
abbrev pub commit_object : List ℕ → Option Name → ℕ → List ℕ
commit_object version parent now = framed kinds.Commit (commit_content (object_name (tree_object version)) parent now)

-- the texts of the three objects, in the order in which they are put
abbrev pub version_objects : List ℕ → Option Name → ℕ → List (List ℕ)
version_objects version parent now = blob_object version ∷ tree_object version ∷ commit_object version parent now ∷ []

-- what is made of a version's text: its SHA-256, and the commit
abbrev pub made_of : List ℕ → Option Name → ℕ → Made
made_of version parent now = record { id = version_id version; head = object_name (commit_object version parent now) }

-- what is to be made of it, and its objects
abbrev pub version_plan : List ℕ → Option Name → ℕ → VersionPlan
version_plan version parent now = record { made = made_of version parent now; objects = version_objects version parent now }

-- the contents of the tree and of the commit are theirs
pub record AreContents (version : List ℕ) (parent : Option Name) (now : ℕ) : Type 0 where
  pub tree : IsTreeText (tree_content (object_name (blob_object version))) (version_tree (object_name (blob_object version)))
  pub commit : IsCommitText (commit_content (object_name (tree_object version)) parent now) (version_commit (object_name (tree_object version)) parent now)

-- the head holds the commit, the commit's tree holds the tree, and the blob that its entry names holds the version's text
pub record HoldsVersion (objects : Objects) (version : List ℕ) (parent : Option Name) (now : ℕ) (made : Made) : Type 0 where
  pub commit : object_at objects made.head ≡ Some (object.Commit (version_commit (object_name (tree_object version)) parent now))
  pub tree : object_at objects (object_name (tree_object version)) ≡ Some (object.Tree (version_tree (object_name (blob_object version))))
  pub blob : object_at objects (object_name (blob_object version)) ≡ Some (object.Blob version)

-- the parent, if there is one, is a commit that is held
abbrev pub HasParent : Objects → Option Name → Type 0
HasParent objects None = ⊤
HasParent objects (Some parent) = IsHeldAs objects parent kinds.Commit

-- what is to be made of a version's text, whose objects are short enough
abbrev pub PlanAnswers : List ℕ → Option Name → ℕ → Result VersionPlan PutFault → Type 0
PlanAnswers version parent now (Ok plan) = (plan ≡ version_plan version parent now) × All IsShort (version_objects version parent now)
PlanAnswers version parent now (Err (fault.Large count)) = (count ≡ MOST_BYTES + 1) × HasLong (version_objects version parent now)
PlanAnswers version parent now (Err fault.Memory) = ⊤
PlanAnswers version parent now (Err _) = ⊥

-- what stands after the objects of a version, none of which is refused, are put
abbrev pub after_version : List ℕ → List ℕ → Option Name → ℕ → History → History
after_version folder version parent now old = reverse (missing_writes folder (version_objects version parent now) (files_of old)) ++ old

-- the answer is that of a put of the objects of a version's text
abbrev pub MakingAnswers : List ℕ → List ℕ → Option Name → ℕ → History → History → Result Made PutFault → Type 0
MakingAnswers folder version parent now old new (Ok made) = BatchAnswers folder (version_objects version parent now) old new (Ok tt)
MakingAnswers folder version parent now old new (Err e) = BatchAnswers folder (version_objects version parent now) old new (Err e)
