-- The trees that are made are flat and small, and so are those of the commits that are made.
use Rattle.std.proofs.Common.{◌≡◌, ◌≢◌, ◌≤◌, ◌<◌, ◌^◌, inl, inr, refl, sym, ◌∙◌, ap, subst, arith, ℕ, List, [], ◌∷◌, length, Contains, Option, None, Some, option_and_then}
use Rattle.std.specs.List.{AllByRecursion}
use Rattle.std.specs.Prelude.{⊤}
use Rattle.gb_text.specs.Digits.{IsName}
use Rattle.gb_text.specs.declared.id.Name.{Name}
use Rattle.git_object.specs.declared.commit.Commit.{Commit}
use Rattle.git_object.specs.declared.entry.Entry.{Entry}
use Rattle.git_object.specs.declared.entry.Mode.TheVariants as mode
use Rattle.git_object.specs.declared.frame.Kind.TheVariants as kinds
use Rattle.git_object.specs.declared.object.Object.{Object}
use Rattle.git_object.specs.declared.object.Object.TheVariants as object
use Rattle.git_object.specs.declared.tree.Tree.{Tree}
use Rattle.git_object.specs.Grammar.{IsObjectText, object_name}
use Rattle.git_object.proofs.NameLaws.{IsName-object_name}
use Rattle.object_store.specs.Held.{Objects, named, object_at, text_at}
use Rattle.object_store.specs.Typed.{as_commit, as_tree}
use Rattle.object_store.specs.declared.read.TheConstants.{MOST_BYTES}
use Rattle.object_store.proofs.GrowthLemmas.{bind-some}
use Rattle.object_store.proofs.HeldLemmas.{named-is, object_at-held}
use Rattle.object_batch.specs.Batches.{AllStand}
use Rattle.object_batch.specs.Commits.{written_commit}
use Rattle.object_batch.specs.Needs.{kind_named}
use Rattle.object_batch.proofs.CommitLemmas.{commit_texts}
use Rattle.commit_walk.proofs.DistinctLemmas.{Contains-cons, Contains-nil}
use Rattle.op_pack.specs.declared.pack.Pack.{Pack}
use Rattle.bug_ops.specs.Kind.{bug_kind}
use Rattle.bug_ops.specs.declared.op.BugOp.{BugOp}
use Rattle.dag_entity.specs.Appending.{MayBeAppended, appended_name, appended_objects, appended_tree, commit_content, commit_object, pack_object, tree_content, tree_name, tree_object}
use Rattle.dag_entity.proofs.AppendLemmas.{tree_text}
use Rattle.identity.specs.Making.{HoldsVersion, blob_object, version_commit, version_tree, tree_object as version_tree_object}
use Rattle.identity.specs.declared.making.Made.{Made}
use Rattle.copy_limits.specs.Flat.{HasFlatTree, IsFlat}

-- each of these entries is a plain file
abbrev ArePlain : List Entry → Type 0
ArePlain [] = ⊤
ArePlain (entry ∷ entries) = (entry.mode ≡ mode.Plain) × ArePlain entries

plain_each : (entries : List Entry) → ArePlain entries → (entry : Entry) → Contains entries entry → entry.mode ≡ mode.Plain
plain_each [] plain entry c = absurd (Contains-nil entry c)
plain_each (one ∷ entries) plain entry c = elim (Contains-cons one entries entry c) [
  | inl same ↦ ap (λ (e : Entry). e.mode) (sym same) ∙ plain.0
  | inr later ↦ plain_each entries plain.1 entry later
]

-- a plain file names no tree
no_tree : (entry : Entry) → entry.mode ≡ mode.Plain → kind_named entry.mode ≢ Some kinds.Tree
no_tree entry is e = let no : Some kinds.Blob ≡ Some kinds.Tree = sym (ap kind_named is) ∙ e in cc no

pub version_flat : (blob : Name) → IsFlat (version_tree blob)
version_flat blob = record { few = omega arith; flat = λ entry c. no_tree entry (plain_each (version_tree blob).entries (refl, tt) entry c) }

pub pack_flat : (edit : ℕ) (create : Option ℕ) (ops : Name) → IsFlat (appended_tree edit create ops)
pack_flat edit None ops = record { few = omega arith; flat = λ entry c. no_tree entry (plain_each (appended_tree edit None ops).entries (refl, (refl, (refl, tt))) entry c) }
pack_flat edit (Some create) ops = record { few = omega arith; flat = λ entry c. no_tree entry (plain_each (appended_tree edit (Some create) ops).entries (refl, (refl, (refl, (refl, tt)))) entry c) }

-- ---- the commits that are made

-- a text that stands under its name is the object that it says
text_holds : (objects : Objects) (text : List ℕ) (o : Object) → text_at objects (object_name text) ≡ Some text → IsObjectText text o → object_at objects (object_name text) ≡ Some o
text_holds objects text o stands is =
    let found = bind-some (named (object_name text)) (objects (object_name text)) text stands in
    let read = named-is (object_name text) found.0 text found.2 in
    object_at-held objects (object_name text) o (record {
      text = text;
      stands = found.1 ∙ ap Some (sym read.0);
      within = subst (λ (t : List ℕ). length t ≤ MOST_BYTES) (sym read.0) read.1;
      is_named = refl;
      is = is;
    })

module _ (objects : Objects) (parents : List Name) (pack : Pack BugOp) (now : ℕ) (may : MayBeAppended bug_kind pack) (in_time : now < 2 ^ 64) (names : AllByRecursion IsName parents)
    (stand : AllStand objects (appended_objects bug_kind parents pack now)) where
  abbrev blob : Name
  blob = object_name (pack_object bug_kind pack)

  abbrev tree : Tree
  tree = appended_tree pack.edit pack.create blob

  abbrev commit : Commit
  commit = written_commit (tree_name bug_kind pack) parents now

  tree_is : IsObjectText (tree_object bug_kind pack) (object.Tree tree)
  tree_is = record { content = tree_content pack.edit pack.create blob; is = tree_text pack.edit pack.create blob may.edit may.create (IsName-object_name (pack_object bug_kind pack)); frames = refl }

  commit_is : IsObjectText (commit_object bug_kind parents pack now) (object.Commit commit)
  commit_is = record {
    content = commit_content (tree_name bug_kind pack) parents now;
    is = record { tree = IsName-object_name (tree_object bug_kind pack); parents = names; texts = commit_texts now commit in_time refl refl refl; text = refl };
    frames = refl;
  }

  pub pack_has_flat : HasFlatTree objects (appended_name bug_kind parents pack now)
  pack_has_flat = record {
    commit = commit;
    held = ap (option_and_then as_commit) (text_holds objects (commit_object bug_kind parents pack now) (object.Commit commit) (stand 3 [] (omega arith)) commit_is);
    tree = tree;
    is_tree = ap (option_and_then as_tree) (text_holds objects (tree_object bug_kind pack) (object.Tree tree) (stand 2 [] (omega arith)) tree_is);
    is = pack_flat pack.edit pack.create blob;
  }

pub version_has_flat : (objects : Objects) (version : List ℕ) (parent : Option Name) (now : ℕ) (made : Made) → HoldsVersion objects version parent now made → HasFlatTree objects made.head
version_has_flat objects version parent now made holds = record {
  commit = version_commit (object_name (version_tree_object version)) parent now;
  held = ap (option_and_then as_commit) holds.commit;
  tree = version_tree (object_name (blob_object version));
  is_tree = ap (option_and_then as_tree) holds.tree;
  is = version_flat (object_name (blob_object version));
}
