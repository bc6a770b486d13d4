-- The texts of the objects that commands and merges make: each tree of them is flat.
use Rattle.std.proofs.Common.{◌≡◌, ◌≢◌, inl, inr, refl, sym, ◌∙◌, subst, arith, ℕ, List, [], ◌∷◌, ◌++◌, Contains, Option, None, Some, codes, decimal}
use Rattle.std.specs.Fmt.{digits}
use Rattle.gb_text.specs.Digits.{IsName}
use Rattle.gb_text.specs.declared.id.Name.{Name}
use Rattle.git_object.specs.declared.frame.Kind.{Kind}
use Rattle.git_object.specs.declared.frame.Kind.TheVariants as kinds
use Rattle.git_object.specs.declared.object.Object.TheVariants as object
use Rattle.git_object.specs.declared.tree.Tree.{Tree}
use Rattle.git_object.specs.Grammar.{HasGoodNames, IsEntryName, IsTreeText, Lacks, framed, object_name}
use Rattle.git_object.specs.Reading.{object_of}
use Rattle.git_object.proofs.CutLaws.{lacks_append, lacks_by_test}
use Rattle.git_object.proofs.DistinctLaws.{distinct_are}
use Rattle.git_object.proofs.FrameLaws.{decimal_lacks}
use Rattle.git_object.proofs.NameLaws.{IsName-object_name}
use Rattle.git_object.proofs.ObjectLaws.{framed_reads, one_tree, with_takes}
use Rattle.commit_walk.proofs.DistinctLemmas.{Contains-cons, Contains-nil}
use Rattle.op_pack.specs.Heads.{tree_with}
use Rattle.op_pack.specs.declared.pack.Pack.{Pack}
use Rattle.op_pack.proofs.TreeLemmas.{tree_names}
use Rattle.bug_ops.specs.Kind.{bug_kind}
use Rattle.bug_ops.specs.declared.op.BugOp.{BugOp}
use Rattle.dag_entity.specs.Appending.{appended_objects, appended_tree, commit_content, commit_object, empty_object, pack_object, tree_content, tree_name, tree_object}
use Rattle.identity.specs.Making.{blob_object, commit_content as version_commit_content, tree_content as version_tree_content, tree_object as version_tree_object, version_objects, version_tree, commit_object as version_commit_object}
use Rattle.op_pack.specs.Packs.{pack_text}
use Rattle.copy_limits.specs.Flat.{IsFlat}
use Rattle.copy_limits.proofs.MadeLemmas.{pack_flat, version_flat}

-- the text is that of no tree that is not flat
abbrev pub IsFlatText : List ℕ → Type 0
IsFlatText text = (tree : Tree) → object_of text ≡ Some (object.Tree tree) → IsFlat tree

-- so it is of a text of another kind
other_kind : (kind : Kind) (content : List ℕ) → kind ≢ kinds.Tree → IsFlatText (framed kind content)
other_kind kind content other tree is = absurd (other (with_takes kind content (object.Tree tree) (sym (framed_reads kind content) ∙ is)).same)

-- and of that of a tree that is
tree_kind : (content : List ℕ) (tree : Tree) → IsTreeText content tree → IsFlat tree → IsFlatText (framed kinds.Tree content)
tree_kind content tree has flat other is =
    let read = with_takes kinds.Tree content (object.Tree other) (sym (framed_reads kinds.Tree content) ∙ is) in
    subst IsFlat (one_tree content tree other has read.is) flat

-- ---- packs

named : (b : ℕ) (bs rest : List ℕ) → Lacks 0 (b ∷ bs) → Lacks 47 (b ∷ bs) → Lacks 0 rest → Lacks 47 rest → IsEntryName ((b ∷ bs) ++ rest)
named b bs rest no_zero no_slash rest_zero rest_slash = record {
  some = λ e. absurd (cc (e));
  no_zero = lacks_append 0 (b ∷ bs) rest no_zero rest_zero;
  no_slash = lacks_append 47 (b ∷ bs) rest no_slash rest_slash;
}

-- the entries of clocks have names, whatever numbers they tell
edit_named : (n : ℕ) → IsEntryName (codes "edit-clock-" ++ decimal n)
edit_named n = named 101 (codes "dit-clock-") (decimal n) (lacks_by_test 0 (codes "edit-clock-") refl) (lacks_by_test 47 (codes "edit-clock-") refl)
    (decimal_lacks 0 n (omega arith)) (decimal_lacks 47 n (omega arith))

create_named : (n : ℕ) → IsEntryName (codes "create-clock-" ++ decimal n)
create_named n = named 99 (codes "reate-clock-") (decimal n) (lacks_by_test 0 (codes "create-clock-") refl) (lacks_by_test 47 (codes "create-clock-") refl)
    (decimal_lacks 0 n (omega arith)) (decimal_lacks 47 n (omega arith))

-- the other two have names too
good_names : (ops : Name) → HasGoodNames (tree_with 1 None ops)
good_names ops = tree_names 1 None ops (record { low = omega arith; high = omega arith }) (λ clock is. absurd (cc is))

-- the tree of a pack has its content
pack_content : (edit : ℕ) (create : Option ℕ) (ops : Name) → IsName ops → IsTreeText (tree_content edit create ops) (appended_tree edit create ops)
unfolding digits
pack_content edit None ops is =
    let empty = IsName-object_name empty_object in
    let good = (good_names ops).each in
    record {
      each = (record { name = edit_named edit; object = empty }, (record { name = good.0; object = is }, (record { name = good.1.0; object = empty }, tt)));
      distinct = distinct_are (appended_tree edit None ops).entries refl;
      text = refl;
    }
pack_content edit (Some n) ops is =
    let empty = IsName-object_name empty_object in
    let good = (good_names ops).each in
    record {
      each = (
        record { name = create_named n; object = empty },
        (record { name = edit_named edit; object = empty }, (record { name = good.0; object = is }, (record { name = good.1.0; object = empty }, tt))),
      );
      distinct = distinct_are (appended_tree edit (Some n) ops).entries refl;
      text = refl;
    }

-- each text of a pack
pub pack_texts : (parents : List Name) (pack : Pack BugOp) (now : ℕ) (text : List ℕ) → Contains (appended_objects bug_kind parents pack now) text → IsFlatText text
pack_texts parents pack now text among = by among
  where
    ops : List ℕ
    ops = pack_object bug_kind pack

    tree : List ℕ
    tree = tree_object bug_kind pack

    commit : List ℕ
    commit = commit_object bug_kind parents pack now

    last : Contains (commit ∷ []) text → IsFlatText text
    last c = elim (Contains-cons commit [] text c) [
      | inl is ↦ subst IsFlatText is (other_kind kinds.Commit (commit_content (tree_name bug_kind pack) parents now) (λ e. cc e))
      | inr none ↦ absurd (Contains-nil text none)
    ]

    third : Contains (tree ∷ commit ∷ []) text → IsFlatText text
    third c = elim (Contains-cons tree (commit ∷ []) text c) [
      | inl is ↦
          subst IsFlatText is
          (tree_kind (tree_content pack.edit pack.create (object_name ops)) (appended_tree pack.edit pack.create (object_name ops))
          (pack_content pack.edit pack.create (object_name ops) (IsName-object_name ops)) (pack_flat pack.edit pack.create (object_name ops)))
      | inr later ↦ last later
    ]

    second : Contains (ops ∷ tree ∷ commit ∷ []) text → IsFlatText text
    second c = elim (Contains-cons ops (tree ∷ commit ∷ []) text c) [
      | inl is ↦ subst IsFlatText is (other_kind kinds.Blob (pack_text bug_kind pack.author pack.ops) (λ e. cc e))
      | inr later ↦ third later
    ]

    by : Contains (empty_object ∷ ops ∷ tree ∷ commit ∷ []) text → IsFlatText text
    by c = elim (Contains-cons empty_object (ops ∷ tree ∷ commit ∷ []) text c) [
      | inl is ↦ subst IsFlatText is (other_kind kinds.Blob [] (λ e. cc e))
      | inr later ↦ second later
    ]

-- ---- versions

version_content : (version : List ℕ) → IsTreeText (version_tree_content (object_name (blob_object version))) (version_tree (object_name (blob_object version)))
version_content version = record {
  each = (
    record {
      name = record { some = λ e. absurd (cc (e)); no_zero = lacks_by_test 0 (codes "version") refl; no_slash = lacks_by_test 47 (codes "version") refl };
      object = IsName-object_name (blob_object version);
    },
    tt,
  );
  distinct = λ i j d less below. absurd (omega arith);
  text = refl;
}

-- each text of a version
pub version_texts : (version : List ℕ) (parent : Option Name) (now : ℕ) (text : List ℕ) → Contains (version_objects version parent now) text → IsFlatText text
version_texts version parent now text among = by among
  where
    blob : List ℕ
    blob = blob_object version

    tree : List ℕ
    tree = version_tree_object version

    commit : List ℕ
    commit = version_commit_object version parent now

    last : Contains (commit ∷ []) text → IsFlatText text
    last c = elim (Contains-cons commit [] text c) [
      | inl is ↦ subst IsFlatText is (other_kind kinds.Commit (version_commit_content (object_name tree) parent now) (λ e. cc e))
      | inr none ↦ absurd (Contains-nil text none)
    ]

    second : Contains (tree ∷ commit ∷ []) text → IsFlatText text
    second c = elim (Contains-cons tree (commit ∷ []) text c) [
      | inl is ↦ subst IsFlatText is (tree_kind (version_tree_content (object_name blob)) (version_tree (object_name blob)) (version_content version) (version_flat (object_name blob)))
      | inr later ↦ last later
    ]

    by : Contains (blob ∷ tree ∷ commit ∷ []) text → IsFlatText text
    by c = elim (Contains-cons blob (tree ∷ commit ∷ []) text c) [
      | inl is ↦ subst IsFlatText is (other_kind kinds.Blob version (λ e. cc e))
      | inr later ↦ second later
    ]
