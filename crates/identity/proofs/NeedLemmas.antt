-- The objects of a version are put after all that they name.
use Rattle.std.proofs.Common.{◌≡◌, ℕ, zero, suc, List, [], ◌∷◌, Contains, Option, Some, None, ◌⊎◌, codes, inl, inr, refl, sym, ◌∙◌, ap, subst, arith}
use Rattle.std.specs.Option.{option_to_list}
use Rattle.gb_text.specs.declared.id.Name.{Name}
use Rattle.git_object.specs.declared.entry.Entry.{Entry}
use Rattle.git_object.specs.declared.entry.Mode.TheVariants.{Plain}
use Rattle.git_object.specs.declared.frame.Kind.{Kind}
use Rattle.git_object.specs.declared.frame.Kind.TheVariants as kinds
use Rattle.git_object.specs.declared.object.Object.TheVariants as object
use Rattle.git_object.specs.Grammar.{IsObjectText, object_name}
use Rattle.object_store.specs.Held.{Objects}
use Rattle.object_batch.specs.Needs.{IsHeldAs, Names, kind_named}
use Rattle.object_batch.proofs.ClashLemmas.{Contains-first}
use Rattle.object_batch.proofs.OrderLemmas.{IsAmong, NameBefore}
use Rattle.identity.specs.Making.{AreContents, HasParent, blob_object, commit_content, commit_object, tree_content, tree_object, version_commit, version_objects, version_tree}

Contains-one : {X : Type 0} (x y : X) → Contains (x ∷ []) y → x ≡ y
Contains-one x y (zero, below, is) = is
Contains-one x y (suc k, below, is) = absurd (omega arith)

module _ (held : Objects) (version : List ℕ) (parent : Option Name) (now : ℕ) (are : AreContents version parent now) where
  blob_is : IsObjectText (blob_object version) (object.Blob version)
  blob_is = record { content = version; is = refl; frames = refl }

  tree_is : IsObjectText (tree_object version) (object.Tree (version_tree (object_name (blob_object version))))
  tree_is = record { content = tree_content (object_name (blob_object version)); is = are.tree; frames = refl }

  commit_is : IsObjectText (commit_object version parent now) (object.Commit (version_commit (object_name (tree_object version)) parent now))
  commit_is = record { content = commit_content (object_name (tree_object version)) parent now; is = are.commit; frames = refl }

  tree_names : (name : Name) (kind : Kind) → Names (object.Tree (version_tree (object_name (blob_object version)))) name kind → IsAmong (blob_object version ∷ []) name kind
  tree_names name kind (entry, member, is, as_kind) =
      let only : record { mode = Plain; name = codes "version"; object = object_name (blob_object version) } ≡ entry = Contains-one _ entry member in
      let same : Some kinds.Blob ≡ Some kind = ap (λ (e : Entry). kind_named e.mode) only ∙ as_kind in
      record {
        text = blob_object version;
        member = Contains-first (blob_object version) [];
        is_named = ap (λ (e : Entry). e.object) only ∙ is;
        object = object.Blob version;
        is = blob_is;
        is_kind = cc;
      }

  parent_held : (p : Option Name) (name : Name) → HasParent held p → Contains (option_to_list p) name → IsHeldAs held name kinds.Commit
  parent_held None name has member = absurd (omega (arith, member.1))
  parent_held (Some head) name has member = subst (λ (n : Name). IsHeldAs held n kinds.Commit) (Contains-one head name member) has

  commit_names : HasParent held parent → (name : Name) (kind : Kind) → Names (object.Commit (version_commit (object_name (tree_object version)) parent now)) name kind
      → IsHeldAs held name kind ⊎ IsAmong (tree_object version ∷ blob_object version ∷ []) name kind
  commit_names has name kind (inl tree) = inr (record {
    text = tree_object version;
    member = Contains-first (tree_object version) (blob_object version ∷ []);
    is_named = tree.0;
    object = object.Tree (version_tree (object_name (blob_object version)));
    is = tree_is;
    is_kind = sym tree.1;
  })
  commit_names has name kind (inr before) = inl (subst (IsHeldAs held name) (sym before.1) (parent_held parent name has before.0))

  -- each object names what comes before it, and the parent
  pub name_before : HasParent held parent → NameBefore held [] (version_objects version parent now)
  name_before has = (
    object.Blob version,
    blob_is,
    λ name kind never. absurd never,
    (
      object.Tree (version_tree (object_name (blob_object version))),
      tree_is,
      λ name kind names. inr (tree_names name kind names),
      (object.Commit (version_commit (object_name (tree_object version)) parent now), commit_is, commit_names has, tt),
    ),
  )
