-- What holds of a new version by its definitions alone: its contents, what is held after it, its chain.
use Rattle.std.proofs.Common.{◌≡◌, ◌<◌, ◌^◌, ℕ, List, [], ◌∷◌, Option, Some, None, option_and_then, option_to_list, codes, refl, sym, ◌∙◌, ap, subst, arith}
use Rattle.std.specs.List.{AllByRecursion}
use Rattle.gb_text.specs.Digits.{IsName}
use Rattle.gb_text.specs.declared.id.Id.{Id}
use Rattle.gb_text.specs.declared.id.Name.{Name}
use Rattle.gb_store.specs.Files.{History, files_of}
use Rattle.gb_store.specs.Moments.{Wrote}
use Rattle.git_object.specs.declared.frame.Kind.TheVariants as kinds
use Rattle.git_object.specs.declared.object.Object.{Object}
use Rattle.git_object.specs.declared.object.Object.TheVariants as object
use Rattle.git_object.specs.Grammar.{object_name}
use Rattle.git_object.proofs.CutLaws.{lacks_by_test}
use Rattle.object_store.specs.Held.{Objects, object_at, objects_in}
use Rattle.object_store.proofs.HeldLemmas.{object_at-is}
use Rattle.object_batch.specs.Batches.{MayBePut}
use Rattle.object_batch.specs.Needs.{IsHeldAs, PutsAfterNeeds}
use Rattle.object_batch.proofs.CommitLemmas.{commit_texts}
use Rattle.git_object.proofs.NameLaws.{IsName-object_name}
use Rattle.object_batch.proofs.NeedLemmas.{batch_needed}
use Rattle.object_batch.proofs.OrderLemmas.{in_need_order}
use Rattle.object_batch.proofs.PlanLemmas.{batch_grew, batch_held}
use Rattle.commit_walk.specs.Chain.{Meets}
use Rattle.object_store.specs.Typed.{as_commit}
use Rattle.identity.specs.Commits.{HasVersion, text_in}
use Rattle.identity.specs.Extending.{Extends}
use Rattle.identity.specs.Making.{AreContents, HasParent, HoldsVersion, after_version, blob_object, made_of, tree_object, version_commit, version_objects}
use Rattle.identity.specs.Persons.{IsChain}
use Rattle.identity.specs.Version.{MayBeWritten, version_of, version_text_of, written_version}
use Rattle.identity.specs.declared.version.Version.{Version}
use Rattle.identity.proofs.ExtendLemmas.{extends}
use Rattle.identity.proofs.MakingLemmas.{holds_version}
use Rattle.identity.proofs.NeedLemmas.{name_before}
use Rattle.identity.proofs.VersionLemmas.{written_reads}

-- ---- parents

-- the name of a parent is one
parent_names : (objects : Objects) (parent : Option Name) → HasParent objects parent → AllByRecursion IsName (option_to_list parent)
parent_names objects None has = tt
parent_names objects (Some head) has =
    let held = object_at-is objects head has.object has.is in
    (subst IsName held.is_named (IsName-object_name held.text), tt)

-- the head of a chain is held, as a commit
pub head_held : (objects : Objects) (id : Id) (head : Name) → IsChain objects id head → IsHeldAs objects head kinds.Commit
head_held objects id head chain = each (object_at objects head) refl
  where
    has : (version : Version) × HasVersion objects head version
    has = chain.each head (record { above = []; chain = refl; near = omega arith })

    none : (o : Option Object) → option_and_then as_commit o ≡ None → object_at objects head ≡ o → ⊥
    none o no_commit e =
        cc (sym (ap (λ x. option_and_then version_of (option_and_then (λ commit. text_in objects commit.tree) x)) (ap (option_and_then as_commit) e ∙ no_commit)) ∙ has.1.is)

    each : (o : Option Object) → object_at objects head ≡ o → IsHeldAs objects head kinds.Commit
    each (Some (object.Commit commit)) e = record { object = object.Commit commit; is = e; is_kind = refl }
    each (Some (object.Tree tree)) e = absurd (none (Some (object.Tree tree)) refl e)
    each (Some (object.Blob content)) e = absurd (none (Some (object.Blob content)) refl e)
    each None e = absurd (none None refl e)

-- ---- contents

-- the contents of the tree and of the commit are theirs
are_contents : (version : List ℕ) (parent : Option Name) (now : ℕ) → now < 2 ^ 64 → AllByRecursion IsName (option_to_list parent) → AreContents version parent now
are_contents version parent now moment names = record {
  tree = record {
    each = (
      record {
        name = record { some = λ e. absurd (cc (e)); no_zero = lacks_by_test 0 (codes "version") refl; no_slash = lacks_by_test 47 (codes "version") refl };
        object = IsName-object_name (blob_object version);
      },
      tt,
    );
    distinct = λ i j d less below. absurd (omega arith);
    text = refl;
  };
  commit = record {
    tree = IsName-object_name (tree_object version);
    parents = names;
    texts = commit_texts now (version_commit (object_name (tree_object version)) parent now) moment refl refl refl;
    text = refl;
  };
}

module _ (folder name email nonce : List ℕ) (now : ℕ) (parent : Option Name) (old : History) (may : MayBeWritten name email nonce now)
    (has : HasParent (objects_in (files_of old) folder) parent) (free : MayBePut folder (version_objects (version_text_of name email nonce now) parent now) old) where
  abbrev text : List ℕ
  text = version_text_of name email nonce now

  abbrev new : Objects
  new = objects_in (files_of (after_version folder text parent now old)) folder

  contents : AreContents text parent now
  contents = are_contents text parent now (omega (arith, may.moment)) (parent_names (objects_in (files_of old) folder) parent has)

  -- its objects are held
  pub made_held : HoldsVersion new text parent now (made_of text parent now)
  made_held = holds_version new text parent now (version_objects text parent now) (made_of text parent now) refl contents refl
      (batch_held folder (version_objects text parent now) old free)

  -- its chain is the old one and this version
  pub made_extends : Extends (objects_in (files_of old) folder) new parent (written_version name email nonce now) (made_of text parent now)
  made_extends =
      extends (objects_in (files_of old) folder) new parent text now (made_of text parent now) (written_version name email nonce now)
      (batch_grew folder (version_objects text parent now) old free) refl made_held (written_reads name email nonce now may) refl

  -- each object comes after all that it names
  pub made_needed : Wrote (PutsAfterNeeds folder (version_objects text parent now)) old (after_version folder text parent now old)
  made_needed = batch_needed folder (version_objects text parent now) old free
      (in_need_order folder (version_objects text parent now) old free (name_before (objects_in (files_of old) folder) text parent now contents has))

-- the parent stands below the new head
pub made_below : (folder name email nonce : List ℕ) (now : ℕ) (head : Name) (old : History) → MayBeWritten name email nonce now
    → HasParent (objects_in (files_of old) folder) (Some head) → MayBePut folder (version_objects (version_text_of name email nonce now) (Some head) now) old
    → Meets (objects_in (files_of (after_version folder (version_text_of name email nonce now) (Some head) now old)) folder)
    (made_of (version_text_of name email nonce now) (Some head) now).head head
made_below folder name email nonce now head old may has free = record {
  above = record { name = (made_of (version_text_of name email nonce now) (Some head) now).head; tree = tree } ∷ [];
  chain = (
    refl,
    record {
      commit = version_commit tree (Some head) now;
      held = ap (option_and_then as_commit) (made_held folder name email nonce now (Some head) old may has free).commit;
      tree = refl;
      parents = refl;
    },
  );
  near = omega arith;
}
  where
    tree : Name
    tree = object_name (tree_object (version_text_of name email nonce now))
