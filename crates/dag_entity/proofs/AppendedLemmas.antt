-- What holds of a commit that is added to an entity by its definitions alone: what is held after it, its node, and what its objects name.
use Rattle.std.proofs.Common.{◌≡◌, ◌<◌, ◌^◌, ◌⊎◌, ℕ, List, [], ◌∷◌, Option, Some, None, option_and_then, inl, inr, refl, sym, ◌∙◌, ap, subst, arith}
use Rattle.std.specs.List.{AllByRecursion}
use Rattle.gb_text.specs.Digits.{IsId, IsName}
use Rattle.gb_text.specs.declared.id.Name.{Name}
use Rattle.gb_store.specs.Files.{History}
use Rattle.gb_store.specs.Moments.{Wrote}
use Rattle.git_object.specs.declared.commit.Commit.{Commit}
use Rattle.git_object.specs.declared.entry.Entry.{Entry}
use Rattle.git_object.specs.declared.frame.Kind.{Kind}
use Rattle.git_object.specs.declared.frame.Kind.TheVariants as kinds
use Rattle.git_object.specs.declared.object.Object.{Object}
use Rattle.git_object.specs.declared.object.Object.TheVariants as object
use Rattle.git_object.specs.declared.tree.Tree.{Tree}
use Rattle.git_object.specs.Grammar.{IsCommitText, IsContent, IsObjectText, IsTreeText, framed, kind_of, object_name}
use Rattle.git_object.specs.Reading.{object_of}
use Rattle.git_object.proofs.NameLaws.{IsName-object_name}
use Rattle.git_object.proofs.ObjectLaws.{framed_reads, with_again}
use Rattle.object_store.specs.Held.{Objects, object_at, objects_after, text_at}
use Rattle.object_store.specs.Typed.{HoldsAs, as_blob, as_commit, as_tree, blob_at, commit_at, tree_at}
use Rattle.object_store.proofs.GrowthLemmas.{bind-some}
use Rattle.object_store.proofs.HeldLemmas.{object_at-is}
use Rattle.object_batch.specs.Batches.{AllStand, MayBePut}
use Rattle.object_batch.specs.Commits.{written_commit}
use Rattle.object_batch.specs.Needs.{IsHeldAs, Names, PutsAfterNeeds, kind_named}
use Rattle.object_batch.proofs.ClashLemmas.{Contains-first, Contains-later}
use Rattle.object_batch.proofs.CommitLemmas.{commit_texts}
use Rattle.object_batch.proofs.NeedLemmas.{batch_needed}
use Rattle.object_batch.proofs.OrderLemmas.{IsAmong, NameBefore, in_need_order}
use Rattle.commit_pack.specs.Packs.{pack_in, pack_of_head}
use Rattle.op_kind.specs.Meaning.{KeepsLaws, Meaning}
use Rattle.op_pack.specs.Packs.{pack_at, pack_text, written_pack}
use Rattle.op_pack.specs.declared.pack.Pack.{Pack}
use Rattle.op_pack.proofs.BackLaws.{reads_back}
use Rattle.op_pack.proofs.TreeLemmas.{tree_head}
use Rattle.dag_entity.specs.Appending.{AreHeld, CanBeRead, MayBeAppended, after_append, appended_head, appended_name, appended_node, appended_objects, appended_tree, commit_content, commit_object, empty_object, pack_object, tree_content, tree_name, tree_object}
use Rattle.dag_entity.specs.Nodes.{IsNode}
use Rattle.dag_entity.proofs.AppendLemmas.{holds_among, tree_says, tree_text}

-- ---- parents

-- what a name holds that is held as a commit has that name
holds_name : (objects : Objects) (name : Name) → HoldsAs as_commit objects name → IsName name
holds_name objects name holds =
    let found = bind-some as_commit (object_at objects name) holds.0 holds.1 in
    let held = object_at-is objects name found.0 found.1 in
    subst IsName held.is_named (IsName-object_name held.text)

-- the names of held parents are names
pub parent_names : (objects : Objects) (parents : List Name) → AreHeld objects parents → AllByRecursion IsName parents
parent_names objects [] held = tt
parent_names objects (p ∷ ps) held =
    (holds_name objects p (held p (Contains-first p ps)), parent_names objects ps (λ q member. held q (Contains-later p ps q member)))

-- and are held as commits
as_parent : (objects : Objects) (name : Name) → HoldsAs as_commit objects name → IsHeldAs objects name kinds.Commit
as_parent objects name holds =
    let found = bind-some as_commit (object_at objects name) holds.0 holds.1 in
    record { object = found.0; is = found.1; is_kind = each found.0 found.2 }
  where
    each : (o : Object) → as_commit o ≡ Some holds.0 → kind_of o ≡ kinds.Commit
    each (object.Blob content) e = absurd (cc)
    each (object.Tree tree) e = absurd (cc)
    each (object.Commit commit) e = refl

-- ---- the pack

-- a pack that can be read again reads back
pub pack_reads : {Op State Row : Type 0} (k : Meaning Op State Row) (pack : Pack Op) → KeepsLaws k → IsId pack.author → CanBeRead k pack
    → pack_at k (appended_head k pack) (pack_text k pack.author pack.ops) ≡ Some (written_pack k (appended_head k pack) pack.author pack.ops)
pack_reads k pack laws author can = reads_back k laws (appended_head k pack) pack.author pack.ops author can.few can.stand

-- ---- what is held

-- what a name holds of which the text stands
holds_object : (objects : Objects) (o : Object) (content : List ℕ) → IsContent content o → text_at objects (object_name (framed (kind_of o) content)) ≡ Some (framed (kind_of o) content)
    → object_at objects (object_name (framed (kind_of o) content)) ≡ Some o
holds_object objects o content is stands =
    ap (option_and_then object_of) stands ∙ framed_reads (kind_of o) content ∙ with_again content o is

module _ {Op State Row : Type 0} (k : Meaning Op State Row) (parents : List Name) (pack : Pack Op) (now : ℕ) (may : MayBeAppended k pack) (moment : now < 2 ^ 64)
    (names : AllByRecursion IsName parents) where
  abbrev blob : Name
  blob = object_name (pack_object k pack)

  abbrev tree : Tree
  tree = appended_tree pack.edit pack.create blob

  abbrev commit : Commit
  commit = written_commit (tree_name k pack) parents now

  -- the contents of the tree and of the commit are theirs
  tree_content_is : IsTreeText (tree_content pack.edit pack.create blob) tree
  tree_content_is = tree_text pack.edit pack.create blob may.edit may.create (IsName-object_name (pack_object k pack))

  commit_content_is : IsCommitText (commit_content (tree_name k pack) parents now) commit
  commit_content_is = record {
    tree = IsName-object_name (tree_object k pack);
    parents = names;
    texts = commit_texts now commit moment refl refl refl;
    text = refl;
  }

  -- ---- the node

  module _ (objects : Objects) (stand : AllStand objects (appended_objects k parents pack now)) where
    pack_held : blob_at objects blob ≡ Some (pack_text k pack.author pack.ops)
    pack_held = ap (option_and_then as_blob) (holds_object objects (object.Blob (pack_text k pack.author pack.ops)) (pack_text k pack.author pack.ops) refl (stand 1 [] (omega arith)))

    tree_held : tree_at objects (tree_name k pack) ≡ Some tree
    tree_held = ap (option_and_then as_tree) (holds_object objects (object.Tree tree) (tree_content pack.edit pack.create blob) tree_content_is (stand 2 [] (omega arith)))

    commit_held : commit_at objects (appended_name k parents pack now) ≡ Some commit
    commit_held = ap (option_and_then as_commit)
        (holds_object objects (object.Commit commit) (commit_content (tree_name k pack) parents now) commit_content_is (stand 3 [] (omega arith)))

    -- where its objects stand, a commit has its parents and its pack
    pub node_stands : pack_at k (appended_head k pack) (pack_text k pack.author pack.ops) ≡ Some (written_pack k (appended_head k pack) pack.author pack.ops)
        → IsNode k objects (appended_node k parents pack now)
    node_stands reads = record {
      commit = commit;
      held = commit_held;
      parents = refl;
      pack = ap (option_and_then (pack_in k objects)) tree_held
          ∙ ap (option_and_then (pack_of_head k objects)) (tree_says pack.edit pack.create blob ∙ tree_head pack.edit pack.create blob may.edit may.create)
          ∙ ap (option_and_then (pack_at k (appended_head k pack))) pack_held
          ∙ reads;
    }

  -- ---- what its objects name

  empty_is : IsObjectText empty_object (object.Blob [])
  empty_is = record { content = []; is = refl; frames = refl }

  pack_is : IsObjectText (pack_object k pack) (object.Blob (pack_text k pack.author pack.ops))
  pack_is = record { content = pack_text k pack.author pack.ops; is = refl; frames = refl }

  tree_is : IsObjectText (tree_object k pack) (object.Tree tree)
  tree_is = record { content = tree_content pack.edit pack.create blob; is = tree_content_is; frames = refl }

  commit_is : IsObjectText (commit_object k parents pack now) (object.Commit commit)
  commit_is = record { content = commit_content (tree_name k pack) parents now; is = commit_content_is; frames = refl }

  abbrev blobs : List (List ℕ)
  blobs = pack_object k pack ∷ empty_object ∷ []

  -- an entry of the tree names one of the two blobs
  record NamesBlob (entry : Entry) : Type 0 where
    as_blob : kind_named entry.mode ≡ Some kinds.Blob
    among : IsAmong blobs entry.object kinds.Blob

  pack_among : IsAmong blobs blob kinds.Blob
  pack_among = record {
    text = pack_object k pack;
    member = (0, omega arith, refl);
    is_named = refl;
    object = object.Blob (pack_text k pack.author pack.ops);
    is = pack_is;
    is_kind = refl;
  }

  empty_among : IsAmong blobs (object_name empty_object) kinds.Blob
  empty_among = record { text = empty_object; member = (1, omega arith, refl); is_named = refl; object = object.Blob []; is = empty_is; is_kind = refl }

  rest_named : AllByRecursion NamesBlob (appended_tree pack.edit None blob).entries
  rest_named = (
    record { as_blob = refl; among = empty_among },
    (record { as_blob = refl; among = pack_among }, (record { as_blob = refl; among = empty_among }, tt)),
  )

  entries_named : (create : Option ℕ) → AllByRecursion NamesBlob (appended_tree pack.edit create blob).entries
  entries_named None = rest_named
  entries_named (Some n) = (record { as_blob = refl; among = empty_among }, rest_named)

  tree_names : (name : Name) (kind : Kind) → Names (object.Tree tree) name kind → IsAmong blobs name kind
  tree_names name kind (entry, member, is, as_kind) =
      let names = holds_among NamesBlob tree.entries entry (entries_named pack.create) member in
      let same : Some kinds.Blob ≡ Some kind = sym names.as_blob ∙ as_kind in
      let is_kind : kinds.Blob ≡ kind = cc in
      subst (IsAmong blobs name) is_kind
      (subst (λ (n : Name). IsAmong blobs n kinds.Blob) is names.among)

  commit_names : (held : Objects) → AreHeld held parents → (name : Name) (kind : Kind) → Names (object.Commit commit) name kind
      → IsHeldAs held name kind ⊎ IsAmong (tree_object k pack ∷ pack_object k pack ∷ empty_object ∷ []) name kind
  commit_names held are name kind (inl tree_named) = inr (record {
    text = tree_object k pack;
    member = (0, omega arith, refl);
    is_named = tree_named.0;
    object = object.Tree tree;
    is = tree_is;
    is_kind = sym tree_named.1;
  })
  commit_names held are name kind (inr before) = inl (subst (IsHeldAs held name) (sym before.1) (as_parent held name (are name before.0)))

  -- each object names what comes before it, and the parents
  name_before : (held : Objects) → AreHeld held parents → NameBefore held [] (appended_objects k parents pack now)
  name_before held are = (
    object.Blob [],
    empty_is,
    λ name kind never. absurd never,
    (
      object.Blob (pack_text k pack.author pack.ops),
      pack_is,
      λ name kind never. absurd never,
      (
        object.Tree tree,
        tree_is,
        λ name kind named. inr (tree_names name kind named),
        (object.Commit commit, commit_is, commit_names held are, tt),
      ),
    ),
  )

  -- each object is put after all that it names
  pub append_needed : (folder : List ℕ) (old : History) → AreHeld (objects_after old folder) parents → MayBePut folder (appended_objects k parents pack now) old
      → Wrote (PutsAfterNeeds folder (appended_objects k parents pack now)) old (after_append k folder parents pack now old)
  append_needed folder old are free = batch_needed folder (appended_objects k parents pack now) old free
      (in_need_order folder (appended_objects k parents pack now) old free (name_before (objects_after old folder) are))
