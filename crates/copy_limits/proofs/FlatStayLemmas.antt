-- Where trees are flat they stay so, and are so in other stores that hold the same.
use Rattle.std.proofs.Common.{◌≡◌, inl, inr, refl, sym, ◌∙◌, ap, subst, [], ◌∷◌, Contains, Option, Some, option_and_then}
use Rattle.std.proofs.lemmas.Option.{same_Some}
use Rattle.gb_text.specs.declared.id.Name.{Name}
use Rattle.git_object.specs.declared.commit.Commit.{Commit}
use Rattle.git_object.specs.declared.frame.Kind.TheVariants as kinds
use Rattle.git_object.specs.declared.object.Object.{Object}
use Rattle.git_object.specs.declared.object.Object.TheVariants as object
use Rattle.git_object.specs.Reading.{object_of}
use Rattle.object_store.specs.Growth.{OnlyGrew}
use Rattle.object_store.specs.Held.{Objects, object_at, text_at}
use Rattle.object_store.specs.Typed.{as_commit, as_tree, commit_at, tree_at}
use Rattle.object_store.proofs.GrowthLemmas.{bind-some, stays}
use Rattle.object_batch.specs.Needs.{IsHeldAs, IsWhole}
use Rattle.object_batch.proofs.LeadLemmas.{held_commit, held_tree}
use Rattle.commit_walk.specs.Below.{IsBelow, IsParent, head, parent}
use Rattle.commit_walk.proofs.DistinctLemmas.{Contains-first, Contains-one}
use Rattle.dag_entity.specs.Folders.{HaveOneText}
use Rattle.copy_limits.specs.Flat.{HasFlatTree, HasFlatTrees, IsFlat}

-- an object that reads as a commit is one
commit_is : (o : Object) (commit : Commit) → as_commit o ≡ Some commit → o ≡ object.Commit commit
commit_is (object.Blob content) commit e = absurd (cc e)
commit_is (object.Tree tree) commit e = absurd (cc e)
commit_is (object.Commit found) commit e = ap object.Commit (same_Some found commit e)

commit_object : (held : Objects) (name : Name) (commit : Commit) → commit_at held name ≡ Some commit → object_at held name ≡ Some (object.Commit commit)
commit_object held name commit e =
    let found = bind-some as_commit (object_at held name) commit e in
    found.1 ∙ ap Some (commit_is found.0 commit found.2)

-- ---- more objects

module _ (old new : Objects) (grew : OnlyGrew old new) where
  -- a flat tree stays
  tree_stays : (name : Name) → HasFlatTree old name → HasFlatTree new name
  tree_stays name flat = record {
    commit = flat.commit;
    held = stays old new grew as_commit name flat.commit flat.held;
    tree = flat.tree;
    is_tree = stays old new grew as_tree flat.commit.tree flat.tree flat.is_tree;
    is = flat.is;
  }

  module _ (top : Name) (flat : HasFlatTrees old top) where
    -- no more lies below the head
    below_before : (name : Name) → IsBelow new (top ∷ []) name → IsBelow old (top ∷ []) name
    below_before name (head c) = head c
    below_before name (parent {high = high} b p) =
        let below = below_before high b in
        let here = flat high below in
        let same : p.commit ≡ here.commit = same_Some p.commit here.commit (sym p.held ∙ stays old new grew as_commit high here.commit here.held) in
        parent below (record { commit = here.commit; held = here.held; names = subst (λ (c : Commit). Contains c.parents name) same p.names })

    pub flat_grown : HasFlatTrees new top
    flat_grown name below = tree_stays name (flat name (below_before name below))

-- ---- a commit over others

-- what lies below a name and is another lies below one of its parents
way_down : (objects : Objects) (name on low : Name) → IsBelow objects (name ∷ []) on → IsParent objects on low → (up : Name) × IsParent objects name up × IsBelow objects (up ∷ []) low
way_down objects name on low (head c) p = (low, subst (λ (n : Name). IsParent objects n low) (sym (Contains-one name on c)) p, head (Contains-first low []))
way_down objects name on low (parent {high = high} b q) p = let before = way_down objects name high on b q in (before.0, before.1, parent before.2 p)

pub flat_over : (objects : Objects) (name : Name) → HasFlatTree objects name
    → ((low : Name) → IsParent objects name low → HasFlatTrees objects low) → HasFlatTrees objects name
flat_over objects name flat lower low (head c) = subst (HasFlatTree objects) (Contains-one name low c) flat
flat_over objects name flat lower low (parent {high = high} b p) = let way = way_down objects name high low b p in lower way.0 way.1 low way.2

-- ---- another store

-- what both hold under a name is the same object
same_held : (one two : Objects) → HaveOneText one two → (name : Name) (a b : Object) → object_at one name ≡ Some a → object_at two name ≡ Some b → a ≡ b
same_held one two alike name a b here there =
    let first = bind-some object_of (text_at one name) a here in
    let second = bind-some object_of (text_at two name) b there in
    let same = alike name first.0 second.0 first.1 second.1 in
    same_Some a b (sym first.2 ∙ ap object_of same ∙ second.2)

-- and so is what they read it as
same_read : {A : Type 0} (read : Object → Option A) (one two : Objects) → HaveOneText one two → (name : Name) (a b : A)
    → option_and_then read (object_at one name) ≡ Some a → option_and_then read (object_at two name) ≡ Some b → a ≡ b
same_read read one two alike name a b here there =
    let first = bind-some read (object_at one name) a here in
    let second = bind-some read (object_at two name) b there in
    same_Some a b (sym first.2 ∙ ap read (same_held one two alike name first.0 second.0 first.1 second.1) ∙ second.2)

module _ (source target : Objects) (alike : HaveOneText source target) (whole : IsWhole target) (top : Name) (held : IsHeldAs target top kinds.Commit) (flat : HasFlatTrees source top) where
  -- what lies below the head in the one does in the other, which holds it
  both_below : (name : Name) → IsBelow target (top ∷ []) name → IsBelow source (top ∷ []) name × IsHeldAs target name kinds.Commit
  both_below name (head c) = (head c, subst (λ (n : Name). IsHeldAs target n kinds.Commit) (Contains-one top name c) held)
  both_below name (parent {high = high} b p) =
      let before = both_below high b in
      let here = flat high before.0 in
      let same : here.commit ≡ p.commit = same_read as_commit source target alike high here.commit p.commit here.held p.held in (
        parent before.0 (record { commit = here.commit; held = here.held; names = subst (λ (c : Commit). Contains c.parents name) (sym same) p.names }),
        whole.needs high (object.Commit p.commit) (commit_object target high p.commit p.held) name kinds.Commit (inr (p.names, refl)),
      )

  pub flat_alike : HasFlatTrees target top
  flat_alike name below =
      let both = both_below name below in
      let there = flat name both.0 in
      let commit = held_commit target name both.1 in
      let same : there.commit ≡ commit.0 = same_read as_commit source target alike name there.commit commit.0 there.held commit.1 in
      let tree = held_tree target commit.0.tree (whole.needs name (object.Commit commit.0) (commit_object target name commit.0 commit.1) commit.0.tree kinds.Tree (inl (refl, refl))) in
      let read : tree_at source commit.0.tree ≡ Some there.tree = ap (λ (c : Commit). tree_at source c.tree) (sym same) ∙ there.is_tree in
      let trees : there.tree ≡ tree.0 = same_read as_tree source target alike commit.0.tree there.tree tree.0 read tree.1 in
      record { commit = commit.0; held = commit.1; tree = tree.0; is_tree = tree.1; is = subst IsFlat trees there.is }
