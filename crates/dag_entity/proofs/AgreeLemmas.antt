-- Where two stores agree about what is needed, they have the same commits below the heads, with the same packs.
use Rattle.std.proofs.Common.{◌≡◌, ℕ, List, Contains, Option, Some, None, option_and_then, inl, inr, refl, sym, ◌∙◌, ap}
use Rattle.gb_text.specs.declared.id.Name.{Name}
use Rattle.git_object.specs.declared.commit.Commit.{Commit}
use Rattle.git_object.specs.declared.object.Object.{Object}
use Rattle.git_object.specs.declared.tree.Tree.{Tree}
use Rattle.git_object.specs.Reading.{object_of}
use Rattle.object_store.specs.Held.{Objects, named, object_at}
use Rattle.object_store.specs.Typed.{as_blob, as_commit, as_tree, commit_at, tree_at}
use Rattle.commit_walk.specs.Below.{IsBelow, IsParent, head, parent}
use Rattle.commit_walk.proofs.BelowLemmas.{below_below}
use Rattle.commit_pack.specs.Packs.{NamesOps, PackNeeds, pack_in, pack_of_head, pack_under}
use Rattle.op_kind.specs.Meaning.{Meaning}
use Rattle.op_pack.specs.Heads.{edit_clock_of, head_of}
use Rattle.op_pack.specs.Packs.{pack_at as text_pack}
use Rattle.op_pack.specs.declared.head.TreeHead.{TreeHead}
use Rattle.op_pack.proofs.HeadLaws.{head_parts}
use Rattle.dag_entity.specs.Agreeing.{SameNeeded}
use Rattle.dag_entity.specs.Nodes.{IsCommitBelow, IsNeeded, edit_at, pack_at}

-- what is found in the same option by readings that agree is the same
found_same : {A B : Type 0} (f g : A → Option B) (o p : Option A) → p ≡ o → ((a : A) → o ≡ Some a → f a ≡ g a) → option_and_then f p ≡ option_and_then g o
found_same {A = A} {B = B} f g o p e agree = ap (option_and_then f) e ∙ each o agree
  where
    each : (o : Option A) → ((a : A) → o ≡ Some a → f a ≡ g a) → option_and_then f o ≡ option_and_then g o
    each None agree = refl
    each (Some a) agree = agree a refl

module _ (here there : Objects) (heads : List Name) (agree : SameNeeded here there heads) where
  -- ---- objects and commits

  pub object_same : (name : Name) → IsNeeded here heads name → object_at there name ≡ object_at here name
  object_same name needed = ap (λ (file : Option (List ℕ)). option_and_then object_of (option_and_then (named name) file)) (agree.same name needed)

  pub commit_same : (name : Name) → IsBelow here heads name → commit_at there name ≡ commit_at here name
  commit_same name below = ap (option_and_then as_commit) (object_same name (inl below))

  parent_over : (high low : Name) → IsBelow here heads high → IsParent here high low → IsParent there high low
  parent_over high low below p = record { commit = p.commit; held = commit_same high below ∙ p.held; names = p.names }

  parent_back : (high low : Name) → IsBelow here heads high → IsParent there high low → IsParent here high low
  parent_back high low below p = record { commit = p.commit; held = sym (commit_same high below) ∙ p.held; names = p.names }

  -- what is below heads, or below some of what is below them
  module _ (tops : List Name) (all : (top : Name) → Contains tops top → IsBelow here heads top) where
    pub below_over_tops : (name : Name) → IsBelow here tops name → IsBelow there tops name
    below_over_tops name (head c) = head c
    below_over_tops name (parent {high = high} b p) = parent (below_over_tops high b) (parent_over high name (below_below here heads tops high all b) p)

    pub below_back_tops : (name : Name) → IsBelow there tops name → IsBelow here tops name
    below_back_tops name (head c) = head c
    below_back_tops name (parent {high = high} b p) =
        let below = below_back_tops high b in
        parent below (parent_back high name (below_below here heads tops high all below) p)

  pub below_over : (name : Name) → IsBelow here heads name → IsBelow there heads name
  below_over = below_over_tops heads (λ top c. head c)

  pub below_back : (name : Name) → IsBelow there heads name → IsBelow here heads name
  below_back = below_back_tops heads (λ top c. head c)

  -- ---- what a commit needs

  module _ (high : Name) (commit : Commit) (is : IsCommitBelow here heads high commit) where
    pub commit_over : IsCommitBelow there heads high commit
    commit_over = record { below = below_over high is.below; held = commit_same high is.below ∙ is.held }

    pub needs : (name : Name) → PackNeeds here commit.tree name → IsNeeded here heads name
    needs name n = inr (record { high = high; commit = commit; is = is; needs = n })

    pub tree_same : tree_at there commit.tree ≡ tree_at here commit.tree
    tree_same = ap (option_and_then as_tree) (object_same commit.tree (needs commit.tree (inl refl)))

    pub ops_over : (ops : Name) → NamesOps here commit.tree ops → NamesOps there commit.tree ops
    ops_over ops n = record { tree = n.tree; held = tree_same ∙ n.held; named = n.named }

    ops_back : (ops : Name) → NamesOps there commit.tree ops → NamesOps here commit.tree ops
    ops_back ops n = record { tree = n.tree; held = sym tree_same ∙ n.held; named = n.named }

    pub needs_over : (name : Name) → PackNeeds here commit.tree name → PackNeeds there commit.tree name
    needs_over name (inl e) = inl e
    needs_over name (inr n) = inr (ops_over name n)

    pub needs_back : (name : Name) → PackNeeds there commit.tree name → PackNeeds here commit.tree name
    needs_back name (inl e) = inl e
    needs_back name (inr n) = inr (ops_back name n)

  commit_back : (high : Name) (commit : Commit) → IsCommitBelow there heads high commit → IsCommitBelow here heads high commit
  commit_back high commit is = let below = below_back high is.below in record { below = below; held = sym (commit_same high below) ∙ is.held }

  -- the same is needed in both
  pub needed_over : (name : Name) → IsNeeded here heads name → IsNeeded there heads name
  needed_over name (inl below) = inl (below_over name below)
  needed_over name (inr n) = inr (record { high = n.high; commit = n.commit; is = commit_over n.high n.commit n.is; needs = needs_over n.high n.commit n.is name n.needs })

  needed_back : (name : Name) → IsNeeded there heads name → IsNeeded here heads name
  needed_back name (inl below) = inl (below_back name below)
  needed_back name (inr n) =
      let is = commit_back n.high n.commit n.is in
      inr (record { high = n.high; commit = n.commit; is = is; needs = needs_back n.high n.commit is name n.needs })

  pub agree_back : SameNeeded there here heads
  agree_back = record { same = λ name needed. sym (agree.same name (needed_back name needed)) }

  -- ---- edit clocks

  pub edit_same : (name : Name) → IsBelow here heads name → edit_at there name ≡ edit_at here name
  edit_same name below =
      found_same (λ (c : Commit). option_and_then edit_clock_of (tree_at there c.tree)) (λ (c : Commit). option_and_then edit_clock_of (tree_at here c.tree))
      (commit_at here name) (commit_at there name) (commit_same name below)
      (λ commit held. ap (option_and_then edit_clock_of) (tree_same name commit (record { below = below; held = held })))

  -- ---- packs

  module _ {Op State Row : Type 0} (k : Meaning Op State Row) where
    pub pack_under_same : (high : Name) (commit : Commit) → IsCommitBelow here heads high commit → pack_under k there commit.tree ≡ pack_under k here commit.tree
    pack_under_same high commit is =
        found_same (pack_in k there) (pack_in k here) (tree_at here commit.tree) (tree_at there commit.tree) (tree_same high commit is)
        (λ tree held. found_same (pack_of_head k there) (pack_of_head k here) (head_of tree) (head_of tree) refl (λ h says. by_head tree held h says))
      where
        by_head : (tree : Tree) → tree_at here commit.tree ≡ Some tree → (h : TreeHead) → head_of tree ≡ Some h → pack_of_head k there h ≡ pack_of_head k here h
        by_head tree held h says =
            let ops : NamesOps here commit.tree h.ops = record { tree = tree; held = held; named = (head_parts tree h says).ops } in
            ap (λ (o : Option Object). option_and_then (text_pack k h) (option_and_then as_blob o)) (object_same h.ops (needs high commit is h.ops (inr ops)))

    pub pack_same : (name : Name) → IsBelow here heads name → pack_at k there name ≡ pack_at k here name
    pack_same name below =
        found_same (λ (c : Commit). pack_under k there c.tree) (λ (c : Commit). pack_under k here c.tree)
        (commit_at here name) (commit_at there name) (commit_same name below)
        (λ commit held. pack_under_same name commit (record { below = below; held = held }))
