-- Folders that hold what an entity needs agree about it, where no two object texts share a name.
use Rattle.std.proofs.Common.{◌≡◌, inl, inr, ⊎_elim, ◌<◌, ◌≤◌, ℕ, List, length, Option, Some, None, option_and_then, refl, sym, ◌∙◌, ap}
use Rattle.std.proofs.lemmas.Bool.{cases_lt}
use Rattle.gb_text.specs.declared.id.Id.{Id}
use Rattle.gb_text.specs.declared.id.Name.{Name}
use Rattle.git_object.specs.declared.object.Object.{Object}
use Rattle.git_object.specs.Reading.{object_of}
use Rattle.object_store.specs.Held.{Objects, named, object_at, text_at}
use Rattle.object_store.specs.Typed.{as_commit, as_tree, commit_at, tree_at}
use Rattle.object_store.proofs.GrowthLemmas.{bind-some}
use Rattle.object_store.proofs.HeldLemmas.{named-is}
use Rattle.commit_walk.specs.Below.{IsBelow, head, parent}
use Rattle.commit_pack.specs.Packs.{PackNeeds}
use Rattle.op_kind.specs.Meaning.{Meaning}
use Rattle.dag_entity.specs.Agreeing.{SameNeeded}
use Rattle.dag_entity.specs.Faults.{EntityFaultHolds, IsValid}
use Rattle.dag_entity.specs.Folders.{HaveOneText, HoldsNeeded}
use Rattle.dag_entity.specs.Nodes.{IsCommitBelow, IsNeeded}
use Rattle.dag_entity.specs.declared.fault.EntityFault.TheVariants as fault

-- the object text under a name is the file there
text_stands : (objects : Objects) (name : Name) (text : List ℕ) → text_at objects name ≡ Some text → objects name ≡ Some text
text_stands objects name text at =
    let was = bind-some (named name) (objects name) text at in
    was.1 ∙ ap Some (sym (named-is name was.0 text was.2).0)

-- names with the same file hold the same
object_same : (one two : Objects) (name : Name) → two name ≡ one name → object_at two name ≡ object_at one name
object_same one two name same = ap (λ (file : Option (List ℕ)). option_and_then object_of (option_and_then (named name) file)) same

module _ (one two : Objects) (heads : List Name) (alike : HaveOneText one two) (first : HoldsNeeded one heads) (second : HoldsNeeded two heads) where
  same_at : (name : Name) → IsNeeded one heads name → IsNeeded two heads name → two name ≡ one name
  same_at name here there =
      let a = first name here in
      let b = second name there in
      text_stands two name b.0 b.1 ∙ ap Some (sym (alike name a.0 b.0 a.1 b.1)) ∙ sym (text_stands one name a.0 a.1)

  below_too : (name : Name) → IsBelow one heads name → IsBelow two heads name
  below_too name (head c) = head c
  below_too name (parent {high = high} b p) =
      let there : IsBelow two heads high = below_too high b in
      let same : commit_at two high ≡ commit_at one high = ap (option_and_then as_commit) (object_same one two high (same_at high (inl b) (inl there))) in
      parent there (record { commit = p.commit; held = same ∙ p.held; names = p.names })

  needed_too : (name : Name) → IsNeeded one heads name → IsNeeded two heads name
  needed_too name (inl b) = inl (below_too name b)
  needed_too name (inr n) = inr (record { high = n.high; commit = n.commit; is = there; needs = by n.needs })
    where
      below : IsBelow two heads n.high
      below = below_too n.high n.is.below

      there : IsCommitBelow two heads n.high n.commit
      there = record { below = below; held = ap (option_and_then as_commit) (object_same one two n.high (same_at n.high (inl n.is.below) (inl below))) ∙ n.is.held }

      tree_same : tree_at two n.commit.tree ≡ tree_at one n.commit.tree
      tree_same = ap (option_and_then as_tree) (object_same one two n.commit.tree
          (same_at n.commit.tree (inr (record { high = n.high; commit = n.commit; is = n.is; needs = inl refl })) (inr (record { high = n.high; commit = n.commit; is = there; needs = inl refl }))))

      by : PackNeeds one n.commit.tree name → PackNeeds two n.commit.tree name
      by (inl e) = inl e
      by (inr ops) = inr (record { tree = ops.tree; held = tree_same ∙ ops.held; named = ops.named })

  pub folders_agree : SameNeeded one two heads
  folders_agree = record { same = λ name needed. same_at name needed (needed_too name needed) }

-- a folder in which an entity is valid holds what it needs
module _ {Op State Row : Type 0} (k : Meaning Op State Row) (objects : Objects) (id : Id) (heads : List Name) (authors : List Id) (valid : IsValid k objects id heads authors) where
  module _ (name : Name) (needed : IsNeeded objects heads name) where
    read : (text : List ℕ) → objects name ≡ Some text → length text ≤ 4194304 → (o : Option Object) → object_at objects name ≡ o → (it : List ℕ) × (text_at objects name ≡ Some it)
    unfolding EntityFaultHolds
    read text stands within None none = absurd (valid (fault.Damaged name) (needed, record { text = text; stands = stands; within = within; is_none = none }))
    read text stands within (Some o) some = let found = bind-some object_of (text_at objects name) o some in (found.0, found.1)

    stand : (file : Option (List ℕ)) → objects name ≡ file → (it : List ℕ) × (text_at objects name ≡ Some it)
    unfolding EntityFaultHolds
    stand None none = absurd (valid (fault.Missing name) (needed, none))
    stand (Some text) stands = ⊎_elim
        (λ (long : 4194304 < length text). absurd (valid (fault.TooLarge 4194305) (inr (inr (refl, (name, needed, record { text = text; stands = stands; long = long }))))))
        (λ (within : length text ≤ 4194304). read text stands within (object_at objects name) refl)
        (cases_lt 4194304 (length text))

  pub valid_holds : HoldsNeeded objects heads
  valid_holds name needed = stand name needed (objects name) refl
