-- Two valid heads fail together by a limit alone, where operations stand once below both.
use Rattle.std.proofs.Common.{◌≡◌, ◌≢◌, inl, inr, List, [], ◌∷◌, ◌+◌, map, Contains, Some, option_and_then, refl, sym, ◌∙◌, ap, subst, arith}
use Rattle.std.specs.List.{slice_get}
use Rattle.std.proofs.lemmas.List.{length-map}
use Rattle.gb_text.specs.declared.id.Id.{Id}
use Rattle.gb_text.specs.declared.id.Name.{Name}
use Rattle.git_object.specs.declared.commit.Commit.{Commit}
use Rattle.object_store.specs.Held.{Objects}
use Rattle.object_store.specs.declared.read.TheConstants.{MOST_BYTES}
use Rattle.commit_walk.proofs.DistinctLemmas.{Contains-first}
use Rattle.commit_pack.specs.Packs.{PackNeeds, pack_under}
use Rattle.commit_pack.specs.declared.fault.CommitPackFault.{CommitPackFault}
use Rattle.commit_pack.specs.declared.fault.CommitPackFault.TheVariants as pack
use Rattle.op_kind.specs.Meaning.{KeepsLaws, Meaning}
use Rattle.op_pack.specs.declared.pack.Pack.{Pack}
use Rattle.dag_entity.specs.Entities.{IsOperationCommit}
use Rattle.dag_entity.specs.Faults.{EntityFaultHolds, IsRootCommit, IsRootNode, IsValid, MayNotOpen}
use Rattle.dag_entity.specs.Joining.{TakesBoth}
use Rattle.dag_entity.specs.Nodes.{HasPackFault, IsCommitBelow, IsNeeded, IsNodeBelow, ids_of, pack_at}
use Rattle.dag_entity.specs.declared.entity.Loaded.{Loaded}
use Rattle.dag_entity.specs.declared.entity.Placed.{Placed}
use Rattle.dag_entity.specs.declared.fault.EntityFault.{EntityFault}
use Rattle.dag_entity.specs.declared.fault.EntityFault.TheVariants as fault
use Rattle.dag_entity.proofs.LawValid.{below_pack_or_fault, pack_of_node}
use Rattle.dag_entity.proofs.SplitLemmas.{wrong_with_both}
use Rattle.operation_origins.specs.Limits.{IsLimit, StandOnceBelow}

module _ {Op State Row : Type 0} (k : Meaning Op State Row) (objects : Objects) where
  -- a node in whose pack an operation's id stands is an operation commit
  operation_of : (heads : List Name) (node : Loaded Op) (id : Id) → IsNodeBelow k objects heads node → Contains (ids_of k node.placed.pack) id → IsOperationCommit k objects heads node.placed
  operation_of heads node id below (place, within, is) = record {
    below = below.below;
    has = pack_of_node k objects node below.is;
    some = omega (arith, within, length-map node.placed.pack.ops (λ (op : Op). (k.common_of op).place.id));
  }

-- ---- below one valid head

module _ {Op State Row : Type 0} (k : Meaning Op State Row) (laws : KeepsLaws k) (objects : Objects) (id : Id) (authors : List Id) (top : Name) (valid : IsValid k objects id (top ∷ []) authors) where
  -- what a pack needs is needed
  needed : (name : Name) (commit : Commit) → IsCommitBelow objects (top ∷ []) name commit → (n : Name) → PackNeeds objects commit.tree n → IsNeeded objects (top ∷ []) n
  needed name commit is n needs = inr (record { high = name; commit = commit; is = is; needs = needs })

  -- each commit has a pack
  no_pack_fault : (name : Name) (f : CommitPackFault) → HasPackFault k objects (top ∷ []) name f → ⊥
  unfolding EntityFaultHolds
  no_pack_fault name pack.Memory h = h.holds
  no_pack_fault name pack.Disk h = h.holds
  no_pack_fault name (pack.Missing n) h = valid (fault.Missing n) (needed name h.commit h.is n h.holds.0, h.holds.1)
  no_pack_fault name (pack.Damaged n) h = valid (fault.Damaged n) (needed name h.commit h.is n h.holds.0, h.holds.1)
  no_pack_fault name (pack.Large n) h = valid (fault.TooLarge (MOST_BYTES + 1)) (inr (inr (refl, (n, needed name h.commit h.is n h.holds.0, h.holds.1))))
  no_pack_fault name pack.BadTree h = valid (fault.BadTree name) h
  no_pack_fault name (pack.UnknownVersion n) h = valid (fault.UnknownVersion name n) h
  no_pack_fault name pack.NoOps h = valid (fault.NoOps name) h
  no_pack_fault name pack.BadClock h = valid (fault.BadClock name) h
  no_pack_fault name pack.BadPack h = valid (fault.BadPack name) h
  no_pack_fault name (pack.BadOperation i f) h = valid (fault.BadOperation name i f) h
  no_pack_fault name (pack.TooLarge n) h = valid (fault.TooLarge n) (inr (inl (name, h)))

  -- each root is an operation commit, in which the entity's id stands
  root_begins : (name : Name) → IsRootCommit objects (top ∷ []) name
      → ((placed : Placed Op) → placed.commit ≡ name → IsOperationCommit k objects (top ∷ []) placed → Contains (ids_of k placed.pack) id → ⊥) → ⊥
  unfolding EntityFaultHolds
  root_begins name root never = elim (below_pack_or_fault k laws objects (top ∷ []) name root.commit root.is) [
    | inl found ↦ by found.0 found.1 found.0.ops refl
    | inr fails ↦ no_pack_fault name fails.0 fails.1
  ]
    where
      node : Pack Op → Loaded Op
      node pack = record { parents = root.commit.parents; placed = record { commit = name; pack = pack } }

      is_root : (pack : Pack Op) → pack_at k objects name ≡ Some pack → IsRootNode k objects (top ∷ []) (node pack)
      is_root pack has = record {
        is = record {
          below = root.is.below;
          is = record {
            commit = root.commit;
            held = root.is.held;
            parents = refl;
            pack = sym (ap (option_and_then (λ (c : Commit). pack_under k objects c.tree)) root.is.held) ∙ has;
          };
        };
        root = root.root;
      }

      by : (pack : Pack Op) → pack_at k objects name ≡ Some pack → (ops : List Op) → pack.ops ≡ ops → ⊥
      by pack has [] e = valid fault.FirstNotCreate (record { node = node pack; is = is_root pack has; bad = subst (MayNotOpen k) (sym e) tt })
      by pack has (op ∷ ops) e =
          let first : Id = (k.common_of op).place.id in
          let ids : ids_of k pack ≡ first ∷ map (λ (o : Op). (k.common_of o).place.id) ops = ap (map (λ (o : Op). (k.common_of o).place.id)) e in
          let stands : Contains (ids_of k pack) first = subst (λ (l : List Id). Contains l first) (sym ids) (Contains-first first (map (λ (o : Op). (k.common_of o).place.id) ops)) in
          valid (fault.WrongId first) (record {
            node = node pack;
            is = is_root pack has;
            first = ap (λ (l : List Id). slice_get l 0) ids;
            wrong = λ same. never (node pack).placed refl (operation_of k objects (top ∷ []) (node pack) first (is_root pack has).is stands) (subst (Contains (ids_of k pack)) same stands);
          })

-- ---- below both

module _ {Op State Row : Type 0} (k : Meaning Op State Row) (laws : KeepsLaws k) (objects : Objects) (id : Id) (authors : List Id) (one two : Name)
    (first : IsValid k objects id (one ∷ []) authors) (second : IsValid k objects id (two ∷ []) authors) (once : StandOnceBelow k objects one two) where
  -- both have one root
  same_root : (a b : Name) → IsRootCommit objects (one ∷ []) a → IsRootCommit objects (two ∷ []) b → a ≢ b → ⊥
  same_root a b root_a root_b differ =
      root_begins k laws objects id authors one first a root_a (λ p at_p is_p in_p.
      root_begins k laws objects id authors two second b root_b (λ q at_q is_q in_q.
      differ (sym at_p ∙ ap (λ (placed : Placed Op). placed.commit) (once p q id is_p is_q in_p in_q) ∙ at_q)))

  limit_of : (f : EntityFault) → TakesBoth k objects one two f → IsLimit f
  limit_of (fault.SecondRoot name) (inl h) = same_root name h.other h.one h.two h.differ
  limit_of (fault.SecondRoot name) (inr h) = same_root h.other name h.two h.one (λ same. h.differ (sym same))
  limit_of (fault.RepeatedOperation found) h =
      h.differ (ap (λ (placed : Placed Op). placed.commit) (once h.one.placed h.two.placed found
      (operation_of k objects (one ∷ []) h.one found h.is_one h.in_one) (operation_of k objects (two ∷ []) h.two found h.is_two h.in_two) h.in_one h.in_two))
  limit_of (fault.TooLarge count) h = h.0
  limit_of (fault.ClockFull name) h = tt
  limit_of _ h = h

  pub limit_alone : (f : EntityFault) → EntityFaultHolds k objects id (one ∷ two ∷ []) authors f → IsLimit f
  limit_alone f holds = limit_of f (wrong_with_both k objects id authors one two first second f holds)
