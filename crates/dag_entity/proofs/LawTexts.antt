-- Two operation commits of a valid entity never have one text.
use Rattle.std.proofs.Common.{◌≡◌, ◌≢◌, inr, ℕ, List, [], ◌∷◌, length, map, Contains, Some, refl, sym, ◌∙◌, ap, subst, arith}
use Rattle.std.proofs.lemmas.Option.{same_Some}
use Rattle.gb_text.specs.declared.id.Id.{Id}
use Rattle.gb_text.specs.declared.id.Name.{Name}
use Rattle.git_object.specs.declared.commit.Commit.{Commit}
use Rattle.object_store.specs.Held.{Objects}
use Rattle.object_store.specs.Typed.{blob_at, commit_at, tree_at}
use Rattle.object_store.proofs.GrowthLemmas.{bind-some}
use Rattle.commit_walk.proofs.DistinctLemmas.{Contains-first}
use Rattle.commit_pack.specs.Packs.{pack_under}
use Rattle.commit_pack.proofs.LawLemmas.{pack_under-found}
use Rattle.op_kind.specs.Meaning.{KeepsLaws, Meaning}
use Rattle.op_pack.specs.Heads.{ops_of}
use Rattle.op_pack.specs.Packs.{IsPackOf, StandFor, hash_of, place_of}
use Rattle.op_pack.specs.declared.head.TreeHead.{TreeHead}
use Rattle.op_pack.proofs.HeadLaws.{head_parts}
use Rattle.op_pack.proofs.PartsLaws.{parts_only}
use Rattle.dag_entity.specs.Entities.{IsOperationCommit}
use Rattle.dag_entity.specs.Extending.{HasPackText}
use Rattle.dag_entity.specs.Faults.{EntityFaultHolds, IsValid}
use Rattle.dag_entity.specs.Nodes.{IsNodeBelow, ids_of, pack_at}
use Rattle.dag_entity.specs.declared.entity.Loaded.{Loaded}
use Rattle.dag_entity.specs.declared.entity.Placed.{Placed}
use Rattle.dag_entity.specs.declared.fault.EntityFault.TheVariants as fault
use Rattle.dag_entity.proofs.LawValid.{name_stable}

module _ {Op State Row : Type 0} (k : Meaning Op State Row) (laws : KeepsLaws k) where
  -- the ids of operations are the hashes of their texts
  ids_stand : (head : TreeHead) (author : Id) (slices : List (List ℕ)) (ops : List Op) → StandFor k head author slices ops → map (λ (op : Op). (k.common_of op).place.id) ops ≡ map hash_of slices
  ids_stand head author [] [] h = refl
  ids_stand head author [] (o ∷ os) h = absurd h
  ids_stand head author (s ∷ ss) [] h = absurd h
  ids_stand head author (s ∷ ss) (o ∷ os) h =
      let first : (k.common_of o).place.id ≡ hash_of s = ap (λ p. p.id) (laws.stands_there (place_of head author s) s o h.0) in
      let rest = ids_stand head author ss os h.1 in
      λ i. first i ∷ rest i

  module _ (objects : Objects) where
    record IsOfText (placed : Placed Op) (text : List ℕ) : Type 0 where
      pub head : TreeHead
      pub slices : List (List ℕ)
      pub is : IsPackOf k head text slices placed.pack

    -- a pack is of the text that its commit has
    of_text : (placed : Placed Op) (text : List ℕ) → pack_at k objects placed.commit ≡ Some placed.pack → HasPackText objects placed.commit text → IsOfText placed text
    of_text placed text has h =
        let commit = bind-some (λ (c : Commit). pack_under k objects c.tree) (commit_at objects placed.commit) placed.pack has in
        let found = pack_under-found k objects commit.0.tree placed.pack commit.2 in
        let same : h.commit ≡ commit.0 = same_Some h.commit commit.0 (sym h.held ∙ commit.1) in
        let tree : h.names.tree ≡ found.tree = same_Some h.names.tree found.tree (sym h.names.held ∙ ap (λ (c : Commit). tree_at objects c.tree) same ∙ found.held) in
        let ops : h.ops ≡ found.head.ops = same_Some h.ops found.head.ops (sym h.names.named ∙ ap ops_of tree ∙ (head_parts found.tree found.head found.says).ops) in
        let is : found.text ≡ text = same_Some found.text text (sym found.holds ∙ ap (blob_at objects) (sym ops) ∙ h.holds) in
        record { head = found.head; slices = found.slices; is = subst (λ (t : List ℕ). IsPackOf k found.head t found.slices placed.pack) is found.is }

    -- packs of one text have the same ids
    same_ids : (one two : Placed Op) (text : List ℕ) → IsOfText one text → IsOfText two text → ids_of k one.pack ≡ ids_of k two.pack
    same_ids one two text first second =
        let parts = same_Some (one.pack.author, first.slices) (two.pack.author, second.slices)
        (sym (parts_only text one.pack.author first.slices first.is.text_is) ∙ parts_only text two.pack.author second.slices second.is.text_is) in
        ids_stand first.head one.pack.author first.slices one.pack.ops first.is.ops_are
        ∙ ap (λ (p : Id × List (List ℕ)). map hash_of p.1) parts
        ∙ sym (ids_stand second.head two.pack.author second.slices two.pack.ops second.is.ops_are)

    module _ (id : Id) (heads : List Name) (authors : List Id) (valid : IsValid k objects id heads authors) where
      -- the node of an operation commit
      node_of_commit : (placed : Placed Op) → IsOperationCommit k objects heads placed → (node : Loaded Op) × IsNodeBelow k objects heads node × (node.placed ≡ placed)
      node_of_commit placed is =
          let commit = bind-some (λ (c : Commit). pack_under k objects c.tree) (commit_at objects placed.commit) placed.pack is.has in
          (record { parents = commit.0.parents; placed = placed }, record { below = is.below; is = record { commit = commit.0; held = commit.1; parents = refl; pack = commit.2 } }, refl)

      never_apart : (one two : Placed Op) → IsOperationCommit k objects heads one → IsOperationCommit k objects heads two → ids_of k one.pack ≡ ids_of k two.pack
          → one.commit ≢ two.commit → (ops : List Op) → one.pack.ops ≡ ops → ⊥
      unfolding EntityFaultHolds
      never_apart one two is_one is_two same differ [] e = let none : length one.pack.ops ≡ 0 = ap length e in omega (arith, none, is_one.some)
      never_apart one two is_one is_two same differ (o ∷ os) e =
          let f : Op → Id = λ op. (k.common_of op).place.id in
          let first : Contains (ids_of k one.pack) (f o) = subst (λ (l : List Op). Contains (map f l) (f o)) (sym e) (Contains-first (f o) (map f os)) in
          let node_one = node_of_commit one is_one in
          let node_two = node_of_commit two is_two in
          valid (fault.RepeatedOperation (f o)) (inr (record {
            one = node_one.0;
            two = node_two.0;
            is_one = node_one.1;
            is_two = node_two.1;
            differ = λ together. differ (ap (λ (p : Placed Op). p.commit) (sym node_one.2) ∙ together ∙ ap (λ (p : Placed Op). p.commit) node_two.2);
            in_one = subst (λ (p : Placed Op). Contains (ids_of k p.pack) (f o)) (sym node_one.2) first;
            in_two = subst (λ (p : Placed Op). Contains (ids_of k p.pack) (f o)) (sym node_two.2) (subst (λ (l : List Id). Contains l (f o)) same first);
          }))

      pub one_text : (one two : Placed Op) (text : List ℕ) → IsOperationCommit k objects heads one → IsOperationCommit k objects heads two
          → HasPackText objects one.commit text → HasPackText objects two.commit text → one ≡ two
      one_text one two text is_one is_two text_one text_two =
          let same = same_ids one two text (of_text one text is_one.has text_one) (of_text two text is_two.has text_two) in
          let commit : one.commit ≡ two.commit = name_stable one.commit two.commit (λ differ. never_apart one two is_one is_two same differ one.pack.ops refl) in
          let pack : one.pack ≡ two.pack = same_Some one.pack two.pack (sym is_one.has ∙ ap (pack_at k objects) commit ∙ is_two.has) in
          grind (arith, commit, pack)
