-- Below a commit over two heads lies what lies below both, and their operation commits.
use Rattle.std.proofs.Common.{◌≡◌, ◌↔◌, ◌⊎◌, inl, inr, ⊎_elim, ℕ, List, [], ◌∷◌, length, Contains, sym, ◌∙◌, ap, subst, arith}
use Rattle.std.proofs.lemmas.Option.{same_Some}
use Rattle.gb_text.specs.declared.id.Id.{Id}
use Rattle.gb_text.specs.declared.id.Name.{Name}
use Rattle.git_object.specs.declared.commit.Commit.{Commit}
use Rattle.object_store.specs.Held.{Objects}
use Rattle.object_store.specs.Typed.{commit_at}
use Rattle.commit_walk.specs.Below.{IsBelow, head, parent}
use Rattle.commit_walk.proofs.BelowLemmas.{below_below, below_one}
use Rattle.commit_walk.proofs.DistinctLemmas.{Contains-first, Contains-later, Contains-one}
use Rattle.op_kind.specs.Meaning.{Meaning}
use Rattle.op_pack.specs.declared.pack.Pack.{Pack}
use Rattle.dag_entity.specs.Agreeing.{SameNeeded}
use Rattle.dag_entity.specs.Entities.{IsOperationCommit, IsOperationList}
use Rattle.dag_entity.specs.Joining.{merge_name, merge_node}
use Rattle.dag_entity.specs.Nodes.{IsNode, pack_at}
use Rattle.dag_entity.specs.declared.entity.Placed.{Placed}
use Rattle.dag_entity.proofs.AgreeLemmas.{below_back, below_back_tops, below_over, below_over_tops, pack_same}
use Rattle.dag_entity.proofs.LawValid.{pack_of_node}
use Rattle.dag_entity.proofs.PairLemmas.{is_first, is_second, under}

-- a single head that lies below others
one_under : (objects : Objects) (heads : List Name) (top : Name) → IsBelow objects heads top → (name : Name) → Contains (top ∷ []) name → IsBelow objects heads name
one_under objects heads top b name c = subst (IsBelow objects heads) (Contains-one top name c) b

module _ {Op State Row : Type 0} (k : Meaning Op State Row) where
  -- an operation commit below a head that lies below others
  pub commit_under : (objects : Objects) (heads : List Name) (top : Name) → IsBelow objects heads top → (placed : Placed Op) → IsOperationCommit k objects (top ∷ []) placed → IsOperationCommit k objects heads placed
  commit_under objects heads top b placed o = record { below = under objects heads top b placed.commit o.below; has = o.has; some = o.some }

  module _ (before after : Objects) (heads : List Name) (agree : SameNeeded before after heads) (top : Name) (there : IsBelow before heads top) where
    pub over : (name : Name) → IsBelow before (top ∷ []) name → IsBelow after (top ∷ []) name
    over name b = below_over_tops before after heads agree (top ∷ []) (one_under before heads top there) name b

    back : (name : Name) → IsBelow after (top ∷ []) name → IsBelow before (top ∷ []) name
    back name b = below_back_tops before after heads agree (top ∷ []) (one_under before heads top there) name b

    pub commit_over : (placed : Placed Op) → IsOperationCommit k before (top ∷ []) placed → IsOperationCommit k after (top ∷ []) placed
    commit_over placed o = record { below = over placed.commit o.below; has = pack_same before after heads agree k placed.commit (under before heads top there placed.commit o.below) ∙ o.has; some = o.some }

    pub commit_back : (placed : Placed Op) → IsOperationCommit k after (top ∷ []) placed → IsOperationCommit k before (top ∷ []) placed
    commit_back placed o =
        let b = back placed.commit o.below in
        record { below = b; has = sym (pack_same before after heads agree k placed.commit (under before heads top there placed.commit b)) ∙ o.has; some = o.some }

  -- heads with the same operation commits have the same operations
  pub same_list : (objects others : Objects) (heads tops : List Name) (ops : List Op) → ((placed : Placed Op) → IsOperationCommit k objects heads placed ↔ IsOperationCommit k others tops placed) → IsOperationList k objects heads ops → IsOperationList k others tops ops
  same_list objects others heads tops ops same list = record {
    packs = list.packs;
    are = record {
      all = λ placed o. list.are.all placed ((same placed).1 o);
      only = λ placed c. (same placed).0 (list.are.only placed c);
      rise = list.are.rise;
    };
    written_out = list.written_out;
  }

  -- below two heads lie the operation commits of both
  pub both_sides : (objects : Objects) (one two : Name) (placed : Placed Op)
      → IsOperationCommit k objects (one ∷ two ∷ []) placed ↔ (IsOperationCommit k objects (one ∷ []) placed ⊎ IsOperationCommit k objects (two ∷ []) placed)
  both_sides objects one two placed = (
    λ o. ⊎_elim
        (λ (l : IsBelow objects (one ∷ []) placed.commit). inl (record { below = l; has = o.has; some = o.some }))
        (λ (r : IsBelow objects (two ∷ []) placed.commit). inr (record { below = r; has = o.has; some = o.some }))
        (below_one objects one two o.below),
    λ u. ⊎_elim
        (λ (o : IsOperationCommit k objects (one ∷ []) placed). commit_under objects (one ∷ two ∷ []) one (is_first objects one two) placed o)
        (λ (o : IsOperationCommit k objects (two ∷ []) placed). commit_under objects (one ∷ two ∷ []) two (is_second objects one two) placed o)
        u,
  )

  -- ---- the commit over both

  module _ (before after : Objects) where
    module _ (one two : Name) (agree : SameNeeded before after (one ∷ two ∷ [])) where
      abbrev both : List Name
      both = one ∷ two ∷ []

      first : IsBelow before both one
      first = is_first before one two

      second : IsBelow before both two
      second = is_second before one two

      module _ (author : Id) (edit now : ℕ) (node : IsNode k after (merge_node k one two author edit now)) where
        abbrev over_both : Name
        over_both = merge_name k one two author edit now

        leads : (name : Name) → Contains both name → IsBelow after (over_both ∷ []) name
        leads name c = parent (head (Contains-first over_both [])) (record { commit = node.commit; held = node.held; names = subst (λ (l : List Name). Contains l name) node.parents c })

        -- below the commit lie itself and what lies below both
        pub split_tip : (name : Name) → IsBelow after (over_both ∷ []) name → (over_both ≡ name) ⊎ IsBelow after both name
        split_tip name (head c) = inl (Contains-one over_both name c)
        split_tip name (parent {high = high} b p) = ⊎_elim
            (λ (e : over_both ≡ high).
            let same : node.commit ≡ p.commit = same_Some node.commit p.commit (sym node.held ∙ ap (commit_at after) e ∙ p.held) in
            inr (head (subst (λ (l : List Name). Contains l name) (sym (node.parents ∙ ap (λ (c : Commit). c.parents) same)) p.names)))
            (λ (below : IsBelow after both high). inr (parent below p))
            (split_tip high b)

        pub one_below : IsBelow after (over_both ∷ []) one
        one_below = leads one (Contains-first one (two ∷ []))

        pub two_below : IsBelow after (over_both ∷ []) two
        two_below = leads two (Contains-later one (two ∷ []) two (Contains-first two []))

        -- the commit has no operation
        no_operation : (placed : Placed Op) → IsOperationCommit k after (over_both ∷ []) placed → over_both ≡ placed.commit → ⊥
        no_operation placed o e =
            let same : placed.pack ≡ (merge_node k one two author edit now).placed.pack =
            same_Some placed.pack (merge_node k one two author edit now).placed.pack (sym o.has ∙ ap (pack_at k after) (sym e) ∙ pack_of_node k after (merge_node k one two author edit now) node) in
            let none : length placed.pack.ops ≡ 0 = ap (λ (p : Pack Op). length p.ops) same in
            omega (arith, none, o.some)

        -- the operation commits below it are those of both heads
        pub union_joined : (placed : Placed Op) → IsOperationCommit k after (over_both ∷ []) placed ↔ (IsOperationCommit k before (one ∷ []) placed ⊎ IsOperationCommit k before (two ∷ []) placed)
        union_joined placed = (
          λ o. ⊎_elim
              (λ (e : over_both ≡ placed.commit). absurd (no_operation placed o e))
              (λ (b : IsBelow after both placed.commit). ⊎_elim
              (λ (l : IsBelow after (one ∷ []) placed.commit). inl (commit_back before after both agree one first placed (record { below = l; has = o.has; some = o.some })))
              (λ (r : IsBelow after (two ∷ []) placed.commit). inr (commit_back before after both agree two second placed (record { below = r; has = o.has; some = o.some })))
              (below_one after one two b))
              (split_tip placed.commit o.below),
          λ u. ⊎_elim
              (λ (o : IsOperationCommit k before (one ∷ []) placed). commit_under after (over_both ∷ []) one one_below placed (commit_over before after both agree one first placed o))
              (λ (o : IsOperationCommit k before (two ∷ []) placed). commit_under after (over_both ∷ []) two two_below placed (commit_over before after both agree two second placed o))
              u,
        )

        -- what lies below it is itself and what lay below both
        pub below_joined : (name : Name) → IsBelow after (over_both ∷ []) name ↔ ((over_both ≡ name) ⊎ IsBelow before both name)
        below_joined name = (
          λ b. ⊎_elim (λ (e : over_both ≡ name). inl e) (λ (l : IsBelow after both name). inr (below_back before after both agree name l)) (split_tip name b),
          λ u. ⊎_elim
              (λ (e : over_both ≡ name). subst (IsBelow after (over_both ∷ [])) e (head (Contains-first over_both [])))
              (λ (l : IsBelow before both name). below_below after (over_both ∷ []) both name leads (below_over before after both agree name l))
              u,
        )

        -- its operations are those of both
        pub operations_joined : (ops : List Op) → IsOperationList k before both ops → IsOperationList k after (over_both ∷ []) ops
        operations_joined ops list = same_list before after both (over_both ∷ []) ops (λ placed. (
          λ o. (union_joined placed).1 ((both_sides before one two placed).0 o),
          λ o. (both_sides before one two placed).1 ((union_joined placed).0 o),
        )) list
