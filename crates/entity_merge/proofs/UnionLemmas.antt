-- The operation commits below the head that a join leaves are those of both sides, and what was below them is below it.
use Rattle.std.proofs.Common.{◌≡◌, ◌↔◌, ◌⊎◌, inl, inr, ⊎_elim, ℕ, List, [], ◌∷◌, Option, Some, None, sym, ◌∙◌, subst}
use Rattle.std.proofs.lemmas.Option.{same_Some}
use Rattle.gb_text.specs.declared.id.Id.{Id}
use Rattle.gb_text.specs.declared.id.Name.{Name}
use Rattle.object_store.specs.Held.{Objects}
use Rattle.commit_walk.specs.Below.{IsBelow, head, parent}
use Rattle.commit_walk.proofs.BelowLemmas.{below_one}
use Rattle.commit_walk.proofs.DistinctLemmas.{Contains-first, Contains-nil}
use Rattle.op_kind.specs.Meaning.{Meaning}
use Rattle.dag_entity.specs.Agreeing.{SameNeeded}
use Rattle.dag_entity.specs.Entities.{IsOperationCommit, IsOperationList}
use Rattle.dag_entity.specs.Joining.{merge_name}
use Rattle.dag_entity.specs.declared.entity.Placed.{Placed}
use Rattle.dag_entity.proofs.PairLemmas.{is_first, is_second, under}
use Rattle.dag_entity.proofs.UnionLemmas.{both_sides, commit_back, commit_over, commit_under, one_below, over, same_list, two_below, union_joined}
use Rattle.entity_merge.specs.Joins.{AreUnion, HaveSame, Joins, both_heads, head_of, heads_in}
use Rattle.entity_merge.specs.declared.word.Merged.{Merged}
use Rattle.entity_merge.specs.declared.word.Merged.TheVariants as merged

-- nothing lies below no heads
pub none_below : (objects : Objects) (name : Name) → IsBelow objects [] name → ⊥
none_below objects name (head c) = Contains-nil name c
none_below objects name (parent {high = high} b p) = none_below objects high b

module _ {Op State Row : Type 0} (k : Meaning Op State Row) where
  -- ---- each word

  module _ (before after : Objects) where
    union_new : (remote : Name) → SameNeeded before after (remote ∷ []) → AreUnion k after (remote ∷ []) before [] (remote ∷ [])
    union_new remote agree placed =
        let there : IsBelow before (remote ∷ []) remote = head (Contains-first remote []) in (
          λ o. inr (commit_back k before after (remote ∷ []) agree remote there placed o),
          λ u. ⊎_elim
              (λ (o : IsOperationCommit k before [] placed). absurd (none_below before placed.commit o.below))
              (λ (o : IsOperationCommit k before (remote ∷ []) placed). commit_over k before after (remote ∷ []) agree remote there placed o)
              u,
        )

    module _ (local remote : Name) (agree : SameNeeded before after (local ∷ remote ∷ [])) where
      abbrev both : List Name
      both = local ∷ remote ∷ []

      first : IsBelow before both local
      first = is_first before local remote

      second : IsBelow before both remote
      second = is_second before local remote

      union_nothing : IsBelow before (local ∷ []) remote → AreUnion k after (local ∷ []) before (local ∷ []) (remote ∷ [])
      union_nothing known placed = (
        λ o. inl (commit_back k before after both agree local first placed o),
        λ u. ⊎_elim
            (λ (o : IsOperationCommit k before (local ∷ []) placed). commit_over k before after both agree local first placed o)
            (λ (o : IsOperationCommit k before (remote ∷ []) placed). commit_over k before after both agree local first placed (commit_under k before (local ∷ []) remote known placed o))
            u,
      )

      union_forward : IsBelow before (remote ∷ []) local → AreUnion k after (remote ∷ []) before (local ∷ []) (remote ∷ [])
      union_forward below placed = (
        λ o. inr (commit_back k before after both agree remote second placed o),
        λ u. ⊎_elim
            (λ (o : IsOperationCommit k before (local ∷ []) placed). commit_over k before after both agree remote second placed (commit_under k before (remote ∷ []) local below placed o))
            (λ (o : IsOperationCommit k before (remote ∷ []) placed). commit_over k before after both agree remote second placed o)
            u,
      )

  -- ---- whatever the word

  module _ (before after : Objects) (author : Id) (clock now : ℕ) where
    -- the operation commits below the head that then stands are those of both sides
    pub joins_union : (local : Option Name) (remote top : Name) (word : Merged) → Joins k before after local remote author clock now word → head_of local word ≡ Some top
        → SameNeeded before after (both_heads local remote) → AreUnion k after (top ∷ []) before (heads_in local) (remote ∷ [])
    joins_union None remote top merged.Nothing j e agree = absurd (none_below before remote j)
    joins_union None remote top (merged.New new) j e agree = subst (λ (n : Name). AreUnion k after (n ∷ []) before [] (remote ∷ [])) (sym j ∙ same_Some new top e) (union_new before after remote agree)
    joins_union None remote top (merged.Forward new) j e agree = absurd j
    joins_union None remote top (merged.Joined new) j e agree = absurd j
    joins_union (Some local) remote top merged.Nothing j e agree =
        subst (λ (n : Name). AreUnion k after (n ∷ []) before (local ∷ []) (remote ∷ [])) (same_Some local top e) (union_nothing before after local remote agree j)
    joins_union (Some local) remote top (merged.New new) j e agree = absurd j
    joins_union (Some local) remote top (merged.Forward new) j e agree =
        subst (λ (n : Name). AreUnion k after (n ∷ []) before (local ∷ []) (remote ∷ [])) (sym j.0 ∙ same_Some new top e) (union_forward before after local remote agree j.1)
    joins_union (Some local) remote top (merged.Joined new) j e agree =
        let commit = j.1 in
        subst (λ (n : Name). AreUnion k after (n ∷ []) before (local ∷ []) (remote ∷ [])) (sym commit.2 ∙ same_Some new top e) (union_joined k before after local remote agree author commit.0 now commit.3)

    -- what was below either head is below the one that then stands
    pub joins_keep : (local : Option Name) (remote top : Name) (word : Merged) → Joins k before after local remote author clock now word → head_of local word ≡ Some top
        → SameNeeded before after (both_heads local remote) → (name : Name) → IsBelow before (both_heads local remote) name → IsBelow after (top ∷ []) name
    joins_keep None remote top merged.Nothing j e agree name b = absurd (none_below before remote j)
    joins_keep None remote top (merged.New new) j e agree name b =
        subst (λ (n : Name). IsBelow after (n ∷ []) name) (sym j ∙ same_Some new top e) (over k before after (remote ∷ []) agree remote (head (Contains-first remote [])) name b)
    joins_keep None remote top (merged.Forward new) j e agree name b = absurd j
    joins_keep None remote top (merged.Joined new) j e agree name b = absurd j
    joins_keep (Some local) remote top merged.Nothing j e agree name b =
        subst (λ (n : Name). IsBelow after (n ∷ []) name) (same_Some local top e) (over k before after (local ∷ remote ∷ []) agree local (is_first before local remote) name
        (⊎_elim (λ (l : IsBelow before (local ∷ []) name). l) (λ (r : IsBelow before (remote ∷ []) name). under before (local ∷ []) remote j name r) (below_one before local remote b)))
    joins_keep (Some local) remote top (merged.New new) j e agree name b = absurd j
    joins_keep (Some local) remote top (merged.Forward new) j e agree name b =
        subst (λ (n : Name). IsBelow after (n ∷ []) name) (sym j.0 ∙ same_Some new top e) (over k before after (local ∷ remote ∷ []) agree remote (is_second before local remote) name
        (⊎_elim (λ (l : IsBelow before (local ∷ []) name). under before (remote ∷ []) local j.1 name l) (λ (r : IsBelow before (remote ∷ []) name). r) (below_one before local remote b)))
    joins_keep (Some local) remote top (merged.Joined new) j e agree name b =
        let commit = j.1 in
        subst (λ (n : Name). IsBelow after (n ∷ []) name) (sym commit.2 ∙ same_Some new top e)
        (⊎_elim
        (λ (l : IsBelow before (local ∷ []) name). under after (merge_name k local remote author commit.0 now ∷ []) local (one_below k before after local remote agree author commit.0 now commit.3) name
        (over k before after (local ∷ remote ∷ []) agree local (is_first before local remote) name l))
        (λ (r : IsBelow before (remote ∷ []) name). under after (merge_name k local remote author commit.0 now ∷ []) remote (two_below k before after local remote agree author commit.0 now commit.3) name
        (over k before after (local ∷ remote ∷ []) agree remote (is_second before local remote) name r))
        (below_one before local remote b))

-- ---- unions

module _ {Op State Row : Type 0} (k : Meaning Op State Row) where
  pub commutes : (a b c d : Objects) (one two left right others tops : List Name)
      → AreUnion k a one c left right → AreUnion k b two d tops others → HaveSame k c left d others → HaveSame k c right d tops → HaveSame k a one b two
  commutes a b c d one two left right others tops u v same_left same_right placed = (
    λ o. (v placed).1 (⊎_elim
        (λ (l : IsOperationCommit k c left placed). inr ((same_left placed).0 l))
        (λ (r : IsOperationCommit k c right placed). inl ((same_right placed).0 r))
        ((u placed).0 o)),
    λ o. (u placed).1 (⊎_elim
        (λ (r : IsOperationCommit k d tops placed). inr ((same_right placed).1 r))
        (λ (l : IsOperationCommit k d others placed). inl ((same_left placed).1 l))
        ((v placed).0 o)),
  )

  pub repeats : (a c : Objects) (one left right : List Name) → AreUnion k a one c left right → HaveSame k c left c right → HaveSame k a one c left
  repeats a c one left right u same placed = (
    λ o. ⊎_elim (λ (l : IsOperationCommit k c left placed). l) (λ (r : IsOperationCommit k c right placed). (same placed).1 r) ((u placed).0 o),
    λ o. (u placed).1 (inl o),
  )

  pub associates : (a b c d o1 o2 o3 o4 : Objects) (ab abc bc abc_too xs ys zs xs_too ys_too zs_too ab_too bc_too : List Name)
      → AreUnion k a ab o1 xs ys → AreUnion k b abc o2 ab_too zs → AreUnion k c bc o3 ys_too zs_too → AreUnion k d abc_too o4 xs_too bc_too
      → HaveSame k a ab o2 ab_too → HaveSame k c bc o4 bc_too → HaveSame k o1 xs o4 xs_too → HaveSame k o1 ys o3 ys_too → HaveSame k o2 zs o3 zs_too → HaveSame k b abc d abc_too
  associates a b c d o1 o2 o3 o4 ab abc bc abc_too xs ys zs xs_too ys_too zs_too ab_too bc_too one two three four same_ab same_bc same_x same_y same_z placed = (
    λ o. ⊎_elim
        (λ (h : IsOperationCommit k o2 ab_too placed). ⊎_elim
        (λ (x : IsOperationCommit k o1 xs placed). (four placed).1 (inl ((same_x placed).0 x)))
        (λ (y : IsOperationCommit k o1 ys placed). (four placed).1 (inr ((same_bc placed).0 ((three placed).1 (inl ((same_y placed).0 y))))))
        ((one placed).0 ((same_ab placed).1 h)))
        (λ (z : IsOperationCommit k o2 zs placed). (four placed).1 (inr ((same_bc placed).0 ((three placed).1 (inr ((same_z placed).0 z))))))
        ((two placed).0 o),
    λ o. ⊎_elim
        (λ (x : IsOperationCommit k o4 xs_too placed). (two placed).1 (inl ((same_ab placed).0 ((one placed).1 (inl ((same_x placed).1 x))))))
        (λ (h : IsOperationCommit k o4 bc_too placed). ⊎_elim
        (λ (y : IsOperationCommit k o3 ys_too placed). (two placed).1 (inl ((same_ab placed).0 ((one placed).1 (inr ((same_y placed).1 y))))))
        (λ (z : IsOperationCommit k o3 zs_too placed). (two placed).1 (inr ((same_z placed).1 z)))
        ((three placed).0 ((same_bc placed).1 h)))
        ((four placed).0 o),
  )

-- ---- the operations of both sides

module _ {Op State Row : Type 0} (k : Meaning Op State Row) where
  -- below the heads of a join lie the operation commits of both sides
  sides : (objects : Objects) (local : Option Name) (remote : Name) (placed : Placed Op)
      → IsOperationCommit k objects (both_heads local remote) placed ↔ (IsOperationCommit k objects (heads_in local) placed ⊎ IsOperationCommit k objects (remote ∷ []) placed)
  sides objects None remote placed = (λ o. inr o, λ u. ⊎_elim (λ (o : IsOperationCommit k objects [] placed). absurd (none_below objects placed.commit o.below)) (λ (o : IsOperationCommit k objects (remote ∷ []) placed). o) u)
  sides objects (Some local) remote placed = both_sides k objects local remote placed

  -- the head that then stands says what both said together
  pub joins_say : (before after : Objects) (author : Id) (clock now : ℕ) (local : Option Name) (remote top : Name) (word : Merged) (ops : List Op) → Joins k before after local remote author clock now word → head_of local word ≡ Some top
      → SameNeeded before after (both_heads local remote) → IsOperationList k before (both_heads local remote) ops → IsOperationList k after (top ∷ []) ops
  joins_say before after author clock now local remote top word ops j e agree list =
      same_list k before after (both_heads local remote) (top ∷ []) ops (λ placed. (
        λ o. (joins_union k before after author clock now local remote top word j e agree placed).1 ((sides before local remote placed).0 o),
        λ o. (sides before local remote placed).1 ((joins_union k before after author clock now local remote top word j e agree placed).0 o),
      )) list
