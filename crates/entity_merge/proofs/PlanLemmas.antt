-- From the parts of a plan to its answer.
use Rattle.std.proofs.Common.{◌≡◌, ◌⊎◌, inl, inr, ⊎_elim, ◌≤◌, ◌+◌, max, ℕ, List, [], ◌∷◌, Contains, Option, Some, None, Result, Ok, Err, IfOk, refl, sym, ◌∙◌, ap, subst, arith}
use Rattle.gb_text.specs.declared.decimal.TheConstants.{GREATEST_TIME}
use Rattle.gb_text.specs.declared.id.Id.{Id}
use Rattle.gb_text.specs.declared.id.Name.{Name}
use Rattle.object_store.specs.Held.{Objects}
use Rattle.commit_walk.specs.Below.{IsBelow, head as head_below}
use Rattle.commit_walk.proofs.DistinctLemmas.{Contains-first, Contains-one}
use Rattle.object_batch.specs.Batches.{AllStand}
use Rattle.op_kind.specs.Meaning.{Meaning}
use Rattle.dag_entity.specs.Entities.{IsEntity, IsRootClock}
use Rattle.dag_entity.specs.Faults.{EntityFaultHolds, IsValid}
use Rattle.dag_entity.specs.Joining.{BothAnswers, merge_node}
use Rattle.dag_entity.specs.Nodes.{IsNode, edit_at}
use Rattle.dag_entity.specs.Stops.{Refused}
use Rattle.dag_entity.specs.declared.both.ReadBoth.{ReadBoth}
use Rattle.dag_entity.specs.declared.both.ReadBoth.TheVariants as both
use Rattle.dag_entity.specs.declared.entity.Entity.{Entity}
use Rattle.dag_entity.specs.declared.fault.EntityFault.{EntityFault}
use Rattle.dag_entity.specs.declared.fault.EntityFault.TheVariants as fault
use Rattle.dag_entity.proofs.LawRules.{clock as clock_free}
use Rattle.dag_entity.proofs.LawValid.{has_edit}
use Rattle.dag_entity.proofs.PairLemmas.{edit_of_second, greatest_is, is_first, is_second, root_of_second, within_limit}
use Rattle.entity_merge.specs.Joins.{DoesWord, HasWord, IfJoined, IsKnown, PlanAnswers, both_heads}
use Rattle.entity_merge.specs.Parts.{JoinAnswers, no_plan}
use Rattle.entity_merge.specs.Stops.{merge_stop}
use Rattle.entity_merge.specs.declared.fault.MergeFault.{MergeFault}
use Rattle.entity_merge.specs.declared.fault.MergeFault.TheVariants as stop
use Rattle.entity_merge.specs.declared.plan.MergePlan.{MergePlan}
use Rattle.entity_merge.specs.declared.word.Merged.{Merged}
use Rattle.entity_merge.specs.declared.word.Merged.TheVariants as merged

-- ---- where the objects of a plan stand

module _ {Op State Row : Type 0} (k : Meaning Op State Row) (author : Id) (clock now : ℕ) where
  pub node_of_join : (local remote : Name) (greatest create : ℕ) (result : Result MergePlan MergeFault) → JoinAnswers k greatest create local remote author clock now result
      → IfOk result (λ plan. (others : Objects) → AllStand others plan.objects → IsNode k others (merge_node k local remote author plan.edit now))
      → IfOk result (λ plan. (others : Objects) → AllStand others plan.objects → IfJoined (Some local) plan.merged (λ low. IsNode k others (merge_node k low remote author plan.edit now)))
  node_of_join local remote greatest create (Err e) h node = tt
  node_of_join local remote greatest create (Ok plan) h node =
      λ others stand. subst (λ (m : Merged). IfJoined (Some local) m (λ low. IsNode k others (merge_node k low remote author plan.edit now))) (sym h.word) (node others stand)

module _ {Op State Row : Type 0} (k : Meaning Op State Row) (objects : Objects) (id : Id) (author : Id) (authors : List Id) (clock now : ℕ) where
  -- ---- refusals

  -- what is wrong with both heads together
  pub plan_refused : (local : Option Name) (remote : Name) → (IsKnown objects local remote → ⊥) → (f : EntityFault) → Refused (EntityFaultHolds k objects id (both_heads local remote) authors) f
      → PlanAnswers k objects id local remote author authors clock now (Err (merge_stop f))
  plan_refused local remote new fault.Memory h = tt
  plan_refused local remote new fault.Disk h = tt
  plan_refused local remote new f h = (new, h)

  -- what refuses the reading of both
  pub both_refuses : (local remote : Name) (f : EntityFault) → BothAnswers k objects id local remote authors (Err f) → PlanAnswers k objects id (Some local) remote author authors clock now (Err (merge_stop f))
  both_refuses local remote fault.Memory h = tt
  both_refuses local remote fault.Disk h = tt
  both_refuses local remote f h = h

  -- ---- the words

  -- what a plan with this word says
  abbrev Says : Option Name → Name → MergePlan → Merged → Type 0
  Says local remote plan m = HasWord objects local remote m × DoesWord k objects id local remote author authors clock now m plan.edit plan.create plan.objects

  -- a remote head that is known leaves the local one
  pub plan_known : (local remote : Name) (found : ReadBoth Op) (plan : MergePlan) → (found ≡ both.Equal) ⊎ (found ≡ both.Below) → BothAnswers k objects id local remote authors (Ok found) → plan ≡ no_plan
      → PlanAnswers k objects id (Some local) remote author authors clock now (Ok plan)
  plan_known local remote found plan is h none = subst (λ (p : MergePlan). PlanAnswers k objects id (Some local) remote author authors clock now (Ok p)) (sym none) (below, (refl, refl, refl))
    where
      as_found : (other : ReadBoth Op) → found ≡ other → BothAnswers k objects id local remote authors (Ok other)
      as_found other e = subst (λ (b : ReadBoth Op). BothAnswers k objects id local remote authors (Ok b)) e h

      below : IsBelow objects (local ∷ []) remote
      below = ⊎_elim
          (λ (e : found ≡ both.Equal). head_below (subst (Contains (local ∷ [])) (as_found both.Equal e) (Contains-first local [])))
          (λ (e : found ≡ both.Below). (as_found both.Below e).1)
          is

  pub plan_new : (remote : Name) (entity : Entity Op) (plan : MergePlan) → IsEntity k objects id (remote ∷ []) authors entity → plan.merged ≡ merged.New remote → plan.edit ≡ entity.edit → plan.create ≡ entity.create → plan.objects ≡ []
      → PlanAnswers k objects id None remote author authors clock now (Ok plan)
  plan_new remote entity plan is word edit create none = subst (Says None remote plan) (sym word) (
    refl,
    record {
      entity = entity;
      is = is;
      edit_is = ap (edit_at objects) (Contains-one remote is.edit.head is.edit.among) ∙ is.edit.says ∙ ap Some (sym edit);
      create_is = subst (λ (n : ℕ). IsRootClock k objects (remote ∷ []) n) (sym create) is.create;
      no_texts = none;
    },
  )

  module _ (local remote : Name) (entity : Entity Op) (is : IsEntity k objects id (local ∷ remote ∷ []) authors entity) (new : IsBelow objects (local ∷ []) remote → ⊥) where
    pub plan_forward : (plan : MergePlan) → IsBelow objects (remote ∷ []) local → plan.merged ≡ merged.Forward remote → plan.edit ≡ entity.edit → plan.create ≡ entity.create → plan.objects ≡ []
        → PlanAnswers k objects id (Some local) remote author authors clock now (Ok plan)
    plan_forward plan below word edit create none = subst (Says (Some local) remote plan) (sym word) (
      (refl, below, new),
      record {
        entity = entity;
        is = is;
        edit_is = edit_of_second k objects id local remote authors entity is below ∙ ap Some (sym edit);
        create_is = subst (λ (n : ℕ). IsRootClock k objects (remote ∷ []) n) (sym create) (root_of_second k objects id local remote authors entity is below);
        no_texts = none;
      },
    )

    module _ (apart : IsBelow objects (remote ∷ []) local → ⊥) where
      -- there is a clock above those of both
      not_full : GREATEST_TIME ≤ entity.edit → ⊥
      not_full full =
          let head = is.edit.head in
          let few : entity.edit ≤ GREATEST_TIME = within_limit k objects id (local ∷ remote ∷ []) authors entity is head entity.edit (head_below is.edit.among) is.edit.says in
          let same : entity.edit ≡ GREATEST_TIME = omega (arith, few, full) in
          clock_free k objects id authors local remote head is.valid apart new is.edit.among (is.edit.says ∙ ap Some same)

      pub plan_joins : (result : Result MergePlan MergeFault) → JoinAnswers k entity.edit entity.create local remote author clock now result → PlanAnswers k objects id (Some local) remote author authors clock now result
      plan_joins (Err stop.Memory) h = tt
      plan_joins (Err stop.Disk) h = tt
      plan_joins (Err (stop.Invalid f)) h = absurd (not_full h)
      plan_joins (Err (stop.Taken name)) h = absurd h
      plan_joins (Ok plan) h =
          let one = has_edit k objects id (local ∷ remote ∷ []) authors entity is local (is_first objects local remote) in
          let two = has_edit k objects id (local ∷ remote ∷ []) authors entity is remote (is_second objects local remote) in
          let greatest : entity.edit ≡ max one.0 two.0 = greatest_is k objects id local remote authors entity is entity.edit one.0 two.0 is.edit one.1 two.1 in
          subst (Says (Some local) remote plan) (sym h.word) (
            record { are = refl; one_apart = apart; two_apart = new },
            record {
              entity = entity;
              is = is;
              edit_is = record { one = one.0; two = two.0; says_one = one.1; says_two = two.1; is = h.edit_is ∙ ap (λ (n : ℕ). max clock n + 1) greatest };
              create_is = h.create_is;
              head_is = refl;
              texts_are = h.texts_are;
              short = h.short;
            },
          )

-- a plan comes only where the remote head is known or nothing is wrong with both heads together
pub planned_is_valid : {Op State Row : Type 0} (k : Meaning Op State Row) (objects : Objects) (id : Id) (local : Option Name) (remote : Name) (author : Id) (authors : List Id) (clock now : ℕ) (plan : MergePlan)
    → PlanAnswers k objects id local remote author authors clock now (Ok plan) → IsKnown objects local remote ⊎ IsValid k objects id (both_heads local remote) authors
planned_is_valid k objects id local remote author authors clock now plan p = by local plan.merged p
  where
    by : (local : Option Name) (m : Merged) → HasWord objects local remote m × DoesWord k objects id local remote author authors clock now m plan.edit plan.create plan.objects → IsKnown objects local remote ⊎ IsValid k objects id (both_heads local remote) authors
    by local merged.Nothing p = inl p.0
    by local (merged.New head) p = inr p.1.is.valid
    by local (merged.Forward head) p = inr p.1.is.valid
    by None (merged.Joined head) p = absurd p.0
    by (Some low) (merged.Joined head) p = inr p.1.is.valid
