-- What the turn of a bug in a merge brings to its local ref, also where its writes were cut off.
use Rattle.std.proofs.Common.{◌≡◌, ◌⊎◌, ◌<◌, ◌^◌, inl, inr, refl, sym, ◌∙◌, subst, arith, ℕ, List, [], ◌∷◌, Option, Some, None}
use Rattle.std.proofs.lemmas.Option.{same_Some}
use Rattle.gb_text.specs.Digits.{IsId}
use Rattle.gb_text.specs.declared.id.Id.{Id}
use Rattle.gb_text.specs.declared.id.Name.{Name}
use Rattle.gb_store.specs.Files.{History, files_of}
use Rattle.object_store.specs.Growth.{OnlyGrew}
use Rattle.object_store.specs.Held.{Objects, objects_in}
use Rattle.commit_walk.specs.Below.{IsBelow, head as at_top, parent}
use Rattle.ref_store.specs.Refs.{Head}
use Rattle.bug_ops.specs.Kind.{bug_kind}
use Rattle.bug_ops.specs.declared.op.BugOp.{BugOp}
use Rattle.dag_entity.specs.Entities.{IsOperationCommit}
use Rattle.dag_entity.specs.declared.entity.Placed.{Placed}
use Rattle.entity_merge.specs.Joins.{head_of, heads_in}
use Rattle.entity_merge.specs.declared.word.Merged.{Merged}
use Rattle.entity_merge.specs.declared.word.Merged.TheVariants as merged
use Rattle.remote_name.specs.declared.remote.RemoteName.{RemoteName}
use Rattle.repo_state.specs.Answers.{IsHeadAt}
use Rattle.repo_state.specs.Listed.{ref_with}
use Rattle.repo_state.specs.Sides.{head_at}
use Rattle.repo_state.specs.Sound.{IsSound}
use Rattle.repo_state.specs.Sound as parts
use Rattle.repo_state.specs.declared.refs.EntityRef.{EntityRef}
use Rattle.repo_state.specs.declared.side.Side.TheVariants as side
use Rattle.merge_steps.specs.Left.{IsJoinOf}
use Rattle.merge_steps.specs.Merging.{BugOutcome, GetsHead, MergeTurn, MergesBug}
use Rattle.merge_steps.specs.declared.line.MergeOutcome.{MergeOutcome}
use Rattle.merge_steps.specs.declared.line.MergeOutcome.TheVariants as outcome
use Rattle.merge_steps.proofs.LeftLemmas.{left_outcome}
use Rattle.ref_moments.proofs.ListedLemmas.{IsListed, placed_id}
use Rattle.ref_moments.proofs.MergeLemmas.{AnyHead}
use Rattle.ref_moments.proofs.OnceLemmas.{stayed}
use Rattle.ref_moments.proofs.TurnLemmas.{Once}
use Rattle.full_exchanges.specs.Having.{ACommit, Has}
use Rattle.full_exchanges.proofs.HasLemmas.{head_held}
use Rattle.operation_origins.proofs.StopLemmas.{had_so, was_below}

-- a bug was joined of its local head, or none, and its tracked one
pub record JoinsHeads (folder : List ℕ) (entity : EntityRef) (old new : History) : Type 0 where
  pub local : Option Name
  pub is_local : IsHeadAt (files_of old) folder side.Bugs entity.id local
  pub tracked : Name
  pub is_tracked : entity.head ≡ Some tracked
  pub joins : IsJoinOf folder entity.id local tracked old new

module _ (folder : List ℕ) (user : Id) (authors : List Id) (now : ℕ) (is_user : IsId user) (moment : now < 2 ^ 64) where
  -- by an outcome nothing was written, or both heads were joined
  left_or_same : (id : Id) (local : Option Name) (tracked : Name) (out : MergeOutcome) (old new : History) → IsHeadAt (files_of old) folder side.Bugs id local
      → BugOutcome folder user authors now id local tracked out old new → (new ≡ old) ⊎ IsJoinOf folder id local tracked old new
  left_or_same id local tracked outcome.Nothing old new at is = inl is.1
  left_or_same id local tracked outcome.New old new at is = inr (left_outcome folder user authors now is_user moment id old local tracked outcome.New new at refl is)
  left_or_same id local tracked outcome.Forward old new at is = inr (left_outcome folder user authors now is_user moment id old local tracked outcome.Forward new at refl is)
  left_or_same id local tracked outcome.Joined old new at is = inr (left_outcome folder user authors now is_user moment id old local tracked outcome.Joined new at refl is)
  left_or_same id local tracked (outcome.InvalidBug f) old new at is = inl is.2
  left_or_same id local tracked (outcome.InvalidIdentity f) old new at is = absurd is
  left_or_same id local tracked (outcome.NotForward name) old new at is = absurd is

  -- so it is of a turn
  pub turn_joins : (turn : MergeTurn) (old new : History) → MergesBug folder user authors now turn old new → (new ≡ old) ⊎ JoinsHeads folder turn.entity old new
  turn_joins turn old new is = elim (left_or_same turn.entity.id is.local is.tracked turn.outcome old new is.is_local is.is) [
    | inl same ↦ inl same
    | inr joins ↦ inr (record { local = is.local; is_local = is.is_local; tracked = is.tracked; is_tracked = is.is_tracked; joins = joins })
  ]

  -- all writes of a bug that gets a head by a word
  pub gets_joins : (id : Id) (local : Option Name) (tracked : Name) (word : Merged) (head : Name) (old new : History) → IsHeadAt (files_of old) folder side.Bugs id local → Some head ≡ head_of local word
      → (word ≡ merged.Nothing → ⊥) → GetsHead folder user authors now id local tracked word head old new → IsJoinOf folder id local tracked old new
  gets_joins id local tracked merged.Nothing head old new at is other gets = absurd (other refl)
  gets_joins id None tracked (merged.New made) head old new at is other gets =
      left_outcome folder user authors now is_user moment id old None tracked outcome.New new at refl
      (subst (λ (name : Name). GetsHead folder user authors now id None tracked (merged.New name) name old new) gets.plan.word_is
      (subst (λ (name : Name). GetsHead folder user authors now id None tracked (merged.New made) name old new) (same_Some head made is) gets))
  gets_joins id None tracked (merged.Forward made) head old new at is other gets = absurd gets.plan.word_is
  gets_joins id None tracked (merged.Joined made) head old new at is other gets = absurd gets.plan.word_is
  gets_joins id (Some low) tracked (merged.New made) head old new at is other gets = absurd gets.plan.word_is
  gets_joins id (Some low) tracked (merged.Forward made) head old new at is other gets =
      left_outcome folder user authors now is_user moment id old (Some low) tracked outcome.Forward new at refl
      (subst (λ (name : Name). GetsHead folder user authors now id (Some low) tracked (merged.Forward name) name old new) gets.plan.word_is.0
      (subst (λ (name : Name). GetsHead folder user authors now id (Some low) tracked (merged.Forward made) name old new) (same_Some head made is) gets))
  gets_joins id (Some low) tracked (merged.Joined made) head old new at is other gets =
      left_outcome folder user authors now is_user moment id old (Some low) tracked outcome.Joined new at refl
      (made, subst (λ (name : Name). GetsHead folder user authors now id (Some low) tracked (merged.Joined made) name old new) (same_Some head made is) gets)

-- nothing lies below no head
none_below : (objects : Objects) (name : Name) → IsBelow objects [] name → ⊥
none_below objects name (at_top (k, lt, e)) = absurd (omega arith)
none_below objects name (parent {high = high} up names) = none_below objects high up

-- what a local head has, its ref has
local_had : (folder : List ℕ) (files : History) (id : Id) (placed : Placed BugOp) (local : Option Name) → IsHeadAt (files_of files) folder side.Bugs id local
    → IsOperationCommit bug_kind (objects_in (files_of files) folder) (heads_in local) placed → Has (files_of files) folder side.Bugs id (ACommit placed)
local_had folder files id placed None at is = absurd (none_below (objects_in (files_of files) folder) placed.commit is.below)
local_had folder files id placed (Some top) at is = record { head = top; is_head = at; is = is }

module _ (folder : List ℕ) (remote : RemoteName) (old : History) where
  -- the folder had a commit of a bug, or had last seen it at the remote
  abbrev pub HadOrSeen : Id → Placed BugOp → Type 0
  HadOrSeen id placed = Has (files_of old) folder side.Bugs id (ACommit placed) ⊎ Has (files_of old) folder (side.RemoteBugs remote) id (ACommit placed)

  -- so it is of all that it has then
  abbrev pub IsFromBoth : History → Type 0
  IsFromBoth late = (id : Id) → IsId id → (placed : Placed BugOp) → Has (files_of late) folder side.Bugs id (ACommit placed) → HadOrSeen id placed

  -- a turn of a bug that was listed keeps it so, in a folder that is sound before it
  module _ (sound : IsSound folder (files_of old)) (early late : History) (grew_first : OnlyGrew (objects_in (files_of old) folder) (objects_in (files_of early) folder))
      (grew : OnlyGrew (objects_in (files_of early) folder) (objects_in (files_of late) folder)) (sound_then : IsSound folder (files_of early)) (from : IsFromBoth early) where
    -- a bug that was joined
    joined_from : (entity : EntityRef) → IsListed old folder (side.RemoteBugs remote) entity → JoinsHeads folder entity early late → (placed : Placed BugOp)
        → Has (files_of late) folder side.Bugs entity.id (ACommit placed) → HadOrSeen entity.id placed
    joined_from entity listed turn placed has =
        let both : Head has.head ≡ Head turn.joins.head = sym has.is_head ∙ turn.joins.is_head in
        let same : has.head ≡ turn.joins.head = cc in
        let tracked : head_at (files_of old) folder (side.RemoteBugs remote) entity.id ≡ Head turn.tracked = subst (λ (o : Option Name). head_at (files_of old) folder (side.RemoteBugs remote) entity.id ≡ ref_with o) turn.is_tracked listed.1 in
        elim ((turn.joins.union placed).0 (subst (λ (name : Name). IsOperationCommit bug_kind (objects_in (files_of late) folder) (name ∷ []) placed) same has.is)) [
          | inl mine ↦ from entity.id listed.0 placed (local_had folder early entity.id placed turn.local turn.is_local mine)
          | inr theirs ↦ inr (record {
            head = turn.tracked;
            is_head = tracked;
            is = was_below (objects_in (files_of old) folder) (objects_in (files_of early) folder) turn.tracked (sound parts.Objects).whole grew_first
                (head_held (files_of old) folder (side.RemoteBugs remote) entity.id turn.tracked sound listed.0 tracked) placed theirs;
          })
        ]

    -- whatever came of a bug
    pub turn_from : (entity : EntityRef) → IsListed old folder (side.RemoteBugs remote) entity → ((id : Id) → Once folder side.Bugs side.Bugs id AnyHead entity early late)
        → (late ≡ early) ⊎ JoinsHeads folder entity early late → IsFromBoth late
    turn_from entity listed once (inl same) id is_id placed has = from id is_id placed (subst (λ (h : History). Has (files_of h) folder side.Bugs id (ACommit placed)) same has)
    turn_from entity listed once (inr joins) id is_id placed has = elim (once id) [
      | inl stays ↦ from id is_id placed (had_so folder (files_of early) (files_of late) grew side.Bugs id placed sound_then is_id (stayed folder side.Bugs id early late stays) has)
      | inr sets ↦
          let same = (placed_id side.Bugs side.Bugs entity.id id listed.0 is_id sets.place).1 in
          subst (λ (one : Id). HadOrSeen one placed) same
          (joined_from entity listed joins placed (subst (λ (one : Id). Has (files_of late) folder side.Bugs one (ACommit placed)) (sym same) has))
    ]
