-- What a merge that refuses no bug leaves of refs and of operation commits.
use Rattle.std.proofs.Common.{◌≡◌, ◌≢◌, ◌⊎◌, ◌<◌, ◌^◌, inl, inr, ℕ, false, List, [], ◌∷◌, Contains, Option, Some, None, Ok, refl, sym, ◌∙◌, ap, subst, arith}
use Rattle.std.proofs.lemmas.List.Elements.{Contains-append_right}
use Rattle.gb_text.specs.Digits.{IsId}
use Rattle.gb_text.specs.declared.id.Id.{Id}
use Rattle.gb_text.specs.declared.id.Name.{Name}
use Rattle.gb_store.specs.Files.{History, files_of}
use Rattle.object_store.specs.Held.{Objects, objects_after}
use Rattle.commit_walk.specs.Below.{IsBelow, head, parent}
use Rattle.ref_store.specs.Refs.{Absent, Head}
use Rattle.bug_ops.specs.Kind.{bug_kind}
use Rattle.bug_ops.specs.declared.op.BugOp.{BugOp}
use Rattle.dag_entity.specs.Entities.{IsOperationCommit}
use Rattle.dag_entity.specs.declared.entity.Placed.{Placed}
use Rattle.entity_merge.specs.Joins.{heads_in}
use Rattle.remote_name.specs.declared.remote.RemoteName.{RemoteName}
use Rattle.repo_state.specs.Answers.{IsHeadAt}
use Rattle.repo_state.specs.Sides.{head_at}
use Rattle.repo_state.specs.Sound.{IsSound}
use Rattle.repo_state.specs.declared.refs.EntityRef.{EntityRef}
use Rattle.repo_state.specs.declared.side.Side.TheVariants as side
use Rattle.repo_state.proofs.ListingLemmas.{Contains-from_map, Contains-map}
use Rattle.sync_steps.specs.declared.line.EntityWord.{EntityWord}
use Rattle.sync_steps.specs.declared.line.EntityWord.TheVariants as word
use Rattle.sync_steps.specs.Places.{local_side}
use Rattle.merge_steps.specs.LineJoins.{JoinedBug}
use Rattle.merge_steps.specs.MergeLines.{is_refused}
use Rattle.merge_steps.specs.Merging.{MergeTurn, MergesBug}
use Rattle.merge_steps.specs.Turns.{MergeAnswers, line_of, lines_of}
use Rattle.merge_steps.specs.declared.line.MergeLine.{MergeLine}
use Rattle.merge_steps.proofs.BothSideLemmas.{line_joins}
use Rattle.merge_steps.proofs.OtherRefLemmas.{merge_leaves}
use Rattle.merge_steps.proofs.TouchLemmas.{bug_touches}
use Rattle.merge_steps.proofs.TurnOfLemmas.{others_stay, people_stay}
use Rattle.full_exchanges.specs.Having.{ACommit, Has, Piece, TheBug}
use Rattle.full_exchanges.proofs.FetchLemmas.{with_none}

-- nothing lies below no head
none_below : (objects : Objects) (name : Name) → IsBelow objects [] name → ⊥
none_below objects name (head (k, lt, e)) = absurd (omega arith)
none_below objects name (parent {high = high} up names) = none_below objects high up

module _ (folder : List ℕ) (remote : RemoteName) (now : ℕ) (old new : History) (lines : List MergeLine) (done : MergeAnswers folder remote now old new (Ok lines)) where
  -- what was last seen at remotes stays
  pub merge_keeps : (other : RemoteName) (id : Id) → head_at (files_of new) folder (side.RemoteBugs other) id ≡ head_at (files_of old) folder (side.RemoteBugs other) id
  merge_keeps other id = merge_leaves folder remote now old new (side.RemoteBugs other) id differ (Ok lines) done
    where
      differ : (word : EntityWord) → side.RemoteBugs other ≢ local_side word
      differ word.Identity e = cc e
      differ word.Bug e = cc e

  -- the local ref of a bug with no tracking ref stays
  pub merge_passes : (id : Id) → IsId id → head_at (files_of old) folder (side.RemoteBugs remote) id ≡ Absent → head_at (files_of new) folder side.Bugs id ≡ head_at (files_of old) folder side.Bugs id
  merge_passes id is none =
      others_stay folder side.Bugs (MergesBug folder done.tracked.user done.first.authors now) (bug_touches folder done.tracked.user done.first.authors now) id is done.turns others done.mid new done.then.each
      ∙ people_stay folder remote now old new side.Bugs (λ e. cc e) id done.first.turns old done.mid done.first.went.each
    where
      others : (turn : MergeTurn) → Contains done.turns turn → IsId turn.entity.id × (turn.entity.id ≢ id)
      others turn c =
          let listed = (done.tracked.are_bugs.members turn.entity).0 (subst (λ (es : List EntityRef). Contains es turn.entity) done.then.are (Contains-map (λ (t : MergeTurn). t.entity) done.turns turn c)) in
          (listed.0, λ same. with_none turn.entity.head (sym none ∙ ap (λ (one : Id). head_at (files_of old) folder (side.RemoteBugs remote) one) (sym same) ∙ listed.1))

  module _ (moment : now < 2 ^ 64) (sound : IsSound folder (files_of old)) (refuses : (line : MergeLine) → Contains lines line → line.word ≡ word.Bug → is_refused line.outcome ≡ false) where
    -- a bug with a tracking ref was joined
    joined : (id : Id) (tracked : Name) → IsId id → head_at (files_of old) folder (side.RemoteBugs remote) id ≡ Head tracked → JoinedBug folder remote id old new
    joined id tracked is at =
        subst (λ (one : Id). JoinedBug folder remote one old new) (ap (λ (e : EntityRef). e.id) from.2)
        (line_joins folder remote now old new lines line moment sound done in_lines refl (refuses line in_lines refl))
      where
        entity : EntityRef
        entity = record { id = id; head = Some tracked }

        from : (turn : MergeTurn) × Contains done.turns turn × (turn.entity ≡ entity)
        from = Contains-from_map (λ (t : MergeTurn). t.entity) done.turns entity
            (subst (λ (es : List EntityRef). Contains es entity) (sym done.then.are) ((done.tracked.are_bugs.members entity).1 (is, at)))

        line : MergeLine
        line = line_of word.Bug from.0

        in_lines : Contains lines line
        in_lines = subst (λ (ls : List MergeLine). Contains ls line) (sym done.are_lines)
            (Contains-append_right (lines_of word.Identity done.first.turns) (lines_of word.Bug done.turns) line (Contains-map (line_of word.Bug) done.turns from.0 from.1))

    module _ (id : Id) (tracked : Name) (is : IsId id) (at : head_at (files_of old) folder (side.RemoteBugs remote) id ≡ Head tracked) where
      j : JoinedBug folder remote id old new
      j = joined id tracked is at

      same_tracked : j.tracked ≡ tracked
      same_tracked = let both : Head j.tracked ≡ Head tracked = sym j.is_tracked ∙ at in cc

      -- the local head had it
      local_had : (placed : Placed BugOp) (local : Option Name) → IsHeadAt (files_of old) folder side.Bugs id local → IsOperationCommit bug_kind (objects_after old folder) (heads_in local) placed
          → Has (files_of old) folder side.Bugs id (ACommit placed)
      local_had placed None at is = absurd (none_below (objects_after old folder) placed.commit is.below)
      local_had placed (Some top) at is = record { head = top; is_head = at; is = is }

      local_has : (placed : Placed BugOp) → Has (files_of old) folder side.Bugs id (ACommit placed) → (local : Option Name) → IsHeadAt (files_of old) folder side.Bugs id local
          → IsOperationCommit bug_kind (objects_after old folder) (heads_in local) placed
      local_has placed h None at = let clash : Absent ≡ Head h.head = sym at ∙ h.is_head in absurd (cc clash)
      local_has placed h (Some top) at =
          let both : Head h.head ≡ Head top = sym h.is_head ∙ at in
          let same : h.head ≡ top = cc in
          subst (λ (name : Name). IsOperationCommit bug_kind (objects_after old folder) (name ∷ []) placed) same h.is

      -- so its local ref has then what it had and what the tracking ref had
      pub joined_has : (piece : Piece) → Has (files_of new) folder side.Bugs id piece → Has (files_of old) folder side.Bugs id piece ⊎ Has (files_of old) folder (side.RemoteBugs remote) id piece
      joined_has TheBug h = inr (record { head = tracked; is_head = at; is = tt })
      joined_has (ACommit placed) h =
          let both : Head h.head ≡ Head j.joins.head = sym h.is_head ∙ j.joins.is_head in
          let same : h.head ≡ j.joins.head = cc in
          elim ((j.joins.union placed).0 (subst (λ (name : Name). IsOperationCommit bug_kind (objects_after new folder) (name ∷ []) placed) same h.is)) [
            | inl mine ↦ inl (local_had placed j.local j.is_local mine)
            | inr theirs ↦ inr (record {
              head = tracked;
              is_head = at;
              is = subst (λ (name : Name). IsOperationCommit bug_kind (objects_after old folder) (name ∷ []) placed) same_tracked theirs;
            })
          ]

      pub has_joined : (piece : Piece) → Has (files_of old) folder side.Bugs id piece ⊎ Has (files_of old) folder (side.RemoteBugs remote) id piece → Has (files_of new) folder side.Bugs id piece
      has_joined TheBug h = record { head = j.joins.head; is_head = j.joins.is_head; is = tt }
      has_joined (ACommit placed) (inl h) = record {
        head = j.joins.head;
        is_head = j.joins.is_head;
        is = (j.joins.union placed).1 (inl (local_has placed h j.local j.is_local));
      }
      has_joined (ACommit placed) (inr h) =
          let both : Head h.head ≡ Head j.tracked = sym h.is_head ∙ j.is_tracked in
          let same : h.head ≡ j.tracked = cc in
          record {
            head = j.joins.head;
            is_head = j.joins.is_head;
            is = (j.joins.union placed).1 (inr (subst (λ (name : Name). IsOperationCommit bug_kind (objects_after old folder) (name ∷ []) placed) same h.is));
          }
