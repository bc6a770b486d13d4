-- A merge in a sound folder: what a line says of a bug holds of the folder before the merge and after it.
use Rattle.std.proofs.Common.{◌≡◌, ◌<◌, ◌^◌, ◌⊎◌, inl, inr, ℕ, false, List, [], ◌∷◌, Contains, Option, Some, None, Ok, refl, ◌∙◌, ap, subst, arith}
use Rattle.std.proofs.lemmas.List.Elements.{Contains-append_cases}
use Rattle.git_object.specs.declared.frame.Kind.TheVariants as kinds
use Rattle.gb_store.specs.Moments.{AllMoments}
use Rattle.gb_store.proofs.MomentLemmas.{WroteBy-after, at_moment-from_later}
use Rattle.gb_store.specs.Moments.{at_moment}
use Rattle.object_store.specs.Growth.{OnlyGrew}
use Rattle.object_batch.specs.Needs.{IsHeldAs}
use Rattle.dag_entity.specs.Agreeing.{SameNeeded}
use Rattle.dag_entity.specs.Entities.{IsOperationCommit}
use Rattle.dag_entity.proofs.AgreeLemmas.{below_over}
use Rattle.entity_merge.specs.Joins.{AreUnion, heads_in}
use Rattle.repo_state.specs.Sound.{IsSound}
use Rattle.repo_state.specs.Sound as parts
use Rattle.repo_state.specs.declared.side.Side.TheVariants as side
use Rattle.repo_state.proofs.LedLemmas.{led_from_heads}
use Rattle.repo_state.proofs.ListingLemmas.{Contains-from_map}
use Rattle.repo_writes.proofs.KeptLemmas.{loses_nothing}
use Rattle.repo_writes.proofs.SoundLemmas.{keeps_parts, keeps_sound}
use Rattle.sync_steps.specs.declared.line.EntityWord.TheVariants as word
use Rattle.merge_steps.specs.LineJoins.{JoinedBug, JoinedLine}
use Rattle.merge_steps.specs.MergeLines.{is_refused}
use Rattle.merge_steps.specs.Turns.{IsMerged, line_of, lines_of}
use Rattle.merge_steps.specs.declared.line.MergeLine.{MergeLine}
use Rattle.merge_steps.proofs.Names.{Contains-one, Head, History, Id, IsHeadAt, IsId, IsWrite, Name, Objects, RemoteName, Side, Wrote, bug_kind, files_of, head_at, objects_after}
use Rattle.merge_steps.proofs.LineJoinLemmas.{line_joined}
use Rattle.merge_steps.proofs.MergeWriteLemmas.{ids_of_turns, merge_wrote}
use Rattle.merge_steps.proofs.WholeLemmas.{operation_back, operation_over, whole_stays}

-- the heads of one list
one_head : (objects : Objects) (top : Name) → IsHeldAs objects top kinds.Commit → (name : Name) → Contains (top ∷ []) name → IsHeldAs objects name kinds.Commit
one_head objects top held name c = subst (λ (n : Name). IsHeldAs objects n kinds.Commit) (Contains-one top name c) held

module _ (folder : List ℕ) where
  -- what the head of a ref of a sound folder leads to stays, where objects are only added
  head_stays : (old new : History) (of : Side) (id : Id) (top : Name) → IsSound folder (files_of old) → IsId id → head_at (files_of old) folder of id ≡ Head top
      → OnlyGrew (objects_after old folder) (objects_after new folder) → SameNeeded (objects_after old folder) (objects_after new folder) (top ∷ [])
  head_stays old new of id top sound is at grew =
      whole_stays (objects_after old folder) (sound parts.Objects).whole (top ∷ [])
      (one_head (objects_after old folder) top (led_from_heads folder (files_of old) sound of id top (record { name = top; kind = kinds.Commit }) is at ([], refl)))
      (objects_after new folder) grew

  -- and so of a head that may be missing
  heads_stay : (old new : History) (id : Id) (local : Option Name) → IsSound folder (files_of old) → IsId id → IsHeadAt (files_of old) folder side.Bugs id local
      → OnlyGrew (objects_after old folder) (objects_after new folder) → SameNeeded (objects_after old folder) (objects_after new folder) (heads_in local)
  heads_stay old new id None sound is at grew = whole_stays (objects_after old folder) (sound parts.Objects).whole [] (λ top c. absurd (none top c)) (objects_after new folder) grew
    where
      none : (top : Name) → Contains [] top → ⊥
      none top (k, lt, e) = absurd (omega arith)
  heads_stay old new id (Some top) sound is at grew = head_stays old new side.Bugs id top sound is at grew

  -- what was joined between two moments of a merge of a sound folder was joined by the merge
  module _ (remote : RemoteName) (old new : History) (wrote : Wrote (IsWrite folder) old new) (sound : IsSound folder (files_of old)) where
    all_sound : AllMoments (IsSound folder) old new
    all_sound = keeps_sound folder old new (keeps_parts folder old new wrote) sound

    module _ (line : MergeLine) (is_id : IsId line.id) (j : JoinedLine folder remote line old new) where
      until : OnlyGrew (objects_after old folder) (objects_after j.mid folder)
      until = ((loses_nothing folder old new wrote).each j.mid j.is_mid).objects

      since : OnlyGrew (objects_after j.end folder) (objects_after new folder)
      since =
          let rest = WroteBy-after (at_moment (IsWrite folder)) old new j.end (at_moment-from_later (IsWrite folder)) wrote j.is_end in
          let kept = loses_nothing folder j.end new rest in
          (kept.each new (record { later = []; done = j.is_end.later; before = j.is_end.after; after = refl })).objects

      local_same : SameNeeded (objects_after old folder) (objects_after j.mid folder) (heads_in j.local)
      local_same = heads_stay old j.mid line.id j.local sound is_id j.heads.was_local until

      tracked_same : SameNeeded (objects_after old folder) (objects_after j.mid folder) (j.tracked ∷ [])
      tracked_same = head_stays old j.mid (side.RemoteBugs remote) line.id j.tracked sound is_id j.heads.was_tracked until

      head_same : SameNeeded (objects_after j.end folder) (objects_after new folder) (j.joins.head ∷ [])
      head_same = head_stays j.end new side.Bugs line.id j.joins.head (all_sound.each j.end j.is_end) is_id j.joins.is_head since

      union : AreUnion bug_kind (objects_after new folder) (j.joins.head ∷ []) (objects_after old folder) (heads_in j.local) (j.tracked ∷ [])
      union placed = (there, back)
        where
          there : IsOperationCommit bug_kind (objects_after new folder) (j.joins.head ∷ []) placed
              → IsOperationCommit bug_kind (objects_after old folder) (heads_in j.local) placed ⊎ IsOperationCommit bug_kind (objects_after old folder) (j.tracked ∷ []) placed
          there h = elim ((j.joins.union placed).0 (operation_back (objects_after j.end folder) (objects_after new folder) (j.joins.head ∷ []) head_same placed h)) [
            | inl mine ↦ inl (operation_back (objects_after old folder) (objects_after j.mid folder) (heads_in j.local) local_same placed mine)
            | inr theirs ↦ inr (operation_back (objects_after old folder) (objects_after j.mid folder) (j.tracked ∷ []) tracked_same placed theirs)
          ]

          over : IsOperationCommit bug_kind (objects_after j.mid folder) (heads_in j.local) placed ⊎ IsOperationCommit bug_kind (objects_after j.mid folder) (j.tracked ∷ []) placed
              → IsOperationCommit bug_kind (objects_after new folder) (j.joins.head ∷ []) placed
          over either = operation_over (objects_after j.end folder) (objects_after new folder) (j.joins.head ∷ []) head_same placed ((j.joins.union placed).1 either)

          back : IsOperationCommit bug_kind (objects_after old folder) (heads_in j.local) placed ⊎ IsOperationCommit bug_kind (objects_after old folder) (j.tracked ∷ []) placed
              → IsOperationCommit bug_kind (objects_after new folder) (j.joins.head ∷ []) placed
          back (inl mine) = over (inl (operation_over (objects_after old folder) (objects_after j.mid folder) (heads_in j.local) local_same placed mine))
          back (inr theirs) = over (inr (operation_over (objects_after old folder) (objects_after j.mid folder) (j.tracked ∷ []) tracked_same placed theirs))

      joined_bug : JoinedBug folder remote line.id old new
      joined_bug = record {
        local = j.local;
        is_local = j.heads.was_local;
        tracked = j.tracked;
        is_tracked = j.heads.was_tracked;
        joins = record {
          head = j.joins.head;
          is_head = j.stays ∙ j.joins.is_head;
          union = union;
          keeps = λ low is. below_over (objects_after j.end folder) (objects_after new folder) (j.joins.head ∷ []) head_same low (j.joins.keeps low is);
        };
      }

-- the id of a bug's line is one
line_id : (folder : List ℕ) (remote : RemoteName) (now : ℕ) (old new : History) (lines : List MergeLine) (done : IsMerged folder remote now lines old new) (line : MergeLine)
    → Contains lines line → line.word ≡ word.Bug → IsId line.id
line_id folder remote now old new lines done line c bug =
    elim (Contains-append_cases (lines_of word.Identity done.first.turns) (lines_of word.Bug done.turns) line (subst (λ (ls : List MergeLine). Contains ls line) done.are_lines c)) [
      | inl mine ↦ let from = Contains-from_map (line_of word.Identity) done.first.turns line mine in absurd (cc (ap (λ (l : MergeLine). l.word) from.2 ∙ bug))
      | inr mine ↦ let from = Contains-from_map (line_of word.Bug) done.turns line mine in
          subst (λ (l : MergeLine). IsId l.id) from.2 (ids_of_turns (files_of old) folder (side.RemoteBugs remote) done.tracked.bugs done.turns done.tracked.are_bugs done.then.are from.0 from.1)
    ]

-- a line of a merge that does not refuse a bug
pub line_joins : (folder : List ℕ) (remote : RemoteName) (now : ℕ) (old new : History) (lines : List MergeLine) (line : MergeLine) → now < 2 ^ 64 → IsSound folder (files_of old)
    → IsMerged folder remote now lines old new → Contains lines line → line.word ≡ word.Bug → is_refused line.outcome ≡ false → JoinedBug folder remote line.id old new
line_joins folder remote now old new lines line moment sound done c bug ok =
    joined_bug folder remote old new (merge_wrote folder remote now old new (Ok lines) moment done) sound line (line_id folder remote now old new lines done line c bug)
    (line_joined folder remote now old new lines done moment line c bug ok)
