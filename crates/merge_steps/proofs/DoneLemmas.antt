-- What a merge that is done leaves of each entity that it did not refuse.
use Rattle.std.proofs.Common.{◌≡◌, ◌<◌, ◌^◌, ℕ, false, List, Contains, Option, Some, None, inl, inr, sym, ◌∙◌, ap, subst}
use Rattle.repo_state.specs.Listed.{ref_with}
use Rattle.repo_state.proofs.FoundLemmas.{IsLocal-user}
use Rattle.sync_steps.specs.Places.{local_side}
use Rattle.sync_steps.specs.declared.line.EntityWord.{EntityWord}
use Rattle.sync_steps.specs.declared.line.EntityWord.TheVariants as word
use Rattle.merge_steps.specs.Left.{IsLeft, WasLeft}
use Rattle.merge_steps.specs.MergeLines.{is_refused}
use Rattle.merge_steps.specs.Turns.{IsMerged}
use Rattle.merge_steps.specs.declared.line.MergeLine.{MergeLine}
use Rattle.merge_steps.proofs.Names.{Id, Name, Files, History, files_of, RemoteName, IsHeadAt, head_at, Side, MergeTurn, MergesBug, MergesPerson}
use Rattle.merge_steps.proofs.LeftLemmas.{left_outcome}
use Rattle.merge_steps.proofs.PersonLeftLemmas.{later_outcome}
use Rattle.merge_steps.proofs.TurnOfLemmas.{TurnOf, turn_of}

-- a ref that reads the same has the same head, or none
pub head_then : (folder : List ℕ) (of : Side) (id : Id) (one two : Files) (local : Option Name) → head_at one folder of id ≡ head_at two folder of id → IsHeadAt one folder of id local → IsHeadAt two folder of id local
head_then folder of id one two None same is = sym same ∙ is
head_then folder of id one two (Some name) same is = sym same ∙ is

module _ (folder : List ℕ) (remote : RemoteName) (now : ℕ) (moment : now < 2 ^ 64) (old new : History) (lines : List MergeLine) (is : IsMerged folder remote now lines old new) where
  abbrev Left : MergeLine → Type 0
  Left line = WasLeft folder remote line.word line.id old new

  -- by the turn of a line
  left_of : (word : EntityWord) (Step : MergeTurn → History → History → Type 0) (line : MergeLine) (of : TurnOf folder remote word Step old new line) (local : Option Name) (tracked : Name)
      → IsHeadAt (files_of of.at.before) folder (local_side word) of.turn.entity.id local → of.turn.entity.head ≡ Some tracked → IsLeft word folder of.turn.entity.id local tracked of.at.before of.at.after → Left line
  left_of word Step line of local tracked at listed left = subst Left of.is (record {
    local = local;
    is_local = head_then folder (local_side word) of.turn.entity.id (files_of of.at.before) (files_of old) local of.at.earlier at;
    tracked = tracked;
    is_tracked = of.listed.1 ∙ ap ref_with listed;
    before = of.at.before;
    came = of.at.came;
    after = of.at.after;
    goes = of.at.goes;
    left = left;
    stands = of.at.later;
  })

  pub line_left : (line : MergeLine) → Contains lines line → is_refused line.outcome ≡ false → Left line
  line_left line c ok =
      let user = is.tracked.user in
      let authors = is.first.authors in
      elim (turn_of folder remote now old new lines is line c) [
        | inl of ↦
            let turn_ok = subst (λ (l : MergeLine). is_refused l.outcome ≡ false) (sym of.is) ok in
            let step = of.at.step in
            left_of word.Identity (MergesPerson folder) line of step.local step.tracked step.is_local step.is_tracked
            (later_outcome folder of.turn.entity.id of.at.before step.local step.tracked of.turn.outcome of.at.after step.is_local turn_ok step.is)
        | inr of ↦
            let turn_ok = subst (λ (l : MergeLine). is_refused l.outcome ≡ false) (sym of.is) ok in
            let step = of.at.step in
            left_of word.Bug (MergesBug folder user authors now) line of step.local step.tracked step.is_local step.is_tracked
            (left_outcome folder user authors now (IsLocal-user (files_of old) folder user is.tracked.is_user).is_id moment of.turn.entity.id of.at.before step.local step.tracked of.turn.outcome of.at.after step.is_local turn_ok step.is)
      ]
