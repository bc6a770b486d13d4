-- Where a call ends behind the turn of a bug, it was cut off there with all writes made, or with none.
use Rattle.std.proofs.Common.{◌≡◌, ℕ, List, [], Option, Some, inl, inr, refl, sym}
use Rattle.std.proofs.lemmas.List.{append-nil}
use Rattle.gb_text.specs.declared.id.Id.{Id}
use Rattle.gb_text.specs.declared.id.Name.{Name}
use Rattle.gb_store.specs.Files.{History, files_of}
use Rattle.gb_store.proofs.MomentLemmas.{WroteSome-back}
use Rattle.entity_merge.specs.Joins.{head_of}
use Rattle.entity_merge.specs.declared.word.Merged.{Merged}
use Rattle.entity_merge.specs.declared.word.Merged.TheVariants as merged
use Rattle.repo_state.specs.Answers.{IsHeadAt}
use Rattle.repo_state.specs.declared.refs.EntityRef.{EntityRef}
use Rattle.repo_state.specs.declared.side.Side.TheVariants as side
use Rattle.merge_steps.specs.Merging.{BugCutOff, BugOutcome, GetsHead, MergesBug, merged_writes}
use Rattle.merge_steps.specs.declared.line.MergeOutcome.{MergeOutcome}
use Rattle.merge_steps.specs.declared.line.MergeOutcome.TheVariants as outcome

module _ (folder : List ℕ) (user : Id) (authors : List Id) (now : ℕ) (entity : EntityRef) (old new : History) where
  module _ (local : Option Name) (is_local : IsHeadAt (files_of old) folder side.Bugs entity.id local) (tracked : Name) (is_tracked : entity.head ≡ Some tracked) where
    -- a bug got a head by a word
    gets_then_ended : (word : Merged) (head : Name) → Some head ≡ head_of local word → (word ≡ merged.Nothing → ⊥) → GetsHead folder user authors now entity.id local tracked word head old new
        → BugCutOff folder user authors now entity old new
    gets_then_ended word head is_head is_new gets =
        let writes = merged_writes folder entity.id head gets.edit gets.create gets.texts (files_of old) in
        inr (record {
          tracked = tracked;
          is_tracked = is_tracked;
          local = local;
          is_local = is_local;
          word = word;
          head = head;
          is_head = is_head;
          is_new = is_new;
          edit = gets.edit;
          create = gets.create;
          texts = gets.texts;
          plan = gets.plan;
          free = gets.free;
          wrote = WroteSome-back writes old new writes [] (sym (append-nil writes)) gets.wrote;
        })

    by_outcome : (out : MergeOutcome) → BugOutcome folder user authors now entity.id local tracked out old new → BugCutOff folder user authors now entity old new
    by_outcome outcome.Nothing (known, same) = inl same
    by_outcome outcome.New gets = gets_then_ended (merged.New tracked) tracked refl (λ is. absurd (cc)) gets
    by_outcome outcome.Forward gets = gets_then_ended (merged.Forward tracked) tracked refl (λ is. absurd (cc)) gets
    by_outcome outcome.Joined (head, gets) = gets_then_ended (merged.Joined head) head refl (λ is. absurd (cc)) gets
    by_outcome (outcome.InvalidBug f) told = inl told.2
    by_outcome (outcome.InvalidIdentity f) none = absurd none
    by_outcome (outcome.NotForward name) none = absurd none

  -- memory may run out behind a turn
  pub bug_then_ended : (out : MergeOutcome) → MergesBug folder user authors now (record { entity = entity; outcome = out }) old new → BugCutOff folder user authors now entity old new
  bug_then_ended out turn = by_outcome turn.local turn.is_local turn.tracked turn.is_tracked out turn.is
