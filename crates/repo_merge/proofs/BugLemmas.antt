-- What comes of a bug whose heads are joined.
use Rattle.std.proofs.Common.{◌≡◌, ◌++◌, ℕ, List, reverse, Some, None, Ok, Err, inl, inr, subst}
use Rattle.gb_text.specs.declared.id.Id.{Id}
use Rattle.gb_text.specs.declared.id.Name.{Name}
use Rattle.gb_store.specs.Files.{History, files_of}
use Rattle.gb_store.specs.Moments.{WroteSome}
use Rattle.object_store.specs.Held.{objects_after}
use Rattle.object_batch.specs.Batches.{CannotHave, MayBePut}
use Rattle.bug_ops.specs.Kind.{bug_kind}
use Rattle.entity_merge.specs.Joins.{DoesWord, HasWord, PlanAnswers}
use Rattle.entity_merge.specs.declared.plan.MergePlan.{MergePlan}
use Rattle.entity_merge.specs.declared.word.Merged.{Merged}
use Rattle.entity_merge.specs.declared.word.Merged.TheVariants as merged
use Rattle.repo_state.specs.Clocks.{clock_at}
use Rattle.repo_state.specs.declared.clocks.ClockFile.TheVariants as file
use Rattle.repo_state.specs.declared.refs.EntityRef.{EntityRef}
use Rattle.repo_state.specs.declared.side.Side.{Side}
use Rattle.repo_state.specs.declared.side.Side.TheVariants as side
use Rattle.merge_steps.specs.Merging.{BugCutOff, BugOutcome, HasPlan, IsBarred, MergesBug}
use Rattle.merge_steps.specs.declared.line.MergeOutcome.{MergeOutcome}
use Rattle.merge_steps.specs.declared.line.MergeOutcome.TheVariants as outcome
use Rattle.merge_steps.specs.declared.stop.TurnStop.{TurnStop}
use Rattle.merge_steps.specs.declared.stop.TurnStop.TheVariants as stop
use Rattle.repo_merge.specs.Giving.{GiveAnswers, GiveCut, writes_of}
use Rattle.repo_merge.specs.Heads.{HasHeads}
use Rattle.repo_merge.specs.Turning.{OneBug, new_head, word_outcome}
use Rattle.repo_merge.specs.declared.heads.Heads.{Heads}
use Rattle.repo_merge.specs.declared.maker.Maker.{Maker}
use Rattle.repo_merge.proofs.WordLemmas.{gets_head, gets_one, new_head_results, none_is_nothing, refused_joins}

module _ (folder : List ℕ) (maker : Maker) (entity : EntityRef) (heads : Heads) (old new : History) (has : HasHeads (files_of old) folder side.Bugs entity heads) where
  -- the turn of a bug, by what came of its heads
  pub bug_turn : (outcome : MergeOutcome) → BugOutcome folder maker.user maker.authors maker.time heads.id heads.local heads.tracked outcome old new
      → MergesBug folder maker.user maker.authors maker.time (record { entity = entity; outcome = outcome }) old new
  bug_turn outcome is = record {
    tracked = heads.tracked;
    is_tracked = has.is_tracked;
    local = heads.local;
    is_local = has.is_local;
    is = subst (λ (id : Id). BugOutcome folder maker.user maker.authors maker.time id heads.local heads.tracked outcome old new) has.same_id is;
  }

  module _ (plan : MergePlan) (seen : ℕ) (is_seen : seen ≡ clock_at (files_of old) folder file.BugsEdit)
      (answered : PlanAnswers bug_kind (objects_after old folder) heads.id heads.local heads.tracked maker.user maker.authors seen maker.time (Ok plan)) where
    -- the plan, by the clock that the folder has
    planned : HasPlan folder maker.user maker.authors maker.time heads.id heads.local heads.tracked plan.merged plan.edit plan.create plan.objects old
    planned = record {
      word_is = answered.0;
      does = subst (λ (clock : ℕ). DoesWord bug_kind (objects_after old folder) heads.id heads.local heads.tracked maker.user maker.authors clock maker.time plan.merged plan.edit plan.create plan.objects) is_seen answered.1;
    }

    -- the local head stays where no other is got
    pub follow_nothing : new_head plan.merged ≡ None → new ≡ old → MergesBug folder maker.user maker.authors maker.time (record { entity = entity; outcome = outcome.Nothing }) old new
    follow_nothing none same =
        bug_turn outcome.Nothing (subst (HasWord (objects_after old folder) heads.local heads.tracked) (none_is_nothing plan.merged none) answered.0, same)

    module _ (head : Name) (is_head : Some head ≡ new_head plan.merged) where
      -- the bug gets the head
      pub follow_done : MayBePut folder plan.objects old → new ≡ reverse (writes_of folder heads.id head plan old) ++ old → MergesBug folder maker.user maker.authors maker.time (record { entity = entity; outcome = word_outcome plan.merged }) old new
      follow_done free made = bug_turn (word_outcome plan.merged) (gets_head folder maker.user maker.authors maker.time heads.id heads.local heads.tracked old new plan.merged head is_head (record {
        edit = plan.edit;
        create = plan.create;
        texts = plan.objects;
        plan = planned;
        free = free;
        wrote = made;
      }))

      -- nothing was written, or the first of the writes
      follow_cut : GiveCut folder heads.id head plan old new → BugCutOff folder maker.user maker.authors maker.time entity old new
      follow_cut (inl same) = inl same
      follow_cut (inr (free, some)) = inr (record {
        tracked = heads.tracked;
        is_tracked = has.is_tracked;
        local = heads.local;
        is_local = has.is_local;
        word = plan.merged;
        head = head;
        is_head = new_head_results heads.local plan.merged head is_head;
        is_new = gets_one plan.merged head is_head;
        edit = plan.edit;
        create = plan.create;
        texts = plan.objects;
        plan = subst (λ (id : Id). HasPlan folder maker.user maker.authors maker.time id heads.local heads.tracked plan.merged plan.edit plan.create plan.objects old) has.same_id planned;
        free = free;
        wrote = subst (λ (id : Id). WroteSome (writes_of folder id head plan old) old new) has.same_id some;
      })

      -- an object of a merge commit was refused
      follow_barred : (name : Name) → CannotHave folder plan.objects old name → new ≡ old → IsBarred folder maker.user maker.authors maker.time entity name old new
      follow_barred name cannot same = record {
        tracked = heads.tracked;
        is_tracked = has.is_tracked;
        local = heads.local;
        is_local = has.is_local;
        head = head;
        edit = plan.edit;
        create = plan.create;
        texts = plan.objects;
        plan = subst (λ (id : Id). HasPlan folder maker.user maker.authors maker.time id heads.local heads.tracked (merged.Joined head) plan.edit plan.create plan.objects old) has.same_id
            (subst (λ (word : Merged). HasPlan folder maker.user maker.authors maker.time heads.id heads.local heads.tracked word plan.edit plan.create plan.objects old)
            (refused_joins folder maker.user maker.authors maker.time heads.id heads.local heads.tracked old plan.merged head plan.edit plan.create plan.objects name is_head planned cannot) planned);
        cannot = cannot;
        same = same;
      }

      -- the call ended at a bug that was to get a head
      pub follow_stops : (tracked : Side) (why : TurnStop) → GiveAnswers folder heads.id head plan old new (Err why) → OneBug folder maker tracked entity old new (Err why)
      follow_stops tracked stop.Memory cut = follow_cut cut
      follow_stops tracked stop.Disk cut = follow_cut cut
      follow_stops tracked (stop.Damaged path) none = absurd none
      follow_stops tracked (stop.Taken name) refused = follow_barred name refused.0 refused.1
