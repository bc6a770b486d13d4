-- An edit brings to a bug the one commit that it adds, and no more, also where it stopped.
use Rattle.std.proofs.Common.{◌≡◌, inl, inr, refl, subst, ◌++◌, reverse, Result, Ok, Err}
use Rattle.gb_text.specs.Digits.{IsId}
use Rattle.gb_text.specs.declared.id.Id.{Id}
use Rattle.gb_store.specs.Files.{History, files_of}
use Rattle.gb_store.specs.Moments.{IsMoment}
use Rattle.gb_store.proofs.MomentLemmas.{IsMoment-of_first, Wrote-none}
use Rattle.bug_ops.specs.declared.op.BugOp.{BugOp}
use Rattle.dag_entity.specs.declared.entity.Placed.{Placed}
use Rattle.repo_state.specs.Sound.{IsSound}
use Rattle.repo_state.specs.declared.side.Side.TheVariants as side
use Rattle.repo_writes.specs.Kinds.{IsWrite}
use Rattle.repo_steps.specs.Answers.{IsDone, IsStopped}
use Rattle.repo_steps.specs.Checks.{AllPass}
use Rattle.repo_steps.specs.Doing.{Doing}
use Rattle.repo_steps.specs.Doings.{EditAnswers, doing_of}
use Rattle.repo_steps.specs.Picked.{Picked}
use Rattle.repo_steps.specs.declared.env.Env.{Env}
use Rattle.repo_steps.specs.declared.refusal.Stop.{Stop}
use Rattle.repo_steps.specs.declared.refusal.Stop.TheVariants as stop
use Rattle.repo_steps.proofs.DoneLemmas.{IsMade, made_so}
use Rattle.words.specs.declared.edit.Edit.{Edit}
use Rattle.ref_moments.specs.Leads.{LeadsOn}
use Rattle.ref_moments.specs.Once.{ChangesOnce}
use Rattle.ref_moments.specs.Sets.{StaysOrIsSet}
use Rattle.ref_moments.proofs.EditLemmas.{edit_sets}
use Rattle.ref_moments.proofs.LeadLemmas.{kinds_lead_on}
use Rattle.ref_moments.proofs.MomentLemmas.{old_or_new}
use Rattle.ref_moments.proofs.OnceLemmas.{last_moment, stayed, stays_none}
use Rattle.full_exchanges.specs.Having.{ACommit, Has}
use Rattle.operation_origins.proofs.StopLemmas.{grew_before, had_so, moment_then, old_or_whole, some_moment, wrote_first}
use Rattle.operation_origins.proofs.AddedLemmas.{HadOrAdded, set_adds}

module _ (env : Env) (command : Edit) (old : History) (sound : IsSound env.folder (files_of old)) (id : Id) (is_id : IsId id) (placed : Placed BugOp) where
  -- the folder has the commit
  abbrev At : History → Type 0
  At late = Has (files_of late) env.folder side.Bugs id (ACommit placed)

  -- it had the commit, or the edit adds it
  abbrev Out : Type 0
  Out = HadOrAdded env command (files_of old) id placed

  -- it wrote nothing
  none_added : (end new : History) → end ≡ old → IsMoment old end new → At new → Out
  none_added end new same stop has =
      inl (had_so env.folder (files_of old) (files_of new) (grew_before env.folder old end new (kinds_lead_on env.folder old end (Wrote-none (IsWrite env.folder) old end same)) stop) side.Bugs id placed sound is_id
      ((stays_none env.folder side.Bugs id old end same).each new stop) has)

  -- every check of it passes, and its writes were made up to a moment
  module _ (picked : Picked) (passes : AllPass (doing_of env command picked old).checks) where
    abbrev doing : Doing
    doing = doing_of env command picked old

    abbrev full : History
    full = reverse doing.writes ++ old

    -- so all its writes make its step
    made : IsMade env command doing old
    made = made_so env command picked old passes

    done : IsDone doing old full made.told
    done = record { may = passes; writes = refl; told = made.is_told }

    leads : LeadsOn env.folder old full
    leads = kinds_lead_on env.folder old full made.wrote

    sets : StaysOrIsSet env.folder doing side.Bugs id old full
    sets = edit_sets env command old full (Ok made.told) (picked, done) side.Bugs id

    once : ChangesOnce env.folder side.Bugs id old full
    once = elim sets [ inl stays ↦ inl stays | inr own ↦ inr (own.set.head, own.once) ]

    -- where all its writes were made
    all_added : At full → Out
    all_added has = elim sets [
      | inl stays ↦ inl (had_so env.folder (files_of old) (files_of full) (grew_before env.folder old full full leads (last_moment old full (wrote_first old full made.wrote))) side.Bugs id placed sound is_id
          (stayed env.folder side.Bugs id old full stays) has)
      | inr own ↦ set_adds env old full command picked made.told passes made.steps id is_id own placed has
    ]

    -- where some of them were
    some_added : (new : History) → IsMoment old full new → At new → Out
    some_added new at has = elim (old_or_whole env.folder old full new leads at side.Bugs id placed sound is_id ((old_or_new env.folder side.Bugs id old full once).each new at) has) [
      | inl was ↦ inl was
      | inr all ↦ all_added all
    ]

  -- where it wrote nothing, or its first writes
  stopped_added : (end new : History) (picked : Picked) → IsStopped (doing_of env command picked old) old end → IsMoment old end new → At new → Out
  stopped_added end new picked (inl same) stop has = none_added end new same stop has
  stopped_added end new picked (inr (passes, some)) stop has =
      let writes = (doing_of env command picked old).writes in
      some_added picked passes new (IsMoment-of_first old end (reverse writes ++ old) new stop (moment_then old (reverse writes ++ old) end (some_moment writes old end some))) has

  -- where an edit stopped, its folder has of a bug what it had, or what the edit adds
  pub edit_brings : (end : History) (result : Result Id Stop) → EditAnswers env command old end result → (new : History) → IsMoment old end new → At new → Out
  edit_brings end (Ok told) (picked, is) new stop has = some_added picked is.may new (subst (λ (h : History). IsMoment old h new) is.writes stop) has
  edit_brings end (Err stop.Memory) (picked, is) new at has = stopped_added end new picked is at has
  edit_brings end (Err stop.Disk) (picked, is) new at has = stopped_added end new picked is at has
  edit_brings end (Err (stop.Refused r)) (picked, is) new at has = none_added end new is.1 at has
