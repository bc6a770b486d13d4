-- What a folder has of a bug where a call stopped: what it had, or what it has where the call went to its end.
use Rattle.std.proofs.Common.{◌≡◌, ◌⊎◌, inl, inr, refl, sym, ◌∙◌, ap, subst, append_assoc, ℕ, List, [], ◌∷◌, ◌++◌, reverse}
use Rattle.std.proofs.lemmas.List.{reverse-append}
use Rattle.gb_text.specs.Digits.{IsId}
use Rattle.gb_text.specs.declared.id.Id.{Id}
use Rattle.gb_text.specs.declared.id.Name.{Name}
use Rattle.gb_store.specs.Files.{Files, History, files_of}
use Rattle.gb_store.specs.Moments.{IsMoment, WroteBy, WroteSome}
use Rattle.gb_store.specs.declared.store.Change.{Change}
use Rattle.gb_store.proofs.MomentLemmas.{WroteSome-there}
use Rattle.git_object.specs.declared.frame.Kind.TheVariants as kinds
use Rattle.object_store.specs.Growth.{OnlyGrew}
use Rattle.object_store.specs.Held.{Objects, objects_in}
use Rattle.object_batch.specs.Needs.{IsHeldAs, IsWhole}
use Rattle.commit_walk.proofs.BelowLemmas.{IsBelow-stays}
use Rattle.commit_walk.proofs.DistinctLemmas.{Contains-one}
use Rattle.bug_ops.specs.Kind.{bug_kind}
use Rattle.bug_ops.specs.declared.op.BugOp.{BugOp}
use Rattle.dag_entity.specs.Entities.{IsOperationCommit}
use Rattle.dag_entity.specs.declared.entity.Placed.{Placed}
use Rattle.repo_state.specs.Sides.{head_at}
use Rattle.repo_state.specs.Sound.{IsSound}
use Rattle.repo_state.specs.Sound as parts
use Rattle.repo_state.specs.declared.side.Side.{Side}
use Rattle.merge_steps.proofs.WholeLemmas.{operation_back, whole_stays}
use Rattle.ref_moments.specs.Leads.{LeadsOn}
use Rattle.ref_moments.specs.Once.{IsOldOrNew}
use Rattle.run_moments.proofs.SurviveLemmas.{pack_stays}
use Rattle.full_exchanges.specs.Having.{ACommit, Has}
use Rattle.full_exchanges.proofs.HasLemmas.{head_held}

-- an operation commit below a head whose objects were all held was one before objects were added
pub was_below : (old new : Objects) (head : Name) → IsWhole old → OnlyGrew old new → IsHeldAs old head kinds.Commit → (placed : Placed BugOp)
    → IsOperationCommit bug_kind new (head ∷ []) placed → IsOperationCommit bug_kind old (head ∷ []) placed
was_below old new head whole grew held placed is =
    operation_back old new (head ∷ [])
    (whole_stays old whole (head ∷ []) (λ name c. subst (λ (n : Name). IsHeldAs old n kinds.Commit) (Contains-one head name c) held) new grew) placed is

module _ (folder : List ℕ) (old new : Files) (grew : OnlyGrew (objects_in old folder) (objects_in new folder)) where
  -- a ref of a sound folder that reads as before has what it had
  pub had_so : (of : Side) (id : Id) (placed : Placed BugOp) → IsSound folder old → IsId id → head_at new folder of id ≡ head_at old folder of id
      → Has new folder of id (ACommit placed) → Has old folder of id (ACommit placed)
  had_so of id placed sound is_id same has =
      let at = sym same ∙ has.is_head in
      record {
        head = has.head;
        is_head = at;
        is = was_below (objects_in old folder) (objects_in new folder) has.head (sound parts.Objects).whole grew (head_held old folder of id has.head sound is_id at) placed has.is;
      }

  -- what a ref has it has where objects were added
  pub has_on : (of : Side) (id : Id) (placed : Placed BugOp) → head_at new folder of id ≡ head_at old folder of id → Has old folder of id (ACommit placed) → Has new folder of id (ACommit placed)
  has_on of id placed same has = record {
    head = has.head;
    is_head = same ∙ has.is_head;
    is = record {
      below = IsBelow-stays (objects_in old folder) (objects_in new folder) grew (has.head ∷ []) placed.commit has.is.below;
      has = pack_stays (objects_in old folder) (objects_in new folder) grew placed.commit placed.pack has.is.has;
      some = has.is.some;
    };
  }

-- ---- moments

-- the first moment of what a moment is of
pub moment_first : (old new moment : History) → IsMoment old new moment → IsMoment old new old
moment_first old new moment at = record {
  later = at.later ++ at.done;
  done = [];
  before = refl;
  after = at.after ∙ ap (λ (h : History). at.later ++ h) at.before ∙ sym (append_assoc at.later at.done old);
}

-- the first of what came after a moment
pub moment_then : (old new moment : History) → IsMoment old new moment → IsMoment moment new moment
moment_then old new moment at = record { later = at.later; done = []; before = refl; after = at.after }

-- the first moment of what was written
pub wrote_first : {Rule : History → List Change → Change → Type 0} (old new : History) → WroteBy Rule old new → IsMoment old new old
wrote_first old new wrote = record { later = wrote.writes; done = []; before = refl; after = wrote.grew }

-- the moment behind some first ones of writes
pub some_moment : (writes : List Change) (old new : History) → WroteSome writes old new → IsMoment old (reverse writes ++ old) new
some_moment writes old new some =
    let front = WroteSome-there writes old new some in
    record {
      later = reverse front.1;
      done = reverse front.0;
      before = front.3;
      after = ap (λ (ws : List Change). reverse ws ++ old) front.2 ∙ ap (λ (ws : List Change). ws ++ old) (reverse-append front.0 front.1)
          ∙ append_assoc (reverse front.1) (reverse front.0) old ∙ ap (λ (h : History). reverse front.1 ++ h) (sym front.3);
    }

module _ (folder : List ℕ) (old new moment : History) (leads : LeadsOn folder old new) (at : IsMoment old new moment) where
  -- up to a moment objects were added, and from it on
  pub grew_before : OnlyGrew (objects_in (files_of old) folder) (objects_in (files_of moment) folder)
  grew_before = (leads old moment (moment_first old new moment at) at).objects

  pub grew_after : OnlyGrew (objects_in (files_of moment) folder) (objects_in (files_of new) folder)
  grew_after = (leads moment new at (record { later = []; done = at.later; before = at.after; after = refl })).objects

  -- what is had where a call stopped was had, or is had where it went to its end
  pub old_or_whole : (of : Side) (id : Id) (placed : Placed BugOp) → IsSound folder (files_of old) → IsId id → IsOldOrNew folder of id old new (files_of moment)
      → Has (files_of moment) folder of id (ACommit placed) → Has (files_of old) folder of id (ACommit placed) ⊎ Has (files_of new) folder of id (ACommit placed)
  old_or_whole of id placed sound is_id (inl stays) has = inl (had_so folder (files_of old) (files_of moment) grew_before of id placed sound is_id stays has)
  old_or_whole of id placed sound is_id (inr then) has = inr (has_on folder (files_of moment) (files_of new) grew_after of id placed (sym then) has)
