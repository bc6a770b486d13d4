-- What folders have last seen of a bug at a remote has nothing wrong with it, but perhaps that an author is unknown.
use Rattle.std.proofs.Common.{◌≡◌, inl, inr, ℕ, List, [], ◌∷◌, Contains, Some, None, refl, sym, ◌∙◌, subst}
use Rattle.gb_text.specs.declared.id.Id.{Id}
use Rattle.gb_text.specs.declared.id.Name.{Name}
use Rattle.gb_store.specs.Files.{Files, History, files_of}
use Rattle.git_object.specs.declared.frame.Kind.TheVariants as kinds
use Rattle.object_store.specs.Growth.{OnlyGrew}
use Rattle.object_store.specs.Held.{objects_in}
use Rattle.object_store.proofs.GrowthLemmas.{text_stays}
use Rattle.object_batch.specs.Needs.{IsHeldAs}
use Rattle.ref_store.specs.Refs.{Head}
use Rattle.bug_ops.specs.Kind.{bug_kind}
use Rattle.dag_entity.proofs.AgreeFaults.{fault_over}
use Rattle.dag_entity.proofs.AgreeLemmas.{agree_back}
use Rattle.dag_entity.proofs.HoldLemmas.{folders_agree}
use Rattle.repo_state.specs.Sides.{head_at}
use Rattle.repo_state.specs.Sound.{HasNoFault, IsSound, IsSoundBug}
use Rattle.repo_state.specs.Sound as parts
use Rattle.repo_state.specs.declared.side.Side.TheVariants as side
use Rattle.repo_state.proofs.EmptyLemmas.{empty_is_sound}
use Rattle.repo_writes.proofs.SoundBugLemmas.{HasNoFault-grew}
use Rattle.words.specs.Words.{asked_of}
use Rattle.bug_run.specs.Runs.{AreAllSound, AreApart, IsRun, nothing, one_more}
use Rattle.bug_run.proofs.RunsLemmas.{runs_keep_sound, runs_lose_nothing}
use Rattle.full_exchanges.specs.Having.{HaveOneTextEach}
use Rattle.full_exchanges.proofs.HasLemmas.{head_held}
use Rattle.full_exchanges.proofs.OneTextLemmas.{HaveOneText}
use Rattle.exchange_runs.specs.Takes.{RunsAmong, TakesAmong}
use Rattle.exchange_runs.specs.Takes as among
use Rattle.exchange_runs.proofs.SeenLemmas.{run_leaves}
use Rattle.operation_origins.specs.Seen.{SeenAreSound}
use Rattle.operation_origins.proofs.HoldLemmas.{needed_held}
use Rattle.operation_origins.proofs.OnceLemmas.{before_sound, before_text}

-- a head with no fault in a sound folder has none in another one that holds it, where each name is of one text
no_fault_over : (files others : Files) (folder place : List ℕ) (id : Id) (top : Name) → IsSound folder files → IsSound place others → HaveOneText (objects_in files folder) (objects_in others place)
    → IsHeldAs (objects_in files folder) top kinds.Commit → IsHeldAs (objects_in others place) top kinds.Commit → HasNoFault (objects_in files folder) id top → HasNoFault (objects_in others place) id top
no_fault_over files others folder place id top sound also alike here there none f other holds =
    let one = objects_in files folder in
    let two = objects_in others place in
    let agree = folders_agree one two (top ∷ []) alike (needed_held one (sound parts.Objects).whole top here) (needed_held two (also parts.Objects).whole top there) in
    none f other (fault_over two one (top ∷ []) (agree_back one two (top ∷ []) agree) bug_kind id [] f holds)

module _ (folders : List (List ℕ)) (apart : AreApart folders) where
  -- where a run keeps it so
  pub seen_then : (old new : History) (run : IsRun folders old new) → TakesAmong folders (asked_of run.words) → AreAllSound folders (files_of old) → HaveOneTextEach (files_of new) folders
      → SeenAreSound (files_of old) folders → SeenAreSound (files_of new) folders
  seen_then old new run takes sound one_text seen folder remote id top is is_id at = elim (run_leaves folders apart folder is remote id is_id old new run takes) [
    | inl same ↦ HasNoFault-grew (objects_in (files_of old) folder) (objects_in (files_of new) folder) (kept folder is) id top (seen folder remote id top is is_id (sym same ∙ at))
    | inr taken ↦
        let heads : Head taken.head ≡ Head top = sym taken.now ∙ at in
        let same : taken.head ≡ top = cc in
        let was : head_at (files_of old) taken.peer side.Bugs id ≡ Head top = subst (λ (name : Name). head_at (files_of old) taken.peer side.Bugs id ≡ Head name) same taken.was in
        no_fault_over (files_of old) (files_of new) taken.peer folder id top (sound taken.peer taken.is) (also folder is)
        (λ name text other here there. sym (one_text folder taken.peer name other text is taken.is there (text_stays (objects_in (files_of old) taken.peer) (objects_in (files_of new) taken.peer) (kept taken.peer taken.is) name text here)))
        (head_held (files_of old) taken.peer side.Bugs id top (sound taken.peer taken.is) is_id was) (head_held (files_of new) folder (side.RemoteBugs remote) id top (also folder is) is_id at)
        (subst (IsSoundBug (objects_in (files_of old) taken.peer) id) was (sound taken.peer taken.is parts.Bugs id is_id))
  ]
    where
      also : AreAllSound folders (files_of new)
      also = runs_keep_sound folders apart old new (one_more old new nothing run) sound

      kept : (folder : List ℕ) → Contains folders folder → OnlyGrew (objects_in (files_of old) folder) (objects_in (files_of new) folder)
      kept folder is = (runs_lose_nothing folders apart folder is old new (one_more old new nothing run)).objects

  -- where no file is, nothing was seen
  none_seen : SeenAreSound (files_of []) folders
  none_seen folder remote id top is is_id at =
      let held = head_held (files_of []) folder (side.RemoteBugs remote) id top (empty_is_sound folder (files_of []) (λ place. refl)) is_id at in
      let none : None ≡ Some held.object = held.is in
      absurd (cc none)

  -- from no files at all
  pub all_seen : (new : History) → RunsAmong folders [] new → HaveOneTextEach (files_of new) folders → SeenAreSound (files_of new) folders
  all_seen new among.nothing one_text = none_seen
  all_seen new (among.one_more mid end runs run takes) one_text =
      seen_then mid end run takes (before_sound folders apart mid runs) one_text (all_seen mid runs (before_text folders apart mid end run one_text))
