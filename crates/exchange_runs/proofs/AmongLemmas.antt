-- Runs over folders that take commits from each other alone: what one has last seen at a remote, one of them has.
use Rattle.std.proofs.Common.{◌≡◌, ◌⊎◌, inl, inr, ℕ, List, [], ◌∷◌, Contains, Some, None, refl, sym, ◌∙◌, ap, subst}
use Rattle.gb_text.specs.Digits.{IsId}
use Rattle.gb_text.specs.declared.id.Id.{Id}
use Rattle.gb_text.specs.declared.id.Name.{Name}
use Rattle.gb_store.specs.Files.{Files, History, files_of}
use Rattle.git_object.specs.declared.frame.Kind.TheVariants as kinds
use Rattle.object_store.specs.Held.{Objects, objects_after, objects_in, text_at}
use Rattle.object_batch.specs.Needs.{IsHeldAs}
use Rattle.object_batch.proofs.ClashLemmas.{Contains-first}
use Rattle.commit_walk.specs.Below.{head}
use Rattle.commit_walk.proofs.DistinctLemmas.{Contains-one}
use Rattle.bug_run.specs.Runs.{AreAllSound, AreApart, IsRun, Runs, nothing, one_more}
use Rattle.bug_run.proofs.RunsLemmas.{runs_from_nothing, runs_lose_nothing}
use Rattle.merge_steps.proofs.WholeLemmas.{operation_over, whole_stays}
use Rattle.remote_name.specs.declared.remote.RemoteName.{RemoteName}
use Rattle.repo_state.specs.Sides.{head_at}
use Rattle.repo_state.specs.Sound.{IsSound}
use Rattle.repo_state.specs.Sound as parts
use Rattle.repo_state.specs.declared.side.Side.TheVariants as side
use Rattle.repo_state.proofs.EmptyLemmas.{empty_is_sound}
use Rattle.repo_writes.specs.Kept.{LosesNothing}
use Rattle.words.specs.Words.{asked_of}
use Rattle.full_exchanges.specs.Having.{ACommit, Has, HaveOneTextEach, OneHas, Piece, TheBug}
use Rattle.full_exchanges.proofs.ExchangeLemmas.{one_text_before}
use Rattle.full_exchanges.proofs.HasLemmas.{head_held, has_over, same_objects}
use Rattle.full_exchanges.proofs.OneTextLemmas.{HaveOneText, one_text_grew}
use Rattle.exchange_runs.specs.Takes.{RunsAmong, SeenIsThere, TakesAmong}
use Rattle.exchange_runs.specs.Takes as among
use Rattle.exchange_runs.proofs.SeenLemmas.{IsTaken, run_leaves}

-- what a folder has it has after what loses nothing
has_later : (files later : Files) (folder : List ℕ) (id : Id) (piece : Piece) → IsSound folder files → LosesNothing folder files later → IsId id → Has files folder side.Bugs id piece
    → Has later folder side.Bugs id piece
has_later files later folder id TheBug sound lost is h =
    let kept = lost.heads side.Bugs tt id is h.head h.head h.is_head (head (Contains-first h.head [])) in
    record { head = kept.head; is_head = kept.is_head; is = tt }
has_later files later folder id (ACommit placed) sound lost is h =
    let kept = lost.heads side.Bugs tt id is h.head placed.commit h.is_head h.is.below in
    let held = head_held files folder side.Bugs id h.head sound is h.is_head in
    let same = whole_stays (objects_in files folder) (sound parts.Objects).whole (h.head ∷ []) (λ name c. subst (λ (n : Name). IsHeldAs (objects_in files folder) n kinds.Commit) (Contains-one h.head name c) held)
    (objects_in later folder) lost.objects in
    let over = operation_over (objects_in files folder) (objects_in later folder) (h.head ∷ []) same placed h.is in
    record { head = kept.head; is_head = kept.is_head; is = record { below = kept.below; has = over.has; some = over.some } }

-- a folder without files has nothing
none_at_first : (folder : List ℕ) (remote : RemoteName) (id : Id) (piece : Piece) → IsId id → Has (files_of []) folder (side.RemoteBugs remote) id piece → ⊥
none_at_first folder remote id piece is h =
    let held = head_held (files_of []) folder (side.RemoteBugs remote) id h.head (empty_is_sound folder (files_of []) (λ place. refl)) is h.is_head in
    let none : None ≡ Some held.object = held.is in
    cc none

-- they are runs
pub are_runs : (folders : List (List ℕ)) (old new : History) → RunsAmong folders old new → Runs folders old new
are_runs folders old new among.nothing = nothing
are_runs folders old new (among.one_more mid end runs run takes) = one_more mid end (are_runs folders old mid runs) run

module _ (folders : List (List ℕ)) (apart : AreApart folders) where
  one_run : (mid new : History) → IsRun folders mid new → (folder : List ℕ) → Contains folders folder → LosesNothing folder (files_of mid) (files_of new)
  one_run mid new run folder is = runs_lose_nothing folders apart folder is mid new (one_more mid new nothing run)

  module _ (mid new : History) (run : IsRun folders mid new) (takes : TakesAmong folders (asked_of run.words)) (sound : AreAllSound folders (files_of mid)) (also : AreAllSound folders (files_of new))
      (one_text : HaveOneTextEach (files_of new) folders) (seen : SeenIsThere folders (files_of mid)) where
    -- what one had, it has
    still : (id : Id) (piece : Piece) → IsId id → OneHas (files_of mid) folders id piece → OneHas (files_of new) folders id piece
    still id piece is h = record {
      folder = h.folder;
      is = h.is;
      has = has_later (files_of mid) (files_of new) h.folder id piece (sound h.folder h.is) (one_run mid new run h.folder h.is) is h.has;
    }

    seen_then : SeenIsThere folders (files_of new)
    seen_then folder remote id piece is is_id h = still id piece is_id (by (run_leaves folders apart folder is remote id is_id mid new run takes))
      where
        by : (head_at (files_of new) folder (side.RemoteBugs remote) id ≡ head_at (files_of mid) folder (side.RemoteBugs remote) id) ⊎ IsTaken folders folder remote id (files_of mid) (files_of new)
            → OneHas (files_of mid) folders id piece
        by (inl stays) =
            let grew = (one_run mid new run folder is).objects in
            let alike : HaveOneText (objects_after mid folder) (objects_after new folder) = one_text_grew (objects_after mid folder) (objects_after new folder) grew in
            seen folder remote id piece is is_id
            (has_over (files_of new) (files_of mid) folder folder (side.RemoteBugs remote) (side.RemoteBugs remote) id piece (also folder is) (sound folder is)
            (λ name text other one two. sym (alike name other text two one)) is_id (sym stays) h)
        by (inr taken) = record {
          folder = taken.peer;
          is = taken.is;
          has =
              has_over (files_of new) (files_of mid) folder taken.peer (side.RemoteBugs remote) side.Bugs id piece (also folder is) (sound taken.peer taken.is)
              (λ name text other one two.
              one_text folder taken.peer name text other is taken.is one
              (ap (λ (objects : Objects). text_at objects name) (same_objects taken.peer (files_of mid) (files_of new) taken.untouched) ∙ two))
              is_id (taken.was ∙ sym taken.now) h;
        }

  -- from no files at all
  pub seen_among : (new : History) → RunsAmong folders [] new → HaveOneTextEach (files_of new) folders → SeenIsThere folders (files_of new)
  seen_among new among.nothing one_text = λ folder remote id piece is is_id h. absurd (none_at_first folder remote id piece is_id h)
  seen_among new (among.one_more mid end runs run takes) one_text =
      let first = are_runs folders [] mid runs in
      let text = one_text_before folders mid end (λ folder is. (one_run mid end run folder is).objects) one_text in
      seen_then mid end run takes (runs_from_nothing folders apart mid first) (runs_from_nothing folders apart end (one_more mid end first run)) one_text (seen_among mid runs text)
