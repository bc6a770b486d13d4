-- After runs that make each identity once, and edit it only at home, each head of it is at or below that at home.
use Rattle.std.proofs.Common.{◌≡◌, ◌⊎◌, inl, inr, refl, sym, ◌∙◌, ap, subst, ℕ, List, [], ◌∷◌, Contains, Some, None}
use Rattle.std.proofs.lemmas.Option.{same_Some}
use Rattle.gb_text.specs.Digits.{IsId}
use Rattle.gb_text.specs.declared.id.Id.{Id}
use Rattle.gb_text.specs.declared.id.Name.{Name}
use Rattle.gb_store.specs.Files.{History, files_of}
use Rattle.object_store.specs.Held.{objects_in}
use Rattle.commit_walk.specs.Below.{IsBelow, head as at_top}
use Rattle.commit_walk.proofs.DistinctLemmas.{Contains-first}
use Rattle.ref_store.specs.Refs.{Head}
use Rattle.repo_state.specs.Sides.{head_at}
use Rattle.repo_state.specs.declared.side.Side.TheVariants as side
use Rattle.repo_state.proofs.EmptyLemmas.{empty_is_sound}
use Rattle.words.specs.Words.{asked_of}
use Rattle.bug_run.specs.Runs.{AreApart, IsRun, nothing, one_more}
use Rattle.bug_run.proofs.RunsLemmas.{runs_lose_nothing}
use Rattle.run_moments.specs.Places.{written_in}
use Rattle.full_exchanges.proofs.HasLemmas.{head_held}
use Rattle.exchange_runs.specs.Takes.{RunsAmong, TakesAmong}
use Rattle.exchange_runs.specs.Takes as among
use Rattle.identity_runs.specs.Heads.{IsHome, IsThere}
use Rattle.identity_runs.specs.Homes.{AreEditedAtHome, AreMadeOnce, EditsPerson, IsMadeIn, MakesPerson}
use Rattle.identity_runs.proofs.RunLemmas.{IsNewHead, run_heads}

-- an identity was made in a folder, at or below whose head this one is
pub record IsHomed (folders : List (List ℕ)) (new : History) (runs : RunsAmong folders [] new) (id : Id) (head : Name) : Type 0 where
  pub home : List ℕ
  pub is : Contains folders home
  pub made : IsMadeIn folders [] new runs id home
  pub top : Name
  pub is_top : head_at (files_of new) home side.Identities id ≡ Head top
  pub below : IsBelow (objects_in (files_of new) home) (top ∷ []) head

-- where no file is, no head is
none_there : (folders : List (List ℕ)) (id : Id) (head : Name) → IsId id → IsThere (files_of []) folders id head → ⊥
none_there folders id head is_id there =
    let held = head_held (files_of []) there.folder there.of id head (empty_is_sound there.folder (files_of []) (λ place. refl)) is_id there.is_head in
    let none : None ≡ Some held.object = held.is in
    cc none

-- a run makes an identity in one folder
one_folder : (folders : List (List ℕ)) (old new : History) (run : IsRun folders old new) (id : Id) (one two : List ℕ) → MakesPerson folders old new run id one → MakesPerson folders old new run id two → one ≡ two
one_folder folders old new run id one two first second = same_Some one two (ap written_in (sym first.asked_for ∙ second.asked_for))

-- where each identity is made once, it is made in one folder
pub made_in_one : (folders : List (List ℕ)) (old new : History) (runs : RunsAmong folders old new) → AreMadeOnce folders old new runs → (id : Id) (one two : List ℕ) → IsMadeIn folders old new runs id one
    → IsMadeIn folders old new runs id two → one ≡ two
made_in_one folders old new among.nothing once id one two here there = absurd here
made_in_one folders old new (among.one_more mid end runs run takes) once id one two (inl here) (inl there) = made_in_one folders old mid runs once.0 id one two here there
made_in_one folders old new (among.one_more mid end runs run takes) once id one two (inl here) (inr there) = absurd (once.1 id two one there here)
made_in_one folders old new (among.one_more mid end runs run takes) once id one two (inr here) (inl there) = absurd (once.1 id one two here there)
made_in_one folders old new (among.one_more mid end runs run takes) once id one two (inr here) (inr there) = one_folder folders mid end run id one two here there

module _ (folders : List (List ℕ)) (apart : AreApart folders) where
  module _ (mid end : History) (runs : RunsAmong folders [] mid) (run : IsRun folders mid end) (takes : TakesAmong folders (asked_of run.words)) (id : Id) (is_id : IsId id) (head : Name) where
    -- what was homed is, after one more run
    homed_still : IsHomed folders mid runs id head → IsHomed folders end (among.one_more mid end runs run takes) id head
    homed_still homed =
        let kept = (runs_lose_nothing folders apart homed.home homed.is mid end (one_more mid end nothing run)).heads side.Identities tt id is_id homed.top head homed.is_top homed.below in
        record { home = homed.home; is = homed.is; made = inl homed.made; top = kept.head; is_top = kept.is_head; below = kept.below }

    -- so is a head that the run gives
    homed_new : ((id : Id) (folder : List ℕ) → EditsPerson folders mid end run id folder → IsMadeIn folders [] mid runs id folder) → IsNewHead folders mid end run id head
        → IsHomed folders end (among.one_more mid end runs run takes) id head
    homed_new at_home new = by new.by
      where
        below : IsBelow (objects_in (files_of end) new.folder) (head ∷ []) head
        below = at_top (Contains-first head [])

        by : MakesPerson folders mid end run id new.folder ⊎ EditsPerson folders mid end run id new.folder → IsHomed folders end (among.one_more mid end runs run takes) id head
        by (inl makes) = record { home = new.folder; is = makes.is; made = inr makes; top = head; is_top = new.now; below = below }
        by (inr edits) = record { home = new.folder; is = edits.is; made = inl (at_home id new.folder edits); top = head; is_top = new.now; below = below }

  -- each head is homed
  pub all_homed : (new : History) (runs : RunsAmong folders [] new) → AreEditedAtHome folders [] new runs → (id : Id) → IsId id → (head : Name) → IsThere (files_of new) folders id head
      → IsHomed folders new runs id head
  all_homed new among.nothing at_home id is_id head there = absurd (none_there folders id head is_id there)
  all_homed new (among.one_more mid end runs run takes) at_home id is_id head there = elim (run_heads folders apart mid end id is_id run takes head there) [
    | inl was ↦ homed_still mid end runs run takes id is_id head (all_homed mid runs at_home.0 id is_id head was)
    | inr new_head ↦ homed_new mid end runs run takes id is_id head at_home.1 new_head
  ]

  module _ (new : History) (runs : RunsAmong folders [] new) (once : AreMadeOnce folders [] new runs) (at_home : AreEditedAtHome folders [] new runs) (id : Id) (is_id : IsId id) where
    -- so one folder is the home of all
    homed_is_home : (head : Name) → IsHomed folders new runs id head → (home : List ℕ) × IsMadeIn folders [] new runs id home × IsHome (files_of new) folders id home
    homed_is_home head homed = (homed.home, homed.made, record { is = homed.is; top = homed.top; is_top = homed.is_top; below = λ other there. at other (all_homed new runs at_home id is_id other there) })
      where
        at : (other : Name) → IsHomed folders new runs id other → IsBelow (objects_in (files_of new) homed.home) (homed.top ∷ []) other
        at other also =
            let same : also.home ≡ homed.home = made_in_one folders [] new runs once id also.home homed.home also.made homed.made in
            let reads : head_at (files_of new) homed.home side.Identities id ≡ Head also.top = subst (λ (f : List ℕ). head_at (files_of new) f side.Identities id ≡ Head also.top) same also.is_top in
            let heads : Head also.top ≡ Head homed.top = sym reads ∙ homed.is_top in
            let top : also.top ≡ homed.top = cc in
            subst (λ (t : Name). IsBelow (objects_in (files_of new) homed.home) (t ∷ []) other) top
            (subst (λ (f : List ℕ). IsBelow (objects_in (files_of new) f) (also.top ∷ []) other) same also.below)

    pub home_of : (head : Name) → IsThere (files_of new) folders id head → (home : List ℕ) × IsMadeIn folders [] new runs id home × IsHome (files_of new) folders id home
    home_of head there = homed_is_home head (all_homed new runs at_home id is_id head there)
