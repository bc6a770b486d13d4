-- What writes of objects, of clocks and of one ref leave.
use Rattle.std.proofs.Common.{◌≡◌, ℕ, List, [], refl, ◌∙◌, ap}
use Rattle.repo_state.proofs.KindLemmas.{clock_at-object_write, head_at-object_write}
use Rattle.merge_steps.proofs.Names.{Id, Files, History, files_of, written, Wrote, Change, AllMoments-from_Wrote, PutsAfterNeeds, clock_at, head_at, ClockFile, Side}

-- what each write leaves of the files, all of them leave
pub wrote_leaves : {A : Type 0} (view : Files → A) (May : Files → Change → Type 0) → ((files : Files) (change : Change) → May files change → view (written files change) ≡ view files)
    → (old new : History) → Wrote May old new → view (files_of new) ≡ view (files_of old)
wrote_leaves view May leaves old new wrote =
    (AllMoments-from_Wrote May (λ (files : Files). view files ≡ view (files_of old)) (λ files change same may. leaves files change may ∙ same) old new refl wrote).each
    new (record { later = []; done = wrote.writes; before = wrote.grew; after = refl })

module _ (folder : List ℕ) (texts : List (List ℕ)) (old new : History) (put : Wrote (PutsAfterNeeds folder texts) old new) where
  -- objects that are put leave each head
  pub puts_leave_heads : (of : Side) (id : Id) → head_at (files_of new) folder of id ≡ head_at (files_of old) folder of id
  puts_leave_heads of id = wrote_leaves (λ (files : Files). head_at files folder of id) (PutsAfterNeeds folder texts)
      (λ files change puts. ap (λ (c : Change). head_at (written files c) folder of id) puts.write ∙ head_at-object_write files folder puts.text of id) old new put

  -- and each clock
  pub puts_leave_clocks : (which : ClockFile) → clock_at (files_of new) folder which ≡ clock_at (files_of old) folder which
  puts_leave_clocks which = wrote_leaves (λ (files : Files). clock_at files folder which) (PutsAfterNeeds folder texts)
      (λ files change puts. ap (λ (c : Change). clock_at (written files c) folder which) puts.write ∙ clock_at-object_write files folder puts.text which) old new put
