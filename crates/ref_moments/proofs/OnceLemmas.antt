-- A ref stays through writes that leave it, and changes once where one of them puts its file.
use Rattle.std.proofs.Common.{◌≡◌, ◌⊎◌, inl, inr, ℕ, List, [], ◌∷◌, ◌++◌, reverse, refl, sym, ◌∙◌, ap, append_assoc}
use Rattle.std.specs.List.{AllByRecursion}
use Rattle.std.proofs.lemmas.List.{append-nil, reverse-append}
use Rattle.gb_text.specs.Digits.{IsName}
use Rattle.gb_text.specs.declared.id.Id.{Id}
use Rattle.gb_text.specs.declared.id.Name.{Name}
use Rattle.gb_store.specs.Files.{Files, History, files_of, written}
use Rattle.gb_store.specs.Moments.{AllMoments, IsMoment, Wrote, WroteSome}
use Rattle.gb_store.specs.declared.store.Change.{Change}
use Rattle.gb_store.proofs.MomentLemmas.{AllMoments-from_Wrote, AllMoments-then, Wrote-none, Wrote-one, WroteSome-back}
use Rattle.ref_store.specs.Refs.{Ref, Head}
use Rattle.ref_store.specs.Setting.{ref_write}
use Rattle.ref_store.proofs.MapLemmas.{set_ref_reads}
use Rattle.repo_state.specs.Sides.{head_at, ref_place}
use Rattle.repo_state.specs.declared.side.Side.{Side}
use Rattle.ref_moments.specs.Once.{ChangesOnce, IsSetOnce, StaysSame}

-- ---- moments

-- a history is the last moment of what led to it
pub last_moment : (old new : History) → IsMoment old new old → IsMoment old new new
last_moment old new grew = record { later = []; done = grew.later; before = grew.after; after = refl }

-- and the first
pub first_moment : (old new : History) (writes : List Change) → new ≡ writes ++ old → IsMoment old new old
first_moment old new writes grew = record { later = writes; done = []; before = refl; after = grew }

-- what holds at each moment may be said more widely
pub AllMoments-wider : (Good Wide : Files → Type 0) (old new : History) → ((files : Files) → Good files → Wide files) → AllMoments Good old new → AllMoments Wide old new
AllMoments-wider Good Wide old new wider all = record { grew = all.grew; each = λ moment at. wider (files_of moment) (all.each moment at) }

-- ---- one ref

module _ (folder : List ℕ) (of : Side) (id : Id) where
  abbrev Stays : History → History → Type 0
  Stays old new = StaysSame folder of id old new

  abbrev pub at : Files → Ref
  at files = head_at files folder of id

  -- a write leaves the ref, whatever the files are
  abbrev pub Leaves : Change → Type 0
  Leaves change = (files : Files) → head_at (written files change) folder of id ≡ head_at files folder of id

  -- no write that is allowed changes it
  pub stays_by : (May : Files → Change → Type 0) → ((files : Files) (change : Change) → May files change → at (written files change) ≡ at files)
      → (old new : History) → Wrote May old new → Stays old new
  stays_by May leaves old new wrote =
      AllMoments-from_Wrote May (λ files. at files ≡ at (files_of old)) (λ files change same may. leaves files change may ∙ same) old new refl wrote

  -- nothing is written
  pub stays_none : (old new : History) → new ≡ old → Stays old new
  stays_none old new same = stays_by (λ files change. ⊥) (λ files change none. absurd none) old new (Wrote-none (λ files change. ⊥) old new same)

  -- the ref is in the end as it was
  pub stayed : (old new : History) → Stays old new → at (files_of new) ≡ at (files_of old)
  stayed old new stays = stays.each new (last_moment old new stays.grew)

  -- two calls that leave it
  pub stays_then : (old mid new : History) → Stays old mid → Stays mid new → Stays old new
  stays_then old mid new first then =
      AllMoments-then (λ files. at files ≡ at (files_of old)) old mid new first
      (AllMoments-wider (λ files. at files ≡ at (files_of mid)) (λ files. at files ≡ at (files_of old)) mid new (λ files same. same ∙ stayed old mid first) then)

  -- what it has then it has on
  pub has_on : (head : Name) (old new : History) → at (files_of old) ≡ Head head → Stays old new → AllMoments (λ files. at files ≡ Head head) old new
  has_on head old new has stays = AllMoments-wider (λ files. at files ≡ at (files_of old)) (λ files. at files ≡ Head head) old new (λ files same. same ∙ has) stays

  -- it is set, and stays so
  pub set_then : (head : Name) (old mid new : History) → IsSetOnce folder of id head old mid → Stays mid new → IsSetOnce folder of id head old new
  set_then head old mid new set stays =
      let behind = ref_write folder (ref_place of id) head ∷ set.early in
      record {
        early = set.early;
        before = set.before;
        after = AllMoments-then (λ files. at files ≡ Head head) behind mid new set.after
            (has_on head mid new (set.after.each mid (last_moment behind mid set.after.grew)) stays);
      }

  -- it stays, and is set
  pub then_set : (head : Name) (old mid new : History) → Stays old mid → IsSetOnce folder of id head mid new → IsSetOnce folder of id head old new
  then_set head old mid new stays set = record { early = set.early; before = stays_then old mid set.early stays set.before; after = set.after }

  -- the put of its file
  pub set_one : (head : Name) (old early new : History) → IsName head → Stays old early → new ≡ ref_write folder (ref_place of id) head ∷ early → IsSetOnce folder of id head old new
  set_one head old early new named stays is = record {
    early = early;
    before = stays;
    after = has_on head behind new (set_ref_reads (files_of early) folder (ref_place of id) head named) (stays_none behind new is);
  }
    where
      behind : History
      behind = ref_write folder (ref_place of id) head ∷ early

  -- ---- calls

  pub once_then : (old mid new : History) → ChangesOnce folder of id old mid → Stays mid new → ChangesOnce folder of id old new
  once_then old mid new (inl first) then = inl (stays_then old mid new first then)
  once_then old mid new (inr (head, set)) then = inr (head, set_then head old mid new set then)

  pub then_once : (old mid new : History) → Stays old mid → ChangesOnce folder of id mid new → ChangesOnce folder of id old new
  then_once old mid new first (inl then) = inl (stays_then old mid new first then)
  then_once old mid new first (inr (head, set)) = inr (head, then_set head old mid new first set)

  -- ---- lists of writes

  stays_one : (change : Change) (old : History) → Leaves change → Stays old (change ∷ old)
  stays_one change old leaves =
      stays_by (λ files one. one ≡ change) (λ files one is. ap (λ (c : Change). at (written files c)) is ∙ leaves files) old (change ∷ old)
      (Wrote-one (λ files one. one ≡ change) change old (change ∷ old) refl (inr refl))

  -- the first of writes that leave the ref
  pub some_stay : (writes : List Change) → AllByRecursion Leaves writes → (old new : History) → WroteSome writes old new → Stays old new
  some_stay [] each old new same = stays_none old new same
  some_stay (change ∷ later) each old new (inl same) = stays_none old new same
  some_stay (change ∷ later) each old new (inr some) = stays_then old (change ∷ old) new (stays_one change old each.0) (some_stay later each.1 (change ∷ old) new some)

  -- all of them
  pub all_stay : (writes : List Change) → AllByRecursion Leaves writes → (old new : History) → new ≡ reverse writes ++ old → Stays old new
  all_stay writes each old new grew = some_stay writes each old new (WroteSome-back writes old new writes [] (sym (append-nil writes)) grew)

  -- ---- lists of writes with one put of the ref's file

  module _ (head : Name) (named : IsName head) (last : List Change) (each_last : AllByRecursion Leaves last) where
    -- the first of them
    pub some_set : (first : List Change) → AllByRecursion Leaves first → (old new : History) → WroteSome (first ++ ref_write folder (ref_place of id) head ∷ last) old new
        → Stays old new ⊎ IsSetOnce folder of id head old new
    some_set [] each old new (inl same) = inl (stays_none old new same)
    some_set [] each old new (inr some) =
        let put = ref_write folder (ref_place of id) head ∷ old in
        inr (set_then head old put new (set_one head old old put named (stays_none old old refl) refl) (some_stay last each_last put new some))
    some_set (change ∷ first) each old new (inl same) = inl (stays_none old new same)
    some_set (change ∷ first) each old new (inr some) = elim (some_set first each.1 (change ∷ old) new some) [
      | inl stays ↦ inl (stays_then old (change ∷ old) new (stays_one change old each.0) stays)
      | inr set ↦ inr (then_set head old (change ∷ old) new (stays_one change old each.0) set)
    ]

    -- all of them
    pub all_set : (first : List Change) → AllByRecursion Leaves first → (old new : History) → new ≡ reverse (first ++ ref_write folder (ref_place of id) head ∷ last) ++ old
        → IsSetOnce folder of id head old new
    all_set first each old new grew =
        let put = ref_write folder (ref_place of id) head in
        let early = reverse first ++ old in
        set_then head old (put ∷ early) new (set_one head old early (put ∷ early) named (all_stay first each old early refl) refl)
        (all_stay last each_last (put ∷ early) new (grew ∙ turned first))
      where
        turned : (ws : List Change) → reverse (ws ++ ref_write folder (ref_place of id) head ∷ last) ++ old ≡ reverse last ++ ref_write folder (ref_place of id) head ∷ (reverse ws ++ old)
        turned ws =
            let put = ref_write folder (ref_place of id) head in
            ap (λ (l : List Change). l ++ old) (reverse-append ws (put ∷ last) ∙ ap (λ (l : List Change). l ++ reverse ws) (reverse-append (put ∷ []) last))
            ∙ append_assoc (reverse last ++ put ∷ []) (reverse ws) old ∙ append_assoc (reverse last) (put ∷ []) (reverse ws ++ old)
