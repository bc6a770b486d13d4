-- What follows for each moment where a ref changes once at most.
use Rattle.std.proofs.Common.{◌≡◌, ◌⊎◌, ◌+◌, inl, inr, refl, sym, ◌∙◌, ap, subst, arith, length-append, ℕ, List, [], ◌∷◌, ◌++◌, length}
use Rattle.gb_text.specs.declared.id.Id.{Id}
use Rattle.gb_text.specs.declared.id.Name.{Name}
use Rattle.gb_store.specs.Files.{Files, History, files_of}
use Rattle.gb_store.specs.Moments.{AllMoments, IsMoment}
use Rattle.gb_store.specs.declared.store.Change.{Change}
use Rattle.gb_store.proofs.MomentLemmas.{IsMoment-cases, IsMoment-of_first}
use Rattle.ref_store.specs.Refs.{Ref, Head}
use Rattle.ref_store.specs.Setting.{ref_write}
use Rattle.repo_state.specs.Sides.{head_at, ref_place}
use Rattle.repo_state.specs.declared.side.Side.{Side}
use Rattle.ref_moments.specs.Once.{ChangesAt, ChangesOnce, IsOldOrNew, IsSetOnce}
use Rattle.ref_moments.proofs.OnceLemmas.{AllMoments-wider, first_moment, last_moment}

-- what holds at each moment holds at those up to one of them
pub AllMoments-cut : (Good : Files → Type 0) (old new moment : History) → AllMoments Good old new → IsMoment old new moment → AllMoments Good old moment
AllMoments-cut Good old new moment all at = record {
  grew = first_moment old moment at.done at.before;
  each = λ one within. all.each one (IsMoment-of_first old moment new one within (record { later = at.later; done = []; before = refl; after = at.after }));
}

-- one write more is a moment at which nothing came, or a later one
one_more : (old put : History) (change : Change) (moment : History) → put ≡ change ∷ old → IsMoment old put moment → (moment ≡ old) ⊎ (moment ≡ put)
one_more old put change moment is at = by at.later at.done (ap (λ (h : History). at.later ++ h) (sym at.before) ∙ sym at.after ∙ is) at.before at.after
  where
    short : (later done : List Change) → later ++ (done ++ old) ≡ change ∷ old → length later + length done ≡ 1
    short later done e = omega (arith, ap length e, length-append later (done ++ old), length-append done old)

    by : (later done : List Change) → later ++ (done ++ old) ≡ change ∷ old → moment ≡ done ++ old → put ≡ later ++ moment → (moment ≡ old) ⊎ (moment ≡ put)
    by later [] e before after = inl before
    by [] (x ∷ done) e before after = inr (sym after)
    by (y ∷ later) (x ∷ done) e before after = absurd (omega (arith, short (y ∷ later) (x ∷ done) e))

module _ (folder : List ℕ) (of : Side) (id : Id) where
  abbrev at : Files → Ref
  at files = head_at files folder of id

  module _ (head : Name) (old new : History) (set : IsSetOnce folder of id head old new) where
    abbrev put : History
    put = ref_write folder (ref_place of id) head ∷ set.early

    -- a moment comes before the put, or from it on
    pub set_cases : (moment : History) → IsMoment old new moment → IsMoment old set.early moment ⊎ IsMoment put new moment
    set_cases moment is = elim (IsMoment-cases old put new moment (record { later = ref_write folder (ref_place of id) head ∷ set.before.grew.later; done = []; before = refl; after = first }) set.after.grew is) [
      | inl early ↦ elim (IsMoment-cases old set.early put moment set.before.grew (first_moment set.early put (ref_write folder (ref_place of id) head ∷ []) refl) early) [
        | inl before ↦ inl before
        | inr then ↦ elim (one_more set.early put (ref_write folder (ref_place of id) head) moment refl then) [
          | inl same ↦ inl (subst (IsMoment old set.early) (sym same) (last_moment old set.early set.before.grew))
          | inr same ↦ inr (subst (IsMoment put new) (sym same) set.after.grew)
        ]
      ]
      | inr late ↦ inr late
    ]
      where
        first : put ≡ (ref_write folder (ref_place of id) head ∷ set.before.grew.later) ++ old
        first = ap (λ (h : History). ref_write folder (ref_place of id) head ∷ h) set.before.grew.after

    -- it has the head in the end
    pub set_end : at (files_of new) ≡ Head head
    set_end = set.after.each new (last_moment put new set.after.grew)

    -- at each moment the ref is old or new
    pub set_old_or_new : AllMoments (IsOldOrNew folder of id old new) old new
    set_old_or_new = record {
      grew = IsMoment-of_first old put new old (record { later = ref_write folder (ref_place of id) head ∷ set.before.grew.later; done = []; before = refl; after = ap (λ (h : History). ref_write folder (ref_place of id) head ∷ h) set.before.grew.after }) set.after.grew;
      each = λ moment is. elim (set_cases moment is) [
        | inl early ↦ inl (set.before.each moment early)
        | inr late ↦ inr (set.after.each moment late ∙ sym set_end)
      ];
    }

    -- a write that changes the ref comes before the put, which is that write
    pub changes_there : (moment : History) → ChangesAt folder of id old new moment → moment ≡ set.early
    changes_there moment change = by (set_cases moment change.is_moment) (set_cases (change.change ∷ moment) change.then)
      where
        by : IsMoment old set.early moment ⊎ IsMoment put new moment → IsMoment old set.early (change.change ∷ moment) ⊎ IsMoment put new (change.change ∷ moment) → moment ≡ set.early
        by (inl early) (inl then) = absurd (change.differs (set.before.each (change.change ∷ moment) then ∙ sym (set.before.each moment early)))
        by (inr late) (inr then) = absurd (change.differs (set.after.each (change.change ∷ moment) then ∙ sym (set.after.each moment late)))
        by (inr late) (inl then) = absurd (omega (arith, ap length then.after, length-append then.later (change.change ∷ moment), ap length late.before, length-append late.done put))
        by (inl early) (inr then) = meets early.later then.done early.after then.before
          where
            -- what is before the put and one write before what is from it on is right before it
            meets : (later done : List Change) → set.early ≡ later ++ moment → change.change ∷ moment ≡ done ++ put → moment ≡ set.early
            meets [] done below above = sym below
            meets (x ∷ later) done below above = absurd (omega (arith, ap length below, length-append later moment, ap length above, length-append done put))

    -- cut to a moment, it is set so, or stays
    pub set_cut : (moment : History) → IsMoment old new moment → ChangesOnce folder of id old moment
    set_cut moment is = elim (set_cases moment is) [
      | inl early ↦ inl (AllMoments-cut (λ files. at files ≡ at (files_of old)) old set.early moment set.before early)
      | inr late ↦ inr (head, record { early = set.early; before = set.before; after = AllMoments-cut (λ files. at files ≡ Head head) put new moment set.after late })
    ]

  module _ (old new : History) where
    pub old_or_new : ChangesOnce folder of id old new → AllMoments (IsOldOrNew folder of id old new) old new
    old_or_new (inl stays) = AllMoments-wider (λ files. at files ≡ at (files_of old)) (IsOldOrNew folder of id old new) old new (λ files same. inl same) stays
    old_or_new (inr (head, set)) = set_old_or_new head old new set

    -- no two writes change it
    pub one_change : ChangesOnce folder of id old new → (one two : History) → ChangesAt folder of id old new one → ChangesAt folder of id old new two → one ≡ two
    one_change (inl stays) one two first second = absurd (first.differs (stays.each (first.change ∷ one) first.then ∙ sym (stays.each one first.is_moment)))
    one_change (inr (head, set)) one two first second = changes_there head old new set one first ∙ sym (changes_there head old new set two second)

    pub once_cut : ChangesOnce folder of id old new → (moment : History) → IsMoment old new moment → ChangesOnce folder of id old moment
    once_cut (inl stays) moment is = inl (AllMoments-cut (λ files. at files ≡ at (files_of old)) old new moment stays is)
    once_cut (inr (head, set)) moment is = set_cut head old new set moment is
