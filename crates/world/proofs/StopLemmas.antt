-- An event that is stopped is a run that is stopped at one of its moments.
use Rattle.std.proofs.Common.{◌≡◌, ◌≤◌, ◌+◌, ◌-◌, ◌∙◌, inl, inr, refl, sym, ap, subst, ℕ, List, [], ◌++◌, length, arith, drop, Option, Some, None}
use Rattle.std.proofs.lemmas.Bool.{cases_lt}
use Rattle.gb_store.specs.Files.{History}
use Rattle.gb_store.specs.Moments.{IsMoment, first_writes}
use Rattle.gb_store.proofs.MomentLemmas.{IsMoment-first_writes}
use Rattle.gb_store.specs.declared.store.Change.{Change}
use Rattle.world.specs.Plays.{stopped_at}

-- the end of a call is one of its moments, and so is its begin
pub at_end : (old end : History) (writes : List Change) → end ≡ writes ++ old → IsMoment old end end
at_end old end writes grew = record { later = []; done = writes; before = grew; after = refl }

pub at_begin : (old end : History) (writes : List Change) → end ≡ writes ++ old → IsMoment old end old
at_begin old end writes grew = record { later = writes; done = []; before = refl; after = grew }

-- the first writes, where there are no more, are all
pub all_first : (count : ℕ) (history : History) → length history ≤ count → first_writes count history ≡ history
all_first count history most =
    let none : length history - count ≡ 0 = omega arith in
    ap (λ (n : ℕ). drop n history) none

pub stopped_is_moment : (stop : Option ℕ) (old end new : History) (writes : List Change) → end ≡ writes ++ old → new ≡ stopped_at stop old end → IsMoment old end new
stopped_is_moment None old end new writes grew is = subst (IsMoment old end) (sym is) (at_end old end writes grew)
stopped_is_moment (Some count) old end new writes grew is = elim (cases_lt (length old + count) (length end)) [
  | inl less ↦ subst (IsMoment old end) (sym is) (IsMoment-first_writes old end (length old + count) (at_begin old end writes grew) (omega arith) (omega arith))
  | inr most ↦ subst (IsMoment old end) (sym (is ∙ all_first (length old + count) end (omega arith))) (at_end old end writes grew)
]

-- where nothing was written, nothing is left out
pub nothing_stopped : (stop : Option ℕ) (old end new : History) → end ≡ old → new ≡ stopped_at stop old end → new ≡ old
nothing_stopped None old end new same is = is ∙ same
nothing_stopped (Some count) old end new same is =
    is ∙ ap (first_writes (length old + count)) same ∙ all_first (length old + count) old (omega arith)
