-- A clock that sees that of a bug's head.
use Rattle.std.proofs.Common.{◌≡◌, ◌≢◌, ℕ, Bool, true, false, List, ◌++◌, ◌∷◌, reverse, inr, refl, subst, ltb-true}
use Rattle.std.specs.Prelude.{nat_lt}
use Rattle.lamport.specs.Clock.{seen_by}
use Rattle.repo_state.specs.declared.side.Side.TheVariants as side
use Rattle.repo_state.proofs.KindLemmas.{clock_at-other, head_at-clock_write, objects-clock_write}
use Rattle.repo_writes.specs.Kinds.{IsClockOf, a_clock}
use Rattle.merge_steps.proofs.Names.{IsId, Id, History, files_of, Wrote, Wrote-none, Wrote-one, objects_in, Head, clock_at, clock_write, see_writes, head_at, ClockFile, HeadEntry, Side, IsWrite}

-- what is so after a clock of a folder saw a number
pub record Seen (folder : List ℕ) (which : ClockFile) (mid new : History) : Type 0 where
  pub other : (two : ClockFile) → which ≢ two → clock_at (files_of new) folder two ≡ clock_at (files_of mid) folder two
  pub objects : objects_in (files_of new) folder ≡ objects_in (files_of mid) folder
  pub heads : (of : Side) (id : Id) → head_at (files_of new) folder of id ≡ head_at (files_of mid) folder of id

module _ (folder : List ℕ) (which : ClockFile) (number : ℕ) (mid : History) where
  abbrev present : ℕ
  present = clock_at (files_of mid) folder which

  -- whatever the number is of, the clock was written, or it stayed
  pub seen : (clock : ℕ) → Seen folder which mid (reverse (see_writes folder which clock number) ++ mid)
  seen clock = decide (nat_lt clock (seen_by clock number)) refl
    where
      decide : (b : Bool) → nat_lt clock (seen_by clock number) ≡ b → Seen folder which mid (reverse (see_writes folder which clock number) ++ mid)
      decide true h = rw h (record {
        other = λ two differ. clock_at-other (files_of mid) folder which two (seen_by clock number) differ;
        objects = objects-clock_write (files_of mid) folder which (seen_by clock number);
        heads = λ of id. head_at-clock_write (files_of mid) folder of id which (seen_by clock number);
      })
      decide false h = rw h (record { other = λ two differ. refl; objects = refl; heads = λ of id. refl })

  module _ (bug : HeadEntry) (is_id : IsId bug.id) (is_head : head_at (files_of mid) folder side.Bugs bug.id ≡ Head bug.name) (is : IsClockOf which (objects_in (files_of mid) folder) bug.name number) where
    by_present : Wrote (IsWrite folder) mid (reverse (see_writes folder which present number) ++ mid)
    by_present = decide (nat_lt present (seen_by present number)) refl
      where
        decide : (b : Bool) → nat_lt present (seen_by present number) ≡ b → Wrote (IsWrite folder) mid (reverse (see_writes folder which present number) ++ mid)
        decide true h = rw h (Wrote-one (IsWrite folder) (clock_write folder which (seen_by present number)) mid (clock_write folder which (seen_by present number) ∷ mid)
            (a_clock (record { bug = bug; is_id = is_id; is_head = is_head; which = which; number = number; is = is; rises = ltb-true present (seen_by present number) h; write = refl })) (inr refl))
        decide false h = rw h (Wrote-none (IsWrite folder) mid mid refl)

    -- where the number is a clock of a bug's head, the write is of its kind; the clock may have been read before
    pub seen_wrote : (clock : ℕ) → present ≡ clock → Wrote (IsWrite folder) mid (reverse (see_writes folder which clock number) ++ mid)
    seen_wrote clock same = subst (λ (c : ℕ). Wrote (IsWrite folder) mid (reverse (see_writes folder which c number) ++ mid)) same by_present
