-- No write loses anything: below each head stands what stood there, and no clock falls.
use Rattle.std.proofs.Common.{◌≡◌, ◌⊎◌, inl, inr, ◌≤◌, ◌<◌, ℕ, List, [], ◌∷◌, Option, Some, None, refl, sym, ◌∙◌, ap, subst, arith}
use Rattle.std.proofs.Math.Nat.{max-le, min-le_right}
use Rattle.gb_text.specs.Digits.{IsId}
use Rattle.gb_text.specs.declared.id.Id.{Id}
use Rattle.gb_text.specs.declared.id.Name.{Name}
use Rattle.gb_store.specs.Files.{Files, written}
use Rattle.gb_store.specs.declared.store.Change.{Change}
use Rattle.object_store.specs.Held.{Objects, objects_in}
use Rattle.object_batch.proofs.ClashLemmas.{Contains-first}
use Rattle.commit_walk.specs.Chain.{Meets}
use Rattle.commit_walk.specs.Below.{IsBelow as Below, head as at_top}
use Rattle.commit_walk.proofs.BelowLemmas.{IsBelow-stays}
use Rattle.ref_store.specs.Refs.{Head}
use Rattle.lamport.specs.Clock.{seen_by}
use Rattle.lamport.specs.declared.clock.TheConstants.{CAP}
use Rattle.repo_state.specs.Clocks.{clock_at, clock_write}
use Rattle.repo_state.specs.Sides.{head_at}
use Rattle.repo_state.specs.declared.clocks.ClockFile.{ClockFile}
use Rattle.repo_state.specs.declared.clocks.ClockFile.TheVariants as file
use Rattle.repo_state.specs.declared.side.Side.TheVariants as side
use Rattle.repo_state.proofs.KindLemmas.{objects-ref_write}
use Rattle.repo_writes.specs.Kinds.{IsBelow, IsBugHeadWrite, IsIdentityHeadWrite, IsUnder, IsWrite, ref_to}
use Rattle.repo_state.proofs.KindLemmas.{clock_at-capped, clock_at-object_write, clock_at-other, clock_at-ref_write, clock_at-row_write, clock_at-set, clock_at-user_write}
use Rattle.repo_writes.proofs.SoundLemmas.{bug-after, by_kind, identity-after, write-grew}
use Rattle.row_text.specs.Rows.{row_text}

-- a clock that has seen a number is within the cap
seen_by-capped : (clock number : ℕ) → clock ≤ CAP → seen_by clock number ≤ CAP
seen_by-capped clock number capped = max-le capped (min-le_right number CAP)

module _ (folder : List ℕ) (files : Files) (change : Change) where
  -- below the head of an identity stands what stood there
  pub head-below : IsWrite folder files change → (id : Id) → IsId id → (head : Name) → head_at files folder side.Identities id ≡ Head head
      → (later : Name) × (head_at (written files change) folder side.Identities id ≡ Head later) × Meets (objects_in (written files change) folder) later head
  head-below wrote id is head was = at (identity-after folder files change id is wrote)
    where
      -- the head that was there is the present one
      below : (objects : Objects) (later : Name) (present : Option Name) → ref_to present ≡ Head head → IsBelow objects present later → Meets objects later head
      below objects later None e met = absurd (cc)
      below objects later (Some old) e met = let same : old ≡ head = cc in subst (Meets objects later) same met

      at : (head_at (written files change) folder side.Identities id ≡ head_at files folder side.Identities id)
          ⊎ ((w : IsIdentityHeadWrite folder files change) × (w.id ≡ id) × (head_at (written files change) folder side.Identities id ≡ Head w.head))
          → (later : Name) × (head_at (written files change) folder side.Identities id ≡ Head later) × Meets (objects_in (written files change) folder) later head
      at (inl same) = (head, same ∙ was, record { above = []; chain = refl; near = omega arith })
      at (inr set) =
          let w = set.0 in
          let present : ref_to w.present ≡ Head head = sym w.is_present ∙ ap (head_at files folder side.Identities) set.1 ∙ was in (
            w.head,
            set.2,
            below _ w.head w.present present
                (subst (λ (objects : Objects). IsBelow objects w.present w.head) (sym (objects-after w)) w.below),
          )
        where
          objects-after : (w : IsIdentityHeadWrite folder files change) → objects_in (written files change) folder ≡ objects_in files folder
          objects-after w = ap (λ (c : Change). objects_in (written files c) folder) w.write ∙ objects-ref_write files folder side.Identities w.id w.head

  -- below the head of a bug lies what lay there
  pub bug-below : IsWrite folder files change → (id : Id) → IsId id → (head : Name) → head_at files folder side.Bugs id ≡ Head head
      → (later : Name) × (head_at (written files change) folder side.Bugs id ≡ Head later) × Below (objects_in (written files change) folder) (later ∷ []) head
  bug-below wrote id is head was = at (bug-after folder files change id is wrote)
    where
      -- the head that lay there is the present one
      under : (objects : Objects) (later : Name) (present : Option Name) → ref_to present ≡ Head head → IsUnder objects present later → Below objects (later ∷ []) head
      under objects later None e below = absurd (cc)
      under objects later (Some old) e below = let same : old ≡ head = cc in subst (Below objects (later ∷ [])) same below

      at : (head_at (written files change) folder side.Bugs id ≡ head_at files folder side.Bugs id)
          ⊎ ((w : IsBugHeadWrite folder files change) × (w.id ≡ id) × (head_at (written files change) folder side.Bugs id ≡ Head w.head))
          → (later : Name) × (head_at (written files change) folder side.Bugs id ≡ Head later) × Below (objects_in (written files change) folder) (later ∷ []) head
      at (inl same) = (head, same ∙ was, at_top (Contains-first head []))
      at (inr set) =
          let w = set.0 in
          let present : ref_to w.present ≡ Head head = sym w.is_present ∙ ap (head_at files folder side.Bugs) set.1 ∙ was in (
            w.head,
            set.2,
            IsBelow-stays (objects_in files folder) (objects_in (written files change) folder) (write-grew folder files change wrote) (w.head ∷ []) head
                (under (objects_in files folder) w.head w.present present w.below),
          )

  -- no clock falls
  pub clock-rises : IsWrite folder files change → (which : ClockFile) → clock_at files folder which ≤ clock_at (written files change) folder which
  clock-rises wrote which = by_kind folder files change (λ (c : Change). clock_at files folder which ≤ clock_at (written files c) folder which)
      (λ w. omega (arith, clock_at-object_write files folder w.puts.text which))
      (λ w. omega (arith, clock_at-ref_write files folder side.Identities w.id w.head which))
      (λ w. omega (arith, clock_at-user_write files folder w.id which))
      (λ w. omega (arith, clock_at-ref_write files folder side.Bugs w.id w.head which))
      (λ w. set w.which which (seen_by (clock_at files folder w.which) w.number) (seen_by-capped _ w.number (clock_at-capped files folder w.which)) w.rises)
      (λ w. omega (arith, clock_at-row_write files folder w.id (row_text w.row) which)) wrote
    where
      -- the clock that is set rises, and the other stays
      set : (one two : ClockFile) (clock : ℕ) → clock ≤ CAP → clock_at files folder one < clock
          → clock_at files folder two ≤ clock_at (written files (clock_write folder one clock)) folder two
      set file.BugsCreate file.BugsCreate clock capped rises = omega (arith, rises, clock_at-set files folder file.BugsCreate clock capped)
      set file.BugsEdit file.BugsEdit clock capped rises = omega (arith, rises, clock_at-set files folder file.BugsEdit clock capped)
      set file.BugsCreate file.BugsEdit clock capped rises = omega (arith, clock_at-other files folder file.BugsCreate file.BugsEdit clock (λ e. cc e))
      set file.BugsEdit file.BugsCreate clock capped rises = omega (arith, clock_at-other files folder file.BugsEdit file.BugsCreate clock (λ e. cc e))
