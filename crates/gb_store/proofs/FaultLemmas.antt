-- The count of faults over calls, one after the other.
use Rattle.std.proofs.Common.{ℕ, Bool, arith, ◌∙◌}
use Rattle.gb_store.specs.Faults.{KeepsFaults}

-- A call that did not fail, and one after it. The whole fails where the second does.
pub KeepsFaults_then : {S : Type 0} (never_fails : S → Bool) (faults : S → ℕ) (failed whole : Type 0) (old mid new : S)
    → KeepsFaults never_fails faults ⊥ old mid → KeepsFaults never_fails faults failed mid new → (whole → failed) → (failed → whole)
    → KeepsFaults never_fails faults whole old new
KeepsFaults_then never_fails faults failed whole old mid new first then causes told = record {
  counts = omega (arith, first.counts, then.counts);
  cause = λ fails. let risen = then.cause (causes fails) in omega (arith, first.counts);
  told = λ calm. then.told (λ fails. calm (told fails)) ∙ first.told (λ never. never);
  calm = λ calm.
      let two = then.calm (first.calm calm).1 in
      (λ fails. two.0 (causes fails), two.1);
}
