-- The count of faults of a store or of a sink, over a call.
use Rattle.std.specs.Prelude.{◌≡◌, ◌≤◌, ℕ, Bool, IsTrue}
use Rattle.gb_store.specs.Counts.{HasRisen}

-- The count of faults has not fallen; a call that failed raised it, and one that did not left it;
-- and where no call was ever to fail, this one did not, and no later one will.
pub record KeepsFaults {S : Type 0} (never_fails : S → Bool) (faults : S → ℕ) (failed : Type 0) (old new : S) : Type 0 where
  pub counts : faults old ≤ faults new
  pub cause : failed → HasRisen (faults old) (faults new)
  pub told : (failed → ⊥) → faults new ≡ faults old
  pub calm : IsTrue (never_fails old) → (failed → ⊥) × IsTrue (never_fails new)
