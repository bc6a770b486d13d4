-- The checks of a command, in their order: why it is refused, and what is so where it is not.
use Rattle.std.specs.Prelude.{◌≡◌, ◌⊎◌, ⊤, List, [], ◌∷◌}
use Rattle.repo_steps.specs.Stops.{number_of}
use Rattle.repo_steps.specs.declared.refusal.Refusal.{Refusal}

-- a check: it fails with a refusal, or passes
pub record Check : Type 1 where
  pub Fails : Refusal → Type 0
  pub Passes : Type 0

-- every check passes
abbrev pub AllPass : List Check → Type 0
AllPass [] = ⊤
AllPass (check ∷ checks) = check.Passes × AllPass checks

-- the first check that does not pass fails with this refusal
abbrev pub FirstFails : List Check → Refusal → Type 0
FirstFails [] r = ⊥
FirstFails (check ∷ checks) r = check.Fails r ⊎ (check.Passes × FirstFails checks r)

-- a check never both fails and passes, and its refusals are of one number
pub record IsClear (check : Check) : Type 0 where
  pub apart : (r : Refusal) → check.Fails r → check.Passes → ⊥
  pub one : (r s : Refusal) → check.Fails r → check.Fails s → number_of r ≡ number_of s

abbrev pub AreClear : List Check → Type 0
AreClear [] = ⊤
AreClear (check ∷ checks) = IsClear check × AreClear checks
