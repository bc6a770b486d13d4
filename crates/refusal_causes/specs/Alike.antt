-- Refusals that are one, but for the name that is taken where several are.
use Rattle.std.specs.Prelude.{◌≡◌, ◌⊎◌}
use Rattle.gb_text.specs.declared.id.Name.{Name}
use Rattle.repo_steps.specs.declared.refusal.Refusal.{Refusal}
use Rattle.repo_steps.specs.declared.refusal.Refusal.TheVariants as refusal

-- two refusals are one, or each tells a name that is taken
abbrev pub AreAlike : Refusal → Refusal → Type 0
AreAlike one two = (one ≡ two) ⊎ ((first : Name) × (second : Name) × (one ≡ refusal.NameTaken first) × (two ≡ refusal.NameTaken second))
