-- What damage refuses a list.
use Rattle.std.specs.Prelude.{◌≡◌, ◌⊎◌, ℕ, List}
use Rattle.gb_text.specs.Digits.{IsId}
use Rattle.gb_text.specs.declared.id.Id.{Id}
use Rattle.gb_text.specs.declared.id.Name.{Name}
use Rattle.gb_store.specs.Files.{Files}
use Rattle.object_store.specs.Held.{objects_in}
use Rattle.ref_store.specs.Refs.{Bad, Head}
use Rattle.repo_rows.specs.Rows.{HasBadBug}
use Rattle.repo_state.specs.Answers.{HasBadPerson}
use Rattle.repo_state.specs.Sides.{head_at}
use Rattle.repo_state.specs.Sound.{HasNoFault, HasPart}
use Rattle.repo_state.specs.Sound as parts
use Rattle.repo_state.specs.declared.side.Side.TheVariants as side
use Rattle.repo_steps.specs.declared.refusal.Refusal.{Refusal}
use Rattle.repo_steps.specs.declared.refusal.Refusal.TheVariants as refusal

-- what is told: the first identity that is damaged, or a bug that is
abbrev pub ListDamage : Files → List ℕ → Refusal → Type 0
ListDamage files folder r = (path : List ℕ) × (HasBadPerson files folder path ⊎ HasBadBug files folder path) × (r ≡ refusal.Damaged path)

-- what keeps a list from being done: an identity that is damaged, a bug's ref that is no ref text, or, if the rows that are stored are
-- true, a bug with whose commits something is wrong, other than that an author is unknown
abbrev pub BarsLists : Files → List ℕ → Type 0
BarsLists files folder =
    ((path : List ℕ) × HasBadPerson files folder path)
    ⊎ ((id : Id) × IsId id × ((head_at files folder side.Bugs id ≡ Bad)
    ⊎ (HasPart parts.Rows folder files × ((head : Name) × (head_at files folder side.Bugs id ≡ Head head) × (HasNoFault (objects_in files folder) id head → ⊥)))))
