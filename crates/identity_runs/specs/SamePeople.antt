-- Folders that have the same identities.
use Rattle.std.specs.Prelude.{◌≡◌, ℕ, List}
use Rattle.gb_text.specs.Digits.{IsId}
use Rattle.gb_text.specs.declared.id.Id.{Id}
use Rattle.gb_store.specs.Files.{Files}
use Rattle.repo_state.specs.Sides.{head_at}
use Rattle.repo_state.specs.declared.side.Side.TheVariants as side

-- two folders have the same identities, each with the same head
abbrev pub HaveTheSamePeople : Files → List ℕ → List ℕ → Type 0
HaveTheSamePeople files one two = (id : Id) → IsId id → head_at files one side.Identities id ≡ head_at files two side.Identities id
