-- Which lines an exchange has.
use Rattle.std.specs.Prelude.{◌≡◌, ◌++◌, ℕ, List, map}
use Rattle.gb_text.specs.declared.id.Id.{Id}
use Rattle.gb_store.specs.Files.{History, files_of}
use Rattle.repo_state.specs.Sides.{AreIds}
use Rattle.repo_state.specs.declared.side.Side.TheVariants as side
use Rattle.sync_steps.specs.declared.line.EntityWord.{EntityWord}
use Rattle.sync_steps.specs.declared.line.EntityWord.TheVariants as word
use Rattle.sync_steps.specs.declared.line.Exchange.{Exchange}
use Rattle.sync_steps.specs.declared.line.Line.{Line}

-- what a line says, but for what came of the entity
pub record Told : Type 0 where
  pub verb : Exchange
  pub word : EntityWord
  pub id : Id

abbrev pub told_by : Line → Told
told_by line = record { verb = line.verb; word = line.word; id = line.id }

abbrev pub told_of : Exchange → EntityWord → List Id → List Told
told_of verb word ids = map (λ (id : Id). record { verb = verb; word = word; id = id }) ids

-- a line for each identity whose ref stands in a folder, and then for each bug
pub record HasLineOfEach (verb : Exchange) (folder : List ℕ) (old : History) (lines : List Line) : Type 0 where
  pub people : List Id
  pub are_people : AreIds (files_of old) folder side.Identities people
  pub bugs : List Id
  pub are_bugs : AreIds (files_of old) folder side.Bugs bugs
  pub told : map told_by lines ≡ told_of verb word.Identity people ++ told_of verb word.Bug bugs
