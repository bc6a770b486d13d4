-- Which lines a merge has.
use Rattle.std.specs.Prelude.{◌≡◌, ◌++◌, ℕ, List, map}
use Rattle.gb_text.specs.declared.id.Id.{Id}
use Rattle.gb_store.specs.Files.{History, files_of}
use Rattle.remote_name.specs.declared.remote.RemoteName.{RemoteName}
use Rattle.repo_state.specs.Sides.{AreIds}
use Rattle.repo_state.specs.declared.side.Side.TheVariants as side
use Rattle.sync_steps.specs.declared.line.EntityWord.{EntityWord}
use Rattle.sync_steps.specs.declared.line.EntityWord.TheVariants as word
use Rattle.merge_steps.specs.declared.line.MergeLine.{MergeLine}

-- what a line says, but for what came of the entity
pub record Told : Type 0 where
  pub word : EntityWord
  pub id : Id

abbrev pub told_by : MergeLine → Told
told_by line = record { word = line.word; id = line.id }

abbrev pub told_of : EntityWord → List Id → List Told
told_of word ids = map (λ (id : Id). record { word = word; id = id }) ids

-- a line for each identity of which a tracking ref of the remote stands, and then for each bug
pub record HasLineOfEach (folder : List ℕ) (remote : RemoteName) (old : History) (lines : List MergeLine) : Type 0 where
  pub people : List Id
  pub are_people : AreIds (files_of old) folder (side.RemoteIdentities remote) people
  pub bugs : List Id
  pub are_bugs : AreIds (files_of old) folder (side.RemoteBugs remote) bugs
  pub told : map told_by lines ≡ told_of word.Identity people ++ told_of word.Bug bugs
