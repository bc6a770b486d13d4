-- How many objects a run reads.
use Rattle.std.specs.Prelude.{◌≡◌, ⊤, ℕ, List, [], ◌∷◌, Contains}
use Rattle.gb_text.specs.declared.id.Name.{Name}
use Rattle.gb_store.specs.Files.{Files, History, files_of}
use Rattle.object_store.specs.Held.{objects_in}
use Rattle.commit_walk.specs.Below.{IsBelow}
use Rattle.commit_walk.specs.Distinct.{AreDistinct}
use Rattle.repo_state.specs.Answers.{ReadsPeople}
use Rattle.repo_state.specs.declared.side.HeadEntry.{HeadEntry}
use Rattle.repo_edit.specs.Reads.{ReadsFor}
use Rattle.repo_lists.specs.Lists.{ReadsList}
use Rattle.repo_view.specs.Log.{ReadsLog}
use Rattle.repo_view.specs.Shown.{ReadsShow}
use Rattle.bug_run.specs.Exchanges.{ReadsExchange, ReadsMerge}
use Rattle.bug_run.specs.Looks.{ReadsGuarded}
use Rattle.words.specs.declared.words.Command.{Command}
use Rattle.words.specs.declared.words.Command.TheVariants.{Edit, Log, PackRefs, Show, Users}
use Rattle.words.specs.declared.words.Asked.{Asked}
use Rattle.words.specs.declared.words.Asked.TheVariants as asked

-- of a command, those of the one call that it makes, by whether it was done
abbrev pub ReadsCommand : Files → List ℕ → Command → Type 0 → ℕ → ℕ → Type 0
ReadsCommand files folder Users IsDone before after = ReadsPeople files folder before after
ReadsCommand files folder (Show bug) IsDone before after = ReadsShow files folder bug before after
ReadsCommand files folder (Log bug) IsDone before after = ReadsLog files folder bug before after
ReadsCommand files folder (Edit edit) IsDone before after = ReadsFor files folder edit IsDone before after
ReadsCommand files folder PackRefs IsDone before after = after ≡ before

-- of what arguments ask, by whether it was done and whether lines were answered: none, or those of the command in its folder
abbrev pub ReadsAsked : Asked → ℕ → History → Type 0 → Type 0 → ℕ → ℕ → Type 0
ReadsAsked asked.Nothing now old IsDone HasLines before after = after ≡ before
ReadsAsked (asked.Refused bad) now old IsDone HasLines before after = after ≡ before
ReadsAsked (asked.Request request) now old IsDone HasLines before after = ReadsCommand (files_of old) request.folder request.command IsDone before after
ReadsAsked (asked.Exchange request) now old IsDone HasLines before after = ReadsExchange request.command request.pair now old HasLines before after
ReadsAsked (asked.Merge request) now old IsDone HasLines before after = ReadsMerge request now old before after
ReadsAsked (asked.List request) now old IsDone HasLines before after = ReadsList (files_of old) request.folder before after

-- of a run: none where nothing was done and no line answered, and else as much
abbrev pub ReadsRun : Asked → ℕ → History → Type 0 → Type 0 → ℕ → ℕ → Type 0
ReadsRun asks now old IsDone HasLines before after = ReadsGuarded HasLines (ReadsAsked asks now old IsDone HasLines before after) before after

-- for each of these bugs commits below its head, each once
abbrev pub AreBelowEach : Files → List ℕ → List HeadEntry → List (List Name) → Type 0
AreBelowEach files folder [] [] = ⊤
AreBelowEach files folder (bug ∷ bugs) (commits ∷ more) =
    AreDistinct commits × ((name : Name) → Contains commits name → IsBelow (objects_in files folder) (bug.name ∷ []) name) × AreBelowEach files folder bugs more
AreBelowEach files folder _ _ = ⊥
