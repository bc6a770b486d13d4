-- How many objects a command that edits reads.
use Rattle.std.specs.Prelude.{◌≡◌, ◌≤◌, ◌<◌, ◌+◌, ◌*◌, ◌⊎◌, ℕ, List, length, Some, Result}
use Rattle.gb_text.specs.declared.id.Id.{Id}
use Rattle.gb_store.specs.Files.{Files, History, files_of}
use Rattle.object_store.specs.Held.{objects_in}
use Rattle.commit_walk.specs.declared.below.TheConstants.{MOST_COMMITS}
use Rattle.bug_edits.specs.declared.edit.BugEdit.{BugEdit}
use Rattle.identity.specs.Persons.{IsChain}
use Rattle.repo_state.specs.Bugs.{FindsBug, ReadsBelow}
use Rattle.repo_state.specs.Comments.{FindsComment, ReadsSought}
use Rattle.repo_state.specs.Users.{user_entry}
use Rattle.repo_state.specs.declared.comments.CommentEntry.{CommentEntry}
use Rattle.repo_state.specs.declared.side.HeadEntry.{HeadEntry}
use Rattle.repo_steps.specs.Doings.{BugEditAnswers}
use Rattle.words.specs.declared.edit.Edit.{Edit}
use Rattle.repo_steps.specs.declared.env.Env.{Env}
use Rattle.repo_steps.specs.declared.refusal.Stop.{Stop}
use Rattle.words.specs.declared.edit.Edit.TheVariants.{New, OfBug, OfComment, UserEdit, UserNew, UserSet}

-- of a bug that stands: none, or at most three for each of some commits below the head of the bug that a word finds, and at
-- most the four objects that are to be written
abbrev pub ReadsEdit : Files → List ℕ → List ℕ → ℕ → ℕ → Type 0
ReadsEdit files folder word before after =
    (after ≡ before)
    ⊎ ((bug : HeadEntry) × FindsBug files folder word bug × (between : ℕ) × ReadsBelow files folder bug before between × (after ≤ between + 4))

-- of a comment: at most three for each of some commits below the heads of the bugs that are read to find it, and at most the four
-- objects that are to be written where it is found
abbrev pub ReadsComment : Files → List ℕ → List ℕ → ℕ → ℕ → Type 0
ReadsComment files folder word before after =
    (between : ℕ) × ReadsSought files folder word before between × ((after ≡ between) ⊎ ((c : CommentEntry) × FindsComment files folder word c × (after ≤ between + 4)))

-- the call of an edit of a bug: its answer, what was written and what was read
abbrev pub CallsEdit : Env → BugEdit → List ℕ → History → History → ℕ → ℕ → Result Id Stop → Type 0
CallsEdit env edit word old new before after result = BugEditAnswers env edit word old new result × ReadsEdit (files_of old) env.folder word before after

-- of a chain that has no fault and room for one version more: at most three for each of its versions
pub record ReadsRoom (files : Files) (folder : List ℕ) (entry : HeadEntry) (before after : ℕ) : Type 0 where
  pub chain : IsChain (objects_in files folder) entry.id entry.name
  pub room : length chain.walk < MOST_COMMITS
  pub few : after ≤ before + 3 * length chain.walk

-- of the user, whose chain has no fault: at most three for each version that stands, and the three objects of the one that
-- is to be written
pub record ReadsUser (files : Files) (folder : List ℕ) (before after : ℕ) : Type 0 where
  pub user : HeadEntry
  pub is_user : user_entry files folder ≡ Some user
  pub chain : IsChain (objects_in files folder) user.id user.name
  pub few : after ≤ before + 3 * (length chain.walk + 1)

-- of a new version of the user: at most three for each of the most versions that a chain may have, and by those that stand
-- where it was made
pub record ReadsVersions (files : Files) (folder : List ℕ) (IsMade : Type 0) (before after : ℕ) : Type 0 where
  pub most : after ≤ before + 3 * MOST_COMMITS
  pub made : IsMade → ReadsUser files folder before after

-- of each command that edits, by whether it was done
abbrev pub ReadsFor : Files → List ℕ → Edit → Type 0 → ℕ → ℕ → Type 0
ReadsFor files folder (UserNew name email) IsDone before after = after ≤ before + 3
ReadsFor files folder (UserEdit name email) IsDone before after = ReadsVersions files folder IsDone before after
ReadsFor files folder (UserSet word) IsDone before after = after ≡ before
ReadsFor files folder (New title message) IsDone before after = after ≤ before + 4
ReadsFor files folder (OfBug bug edit) IsDone before after = ReadsEdit files folder bug before after
ReadsFor files folder (OfComment word message) IsDone before after = ReadsComment files folder word before after
