-- Where the operation commits of bugs come from.
use Rattle.std.specs.Prelude.{◌≡◌, ⊤, ℕ, List, Contains, Ok}
use Rattle.gb_text.specs.declared.id.Id.{Id}
use Rattle.gb_store.specs.Files.{Files, History, files_of}
use Rattle.bug_edits.specs.NewOps.{create_op}
use Rattle.bug_edits.specs.declared.moment.Moment.{Moment}
use Rattle.bug_ops.specs.Kind.{bug_kind}
use Rattle.bug_ops.specs.declared.op.BugOp.{BugOp}
use Rattle.bug_run.specs.Run.{env_at}
use Rattle.bug_run.specs.Runs.{IsRun}
use Rattle.dag_entity.specs.Appending.{appended_node}
use Rattle.dag_entity.specs.declared.entity.Placed.{Placed}
use Rattle.repo_state.specs.Users.{User, user_at}
use Rattle.repo_state.specs.declared.side.Side.{Side}
use Rattle.repo_state.specs.declared.side.Side.TheVariants as side
use Rattle.repo_steps.specs.BugDoings.{Growth, HasFound, bug_says, comment_growth, edit_growth, later_addition, root_addition}
use Rattle.repo_steps.specs.declared.env.Env.{Env}
use Rattle.repo_steps.specs.declared.plan.Addition.{Addition}
use Rattle.words.specs.Words.{asked_of}
use Rattle.words.specs.declared.edit.Edit.{Edit as Edits}
use Rattle.words.specs.declared.edit.Edit.TheVariants as edit
use Rattle.words.specs.declared.words.Asked.{Asked}
use Rattle.words.specs.declared.words.Asked.TheVariants as asked
use Rattle.words.specs.declared.words.Command.TheVariants.{Edit}
use Rattle.full_exchanges.specs.Having.{ACommit, Has}

-- a side of bugs: the folder's own, or those that it has last seen at a remote
abbrev pub IsOfBugs : Side → Type 0
IsOfBugs side.Bugs = ⊤
IsOfBugs (side.RemoteBugs remote) = ⊤
IsOfBugs side.Identities = ⊥
IsOfBugs (side.RemoteIdentities remote) = ⊥

-- one of these folders has this operation commit of the bug with this id, or has last seen it at a remote
pub record IsThere (files : Files) (folders : List (List ℕ)) (id : Id) (placed : Placed BugOp) : Type 0 where
  pub folder : List ℕ
  pub is : Contains folders folder
  pub of : Side
  pub of_bugs : IsOfBugs of
  pub has : Has files folder of id (ACommit placed)

-- what an edit by a growth adds to the bug that it finds, by what the bug says: one operation, by the user
pub record GrowthAdds (env : Env) (growth : Growth) (files : Files) (addition : Addition) : Type 0 where
  pub user : Id
  pub is_user : user_at files env.folder ≡ User user
  pub bug : HasFound env.folder files (growth.finder files)
  pub op : BugOp
  pub is_op : growth.adds (bug_says bug.entity) ≡ Ok op
  pub is : addition ≡ later_addition env.folder files op user bug.bug bug.entity.edit

-- what a new bug begins with: one operation, by the user
pub record BeginningAdds (env : Env) (op : BugOp) (files : Files) (addition : Addition) : Type 0 where
  pub user : Id
  pub is_user : user_at files env.folder ≡ User user
  pub is : addition ≡ root_addition env.folder files op user

-- what an edit adds to a bug, by its moment and the files before it: nothing, if it is of a user
abbrev pub EditAdds : Env → Edits → Files → Addition → Type 0
EditAdds env (edit.UserNew name email) files addition = ⊥
EditAdds env (edit.UserEdit name email) files addition = ⊥
EditAdds env (edit.UserSet word) files addition = ⊥
EditAdds env (edit.New title message) files addition = BeginningAdds env (create_op env.moment title message) files addition
EditAdds env (edit.OfBug word e) files addition = GrowthAdds env (edit_growth env e word) files addition
EditAdds env (edit.OfComment word message) files addition = (comment : Id) × GrowthAdds env (comment_growth env message word comment) files addition

-- this commit of the bug with this id was made where this is asked for at this moment: it is what the edit adds in one of these folders
pub record IsMade (folders : List (List ℕ)) (asks : Asked) (moment : Moment) (files : Files) (id : Id) (placed : Placed BugOp) : Type 0 where
  pub folder : List ℕ
  pub is : Contains folders folder
  pub edits : Edits
  pub asked_for : asks ≡ asked.Request (record { folder = folder; command = Edit edits })
  pub addition : Addition
  pub adds : EditAdds (env_at moment folder) edits files addition
  pub of_bug : addition.bug ≡ id
  pub commit : placed ≡ (appended_node bug_kind addition.parents addition.pack moment.now).placed

-- a run made it
abbrev pub WasMade : (folders : List (List ℕ)) (old new : History) → IsRun folders old new → Id → Placed BugOp → Type 0
WasMade folders old new run id placed = IsMade folders (asked_of run.words) run.moment (files_of old) id placed
