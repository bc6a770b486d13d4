-- The step of each command that edits: what it changes in the files, and the id that it returns.
use Rattle.std.specs.Prelude.{◌≡◌, ℕ, List, [], ◌∷◌, Contains, false, Some, None, Ok}
use Rattle.gb_text.specs.Digits.{IsName}
use Rattle.gb_text.specs.Folder.{joined}
use Rattle.gb_text.specs.declared.id.Id.{Id}
use Rattle.gb_text.specs.declared.id.Name.{Name}
use Rattle.gb_text.specs.declared.ruled.Line.{Line}
use Rattle.gb_text.specs.declared.ruled.Title.{Title}
use Rattle.gb_store.specs.Files.{Files, written}
use Rattle.gb_store.specs.ObjectPath.{object_place}
use Rattle.object_store.specs.Growth.{OnlyGrew}
use Rattle.object_store.specs.Held.{objects_in}
use Rattle.ref_store.specs.Refs.{Head}
use Rattle.identity.specs.Extending.{IsLonger}
use Rattle.identity.specs.Version.{written_version}
use Rattle.identity.specs.declared.version.Version.{Version}
use Rattle.lamport.specs.Clock.{edit_time_of, root_time_of, seen_by}
use Rattle.bug_edits.specs.NewOps.{nonce_from}
use Rattle.bug_edits.specs.NewOps.{create_op, op_id}
use Rattle.bug_ops.specs.Kind.{bug_kind}
use Rattle.bug_ops.specs.declared.op.BugOp.{BugOp}
use Rattle.dag_entity.specs.Appending.{appended_node}
use Rattle.dag_entity.specs.Extending.{begun, extended}
use Rattle.dag_entity.specs.declared.entity.Entity.{Entity}
use Rattle.repo_state.specs.Bugs.{IsBug}
use Rattle.repo_state.specs.Clocks.{clock_at, clock_place}
use Rattle.repo_state.specs.Finds.{Finds, One}
use Rattle.repo_state.specs.Sides.{has_ref, head_at, ref_place}
use Rattle.repo_state.specs.Users.{UserFound, BadUser, NoUser, User, user_at, user_place, user_write}
use Rattle.repo_state.specs.declared.clocks.ClockFile.TheVariants as file
use Rattle.repo_steps.specs.declared.env.Env.{Env}
use Rattle.repo_state.specs.declared.side.Side.TheVariants as side
use Rattle.repo_steps.specs.BugDoings.{Growth, HasFound, addition_head, bug_says, comment_growth, edit_growth, later_addition, root_addition}
use Rattle.repo_steps.specs.PeopleDoings.{HasUser, new_made}
use Rattle.repo_steps.specs.declared.plan.Addition.{Addition}
use Rattle.words.specs.declared.edit.Edit.{Edit}
use Rattle.words.specs.declared.edit.Edit.TheVariants as edit

-- ---- what a step changes

-- the path below a folder of an object with a name of 40 digits
pub record IsObjectFile (folder path : List ℕ) : Type 0 where
  pub name : Name
  pub is_name : IsName name
  pub is : path ≡ joined folder (object_place name)

-- objects were only added to a folder, under names of 40 digits, and every other file but those at these places of it is as it was
pub record OnlyChanges (folder : List ℕ) (places : List (List ℕ)) (old new : Files) : Type 0 where
  pub objects : OnlyGrew (objects_in old folder) (objects_in new folder)
  pub others : (path : List ℕ) → ((place : List ℕ) → Contains places place → path ≡ joined folder place → ⊥) → (IsObjectFile folder path → ⊥) → new path ≡ old path

-- the user after an identity was made: that one where there was none
abbrev pub first_user : UserFound → Id → UserFound
first_user NoUser id = User id
first_user (User other) id = User other
first_user BadUser id = BadUser

-- the user file, where there was no user
abbrev pub first_user_place : UserFound → List (List ℕ)
first_user_place NoUser = user_place ∷ []
first_user_place (User id) = []
first_user_place BadUser = []

-- the version of a name and an email that a command makes
abbrev pub new_version : Env → Title → Line → Version
new_version env name email = written_version name.text email.text (nonce_from env.moment.seed) env.moment.now

-- A new identity of one version, with this name and email; it becomes the user where no user file stood. Its id is told.
pub record UserNewSteps (env : Env) (name : Title) (email : Line) (old new : Files) (told : Id) : Type 0 where
  pub fresh : has_ref old env.folder side.Identities told ≡ false
  pub head : head_at new env.folder side.Identities told ≡ Head (new_made env name email None).head
  pub chain : IsLonger (objects_in new env.folder) told [] (new_made env name email None).head (new_version env name email)
  pub user : user_at new env.folder ≡ first_user (user_at old env.folder) told
  pub only : OnlyChanges env.folder (ref_place side.Identities told ∷ first_user_place (user_at old env.folder)) old new
  pub is_told : told ≡ (new_made env name email None).id

-- The user has a new version, with this name and email, behind the others. The user's id is told.
pub record UserEditSteps (env : Env) (name : Title) (email : Line) (old new : Files) (told : Id) : Type 0 where
  pub user : HasUser env.folder old
  pub head : head_at new env.folder side.Identities user.id ≡ Head (new_made env name email (Some user.head)).head
  pub chain : IsLonger (objects_in new env.folder) user.id user.chain.walk (new_made env name email (Some user.head)).head (new_version env name email)
  pub only : OnlyChanges env.folder (ref_place side.Identities user.id ∷ []) old new
  pub is_told : told ≡ user.id

-- The person whom the word finds is the user. Its id is told.
pub record UserSetSteps (env : Env) (word : List ℕ) (old new : Files) (told : Id) : Type 0 where
  pub found : Finds old env.folder side.Identities word (One told)
  pub user : user_at new env.folder ≡ User told
  pub only : new ≡ written old (user_write env.folder told)

-- what the new bug is: its root alone, whose pack has the one operation
abbrev pub begun_entity : Env → Addition → ℕ → Entity BugOp
begun_entity env a create = begun a.bug (appended_node bug_kind a.parents a.pack env.moment.now) create

-- A new bug, which begins with this operation, by the user, with the clocks of a new root; both clocks of the folder have
-- seen it. Its id, which is the operation's, is told.
pub record BugBegins (env : Env) (op : BugOp) (old new : Files) (told : Id) : Type 0 where
  pub user : Id
  pub is_user : user_at old env.folder ≡ User user
  pub is_told : told ≡ op_id op
  pub fresh : has_ref old env.folder side.Bugs told ≡ false
  pub head : head_at new env.folder side.Bugs told ≡ Head (addition_head env.moment.now (root_addition env.folder old op user))
  pub is : IsBug new env.folder (record { id = told; name = addition_head env.moment.now (root_addition env.folder old op user) })
      (begun_entity env (root_addition env.folder old op user) (root_time_of (clock_at old env.folder file.BugsCreate)))
  pub edit_clock : clock_at new env.folder file.BugsEdit ≡ root_time_of (clock_at old env.folder file.BugsEdit)
  pub create_clock : clock_at new env.folder file.BugsCreate ≡ root_time_of (clock_at old env.folder file.BugsCreate)
  pub only : OnlyChanges env.folder (ref_place side.Bugs told ∷ clock_place file.BugsCreate ∷ clock_place file.BugsEdit ∷ []) old new

-- The bug that is found has one operation more, by the user, which is added by what the bug says, in a commit over its head,
-- behind all others; the clock has seen it. The operation's id is told.
pub record BugGrows (env : Env) (growth : Growth) (old new : Files) (told : Id) : Type 0 where
  pub user : Id
  pub is_user : user_at old env.folder ≡ User user
  pub bug : HasFound env.folder old (growth.finder old)
  pub op : BugOp
  pub is_op : growth.adds (bug_says bug.entity) ≡ Ok op
  pub is_told : told ≡ op_id op
  pub head : head_at new env.folder side.Bugs bug.bug.id ≡ Head (addition_head env.moment.now (later_addition env.folder old op user bug.bug bug.entity.edit))
  pub is : IsBug new env.folder (record { id = bug.bug.id; name = addition_head env.moment.now (later_addition env.folder old op user bug.bug bug.entity.edit) })
      (extended bug.entity (appended_node bug_kind (bug.bug.name ∷ []) (later_addition env.folder old op user bug.bug bug.entity.edit).pack env.moment.now))
  pub edit_clock : clock_at new env.folder file.BugsEdit ≡ seen_by (clock_at old env.folder file.BugsEdit) (edit_time_of (clock_at old env.folder file.BugsEdit) bug.entity.edit)
  pub only : OnlyChanges env.folder (ref_place side.Bugs bug.bug.id ∷ clock_place file.BugsEdit ∷ []) old new

-- the step of a command, from the files before to those after, and the id that it tells
abbrev pub Steps : Env → Edit → Files → Files → Id → Type 0
Steps env (edit.UserNew name email) old new told = UserNewSteps env name email old new told
Steps env (edit.UserEdit name email) old new told = UserEditSteps env name email old new told
Steps env (edit.UserSet word) old new told = UserSetSteps env word old new told
Steps env (edit.New title message) old new told = BugBegins env (create_op env.moment title message) old new told
Steps env (edit.OfBug word e) old new told = BugGrows env (edit_growth env e word) old new told
Steps env (edit.OfComment word message) old new told = (comment : Id) × BugGrows env (comment_growth env message word comment) old new told
