-- What each command that edits does.
use Rattle.std.specs.Prelude.{ℕ, List, Result}
use Rattle.gb_text.specs.declared.id.Id.{Id}
use Rattle.gb_store.specs.Files.{History}
use Rattle.repo_steps.specs.declared.env.Env.{Env}
use Rattle.repo_steps.specs.declared.refusal.Refusal.{Refusal}
use Rattle.repo_steps.specs.declared.refusal.Stop.{Stop}
use Rattle.repo_steps.specs.Answers.{DoingAnswers, IsDone}
use Rattle.repo_steps.specs.BugDoings.{comment_growth, edit_growth, longer_bug, new_bug}
use Rattle.repo_steps.specs.Checks.{AllPass, FirstFails}
use Rattle.bug_edits.specs.declared.edit.BugEdit.{BugEdit}
use Rattle.words.specs.declared.edit.Edit.{Edit}
use Rattle.words.specs.declared.edit.Edit.TheVariants as edit
use Rattle.repo_steps.specs.Doing.{Doing}
use Rattle.repo_steps.specs.Picked.{Picked}
use Rattle.repo_steps.specs.PeopleDoings.{edited_user, new_user, set_user}

-- What a command does after these writes, where it picks this.
abbrev pub doing_of : Env → Edit → Picked → History → Doing
doing_of env (edit.UserNew name email) picked old = new_user env name email old
doing_of env (edit.UserEdit name email) picked old = edited_user env name email old
doing_of env (edit.UserSet word) picked old = set_user env word picked.person old
doing_of env (edit.New title message) picked old = new_bug env title message old
doing_of env (edit.OfBug word e) picked old = longer_bug env (edit_growth env e word) picked.bug picked.op old
doing_of env (edit.OfComment word message) picked old = longer_bug env (comment_growth env message word picked.comment) picked.bug picked.op old

-- nothing keeps a command from being done
abbrev pub MayStep : Env → Edit → History → Type 0
MayStep env command old = (picked : Picked) × AllPass (doing_of env command picked old).checks

-- a command is refused by the first of its checks that fails
abbrev pub Refused : Env → Edit → History → Refusal → Type 0
Refused env command old r = (picked : Picked) × FirstFails (doing_of env command picked old).checks r

-- a command was done, and told this id
abbrev pub Done : Env → Edit → History → History → Id → Type 0
Done env command old new id = (picked : Picked) × IsDone (doing_of env command picked old) old new id

-- the answer to a command, with what was written
abbrev pub EditAnswers : Env → Edit → History → History → Result Id Stop → Type 0
EditAnswers env command old new result = (picked : Picked) × DoingAnswers (doing_of env command picked old) old new result

-- the answer to an edit of a bug that stands, with what was written
abbrev pub BugEditAnswers : Env → BugEdit → List ℕ → History → History → Result Id Stop → Type 0
BugEditAnswers env e word old new result = EditAnswers env (edit.OfBug word e) old new result
