use Rattle.std.proofs.Common.{sym, ◌∙◌, ap}
use Rattle.std.proofs.lemmas.Result.{IfOk-weaker}
use Rattle.gb_text.specs.Folder.{joined}
use Rattle.gb_store.specs.ObjectPath.{is_object_path}
use Rattle.repo_state.specs.Clocks.{clock_place}
use Rattle.repo_state.specs.declared.clocks.ClockFile.TheVariants as file
use Rattle.repo_state.proofs.ClockFileLemmas.{clock_place_is_no_object}
use Rattle.repo_state.proofs.clocks.clock_path.Goals as goal

pub returns-in-BugsCreate-clause-no_object : goal.returns-in-BugsCreate-clause-no_object
returns-in-BugsCreate-clause-no_object c =
    IfOk-weaker c.join.result _ _ (λ path h. ap is_object_path h ∙ clock_place_is_no_object c.args.folder.now file.BugsCreate) c.join.ensures

pub returns-in-BugsEdit-clause-path : goal.returns-in-BugsEdit-clause-path
returns-in-BugsEdit-clause-path c =
    IfOk-weaker c.join-in-BugsEdit.result _ _ (λ path h. h ∙ ap (λ which. joined c.args.folder.now (clock_place which)) (sym c.in-BugsEdit.is)) c.join-in-BugsEdit.ensures

pub returns-in-BugsEdit-clause-no_object : goal.returns-in-BugsEdit-clause-no_object
returns-in-BugsEdit-clause-no_object c =
    IfOk-weaker c.join-in-BugsEdit.result _ _ (λ path h. ap is_object_path h ∙ clock_place_is_no_object c.args.folder.now file.BugsEdit) c.join-in-BugsEdit.ensures
