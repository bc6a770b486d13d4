use Rattle.std.proofs.Common.{◌≡◌, Some, sym, ◌∙◌, ap, subst, rules}
use Rattle.gb_text.specs.Digits.{id_of}
use Rattle.gb_text.specs.LineEnd.{line_of}
use Rattle.gb_store.specs.Files.{History, files_of}
use Rattle.repo_state.specs.Answers.{UserAnswers}
use Rattle.repo_state.specs.Users.{UserFound, local_user, user_of}
use Rattle.repo_state.proofs.user_file.user_in.Goals as goal

pub returns-in-Some-clause-answers : goal.returns-in-Some-clause-answers
returns-in-Some-clause-answers g c = λ tells.
    let files = files_of (g.S.Store.history c.args.disk.now) in
    let folder = c.args.folder.now in
    let text = c.in-Whole.text in
    let file : files c.args.path ≡ Some text = search rules in
    let id : id_of (line_of text) ≡ Some c.in-Some.id = search rules in
    let user = ap (user_of files folder) file ∙ ap (local_user files folder) id in
    let answers = subst (λ (h : History). UserAnswers (files_of h) folder c.args.path (local_user (files_of h) folder (Some c.in-Some.id)) c.local_user.result) (c.in_ok-read.ensures.unwritten tells) (c.local_user.ensures.answers tells) in
    subst (λ (found : UserFound). UserAnswers files folder c.args.path found c.local_user.result) (sym user) answers
