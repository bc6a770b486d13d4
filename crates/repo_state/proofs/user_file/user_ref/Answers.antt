use Rattle.std.proofs.Common.{List, ℕ, subst}
use Rattle.gb_store.specs.Files.{files_of}
use Rattle.repo_state.specs.Answers.{UserAnswers}
use Rattle.repo_state.specs.Users.{user_of}
use Rattle.repo_state.proofs.UserFileLemmas.{reads_none}
use Rattle.repo_state.proofs.user_file.user_ref.Goals as goal

pub returns-clause-answers : goal.returns-clause-answers
returns-clause-answers g c = λ tells.
    let files = files_of (g.S.Store.history c.args.disk.now) in
    subst (λ (at : List ℕ). UserAnswers files c.args.folder.now at (user_of files c.args.folder.now (files at)) c.user_in.result) c.in_ok-path.ensures (c.user_in.ensures.answers tells)

pub returns-clause-reads : goal.returns-clause-reads
returns-clause-reads g c = reads_none c.args.folder.now c.in_ok-path.path _ _ c.in_ok-path.ensures c.user_in.ensures.reads
