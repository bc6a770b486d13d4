use Rattle.std.proofs.Common.{◌∙◌, subst}
use Rattle.gb_store.specs.Files.{Put}
use Rattle.gb_store.specs.declared.store.Change.{Change}
use Rattle.repo_state.specs.Answers.{PutAnswers}
use Rattle.repo_state.proofs.UserFileLemmas.{put_answers, user_write-is, user_write-wrote}
use Rattle.repo_state.proofs.user_file.set_user.Goals as goal

pub returns-clause-answers : goal.returns-clause-answers
returns-clause-answers g c = λ tells.
    let old = g.S.Store.history c.args.disk.now in
    let new = g.S.Store.history c.put.new.self in
    subst (λ (w : Change). PutAnswers w old new c.put.result)
    (user_write-is c.args.folder.now c.as_str.result.now c.as_slice.result.now c.args.id.now (c.as_str.ensures ∙ c.in_ok-path.ensures) (c.as_slice.ensures ∙ c.in_ok-line.ensures))
    (put_answers (Put c.as_str.result.now c.as_slice.result.now) old new c.put.result (c.put.ensures.done tells) (c.put.ensures.maybe tells) (c.put.ensures.memory tells))

pub returns-clause-wrote : goal.returns-clause-wrote
returns-clause-wrote g c =
    user_write-wrote g.S.Store.tells c.args.folder.now c.as_str.result.now c.as_slice.result.now c.args.id.now (g.S.Store.history c.args.disk.now) (g.S.Store.history c.put.new.self)
    (c.as_str.ensures ∙ c.in_ok-path.ensures) (c.as_slice.ensures ∙ c.in_ok-line.ensures) c.put.ensures.maybe
