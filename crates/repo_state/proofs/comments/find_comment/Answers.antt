use Rattle.std.proofs.Common.{List, ℕ, refl, subst, ◌∙◌}
use Rattle.gb_store.specs.Files.{files_of}
use Rattle.repo_state.specs.Comments.{whole_comment_finder}
use Rattle.repo_state.specs.Finds.{FinderAnswers}
use Rattle.repo_state.proofs.SeekLemmas.{reads_nothing}
use Rattle.repo_state.proofs.comments.find_comment.Goals as goal

pub returns-in-Some-clause-answers : goal.returns-in-Some-clause-answers
returns-in-Some-clause-answers g c = λ tells.
    subst (λ (word : List ℕ). FinderAnswers (whole_comment_finder (files_of (g.S.Store.history c.args.disk.now)) c.args.folder.now word) c.find_begun.result)
    (c.in-Some.ensures.digits ∙ c.as_bytes.ensures.value) (c.find_begun.ensures.answers tells)

pub returns-in-None-clause-reads : goal.returns-in-None-clause-reads
returns-in-None-clause-reads g c = λ tells. reads_nothing (files_of (g.S.Store.history c.args.disk.now)) c.args.folder.now c.args.word.now _ _ refl
