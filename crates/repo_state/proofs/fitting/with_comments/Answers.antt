use Rattle.std.proofs.Common.{List, [], take, sym, subst}
use Rattle.gb_text.specs.Prefix.{digits_of}
use Rattle.gb_text.specs.declared.id.Id.{Id}
use Rattle.repo_state.specs.Seeking.{FitsAfter, entries_of, fitting_of}
use Rattle.repo_state.specs.declared.comments.CommentEntry.{CommentEntry}
use Rattle.repo_state.proofs.FittingLemmas.{after_both, fitting_more}
use Rattle.repo_state.proofs.fitting.with_comments.Goals as goal

none : Id
none = record { bytes = [] }

pub loop-comment-preserved : goal.loop-comment-preserved
unfolding none
loop-comment-preserved c =
    let word = digits_of c.args.prefix.now in
    let bug = c.args.bug.now in
    let comments = c.args.comments.now in
    let place = c.loop-comment.comment-index in
    subst (λ (cs : List CommentEntry). FitsAfter c.args.before cs c.with_comment-fitting.result) (sym (fitting_more word bug comments place none c.loop-comment-test.true))
    (after_both c.args.before c.loop-comment.fitting c.with_comment-fitting.result (fitting_of word (entries_of bug (take place comments))) _ c.loop-comment.invariant c.with_comment-fitting.ensures)
