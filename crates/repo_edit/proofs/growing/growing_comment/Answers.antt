use Rattle.std.proofs.Common.{◌≡◌, ◌∙◌, ℕ, Result, Ok, Err, sym, ap, subst, rules}
use Rattle.repo_steps.proofs.Names.{FindsComment, History, bug_of_comment, files_of, HeadEntry, clock_at}
use Rattle.bug_ops.specs.Snapshots.{zero_id}
use Rattle.repo_edit.proofs.Names.{CommentAnswers, FinderAnswers, FindStop, Growing, GrowingComment, Stop, stop_of_find}
use Rattle.repo_state.specs.Comments.{ReadsSought, whole_comment_finder}
use Rattle.repo_state.specs.declared.comments.FoundComment.{FoundComment}
use Rattle.repo_state.specs.declared.clocks.ClockFile.TheVariants as file
use Rattle.repo_edit.proofs.GrowingLemmas.{comment_lost, growing_grows, growing_nobody, no_reads}
use Rattle.repo_edit.specs.Growing.{ReadsCommented}
use Rattle.repo_edit.proofs.growing.growing_comment.Goals as goal

pub returns-clause-answers : goal.returns-clause-answers
returns-clause-answers g c = λ tells.
    let old = g.S.Store.history c.args.disk.now in
    let folder = c.args.folder.now in
    let word = c.args.word.now in
    let found = c.in_ok-found.found in
    let one = c.edit_author.ensures.unwritten tells in
    let two = c.find_comment.ensures.unwritten tells ∙ one in
    let is = subst (λ (h : History). FinderAnswers (whole_comment_finder (files_of h) folder word) (Ok found)) one (c.in_ok-found.ensures.answers tells) in
    growing_grows (files_of old) folder (bug_of_comment (files_of old) folder word found.entry.comment) c.in_ok-author.author (c.in_ok-author.ensures.answers tells)
    found.entry.bug is.0 found.entity is.1 c.in_ok-found.ensures.rules
    c.in_ok-seen.seen (c.in_ok-seen.ensures.answers tells ∙ ap (λ (h : History). clock_at (files_of h) folder file.BugsEdit) two)
    c.in_ok-bug.bug c.in_ok-bug.ensures

pub returns-in_err-author-clause-answers : goal.returns-in_err-author-clause-answers
returns-in_err-author-clause-answers g c = λ tells.
    let files = files_of (g.S.Store.history c.args.disk.now) in
    let folder = c.args.folder.now in
    let word = c.args.word.now in
    let answer : Result GrowingComment Stop = Err c.in_err-author.field-0.0 in
    let is : c.from_residual.result ≡ answer = search rules in
    subst (CommentAnswers files folder word) (sym is)
    (zero_id, growing_nobody files folder (bug_of_comment files folder word zero_id) c.in_err-author.field-0.0 (c.in_err-author.ensures.answers tells))

pub returns-in_err-found-clause-answers : goal.returns-in_err-found-clause-answers
returns-in_err-found-clause-answers g c = λ tells.
    let files = files_of (g.S.Store.history c.args.disk.now) in
    let folder = c.args.folder.now in
    let word = c.args.word.now in
    let s = c.in_err-found.field-0.0 in
    let one = c.edit_author.ensures.unwritten tells in
    let answer : Result GrowingComment Stop = Err (stop_of_find s) in
    let is : c.from_residual-in_err-found.result ≡ answer = search rules in
    let lost : Result FoundComment FindStop = Err s in
    subst (CommentAnswers files folder word) (sym is) (
      zero_id,
      comment_lost files folder word c.in_ok-author.author (c.in_ok-author.ensures.answers tells) s
          (subst (λ (h : History). FinderAnswers (whole_comment_finder (files_of h) folder word) lost) one (c.in_err-found.ensures.answers tells)),
    )

pub returns-clause-reads : goal.returns-clause-reads
returns-clause-reads g c = λ tells.
    let old = g.S.Store.history c.args.disk.now in
    let folder = c.args.folder.now in
    let word = c.args.word.now in
    let found = c.in_ok-found.found in
    let first = g.S.Store.object_reads c.args.disk.now in
    let last = g.S.Store.object_reads c.find_comment.new.disk in
    let one = c.edit_author.ensures.unwritten tells in
    let is = subst (λ (h : History). FinderAnswers (whole_comment_finder (files_of h) folder word) (Ok found)) one (c.in_ok-found.ensures.answers tells) in
    let reads = subst (λ (h : History). ReadsSought (files_of h) folder word (g.S.Store.object_reads c.edit_author.new.disk) last) one (c.in_ok-found.ensures.reads tells) in (
      subst (λ (head : HeadEntry). FindsComment (files_of old) folder word (record { bug = head; comment = found.entry.comment })) (sym (ap (λ (b : Growing). b.head) c.in_ok-bug.ensures)) is.0,
      subst (λ (n : ℕ). ReadsSought (files_of old) folder word first n) (sym c.in_ok-seen.ensures.reads)
          (subst (λ (n : ℕ). ReadsSought (files_of old) folder word n last) c.edit_author.ensures.reads reads),
    )

pub returns-in_err-author-clause-reads : goal.returns-in_err-author-clause-reads
returns-in_err-author-clause-reads g c = λ tells.
    let files = files_of (g.S.Store.history c.args.disk.now) in
    let folder = c.args.folder.now in
    let word = c.args.word.now in
    let first = g.S.Store.object_reads c.args.disk.now in
    let last = g.S.Store.object_reads c.edit_author.new.disk in
    let answer : Result GrowingComment Stop = Err c.in_err-author.field-0.0 in
    let is : c.from_residual.result ≡ answer = search rules in
    subst (ReadsCommented files folder word first last) (sym is) (no_reads files folder word first last c.edit_author.ensures.reads)
