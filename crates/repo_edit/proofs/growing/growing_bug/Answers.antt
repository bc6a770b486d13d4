use Rattle.std.proofs.Common.{◌≡◌, ◌∙◌, Result, Err, sym, ap, subst, rules}
use Rattle.repo_steps.proofs.Names.{History, files_of, IsBug, clock_at, bug_finder, HeadEntry}
use Rattle.repo_edit.proofs.Names.{Stop, BugRefused, FindsBug, FinderAnswers, GrowingAnswers, Growing, FindStop, stop_of_find, stop_of_read}
use Rattle.repo_state.specs.declared.clocks.ClockFile.TheVariants as file
use Rattle.repo_edit.proofs.GrowingLemmas.{growing_broken, growing_grows, growing_lost, growing_nobody}
use Rattle.repo_edit.proofs.growing.growing_bug.Goals as goal

pub returns-clause-answers : goal.returns-clause-answers
returns-clause-answers g c = λ tells.
    let old = g.S.Store.history c.args.disk.now in
    let folder = c.args.folder.now in
    let word = c.args.word.now in
    let one = c.edit_author.ensures.unwritten tells in
    let two = c.find_head.ensures.unwritten tells ∙ one in
    let three = c.bug_at.ensures.unwritten tells ∙ two in
    growing_grows (files_of old) folder (bug_finder (files_of old) folder word) c.in_ok-author.author (c.in_ok-author.ensures.answers tells)
    c.in_ok-head.head (subst (λ (h : History). FindsBug (files_of h) folder word c.in_ok-head.head) one (c.in_ok-head.ensures.answers tells))
    c.in_ok-entity.entity (subst (λ (h : History). IsBug (files_of h) folder c.in_ok-head.head c.in_ok-entity.entity) two (c.in_ok-entity.ensures.answers tells)) c.in_ok-entity.ensures.rules
    c.in_ok-seen.seen (c.in_ok-seen.ensures.answers tells ∙ ap (λ (h : History). clock_at (files_of h) folder file.BugsEdit) three)
    c.in_ok-growing_from.field-0 c.in_ok-growing_from.ensures

pub returns-in_err-author-clause-answers : goal.returns-in_err-author-clause-answers
returns-in_err-author-clause-answers g c = λ tells.
    let files = files_of (g.S.Store.history c.args.disk.now) in
    let answer : Result Growing Stop = Err c.in_err-author.field-0.0 in
    let is : c.from_residual.result ≡ answer = search rules in
    subst (GrowingAnswers files c.args.folder.now (bug_finder files c.args.folder.now c.args.word.now)) (sym is)
    (growing_nobody files c.args.folder.now (bug_finder files c.args.folder.now c.args.word.now) c.in_err-author.field-0.0 (c.in_err-author.ensures.answers tells))

pub returns-in_err-head-clause-answers : goal.returns-in_err-head-clause-answers
returns-in_err-head-clause-answers g c = λ tells.
    let files = files_of (g.S.Store.history c.args.disk.now) in
    let folder = c.args.folder.now in
    let word = c.args.word.now in
    let s = c.in_err-head.field-0.0 in
    let one = c.edit_author.ensures.unwritten tells in
    let answer : Result Growing Stop = Err (stop_of_find s) in
    let is : c.from_residual-in_err-head.result ≡ answer = search rules in
    let lost : Result HeadEntry FindStop = Err s in
    subst (GrowingAnswers files folder (bug_finder files folder word)) (sym is)
    (growing_lost files folder (bug_finder files folder word) c.in_ok-author.author (c.in_ok-author.ensures.answers tells) s
    (subst (λ (h : History). FinderAnswers (bug_finder (files_of h) folder word) lost) one (c.in_err-head.ensures.answers tells)))

pub returns-in_err-entity-clause-answers : goal.returns-in_err-entity-clause-answers
returns-in_err-entity-clause-answers g c = λ tells.
    let files = files_of (g.S.Store.history c.args.disk.now) in
    let folder = c.args.folder.now in
    let word = c.args.word.now in
    let head = c.in_ok-head.head in
    let s = c.in_err-entity.field-0.0 in
    let one = c.edit_author.ensures.unwritten tells in
    let two = c.find_head.ensures.unwritten tells ∙ one in
    let answer : Result Growing Stop = Err (stop_of_read s) in
    let is : c.from_residual-in_err-entity.result ≡ answer = search rules in
    subst (GrowingAnswers files folder (bug_finder files folder word)) (sym is)
    (growing_broken files folder (bug_finder files folder word) c.in_ok-author.author (c.in_ok-author.ensures.answers tells)
    head (subst (λ (h : History). FindsBug (files_of h) folder word head) one (c.in_ok-head.ensures.answers tells)) s
    (subst (λ (h : History). BugRefused (files_of h) folder head s) two (c.in_err-entity.ensures.answers tells)))
