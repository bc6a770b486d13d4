use Rattle.std.proofs.Common.{List, ℕ, Result, option_map, subst, sym, ◌∙◌, ap}
use Rattle.gb_text.specs.Prefix.{digits_of}
use Rattle.gb_store.specs.Files.{History, files_of}
use Rattle.ref_store.specs.declared.listing.RefEntry.{RefEntry}
use Rattle.repo_state.specs.Comments.{whole_comment_finder}
use Rattle.repo_state.specs.Finds.{FinderAnswers}
use Rattle.repo_state.specs.Listed.{AreIdentityRefs}
use Rattle.repo_state.specs.Seeking.{IsSoughtAmong, ReadsAmong}
use Rattle.repo_state.specs.Sides.{AreIds}
use Rattle.repo_state.specs.declared.comments.FoundComment.{FoundComment}
use Rattle.repo_state.specs.declared.side.Side.TheVariants as side
use Rattle.repo_state.specs.declared.stop.FindStop.{FindStop}
use Rattle.repo_state.proofs.FittingLemmas.{some_bug_digit}
use Rattle.repo_state.proofs.SeekLemmas.{answers, reads_nothing, reads_sought}
use Rattle.repo_state.proofs.comments.find_begun.Goals as goal

pub returns-in_default-clause-answers : goal.returns-in_default-clause-answers
returns-in_default-clause-answers g c = λ tells.
    absurd (some_bug_digit (digits_of c.args.prefix.now) c.args.prefix.now.is_prefix (sym c.split_prefix.ensures.first ∙ ap (option_map digits_of) c.in_default.is))

pub returns-in_err-bugs-clause-reads : goal.returns-in_err-bugs-clause-reads
returns-in_err-bugs-clause-reads g c = λ tells. reads_nothing (files_of (g.S.Store.history c.args.disk.now)) c.args.folder.now (digits_of c.args.prefix.now) _ _ c.in_err-bugs.ensures.reads

pub returns-in_err-identities-clause-reads : goal.returns-in_err-identities-clause-reads
returns-in_err-identities-clause-reads g c = λ tells.
    reads_nothing (files_of (g.S.Store.history c.args.disk.now)) c.args.folder.now (digits_of c.args.prefix.now) _ _ (c.in_err-identities.ensures.reads ∙ c.in_ok-bugs.ensures.reads)

pub returns-in_err-seek-clause-reads : goal.returns-in_err-seek-clause-reads
returns-in_err-seek-clause-reads g c = λ tells.
    let files = files_of (g.S.Store.history c.args.disk.now) in
    let folder = c.args.folder.now in
    let word = digits_of c.args.prefix.now in
    let bugs = c.as_slice-bugs.result.now in
    let history = c.in_ok-identities.ensures.unwritten tells ∙ c.in_ok-bugs.ensures.unwritten tells in
    let before = c.in_ok-identities.ensures.reads ∙ c.in_ok-bugs.ensures.reads in
    let are : AreIds files folder side.Bugs bugs = subst (AreIds files folder side.Bugs) (sym c.as_slice-bugs.ensures) (c.in_ok-bugs.ensures.answers tells) in
    let there = subst (λ (h : History). AreIds (files_of h) folder side.Bugs bugs) (sym history) are in
    let read = subst (λ (h : History). ReadsAmong (files_of h) folder word bugs (g.S.Store.object_reads c.identity_refs.new.disk) (g.S.Store.object_reads c.seek.new.disk)) history (c.in_err-seek.ensures.reads tells there) in
    reads_sought files folder word bugs are _ _ (subst (λ (n : ℕ). ReadsAmong files folder word bugs n (g.S.Store.object_reads c.seek.new.disk)) before read)

pub returns-clause-answers : goal.returns-clause-answers
returns-clause-answers g c = λ tells.
    let files = files_of (g.S.Store.history c.args.disk.now) in
    let folder = c.args.folder.now in
    let word = digits_of c.args.prefix.now in
    let bugs = c.as_slice-bugs.result.now in
    let identities = c.as_slice-identities.result.now in
    let history = c.in_ok-identities.ensures.unwritten tells ∙ c.in_ok-bugs.ensures.unwritten tells in
    let are : AreIds files folder side.Bugs bugs = subst (AreIds files folder side.Bugs) (sym c.as_slice-bugs.ensures) (c.in_ok-bugs.ensures.answers tells) in
    let there = subst (λ (h : History). AreIds (files_of h) folder side.Bugs bugs) (sym history) are in
    let listed = subst (λ (h : History). AreIdentityRefs (files_of h) folder identities) (sym (c.in_ok-identities.ensures.unwritten tells))
    (subst (λ (es : List RefEntry). AreIdentityRefs (files_of (g.S.Store.history c.ids.new.disk)) folder es) (sym c.as_slice-identities.ensures) (c.in_ok-identities.ensures.answers tells)) in
    let found : IsSoughtAmong files folder word bugs c.in_ok-seek.field-0 =
    subst (λ (h : History). IsSoughtAmong (files_of h) folder word bugs c.in_ok-seek.field-0) history (c.in_ok-seek.ensures.answers tells there listed) in
    subst (λ (r : Result FoundComment FindStop). FinderAnswers (whole_comment_finder files folder word) r) (sym c.answer.ensures.found)
    (answers files folder word bugs are c.in_ok-seek.field-0 found)

pub returns-clause-reads : goal.returns-clause-reads
returns-clause-reads g c = λ tells.
    let files = files_of (g.S.Store.history c.args.disk.now) in
    let folder = c.args.folder.now in
    let word = digits_of c.args.prefix.now in
    let bugs = c.as_slice-bugs.result.now in
    let history = c.in_ok-identities.ensures.unwritten tells ∙ c.in_ok-bugs.ensures.unwritten tells in
    let before = c.in_ok-identities.ensures.reads ∙ c.in_ok-bugs.ensures.reads in
    let are : AreIds files folder side.Bugs bugs = subst (AreIds files folder side.Bugs) (sym c.as_slice-bugs.ensures) (c.in_ok-bugs.ensures.answers tells) in
    let there = subst (λ (h : History). AreIds (files_of h) folder side.Bugs bugs) (sym history) are in
    let read = subst (λ (h : History). ReadsAmong (files_of h) folder word bugs (g.S.Store.object_reads c.identity_refs.new.disk) (g.S.Store.object_reads c.seek.new.disk)) history (c.in_ok-seek.ensures.reads tells there) in
    reads_sought files folder word bugs are _ _ (subst (λ (n : ℕ). ReadsAmong files folder word bugs n (g.S.Store.object_reads c.seek.new.disk)) before read)
