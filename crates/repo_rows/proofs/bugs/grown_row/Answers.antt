use Rattle.std.proofs.Common.{Ok, subst}
use Rattle.bug_ops.specs.Kind.{bug_kind}
use Rattle.bug_ops.specs.declared.op.BugOp.{BugOp}
use Rattle.dag_entity.specs.Entities.{KeepsRules}
use Rattle.dag_entity.specs.declared.since.Since.{Since}
use Rattle.gb_store.specs.Files.{files_of}
use Rattle.repo_state.specs.Bugs.{BugSince, IfWhole}
use Rattle.repo_rows.proofs.RowLemmas.{followed_row, row_of_packs, same_row}
use Rattle.repo_rows.proofs.bugs.grown_row.Goals as goal

pub returns-in-Same-clause-answers : goal.returns-in-Same-clause-answers
returns-in-Same-clause-answers g c = λ tells listed.
    let files = files_of (g.S.Store.history c.args.disk.now) in
    let since = λ (s : Since BugOp). BugSince files c.args.folder.now c.args.bug.now c.args.older.head (Ok s) in
    same_row files c.args.folder.now c.args.bug.now c.args.older (subst since c.in-Same.is (c.in_ok-bug_since.ensures.answers tells listed))

pub returns-in_ok-followed-in-Chain-clause-answers : goal.returns-in_ok-followed-in-Chain-clause-answers
returns-in_ok-followed-in-Chain-clause-answers g c = λ tells listed.
    let files = files_of (g.S.Store.history c.args.disk.now) in
    let since = λ (s : Since BugOp). BugSince files c.args.folder.now c.args.bug.now c.args.older.head (Ok s) in
    let leads = subst since c.in-Chain.is (c.in_ok-bug_since.ensures.answers tells listed) in
    followed_row files c.args.folder.now c.args.bug.now c.args.older c.in-Chain.packs c.in_ok-followed-in-Chain.field-0 leads c.in_ok-followed-in-Chain.ensures

pub returns-in_ok-row_in-in-Whole-clause-answers : goal.returns-in_ok-row_in-in-Whole-clause-answers
returns-in_ok-row_in-in-Whole-clause-answers g c = λ tells listed sound was.
    let files = files_of (g.S.Store.history c.args.disk.now) in
    let since = λ (s : Since BugOp). BugSince files c.args.folder.now c.args.bug.now c.args.older.head (Ok s) in
    let is = subst since c.in-Whole.is (c.in_ok-bug_since.ensures.answers tells listed) in
    let rules = subst (λ (s : Since BugOp). IfWhole (Ok s) (KeepsRules bug_kind)) c.in-Whole.is c.in_ok-bug_since.ensures.rules in
    row_of_packs files c.args.folder.now c.args.bug.now c.in-Whole.entity c.in_ok-row_in-in-Whole.field-0 is.1 rules c.in_ok-row_in-in-Whole.ensures
