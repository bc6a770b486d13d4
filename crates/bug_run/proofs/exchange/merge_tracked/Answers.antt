use Rattle.std.proofs.Common.{ℕ, inr, subst}
use Rattle.gb_store.specs.Files.{History}
use Rattle.bug_run.specs.Exchanges.{MergeTold, ReadsMerge}
use Rattle.bug_run.proofs.exchange.merge_tracked.Goals as goal

pub returns-clause-answers : goal.returns-clause-answers
returns-clause-answers g c = λ tells.
    let history = g.S.Store.history in
    inr (c.in_ok-look.ensures.answers tells, subst (λ (h : History). MergeTold c.args.request.now c.args.moment.now h (history c.merge_lines.new.disk) c.merge_lines.result) (c.in_ok-look.ensures.unwritten tells) (c.merge_lines.ensures.answers tells))

pub returns-clause-reads : goal.returns-clause-reads
returns-clause-reads g c = λ tells.
    let history = g.S.Store.history in
    let reads = g.S.Store.object_reads in
    let request = c.args.request.now in
    let now = c.args.moment.now in
    let after = reads c.merge_lines.new.disk in
    inr (subst (λ (n : ℕ). ReadsMerge request now (history c.args.disk.now) n after) c.look.ensures.reads
    (subst (λ (h : History). ReadsMerge request now h (reads c.look.new.disk) after) (c.look.ensures.unwritten tells) (c.merge_lines.ensures.reads tells)))
