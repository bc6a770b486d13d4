use Rattle.std.proofs.Common.{subst}
use Rattle.repo_steps.proofs.Names.{BugOp, DoingAnswers}
use Rattle.repo_edit.proofs.Names.{begun_bug}
use Rattle.repo_edit.proofs.bugs.new_bug.Goals as goal

pub returns-clause-answers : goal.returns-clause-answers
returns-clause-answers g c = λ tells.
    subst (λ (op : BugOp). DoingAnswers (begun_bug c.args.env.now op (g.S.Store.history c.args.disk.now)) (g.S.Store.history c.args.disk.now) (g.S.Store.history c.begin_bug.new.disk) c.begin_bug.result)
    c.in_ok-new.ensures (c.begin_bug.ensures.answers tells)
