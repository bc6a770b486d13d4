use Rattle.std.proofs.Common.{refl, sym, subst}
use Rattle.repo_steps.proofs.Names.{bug_kind, MayBeWritten}
use Rattle.repo_edit.proofs.KeepsLemmas.{keeps}
use Rattle.repo_edit.proofs.addition.plan_commit.Goals as goal

pub plan_append-requires : goal.plan_append-requires
plan_append-requires c =
    subst (MayBeWritten bug_kind) (sym c.in_ok-pack.ensures)
    (record { version = refl; rules = (keeps c.args.new.op c.args.new.rules, tt) })
