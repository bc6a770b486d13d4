-- The person was met.
use Rattle.std.proofs.Common.{sym, subst}
use Rattle.bug_ops.specs.Folds.{AreMet}
use Rattle.bug_ops.proofs.Folds.{on_ok, one_more_met}
use Rattle.bug_ops.proofs.persons.meet_person.Goals as goal

pub returns-clause-met : goal.returns-clause-met
returns-clause-met c =
    let more = one_more_met c.args.met.now c.insert.new.self c.args.ids.now c.args.id c.requires c.in_ok-insert.ensures.updates in
    on_ok c.add_person.result (λ is. subst (AreMet c.insert.new.self) (sym is) more) c.add_person.ensures
