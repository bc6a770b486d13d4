use Rattle.commit_walk.proofs.laws.walk_faults_are_exact.Goals as goal

pub returns-clause-missing : goal.returns-clause-missing
returns-clause-missing c = λ objects heads name. (λ f. f, λ f. f)

pub returns-clause-large : goal.returns-clause-large
returns-clause-large c = λ objects heads name. (λ f. (f.0, (f.1.text, f.1.stands, f.1.long)), λ f. (f.0, record { text = f.1.0; stands = f.1.1; long = f.1.2 }))

pub returns-clause-damaged : goal.returns-clause-damaged
returns-clause-damaged c = λ objects heads name. (
  λ f. (f.0, (f.1.text, f.1.stands, f.1.within, f.1.is_none)),
  λ f. (f.0, record { text = f.1.0; stands = f.1.1; within = f.1.2; is_none = f.1.3 }),
)

pub returns-clause-no_commit : goal.returns-clause-no_commit
returns-clause-no_commit c = λ objects heads name. (
  λ f. (f.0, (f.1.object, f.1.held, f.1.is_none)),
  λ f. (f.0, record { object = f.1.0; held = f.1.1; is_none = f.1.2 }),
)

pub returns-clause-many : goal.returns-clause-many
returns-clause-many c = λ objects heads. (
  λ f. (f.names, f.once, f.many, λ name has. let each = f.each name has in (each.below, (each.commit, each.held))),
  λ f. record {
    names = f.0;
    once = f.1;
    many = f.2;
    each = λ name has. let each = f.3 name has in record { below = each.0; commit = each.1.0; held = each.1.1 };
  },
)
