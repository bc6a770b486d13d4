use Rattle.operation_origins.proofs.LimitMergeLemmas.{line_limit}
use Rattle.operation_origins.proofs.LimitPullLemmas.{pulled_limit}
use Rattle.operation_origins.proofs.limit_laws.merges_refuse_bugs_by_a_limit_alone.Goals as goal

pub returns-clause-merge : goal.returns-clause-merge
returns-clause-merge c = λ folder remote now old new lines line why moment sound once tracked known done has is.
    line_limit folder remote now moment old new lines done sound once tracked known line why has is

pub returns-clause-pull : goal.returns-clause-pull
returns-clause-pull c = λ own peer remote now old new pulled line why moment apart sound done once tracked known has is.
    pulled_limit own peer remote now moment old new pulled apart sound done once tracked known line why has is
