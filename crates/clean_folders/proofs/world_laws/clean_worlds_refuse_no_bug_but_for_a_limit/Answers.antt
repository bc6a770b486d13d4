use Rattle.clean_folders.proofs.WorldPullLemmas.{pull_tells_limits, pull_without_limits, remote_at, remote_text}
use Rattle.clean_folders.proofs.world_laws.clean_worlds_refuse_no_bug_but_for_a_limit.Goals as goal

pub returns-clause-limits : goal.returns-clause-limits
returns-clause-limits c = λ folders event peer ended old new clean within pulls done one_text has.
    let told = pull_tells_limits folders event peer ended old new clean within pulls done one_text has in
    (remote_at peer, remote_text folders event peer ended old new clean within pulls done, told.0, told.1, told.2, told.3, told.4)

pub returns-clause-none : goal.returns-clause-none
returns-clause-none c = λ folders event peer ended old new clean within pulls done one_text has.
    let told = pull_without_limits folders event peer ended old new clean within pulls done one_text has in
    (remote_at peer, remote_text folders event peer ended old new clean within pulls done, told.0, told.1, told.2, told.3)
