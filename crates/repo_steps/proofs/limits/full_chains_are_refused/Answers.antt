use Rattle.repo_steps.proofs.CauseLemmas.{full_told, only_full}
use Rattle.repo_steps.proofs.ReportLemmas.{full_refused}
use Rattle.repo_steps.proofs.limits.full_chains_are_refused.Goals as goal

pub returns-clause-only : goal.returns-clause-only
returns-clause-only c = λ env name email old. only_full env old name email

pub returns-clause-told : goal.returns-clause-told
returns-clause-told c = λ env name email old. full_told env old name email

pub returns-clause-full : goal.returns-clause-full
returns-clause-full c = λ env name email old. full_refused env old name email
