use Rattle.repo_rows.proofs.laws.chains_read_what_is_new.Goals as goal

pub returns-clause-above : goal.returns-clause-above
returns-clause-above c = λ files folder bug row packs before after reads stored leads. reads.above row stored packs leads

pub returns-clause-below : goal.returns-clause-below
returns-clause-below c = λ files folder bug before after reads. (reads.below.names, reads.below.once, reads.below.each, reads.below.few)
