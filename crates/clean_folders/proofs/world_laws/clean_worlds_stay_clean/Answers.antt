use Rattle.clean_folders.proofs.StayLemmas.{exchange_each_clean, exchange_stays_clean, others_edit_none, stays_clean}
use Rattle.clean_folders.proofs.world_laws.clean_worlds_stay_clean.Goals as goal

pub returns-clause-events : goal.returns-clause-events
returns-clause-events c = stays_clean

pub returns-clause-exchange : goal.returns-clause-exchange
returns-clause-exchange c = exchange_stays_clean

pub returns-clause-each : goal.returns-clause-each
returns-clause-each c = exchange_each_clean

pub returns-clause-others : goal.returns-clause-others
returns-clause-others c = others_edit_none
