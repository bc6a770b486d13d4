use Rattle.object_store.proofs.GrowthLemmas.{object_stays, text_stays}
use Rattle.object_store.proofs.laws.what_is_held_stays.Goals as goal

pub returns-clause-text : goal.returns-clause-text
returns-clause-text c = λ old new name text grew. text_stays old new grew name text

pub returns-clause-object : goal.returns-clause-object
returns-clause-object c = λ old new name object grew. object_stays old new grew name object
