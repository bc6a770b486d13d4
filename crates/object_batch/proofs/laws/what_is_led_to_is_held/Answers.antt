use Rattle.object_batch.proofs.LeadLemmas.{led_to_held}
use Rattle.object_batch.proofs.laws.what_is_led_to_is_held.Goals as goal

pub returns : goal.returns
returns c = λ held from to whole is leads. led_to_held held whole from leads.0 to is leads.1
