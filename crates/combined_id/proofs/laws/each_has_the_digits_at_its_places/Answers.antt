use Rattle.combined_id.proofs.FrontLemmas.{front_of_first, front_of_second}
use Rattle.combined_id.proofs.laws.each_has_the_digits_at_its_places.Goals as goal

pub returns-clause-first : goal.returns-clause-first
returns-clause-first c = front_of_first

pub returns-clause-second : goal.returns-clause-second
returns-clause-second c = front_of_second
