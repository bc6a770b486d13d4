use Rattle.person_names.proofs.NameLemmas.{first_names}
use Rattle.person_names.proofs.laws.the_first_person_with_an_id_names_it.Goals as goal

pub returns : goal.returns
returns c = first_names
