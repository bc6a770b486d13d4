use Rattle.clean_folders.proofs.PersonLeftLemmas.{people_have_homes}
use Rattle.clean_folders.proofs.home_laws.people_of_clean_worlds_have_homes.Goals as goal

pub returns : goal.returns
returns c = people_have_homes
