use Rattle.clean_folders.proofs.ToldLemmas.{told_people}
use Rattle.clean_folders.proofs.home_laws.told_worlds_have_clean_people.Goals as goal

pub returns : goal.returns
returns c = told_people
