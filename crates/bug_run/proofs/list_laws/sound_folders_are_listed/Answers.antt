use Rattle.bug_run.proofs.ListLemmas.{list_served}
use Rattle.bug_run.proofs.list_laws.sound_folders_are_listed.Goals as goal

pub returns : goal.returns
returns c = λ call old new before after answer request tells asks sound is. list_served call old new before after request tells asks sound answer is
