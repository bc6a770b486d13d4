use Rattle.copy_limits.proofs.PushLemmas.{held_limit, push_limit}
use Rattle.copy_limits.proofs.exchange_laws.pushes_of_sound_folders_find_damage_by_a_limit_alone.Goals as goal

pub returns-clause-refused : goal.returns-clause-refused
returns-clause-refused c = λ own peer old new lines line apart ours theirs alike done among refused. push_limit own peer apart old new ours theirs alike lines done line among refused

pub returns-clause-held : goal.returns-clause-held
returns-clause-held c = λ own peer old new lines line apart ours theirs alike done among held. held_limit own peer apart old new ours theirs alike lines done line among held
