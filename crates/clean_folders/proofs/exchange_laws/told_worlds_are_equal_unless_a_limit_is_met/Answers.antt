use Rattle.clean_folders.proofs.WorldLemmas.{asked_world_is_equal}
use Rattle.clean_folders.proofs.exchange_laws.told_worlds_are_equal_unless_a_limit_is_met.Goals as goal

pub returns : goal.returns
returns c = λ asked world text summary bounds made seeds hashes people users one_text turns. asked_world_is_equal asked world bounds made seeds hashes people users one_text turns text summary
