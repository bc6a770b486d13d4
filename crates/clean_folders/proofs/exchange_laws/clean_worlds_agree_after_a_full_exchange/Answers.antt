use Rattle.clean_folders.proofs.WorldLemmas.{world_digest, world_done, world_same}
use Rattle.clean_folders.proofs.exchange_laws.clean_worlds_agree_after_a_full_exchange.Goals as goal

pub returns-clause-done : goal.returns-clause-done
returns-clause-done c = world_done

pub returns-clause-same : goal.returns-clause-same
returns-clause-same c = λ folders one two now mid new world people users one_text exchange is_one is_two. world_same folders now mid new world people users one_text exchange one two is_one is_two

pub returns-clause-digest : goal.returns-clause-digest
returns-clause-digest c = λ folders one two now mid new first second world people users one_text exchange is_one is_two.
    world_digest folders now mid new world people users one_text exchange one two first second is_one is_two
