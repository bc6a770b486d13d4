use Rattle.std.proofs.Common.{arith}
use Rattle.exchange_runs.proofs.DigestLemmas.{same_count, same_digest}
use Rattle.exchange_runs.proofs.WorldLemmas.{world_again, world_same}
use Rattle.exchange_runs.proofs.laws.exchanged_folders_have_one_digest.Goals as goal

pub returns-clause-count : goal.returns-clause-count
returns-clause-count c = λ folders one two now old new first second few may one_text exchange is_one is_two is_first is_second.
    let again = world_again folders now old new few may one_text exchange in
    same_count new one two (omega (arith, few, is_one)) (omega (arith, few, is_two)) (again.sound one is_one) (again.sound two is_two)
    (world_same folders one two now old new few may one_text exchange is_one is_two) first second is_first is_second

pub returns-clause-same : goal.returns-clause-same
returns-clause-same c = λ folders one two now old new first second few may one_text exchange is_one is_two alike is_first is_second.
    let again = world_again folders now old new few may one_text exchange in
    same_digest new one two (omega (arith, few, is_one)) (omega (arith, few, is_two)) (again.sound one is_one) (again.sound two is_two)
    (world_same folders one two now old new few may one_text exchange is_one is_two) first second is_first is_second alike
