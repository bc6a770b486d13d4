use Rattle.run_moments.proofs.QuietLemmas.{read_same, same_files}
use Rattle.run_moments.proofs.moment_laws.runs_that_read_write_nothing.Goals as goal

pub returns : goal.returns
returns c = λ call old new before after answer tells reads is.
    let same = read_same call.asked call old new before after answer tells reads is in (same, same_files old new same)
