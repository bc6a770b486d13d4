use Rattle.run_moments.proofs.QuietLemmas.{refused_same, same_files}
use Rattle.run_moments.proofs.refused_laws.refused_commands_write_nothing.Goals as goal

pub returns : goal.returns
returns c = λ call old new before after request refusal tells asks is.
    let same = refused_same call old new before after request refusal tells asks is in (same, same_files old new same)
