use Rattle.full_exchanges.proofs.ExchangeLemmas.{follows}
use Rattle.full_exchanges.proofs.pull_laws.pulls_among_folders_bring_no_more.Goals as goal

pub returns-clause-kept : goal.returns-clause-kept
returns-clause-kept c = λ members pulls old new folder id piece ready one_text among turns is is_id has.
    (follows members pulls old new ready one_text among turns).keeps folder id piece is is_id has

pub returns-clause-no_more : goal.returns-clause-no_more
returns-clause-no_more c = λ members pulls old new folder id piece ready one_text among turns is is_id has.
    (follows members pulls old new ready one_text among turns).had folder id piece is is_id has

pub returns-clause-ready : goal.returns-clause-ready
returns-clause-ready c = λ members pulls old new ready one_text among turns. (follows members pulls old new ready one_text among turns).ready
