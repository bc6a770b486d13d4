use Rattle.packed_refs.proofs.TextLemmas.{lines_of-last, lines_of-text}
use Rattle.packed_refs.proofs.laws.lines_are_ended_by_line_feeds.Goals as goal

pub returns-clause-every : goal.returns-clause-every
returns-clause-every c = lines_of-text

pub returns-clause-last : goal.returns-clause-last
returns-clause-last c = lines_of-last
