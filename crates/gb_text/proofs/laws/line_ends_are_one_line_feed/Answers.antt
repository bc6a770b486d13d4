use Rattle.std.proofs.Common.{refl}
use Rattle.gb_text.proofs.LineEndLemmas.{line_of-more, line_of-other}
use Rattle.gb_text.proofs.laws.line_ends_are_one_line_feed.Goals as goal

pub returns-clause-dropped : goal.returns-clause-dropped
returns-clause-dropped c = line_of-more

pub returns-clause-kept : goal.returns-clause-kept
returns-clause-kept c = line_of-other

pub returns-clause-empty : goal.returns-clause-empty
returns-clause-empty c = refl
