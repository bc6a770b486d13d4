use Rattle.std.proofs.Common.{inl, inr}
use Rattle.ref_moments.proofs.FetchLemmas.{fetch_line}
use Rattle.ref_moments.proofs.line_laws.fetch_lines_say_what_was_set.Goals as goal

pub returns-clause-fetched : goal.returns-clause-fetched
returns-clause-fetched c = λ own peer remote old new lines line answers has is. elim (fetch_line own peer remote old new lines answers line has) [ inl set ↦ set.1 | inr other ↦ absurd (other.0 is) ]

pub returns-clause-others : goal.returns-clause-others
returns-clause-others c = λ own peer remote old new lines line answers has not. elim (fetch_line own peer remote old new lines answers line has) [ inl set ↦ absurd (not set.0) | inr other ↦ other.1 ]
