use Rattle.std.proofs.Common.{inl, inr}
use Rattle.ref_moments.proofs.PushLemmas.{push_line}
use Rattle.ref_moments.proofs.line_laws.push_lines_say_what_was_set.Goals as goal

pub returns-clause-pushed : goal.returns-clause-pushed
returns-clause-pushed c = λ own peer old new lines line answers has is. elim (push_line own peer old new lines answers line has) [ inl set ↦ set.1 | inr other ↦ absurd (other.0 is) ]

pub returns-clause-others : goal.returns-clause-others
returns-clause-others c = λ own peer old new lines line answers has not. elim (push_line own peer old new lines answers line has) [ inl set ↦ absurd (not set.0) | inr other ↦ other.1 ]
