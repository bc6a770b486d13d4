use Rattle.std.proofs.Common.{inl, inr, sym, ◌∙◌}
use Rattle.ref_moments.proofs.MergeLemmas.{merge_line}
use Rattle.ref_moments.proofs.line_laws.merge_lines_say_what_was_set.Goals as goal

pub returns-clause-moved : goal.returns-clause-moved
returns-clause-moved c = λ folder remote now old new lines line answers has is. elim (merge_line folder remote now old lines new answers line has) [ inl set ↦ set.1 | inr other ↦ absurd (cc (sym is ∙ other.0)) ]

pub returns-clause-others : goal.returns-clause-others
returns-clause-others c = λ folder remote now old new lines line answers has not. elim (merge_line folder remote now old lines new answers line has) [ inl set ↦ absurd (cc (sym not ∙ set.0)) | inr other ↦ other.1 ]
