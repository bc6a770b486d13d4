use Rattle.std.proofs.lemmas.Grind.{flat_map-append}
use Rattle.merge_steps.specs.MergeLines.{line_text}
use Rattle.merge_steps.proofs.ToldLemmas.{refused_of_both}
use Rattle.merge_steps.proofs.laws.lines_are_told_one_after_another.Goals as goal

pub returns-clause-text : goal.returns-clause-text
returns-clause-text c = λ lines others. flat_map-append line_text lines others

pub returns-clause-refused : goal.returns-clause-refused
returns-clause-refused c = λ lines others. refused_of_both lines others
