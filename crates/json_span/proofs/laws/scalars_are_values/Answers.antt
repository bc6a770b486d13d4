-- Scalars are value texts.
use Rattle.json_span.specs.Grammar.{number_text, true_text, false_text, null_text}
use Rattle.std.specs.Prelude.{codes}
use Rattle.json_span.proofs.ValueLaws.{scalar_is, string_is, decimal_value}
use Rattle.json_span.proofs.laws.scalars_are_values.Goals as goal

pub returns-clause-strings : goal.returns-clause-strings
returns-clause-strings c = string_is 0

pub returns-clause-numbers : goal.returns-clause-numbers
returns-clause-numbers c = λ text is. scalar_is 0 text (number_text is)

pub returns-clause-decimals : goal.returns-clause-decimals
returns-clause-decimals c = decimal_value 0

pub returns-clause-truth : goal.returns-clause-truth
returns-clause-truth c = scalar_is 0 (codes "true") true_text

pub returns-clause-falsehood : goal.returns-clause-falsehood
returns-clause-falsehood c = scalar_is 0 (codes "false") false_text

pub returns-clause-null : goal.returns-clause-null
returns-clause-null c = scalar_is 0 (codes "null") null_text
