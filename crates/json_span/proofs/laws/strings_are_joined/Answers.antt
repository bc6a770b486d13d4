-- Insides of strings can be joined.
use Rattle.json_span.proofs.ValueLaws.{quoted_is, chars_joined}
use Rattle.json_span.proofs.laws.strings_are_joined.Goals as goal

pub returns-clause-quoted : goal.returns-clause-quoted
returns-clause-quoted c = quoted_is

pub returns-clause-joined : goal.returns-clause-joined
returns-clause-joined c = chars_joined
