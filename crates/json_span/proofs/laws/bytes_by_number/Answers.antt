-- Which bytes are in each class, computed.
use Rattle.std.proofs.Common.{refl}
use Rattle.json_span.proofs.laws.bytes_by_number.Goals as goal

pub returns-clause-spaces : goal.returns-clause-spaces
returns-clause-spaces c = refl

pub returns-clause-digits : goal.returns-clause-digits
returns-clause-digits c = refl

pub returns-clause-hex_digits : goal.returns-clause-hex_digits
returns-clause-hex_digits c = refl

pub returns-clause-minus : goal.returns-clause-minus
returns-clause-minus c = refl

pub returns-clause-signs : goal.returns-clause-signs
returns-clause-signs c = refl

pub returns-clause-exponents : goal.returns-clause-exponents
returns-clause-exponents c = refl

pub returns-clause-escapes : goal.returns-clause-escapes
returns-clause-escapes c = refl

pub returns-clause-escaped : goal.returns-clause-escaped
returns-clause-escaped c = refl
