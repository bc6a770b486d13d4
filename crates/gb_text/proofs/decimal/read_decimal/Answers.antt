use Rattle.std.proofs.Common.{◌≡◌, cond, Some, None, decimal, bytes_eq, sym, ◌∙◌, ap, arith}
use Rattle.std.proofs.lemmas.Grind.{common_steps}
use Rattle.std.specs.declared.num.ParseIntError.{ParseIntError}
use Rattle.gb_text.specs.Decimal.{decimal_of}
use Rattle.gb_text.proofs.DecimalLemmas.{decimal_of-decimal, decimal_of-not_utf8, decimal_of-refused, decimal_of-parsed}
use Rattle.gb_text.proofs.decimal.read_decimal.Goals as goal

not_utf8 : (c : goal.In_default) → decimal_of c.args.text.now ≡ None
not_utf8 c = decimal_of-not_utf8 c.args.text.now c.in_default.ensures.cases.0

pub returns-in_default-clause-value : goal.returns-in_default-clause-value
returns-in_default-clause-value c = sym (not_utf8 c)

pub returns-in_default-clause-only : goal.returns-in_default-clause-only
returns-in_default-clause-only c = λ n is. sym (not_utf8 c) ∙ decimal_of-decimal c.args.text.now n is

not_parsed : (c : goal.In_default-parse) → decimal_of c.args.text.now ≡ None
not_parsed c = ap decimal_of (sym c.in-Ok.ensures.cases.0) ∙ decimal_of-refused c.in-Ok.digits.now c.in_default-parse.field-0 c.in_default-parse.ensures.value.0

pub returns-in_default-parse-clause-value : goal.returns-in_default-parse-clause-value
returns-in_default-parse-clause-value c = sym (not_parsed c)

pub returns-in_default-parse-clause-only : goal.returns-in_default-parse-clause-only
returns-in_default-parse-clause-only c = λ n is. sym (not_parsed c) ∙ decimal_of-decimal c.args.text.now n is

printed : (c : goal.Then-eq) → Some c.in-Ok-parse.number ≡ decimal_of c.args.text.now
printed c =
    let parsed = decimal_of-parsed ParseIntError c.in-Ok.digits.now c.in-Ok-parse.number c.in-Ok-parse.ensures.value.0 in
    let whole : cond (bytes_eq (decimal c.in-Ok-parse.number) c.args.text.now) (Some c.in-Ok-parse.number) None ≡ Some c.in-Ok-parse.number = grind (arith, common_steps, c.if-eq.true, c.eq.ensures, c.as_bytes.ensures.value, c.format.ensures.text) in
    sym (ap decimal_of (sym c.in-Ok.ensures.cases.0) ∙ parsed ∙ ap (λ t. cond (bytes_eq (decimal c.in-Ok-parse.number) t) (Some c.in-Ok-parse.number) None) c.in-Ok.ensures.cases.0 ∙ whole)

pub returns-then-eq-clause-value : goal.returns-then-eq-clause-value
returns-then-eq-clause-value c = printed c

pub returns-then-eq-clause-only : goal.returns-then-eq-clause-only
returns-then-eq-clause-only c = λ n is. printed c ∙ decimal_of-decimal c.args.text.now n is

other : (c : goal.Else-eq) → None ≡ decimal_of c.args.text.now
other c =
    let parsed = decimal_of-parsed ParseIntError c.in-Ok.digits.now c.in-Ok-parse.number c.in-Ok-parse.ensures.value.0 in
    let whole : cond (bytes_eq (decimal c.in-Ok-parse.number) c.args.text.now) (Some c.in-Ok-parse.number) None ≡ None = grind (arith, common_steps, c.if-eq.false, c.eq.ensures, c.as_bytes.ensures.value, c.format.ensures.text) in
    sym (ap decimal_of (sym c.in-Ok.ensures.cases.0) ∙ parsed ∙ ap (λ t. cond (bytes_eq (decimal c.in-Ok-parse.number) t) (Some c.in-Ok-parse.number) None) c.in-Ok.ensures.cases.0 ∙ whole)

pub returns-else-eq-clause-value : goal.returns-else-eq-clause-value
returns-else-eq-clause-value c = other c

pub returns-else-eq-clause-only : goal.returns-else-eq-clause-only
returns-else-eq-clause-only c = λ n is. other c ∙ decimal_of-decimal c.args.text.now n is
