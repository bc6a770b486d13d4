use Rattle.std.proofs.Common.{◌≡◌, Some, None, sym, ◌∙◌, ap, arith}
use Rattle.std.proofs.lemmas.Grind.{common_steps}
use Rattle.gb_text.specs.Digits.{name_of}
use Rattle.gb_text.proofs.DigitLemmas.{name_of-encode_lower}
use Rattle.gb_text.proofs.id.Name.read.Goals as goal

pub returns-then-read_digits-clause-only : goal.returns-then-read_digits-clause-only
returns-then-read_digits-clause-only c = λ name is e.
    let value : name_of c.args.text.now ≡ Some (record { bytes = c.read_digits.new.bytes }) = grind (arith, common_steps, c.read_digits.ensures, c.if-read_digits.true) in
    sym value ∙ ap name_of e ∙ name_of-encode_lower name is

pub returns-else-read_digits-clause-only : goal.returns-else-read_digits-clause-only
returns-else-read_digits-clause-only c = λ name is e.
    let value : name_of c.args.text.now ≡ None = grind (arith, common_steps, c.read_digits.ensures, c.if-read_digits.false) in
    sym value ∙ ap name_of e ∙ name_of-encode_lower name is
