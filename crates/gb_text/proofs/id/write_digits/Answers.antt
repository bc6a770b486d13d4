use Rattle.std.proofs.Common.{◌≡◌, length, refl, ◌∙◌, ap, arith}
use Rattle.std.proofs.lemmas.Grind.{common_steps}
use Rattle.hex.specs.Hex.{IsBytes, encode_lower}
use Rattle.gb_text.specs.Digits.{bytes_of_digits}
use Rattle.gb_text.proofs.DigitLemmas.{bytes_of_digits-encode_lower}
use Rattle.gb_text.proofs.id.write_digits.Goals as goal

pub returns-clause-reads_back : goal.returns-clause-reads_back
returns-clause-reads_back c =
    let bytes : IsBytes c.args.bytes.now = λ k. (c.type_inv.bytes k).fits in
    let written : c.encode_to_slice.new.output ≡ encode_lower c.args.bytes.now = grind (arith, common_steps) in
    ap (bytes_of_digits (length c.args.bytes.now)) written ∙ bytes_of_digits-encode_lower (length c.args.bytes.now) c.args.bytes.now refl bytes
