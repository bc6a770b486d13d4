use Rattle.std.proofs.Common.{◌≡◌, ◌≤◌, ◌∙◌, ap, sym, length, Some, rules}
use Rattle.std.specs.Prelude.{Ok}
use Rattle.base64.specs.Engines.{standard}
use Rattle.base64.specs.GeneralPurpose.{decode_of, IsBytes}
use Rattle.op_kind.specs.declared.nonce.TheConstants.{LEAST_NONCE, MOST_NONCE}
use Rattle.op_kind.specs.NonceLaws.{decoded_nonce}
use Rattle.op_kind.proofs.nonce.Nonce.read.Goals as goal

pub returns-clause-value : goal.returns-clause-value
returns-clause-value c =
    let decodes : decode_of standard c.args.text.now ≡ Ok c.in-Ok.bytes.items = search rules in
    let least : LEAST_NONCE ≤ length c.in-Ok.bytes.items = search rules in
    let most : length c.in-Ok.bytes.items ≤ MOST_NONCE = search rules in
    let bytes : IsBytes c.in-Ok.bytes.items = search rules in
    ap Some c.from_vec.ensures ∙ sym (decoded_nonce c.args.text.now c.in-Ok.bytes.items decodes least most bytes)
