use Rattle.std.proofs.Common.{◌∙◌}
use Rattle.hex.specs.Hex.{encode_lower}
use Rattle.combined_id.proofs.CombinedLemmas.{combined_bytes, decoded_bytes, same_places}
use Rattle.combined_id.proofs.places.combine.Goals as goal

pub returns-clause-digits : goal.returns-clause-digits
returns-clause-digits c =
    let mixed = same_places (encode_lower c.args.primary.now.bytes) (encode_lower c.args.secondary.now.bytes) _ _ _ c.mix-digits.ensures.places c.text.ensures.digits c.text-2.ensures.digits in
    let has = combined_bytes c.args.primary.now.bytes c.args.secondary.now.bytes _ c.text.ensures.sized.bytes c.text-2.ensures.sized.bytes mixed c.mix-digits.ensures.sized in
    let value = rw c.as_slice.ensures at c.decode_to_slice.ensures.value in
    (decoded_bytes _ c.decode_to_slice.new.out c.decode_to_slice.result has value).2 ∙ mixed

pub returns-clause-sized : goal.returns-clause-sized
returns-clause-sized c =
    let mixed = same_places (encode_lower c.args.primary.now.bytes) (encode_lower c.args.secondary.now.bytes) _ _ _ c.mix-digits.ensures.places c.text.ensures.digits c.text-2.ensures.digits in
    let has = combined_bytes c.args.primary.now.bytes c.args.secondary.now.bytes _ c.text.ensures.sized.bytes c.text-2.ensures.sized.bytes mixed c.mix-digits.ensures.sized in
    let value = rw c.as_slice.ensures at c.decode_to_slice.ensures.value in
    let is = decoded_bytes _ c.decode_to_slice.new.out c.decode_to_slice.result has value in
    record { sized = is.1; bytes = is.0 }
