-- Which numbers of bytes a nonce may have.
use Rattle.std.proofs.Common.{◌≡◌, ◌≤◌, ◌<◌, ◌∙◌, ◌&&◌, refl, ap, List, ℕ, length, Bool, true, false, Some, None, arith}
use Rattle.std.specs.Prelude.{option_and_then, nat_le, if◌then◌else◌}
use Rattle.std.specs.Result.{result_ok}
use Rattle.std.specs.Str.{IsUtf8}
use Rattle.std.proofs.lemmas.Bool.{lt-leb}
use Rattle.std.proofs.lemmas.Str.{IsUtf8-from_ascii}
use Rattle.base64.specs.Engines.{standard}
use Rattle.base64.specs.GeneralPurpose.{encode_of, decode_of, IsBytes}
use Rattle.base64.proofs.EngineFacts.{decode_of-encode_of, IsAscii-encode_of}
use Rattle.json.specs.Print.{quoted}
use Rattle.op_kind.specs.Common.{nonce_in}
use Rattle.op_kind.specs.Nonces.{IsNonce, are_bytes, nonce_of_bytes, nonce_at}
use Rattle.op_kind.specs.QuotedLaws.{quoted_reads}
use Rattle.op_kind.specs.WritingLaws.{nonce_reads}

-- What a text in quotes reads as is what its bytes read as.
reads_as : (n : List ℕ) → IsBytes n → nonce_in (quoted (encode_of standard n)) ≡ nonce_of_bytes n
unfolding nonce_at
reads_as n is =
    ap (option_and_then nonce_at) (quoted_reads (encode_of standard n) (IsUtf8-from_ascii _ (IsAscii-encode_of standard n)))
    ∙ ap (λ r. option_and_then nonce_of_bytes (result_ok r)) (decode_of-encode_of standard n (search arith) is)

-- So many bytes are read.
pub length_read : (n : List ℕ) → IsBytes n → 20 ≤ length n → length n ≤ 64 → nonce_in (quoted (encode_of standard n)) ≡ Some n
length_read n is least most = nonce_reads n (record { least = least; most = most; bytes = is })

-- Fewer are not.
pub short_refused : (n : List ℕ) → IsBytes n → length n < 20 → nonce_in (quoted (encode_of standard n)) ≡ None
short_refused n is short =
    reads_as n is ∙ ap (λ b. if b && nat_le (length n) 64 && are_bytes n then Some n else None) (lt-leb 20 (length n) short)

too_many : (least bytes : Bool) (n : List ℕ) → (if least && false && bytes then Some n else None) ≡ None
too_many true bytes n = refl
too_many false bytes n = refl

-- More are not.
pub long_refused : (n : List ℕ) → IsBytes n → 64 < length n → nonce_in (quoted (encode_of standard n)) ≡ None
long_refused n is long =
    reads_as n is
    ∙ ap (λ b. if nat_le 20 (length n) && b && are_bytes n then Some n else None) (lt-leb (length n) 64 long)
    ∙ too_many (nat_le 20 (length n)) (are_bytes n) n
