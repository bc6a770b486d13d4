-- What bytes print as is hexadecimal digits, in ASCII.
use Rattle.std.proofs.lemmas.Bool.{and_from, and_parts}
use Rattle.std.proofs.Common.{◌≡◌, ℕ, suc, ◌<◌, ◌&&◌, true, List, [], ◌∷◌, refl, ap, arith}
use Rattle.std.specs.Prelude.{nat_lt, is_some, slice_index, ◌/◌, ◌%◌}
use Rattle.std.specs.List.{list_all}
use Rattle.std.specs.Str.{IsAscii, IsUtf8}
use Rattle.std.proofs.lemmas.Bool.Decides.{nat_tests}
use Rattle.std.proofs.lemmas.Str.{IsUtf8-from_ascii}
use Rattle.std.proofs.lemmas.Str.Ascii.{IsAscii-nil, IsAscii-cons}
use Rattle.hex.specs.Hex.{IsBytes, encode_lower, encode_with, is_hex_digit, lower_digits}
use Rattle.hex.proofs.HexLemmas.{IsAscii-encode_with, IsDigits-lower_digits}

-- bytes that are each tested to be ASCII
IsAscii-tested : (bs : List ℕ) → list_all (λ b. nat_lt b 128) bs ≡ true → IsAscii bs
IsAscii-tested [] e = IsAscii-nil
IsAscii-tested (b ∷ bs) e =
    let here = and_parts (nat_lt b 128) (list_all (λ c. nat_lt c 128) bs) e in
    IsAscii-cons b bs (grind (arith, nat_tests)) (IsAscii-tested bs here.1)

-- what bytes print as is ASCII
pub IsAscii-encode_lower : (bytes : List ℕ) → IsAscii (encode_lower bytes)
IsAscii-encode_lower bytes = IsAscii-encode_with lower_digits bytes (IsAscii-tested lower_digits refl)

-- what bytes print as is UTF-8
pub encode_lower-utf8 : (bytes : List ℕ) → IsUtf8 (encode_lower bytes)
encode_lower-utf8 bytes = IsUtf8-from_ascii (encode_lower bytes) (IsAscii-encode_lower bytes)

lower_digit_is_digit : (d : ℕ) → d < 16 → is_hex_digit (slice_index lower_digits d) ≡ true
lower_digit_is_digit d lt = ap is_some (IsDigits-lower_digits d lt)

-- what bytes print as is digits
pub encode_lower-digits : (bytes : List ℕ) → IsBytes bytes → list_all is_hex_digit (encode_lower bytes) ≡ true
unfolding encode_with
encode_lower-digits [] are = refl
encode_lower-digits (b ∷ rest) are =
    let fits : b < 256 = are 0 in
    and_from (is_hex_digit (slice_index lower_digits (b / 16))) (is_hex_digit (slice_index lower_digits (b % 16)) && list_all is_hex_digit (encode_lower rest))
    (lower_digit_is_digit (b / 16) (omega arith))
    (and_from (is_hex_digit (slice_index lower_digits (b % 16))) (list_all is_hex_digit (encode_lower rest))
    (lower_digit_is_digit (b % 16) (omega arith)) (encode_lower-digits rest (λ k. are (suc k))))
