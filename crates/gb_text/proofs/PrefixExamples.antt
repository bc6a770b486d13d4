-- Worked examples of prefixes, computed.
use Rattle.std.specs.Prelude.{◌≡◌, codes, false, true}
use Rattle.std.proofs.Common.{refl}
use Rattle.std.specs.List.{repeat}
use Rattle.gb_text.specs.PrefixText.{is_prefix_text}

-- no digit
no_digit : is_prefix_text (codes "") ≡ false
no_digit = refl

-- lower-case digits of both kinds
lower_case : is_prefix_text (codes "09af") ≡ true
lower_case = refl

-- a letter of the upper case, and what stands beside the digits
upper_case : is_prefix_text (codes "0A") ≡ false
upper_case = refl

after_nine : is_prefix_text (codes ":") ≡ false
after_nine = refl

after_f : is_prefix_text (codes "g") ≡ false
after_f = refl

-- 64 digits and 65
all_digits : is_prefix_text (repeat 32 (codes "0f")) ≡ true
all_digits = refl

too_many : is_prefix_text (repeat 65 (codes "a")) ≡ false
too_many = refl
