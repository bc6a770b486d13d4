-- Which texts are prefixes of ids.
use Rattle.std.specs.Prelude.{ℕ, ◌&&◌, ◌||◌, nat_le, Bool, List, length}
use Rattle.std.specs.List.{list_all}

-- `0` to `9`, `a` to `f`
abbrev pub is_lower_digit : ℕ → Bool
is_lower_digit digit = (nat_le 48 digit && nat_le digit 57) || (nat_le 97 digit && nat_le digit 102)

-- 1 to 64 lower-case hexadecimal digits
abbrev pub is_prefix_text : List ℕ → Bool
is_prefix_text text =
    (nat_le 1 (length text) && nat_le (length text) 64) && list_all is_lower_digit text
