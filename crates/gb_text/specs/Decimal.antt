-- Plain decimal texts of numbers below 2^64.
use Rattle.std.specs.Prelude.{◌≡◌, ℕ, ◌<◌, ◌^◌, ◌&&◌, nat_lt, if◌then◌else◌, List, Option, Some, None, decimal}
use Rattle.std.specs.Str.{bytes_eq}
use Rattle.std.specs.Str.Parse.{digits_value}

-- the text is the decimal of the number
pub record IsDecimal (text : List ℕ) (n : ℕ) : Type 0 where
  pub below : n < 2 ^ 64
  pub prints : text ≡ decimal n

-- the number below 2^64 whose decimal the text is, if there is one
abbrev pub decimal_of : List ℕ → Option ℕ
decimal_of text =
    let n = digits_value 10 text in
    if nat_lt n (2 ^ 64) && bytes_eq (decimal n) text then Some n else None
