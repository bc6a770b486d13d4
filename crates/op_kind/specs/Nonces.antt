-- Nonces, and their texts.
use Rattle.std.specs.Prelude.{ℕ, ◌≤◌, ◌&&◌, nat_le, nat_lt, Bool, true, List, [], ◌∷◌, length, Option, Some, None, option_and_then, if◌then◌else◌}
use Rattle.std.specs.Result.{result_ok}
use Rattle.base64.specs.Engines.{standard}
use Rattle.base64.specs.GeneralPurpose.{decode_of, IsBytes}
use Rattle.op_kind.specs.declared.nonce.TheConstants.{LEAST_NONCE, MOST_NONCE}

-- 20 to 64 bytes
pub record IsNonce (n : List ℕ) : Type 0 where
  pub least : LEAST_NONCE ≤ length n
  pub most : length n ≤ MOST_NONCE
  pub bytes : IsBytes n

-- each number is a byte
abbrev pub are_bytes : List ℕ → Bool
are_bytes [] = true
are_bytes (b ∷ bs) = nat_lt b 256 && are_bytes bs

-- the bytes, where there are 20 to 64
abbrev pub nonce_of_bytes : List ℕ → Option (List ℕ)
nonce_of_bytes bytes = if nat_le LEAST_NONCE (length bytes) && nat_le (length bytes) MOST_NONCE && are_bytes bytes then Some bytes else None

-- The nonce of a text: standard base64 with padding of 20 to 64 bytes (RFC 4648, section 4).
unfoldable pub nonce_at : List ℕ → Option (List ℕ)
nonce_at text = option_and_then nonce_of_bytes (result_ok (decode_of standard text))
