-- The id of a version text is 32 bytes.
use Rattle.std.proofs.Common.{ℕ, zero, suc, List, arith}
use Rattle.std.specs.Prelude.{slice_index}
use Rattle.std.specs.Int.{w32, to_be_bytes}
use Rattle.hex.specs.Hex.{IsBytes}
use Rattle.sha2.specs.Sha256.{sha256, digest_bytes}
use Rattle.sha2.proofs.Facts256.{length-sha256}
use Rattle.gb_text.specs.Digits.{IsId}
use Rattle.git_object.proofs.NameLaws.{IsBytes-append, word_bytes}
use Rattle.identity.specs.Version.{version_id}

digest_bytes-bytes : (h : List ℕ) (n : ℕ) → IsBytes (digest_bytes h n)
unfolding digest_bytes
digest_bytes-bytes h zero = λ i. omega arith
digest_bytes-bytes h (suc n) = IsBytes-append (digest_bytes h n) (to_be_bytes w32 (slice_index h n)) (digest_bytes-bytes h n) (word_bytes (slice_index h n))

-- a SHA-256 is bytes
pub sha256-bytes : (text : List ℕ) → IsBytes (sha256 text)
unfolding sha256
sha256-bytes text = digest_bytes-bytes _ 8

-- the id of a version text is an id
pub IsId-version_id : (text : List ℕ) → IsId (version_id text)
IsId-version_id text = record { sized = length-sha256 text; bytes = sha256-bytes text }
