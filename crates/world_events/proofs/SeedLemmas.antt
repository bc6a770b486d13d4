-- The texts of seeds.
use Rattle.std.proofs.Common.{◌≡◌, ℕ, ◌<◌, ◌^◌, take, drop, ap, sym, ◌∙◌}
use Rattle.std.specs.Int.{w64, to_be_bytes, from_be_bytes}
use Rattle.std.proofs.lemmas.Nat.{from_be_bytes-to_be_bytes_8}
use Rattle.world_events.specs.Events.{seed_text}

-- a number reads back from its 8 bytes
bytes_are_of_one : (one two : ℕ) → one < 2 ^ 64 → two < 2 ^ 64 → to_be_bytes w64 one ≡ to_be_bytes w64 two → one ≡ two
bytes_are_of_one one two p q e =
    sym (from_be_bytes-to_be_bytes_8 one p) ∙ ap (from_be_bytes w64) e ∙ from_be_bytes-to_be_bytes_8 two q

-- both numbers read back from the text of a seed
pub seed_text-injective : (number other place second : ℕ) → number < 2 ^ 64 → other < 2 ^ 64 → place < 2 ^ 64 → second < 2 ^ 64
    → seed_text number place ≡ seed_text other second → (number ≡ other) × (place ≡ second)
seed_text-injective number other place second n o p s e =
    (bytes_are_of_one number other n o (ap (take 8) e), bytes_are_of_one place second p s (ap (drop 8) e))
