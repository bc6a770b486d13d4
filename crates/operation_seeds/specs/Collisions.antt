-- Texts with one hash.
use Rattle.std.specs.Prelude.{◌≡◌, ◌≢◌, ℕ, List}
use Rattle.sha2.specs.Sha256.{sha256}

-- two texts that differ have one SHA-256
abbrev pub Collide : List ℕ → List ℕ → Type 0
Collide one two = (one ≢ two) × (sha256 one ≡ sha256 two)
