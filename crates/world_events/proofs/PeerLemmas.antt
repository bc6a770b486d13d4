-- A peer is another folder.
use Rattle.std.proofs.Common.{◌≡◌, ◌≢◌, ℕ, zero, suc, ◌+◌, ◌*◌, ◌/◌, ◌%◌, ◌<◌, arith}
use Rattle.std.proofs.Math.Nat.{div-add-mod, mul-suc}

-- fewer places than a whole round are not a number of rounds
no_round : (folders distance rounds : ℕ) → distance + 1 < folders → folders * rounds ≡ distance + 1 → ⊥
no_round folders distance zero less e = omega arith
no_round folders distance (suc rounds) less e = omega (arith, mul-suc folders rounds)

-- around by less than a whole round is another folder
pub around_other : (folders folder distance : ℕ) → distance + 1 < folders → (folder + 1 + distance) % folders ≢ folder
around_other folders folder distance less same =
    no_round folders distance ((folder + 1 + distance) / folders) less (omega (arith, div-add-mod (folder + 1 + distance) folders))
