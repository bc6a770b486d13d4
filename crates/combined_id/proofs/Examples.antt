-- Worked examples of the definitions, computed.
use Rattle.std.specs.Prelude.{◌≡◌, codes, false, None, true, ◌++◌}
use Rattle.std.proofs.Common.{refl}
use Rattle.std.specs.List.{repeat}
use Rattle.combined_id.specs.Combined.{combined_from, combined_of, digits_at}
use Rattle.combined_id.specs.Split.{some_digits, takes}

-- 64 times `a` with 64 times `b`
first_and_second : combined_of (repeat 64 (codes "a")) (repeat 64 (codes "b")) ≡ codes "abababaaab" ++ repeat 10 (codes "aaaab") ++ codes "aaaa"
unfolding combined_from
first_and_second = refl

-- the digits of its first seven places
seven_first : digits_at (takes false) 0 (codes "abababa") ≡ codes "aaaa"
seven_first = refl

seven_second : digits_at (takes true) 0 (codes "abababa") ≡ codes "bbb"
seven_second = refl

-- one digit has none of the secondary
one_second : some_digits (digits_at (takes true) 0 (codes "a")) ≡ None
one_second = refl
