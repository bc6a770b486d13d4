-- Ids and names are in the order of their digits.
use Rattle.std.proofs.Common.{◌≡◌, ℕ, zero, suc, ◌+◌, ◌<◌, cond, List, [], ◌∷◌, refl, ◌∙◌, ap, arith}
use Rattle.std.specs.Prelude.{slice_index, nat_lt, ◌/◌, ◌%◌}
use Rattle.std.proofs.lemmas.Bool.Decides.{nat_tests}
use Rattle.std.specs.Cmp.Lexicographic.{slice_cmp}
use Rattle.std.specs.Ordering.{nat_cmp, ordering_then}
use Rattle.std.specs.declared.cmp.Ordering.{Ordering}
use Rattle.hex.specs.Hex.{IsBytes, encode_lower, encode_with, lower_digits}

abbrev digit : ℕ → ℕ
digit n = slice_index lower_digits n

-- a digit below ten stands before a letter
digit-is : (n : ℕ) → n < 16 → digit n ≡ cond (nat_lt n 10) (48 + n) (87 + n)
digit-is zero lt = refl
digit-is (suc zero) lt = refl
digit-is (suc (suc zero)) lt = refl
digit-is (suc (suc (suc zero))) lt = refl
digit-is (suc (suc (suc (suc zero)))) lt = refl
digit-is (suc (suc (suc (suc (suc zero))))) lt = refl
digit-is (suc (suc (suc (suc (suc (suc zero)))))) lt = refl
digit-is (suc (suc (suc (suc (suc (suc (suc zero))))))) lt = refl
digit-is (suc (suc (suc (suc (suc (suc (suc (suc zero)))))))) lt = refl
digit-is (suc (suc (suc (suc (suc (suc (suc (suc (suc zero))))))))) lt = refl
digit-is (suc (suc (suc (suc (suc (suc (suc (suc (suc (suc zero)))))))))) lt = refl
digit-is (suc (suc (suc (suc (suc (suc (suc (suc (suc (suc (suc zero))))))))))) lt = refl
digit-is (suc (suc (suc (suc (suc (suc (suc (suc (suc (suc (suc (suc zero)))))))))))) lt = refl
digit-is (suc (suc (suc (suc (suc (suc (suc (suc (suc (suc (suc (suc (suc zero))))))))))))) lt = refl
digit-is (suc (suc (suc (suc (suc (suc (suc (suc (suc (suc (suc (suc (suc (suc zero)))))))))))))) lt = refl
digit-is (suc (suc (suc (suc (suc (suc (suc (suc (suc (suc (suc (suc (suc (suc (suc zero))))))))))))))) lt = refl
digit-is (suc (suc (suc (suc (suc (suc (suc (suc (suc (suc (suc (suc (suc (suc (suc (suc n)))))))))))))))) lt = absurd (omega arith)

digit-order : (m n : ℕ) → m < 16 → n < 16 → nat_cmp (digit m) (digit n) ≡ nat_cmp m n
digit-order m n a b = grind (arith, nat_tests, digit-is m a, digit-is n b)

byte-order : (x y : ℕ) → x < 256 → y < 256 → (rest : Ordering)
    → ordering_then (nat_cmp (digit (x / 16)) (digit (y / 16))) (ordering_then (nat_cmp (digit (x % 16)) (digit (y % 16))) rest) ≡ ordering_then (nat_cmp x y) rest
byte-order x y a b rest =
    rw (digit-order (x / 16) (y / 16) (omega arith) (omega arith), digit-order (x % 16) (y % 16) (omega arith) (omega arith)) (grind (arith, nat_tests))

-- what bytes print as is in their order
pub encode_lower-order : (one two : List ℕ) → IsBytes one → IsBytes two → slice_cmp nat_cmp (encode_lower one) (encode_lower two) ≡ slice_cmp nat_cmp one two
unfolding encode_with
encode_lower-order [] [] a b = refl
encode_lower-order [] (y ∷ ys) a b = refl
encode_lower-order (x ∷ xs) [] a b = refl
encode_lower-order (x ∷ xs) (y ∷ ys) a b =
    byte-order x y (a 0) (b 0) (slice_cmp nat_cmp (encode_lower xs) (encode_lower ys))
    ∙ ap (ordering_then (nat_cmp x y)) (encode_lower-order xs ys (λ k. a (suc k)) (λ k. b (suc k)))
