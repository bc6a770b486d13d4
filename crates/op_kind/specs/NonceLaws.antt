-- Which texts are those of nonces.
use Rattle.std.proofs.Common.{◌≡◌, ◌≤◌, ◌&&◌, refl, ap, subst, ◌∙◌, ℕ, zero, suc, List, [], ◌∷◌, length, Bool, true, false, Option, None, Some, le-leb, lt-ltb, leb-true, ltb-true, arith}
use Rattle.std.specs.Prelude.{Ok, option_and_then, nat_le, nat_lt, if◌then◌else◌}
use Rattle.std.proofs.lemmas.Bool.{and_parts}
use Rattle.std.specs.Result.{result_ok}
use Rattle.base64.specs.Engines.{standard}
use Rattle.base64.specs.GeneralPurpose.{decode_of, IsBytes}
use Rattle.op_kind.specs.declared.nonce.TheConstants.{LEAST_NONCE, MOST_NONCE}
use Rattle.op_kind.specs.Nonces.{IsNonce, are_bytes, nonce_of_bytes, nonce_at}

are_bytes_true : (bs : List ℕ) → IsBytes bs → are_bytes bs ≡ true
are_bytes_true [] is = refl
are_bytes_true (b ∷ bs) is = ap (λ x. x && are_bytes bs) (lt-ltb b 256 (is 0)) ∙ are_bytes_true bs (λ i. is (suc i))

-- A text of which a nonce is decoded has it.
pub decoded_nonce : (text n : List ℕ) → decode_of standard text ≡ Ok n → LEAST_NONCE ≤ length n → length n ≤ MOST_NONCE → IsBytes n → nonce_at text ≡ Some n
unfolding nonce_at
decoded_nonce text n decodes least most bytes =
    ap (λ r. option_and_then nonce_of_bytes (result_ok r)) decodes
    ∙ ap (λ b. if b && nat_le (length n) MOST_NONCE && are_bytes n then Some n else None) (le-leb LEAST_NONCE (length n) least)
    ∙ ap (λ b. if true && b && are_bytes n then Some n else None) (le-leb (length n) MOST_NONCE most)
    ∙ ap (λ b. if true && true && b then Some n else None) (are_bytes_true n bytes)

are_bytes_is : (bs : List ℕ) → are_bytes bs ≡ true → IsBytes bs
are_bytes_is [] h i = omega arith
are_bytes_is (b ∷ bs) h zero = ltb-true b 256 (and_parts (nat_lt b 256) (are_bytes bs) h).0
are_bytes_is (b ∷ bs) h (suc i) = are_bytes_is bs (and_parts (nat_lt b 256) (are_bytes bs) h).1 i

of_bytes : (n m : List ℕ) (least most bytes : Bool) → nat_le LEAST_NONCE (length n) ≡ least → nat_le (length n) MOST_NONCE ≡ most → are_bytes n ≡ bytes
    → (if least && most && bytes then Some n else None) ≡ Some m → IsNonce m
of_bytes n m true true true a b c h =
    let e : n ≡ m = cc (h) in
    subst IsNonce e (record { least = leb-true LEAST_NONCE (length n) a; most = leb-true (length n) MOST_NONCE b; bytes = are_bytes_is n c })
of_bytes n m true true false a b c h = absurd (cc (h))
of_bytes n m true false bytes a b c h = absurd (cc (h))
of_bytes n m false most bytes a b c h = absurd (cc (h))

decoded_is : (o : Option (List ℕ)) (n : List ℕ) → option_and_then nonce_of_bytes o ≡ Some n → IsNonce n
decoded_is None n h = absurd (cc (h))
decoded_is (Some bs) n h = of_bytes bs n _ _ _ refl refl refl h

-- What a text has is a nonce.
pub nonce_is : (text n : List ℕ) → nonce_at text ≡ Some n → IsNonce n
unfolding nonce_at
nonce_is text n h = decoded_is (result_ok (decode_of standard text)) n h
