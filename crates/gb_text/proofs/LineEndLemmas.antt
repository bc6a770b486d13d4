-- A line feed at the end of a text.
use Rattle.std.proofs.Common.{◌≡◌, ◌≢◌, ℕ, zero, suc, ◌-◌, ◌<◌, ◌^◌, Bool, true, false, cond, List, [], ◌∷◌, ◌++◌, length, take, drop, refl, ◌∙◌, ap, subst, decimal, bytes_eq, arith, length-append}
use Rattle.std.proofs.lemmas.Fmt.{decimal_is_IsNumeral}
use Rattle.std.proofs.lemmas.Slice.Eq.{bytes_eq-Decides}
use Rattle.std.specs.Str.Parse.{AllDigits}
use Rattle.std.proofs.Math.Seq.{drop-append_seam, take-append_seam}
use Rattle.gb_text.specs.LineEnd.{line_of}

-- a line feed at the end is dropped
pub line_of-more : (text : List ℕ) → line_of (text ++ 10 ∷ []) ≡ text
line_of-more text =
    let count : length (text ++ 10 ∷ []) - 1 ≡ length text = omega (arith, length-append text (10 ∷ [])) in
    let last : drop (length (text ++ 10 ∷ []) - 1) (text ++ 10 ∷ []) ≡ 10 ∷ [] = ap (λ (k : ℕ). drop k (text ++ 10 ∷ [])) count ∙ drop-append_seam text (10 ∷ []) in
    let front : take (length (text ++ 10 ∷ []) - 1) (text ++ 10 ∷ []) ≡ text = ap (λ (k : ℕ). take k (text ++ 10 ∷ [])) count ∙ take-append_seam text (10 ∷ []) in
    rw (last, front) refl

-- another byte at the end stays
pub line_of-other : (text : List ℕ) (last : ℕ) → last ≢ 10 → line_of (text ++ last ∷ []) ≡ text ++ last ∷ []
line_of-other text last other = each (bytes_eq (drop (length (text ++ last ∷ []) - 1) (text ++ last ∷ [])) (10 ∷ [])) refl
  where
    end : drop (length (text ++ last ∷ []) - 1) (text ++ last ∷ []) ≡ last ∷ []
    end =
        let count : length (text ++ last ∷ []) - 1 ≡ length text = omega (arith, length-append text (last ∷ [])) in
        ap (λ (k : ℕ). drop k (text ++ last ∷ [])) count ∙ drop-append_seam text (last ∷ [])

    each : (b : Bool) → bytes_eq (drop (length (text ++ last ∷ []) - 1) (text ++ last ∷ [])) (10 ∷ []) ≡ b
        → cond b (take (length (text ++ last ∷ []) - 1) (text ++ last ∷ [])) (text ++ last ∷ []) ≡ text ++ last ∷ []
    each true e =
        let feed : drop (length (text ++ last ∷ []) - 1) (text ++ last ∷ []) ≡ 10 ∷ [] = (bytes_eq-Decides (drop (length (text ++ last ∷ []) - 1) (text ++ last ∷ [])) (10 ∷ [])).0 e in
        let same : last ≡ 10 = cc (end, feed) in
        absurd (other same)
    each false e = refl

AllDigits-drop : (k : ℕ) (text : List ℕ) → AllDigits 10 text → AllDigits 10 (drop k text)
AllDigits-drop zero text all = all
AllDigits-drop (suc k) [] all = tt
AllDigits-drop (suc k) (c ∷ cs) all = AllDigits-drop k cs all.1

-- digits end in no line feed
line_of-digits : (text : List ℕ) → AllDigits 10 text → line_of text ≡ text
line_of-digits text all = each (bytes_eq (drop (length text - 1) text) (10 ∷ [])) refl
  where
    each : (b : Bool) → bytes_eq (drop (length text - 1) text) (10 ∷ []) ≡ b → cond b (take (length text - 1) text) text ≡ text
    each true e =
        let last : AllDigits 10 (10 ∷ []) = subst (AllDigits 10) ((bytes_eq-Decides (drop (length text - 1) text) (10 ∷ [])).0 e) (AllDigits-drop (length text - 1) text all) in
        absurd (omega (arith, last.0))
    each false e = refl

-- the decimal of a number ends in no line feed
pub line_of-decimal : (n : ℕ) → n < 2 ^ 64 → line_of (decimal n) ≡ decimal n
line_of-decimal n below = line_of-digits (decimal n) (decimal_is_IsNumeral n below).0.1
