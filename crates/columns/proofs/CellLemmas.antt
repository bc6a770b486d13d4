-- Cells and their widths.
use Rattle.std.proofs.Common.{◌≡◌, ℕ, zero, suc, ◌+◌, ◌-◌, ◌≤◌, ◌<◌, Bool, true, false, nat_le, if◌then◌else◌, List, [], ◌∷◌, ◌++◌, length, take, chars, codes, encode_utf8_all, refl, sym, ap, ◌∙◌, subst, arith, append_assoc, append-nil, length-append, add-one}
use Rattle.std.proofs.Math.Seq.{take-append-add, take-append_seam}
use Rattle.std.specs.Int.{is_in_range}
use Rattle.std.specs.List.{list_all}
use Rattle.std.specs.Str.{IsAscii, IsUtf8}
use Rattle.std.proofs.lemmas.Bool.Decides.{nat_tests}
use Rattle.std.proofs.lemmas.Str.{IsAscii-append, chars-IsAscii, chars-append}
use Rattle.unicode_width.proofs.Rules.{is_simple, str_width-append_simple, str_width-printable}
use Rattle.columns.specs.Cells.{IsLongest, cell_of, cut_cell, front_of, front_on, spaces}
use Rattle.columns.specs.Widths.{width}
use Rattle.columns.proofs.FrontLemmas.{characters, taken_utf8}
use Rattle.columns.proofs.StepLemmas.{no_width}

spaces_on : (n : ℕ) → spaces (suc n) ≡ spaces n ++ codes " "
spaces_on zero = refl
spaces_on (suc n) = ap (λ rest. 32 ∷ rest) (spaces_on n)

pub spaces_more : (n : ℕ) → spaces (n + 1) ≡ spaces n ++ codes " "
spaces_more n = ap spaces (add-one n) ∙ spaces_on n

-- ---- the longest prefix that fits

fits_by : (most k : ℕ) (front : List ℕ) (c : ℕ) (cs : List ℕ) (b : Bool) → nat_le k (length front) ≡ b → ((k : ℕ) → k ≤ length front → width (take k (front ++ c ∷ cs)) ≤ most) → width (front ++ c ∷ []) ≤ most → k ≤ length front + 1 → width (take k (front ++ c ∷ cs)) ≤ most
fits_by most k front c cs true e fits more h =
    let low : k ≤ length front = grind (arith, nat_tests) in
    fits k low
fits_by most k front c cs false e fits more h =
    let high : length front < k = grind (arith, nat_tests) in
    let is : k ≡ length front + 1 = omega arith in
    let all : take k (front ++ c ∷ cs) ≡ front ++ c ∷ [] = ap (λ n. take n (front ++ c ∷ cs)) is ∙ take-append-add front (c ∷ cs) 1 in
    omega (arith, ap width all, more)

longest_by : (most : ℕ) (front : List ℕ) (c : ℕ) (cs : List ℕ) (b : Bool) → nat_le (width (front ++ c ∷ [])) most ≡ b → ((k : ℕ) → k ≤ length front → width (take k (front ++ c ∷ cs)) ≤ most)
    → (width (front ++ c ∷ []) ≤ most → IsLongest most ((front ++ c ∷ []) ++ cs) (front_on most (front ++ c ∷ []) cs))
    → IsLongest most (front ++ c ∷ cs) (if b then front_on most (front ++ c ∷ []) cs else front)
longest_by most front c cs true e fits rest =
    let more : width (front ++ c ∷ []) ≤ most = grind (arith, nat_tests) in
    subst (λ all. IsLongest most all (front_on most (front ++ c ∷ []) cs)) (append_assoc front (c ∷ []) cs) (rest more)
longest_by most front c cs false e fits rest =
    let wide : most < width (front ++ c ∷ []) = grind (arith, nat_tests) in
    record {
      begins = sym (take-append_seam front (c ∷ cs));
      fits = fits;
      longest = λ h. omega (arith, ap width (take-append-add front (c ∷ cs) 1), wide);
    }

longest_on : (most : ℕ) (front cs : List ℕ) → ((k : ℕ) → k ≤ length front → width (take k (front ++ cs)) ≤ most) → IsLongest most (front ++ cs) (front_on most front cs)
longest_on most front [] fits = record {
  begins = sym (take-append_seam front []);
  fits = fits;
  longest = λ h. absurd (omega (arith, ap length (append-nil front), h));
}
longest_on most front (c ∷ cs) fits =
    longest_by most front c cs (nat_le (width (front ++ c ∷ [])) most) refl fits
    (λ more. longest_on most (front ++ c ∷ []) cs (λ k h.
    subst (λ all. width (take k all) ≤ most) (sym (append_assoc front (c ∷ []) cs))
    (fits_by most k front c cs (nat_le k (length front)) refl fits more (omega (arith, h, length-append front (c ∷ []))))))

none_fits : (most : ℕ) (cs : List ℕ) (k : ℕ) → k ≤ 0 → width (take k cs) ≤ most
none_fits most cs k h =
    let is : k ≡ 0 = omega arith in
    omega (arith, ap (λ n. width (take n cs)) is, no_width)

pub longest : (most : ℕ) (text : List ℕ) → IsLongest most (chars text) (front_of most text)
longest most text = longest_on most [] (chars text) (none_fits most (chars text))

-- ---- the width of a cell

one_ascii : (b : ℕ) → b < 128 → IsAscii (b ∷ [])
one_ascii b h zero = h
one_ascii b h (suc i) = omega arith

spaces_ascii : (n : ℕ) → IsAscii (spaces n)
spaces_ascii zero = λ i. omega arith
spaces_ascii (suc n) = IsAscii-append (32 ∷ []) (spaces n) (one_ascii 32 (omega arith)) (spaces_ascii n)

spaces_simple : (n : ℕ) → list_all is_simple (spaces n) ≡ true
spaces_simple zero = refl
spaces_simple (suc n) = spaces_simple n

spaces_printable : (n : ℕ) → list_all (is_in_range 0x20 0x7E) (spaces n) ≡ true
spaces_printable zero = refl
spaces_printable (suc n) = spaces_printable n

spaces_length : (n : ℕ) → length (spaces n) ≡ n
spaces_length zero = refl
spaces_length (suc n) = ap suc (spaces_length n)

tail : (text t : List ℕ) → IsUtf8 text → IsAscii t → list_all is_simple t ≡ true → list_all (is_in_range 0x20 0x7E) t ≡ true → width (chars (text ++ t)) ≡ width (chars text) + length t
tail text t u ascii simple printable =
    ap width (chars-append text t u ∙ ap (λ x. chars text ++ x) (chars-IsAscii t ascii)) ∙ str_width-append_simple false (chars text) t simple
    ∙ ap (λ n. width (chars text) + n) (str_width-printable false t printable)

cut_width : (most : ℕ) (text : List ℕ) → IsUtf8 text → width (chars (cut_cell most (front_of most text))) ≡ most + 1
cut_width most text u =
    let front = front_of most text in
    let is = longest most text in
    let count = most - width front in
    let utf8 : IsUtf8 (encode_utf8_all front) = subst (λ f. IsUtf8 (encode_utf8_all f)) (sym is.begins) (taken_utf8 text (length front) u) in
    let same : chars (encode_utf8_all front) ≡ front = ap (λ f. chars (encode_utf8_all f)) is.begins ∙ characters text (length front) u ∙ sym is.begins in
    let fits : width front ≤ most = subst (λ f. width f ≤ most) (sym is.begins) (is.fits (length front) (omega arith)) in
    let all = tail (encode_utf8_all front) (126 ∷ spaces count) utf8 (IsAscii-append (126 ∷ []) (spaces count) (one_ascii 126 (omega arith)) (spaces_ascii count)) (spaces_simple count) (spaces_printable count) in
    let joined = ap (λ t. width (chars t)) (append_assoc (encode_utf8_all front) (126 ∷ []) (spaces count)) in
    omega (arith, joined, all, ap width same, fits, spaces_length count)

cell_by : (columns : ℕ) (text : List ℕ) (b : Bool) → nat_le (width (chars text)) columns ≡ b → IsUtf8 text → 1 ≤ columns → width (chars (if b then text ++ spaces (columns - width (chars text)) else cut_cell (columns - 1) (front_of (columns - 1) text))) ≡ columns
cell_by columns text true e u some =
    let fits : width (chars text) ≤ columns = grind (arith, nat_tests) in
    let count = columns - width (chars text) in
    omega (arith, tail text (spaces count) u (spaces_ascii count) (spaces_simple count) (spaces_printable count), fits, spaces_length count)
cell_by columns text false e u some = omega (arith, cut_width (columns - 1) text u)

pub cell_width : (columns : ℕ) (text : List ℕ) → IsUtf8 text → 1 ≤ columns → width (chars (cell_of columns text)) ≡ columns
cell_width columns text u some = cell_by columns text (nat_le (width (chars text)) columns) refl u some
