-- The characters of a text, one after another.
use Rattle.std.proofs.Common.{◌≡◌, ℕ, zero, suc, ◌+◌, ◌-◌, ◌≤◌, ◌<◌, true, false, nat_le, if◌then◌else◌, List, [], ◌∷◌, ◌++◌, length, get_or, take, drop, chars, encode_utf8_all, refl, sym, ap, ◌∙◌, subst, arith, append-nil, length-append}
use Rattle.std.proofs.Math.Seq.{take-append_seam}
use Rattle.std.proofs.Math.Utf8.{encode, scalars}
use Rattle.std.specs.Char.{len_utf8}
use Rattle.std.specs.Str.{IsUtf8, IsCharBoundary}
use Rattle.std.proofs.lemmas.Bool.{and_parts}
use Rattle.std.proofs.lemmas.Bool.Decides.{nat_tests}
use Rattle.std.proofs.lemmas.List.{at_drop_all, drop_more, take_all, take_more, take-append-drop}
use Rattle.std.proofs.lemmas.Str.{IsCharBoundary-from_take, chars-encodes, encodes-append, encodes-chars, length-encode, scalars-chars}
use Rattle.columns.specs.Cells.{front_of, front_on}
use Rattle.columns.specs.Widths.{width}

-- how many bytes these characters take
abbrev pub size : List ℕ → ℕ
size cs = length (encode_utf8_all cs)

scalars_take : (n : ℕ) (cs : List ℕ) → scalars cs ≡ true → scalars (take n cs) ≡ true
scalars_take zero cs h = refl
scalars_take (suc n) [] h = refl
scalars_take (suc n) (c ∷ cs) h =
    let parts = and_parts _ (scalars cs) h in
    rw (parts.0, scalars_take n cs parts.1) refl

-- ---- the first characters of a text

pub whole : (bs : List ℕ) (n : ℕ) → IsUtf8 bs → bs ≡ encode_utf8_all (take n (chars bs)) ++ encode_utf8_all (drop n (chars bs))
whole bs n u =
    sym (encodes-chars bs u) ∙ ap encode_utf8_all (sym (take-append-drop n (chars bs))) ∙ encodes-append (take n (chars bs)) (drop n (chars bs))

pub within : (bs : List ℕ) (n : ℕ) → IsUtf8 bs → size (take n (chars bs)) ≤ length bs
within bs n u =
    let e = ap length (whole bs n u) in
    omega (arith, e, length-append (encode_utf8_all (take n (chars bs))) (encode_utf8_all (drop n (chars bs))))

pub spelled : (bs : List ℕ) (n : ℕ) → IsUtf8 bs → take (size (take n (chars bs))) bs ≡ encode_utf8_all (take n (chars bs))
spelled bs n u =
    ap (take (size (take n (chars bs)))) (whole bs n u) ∙ take-append_seam (encode_utf8_all (take n (chars bs))) (encode_utf8_all (drop n (chars bs)))

pub taken_utf8 : (bs : List ℕ) (n : ℕ) → IsUtf8 bs → IsUtf8 (encode_utf8_all (take n (chars bs)))
taken_utf8 bs n u = (take n (chars bs), (scalars_take n (chars bs) (scalars-chars bs u), refl))

pub boundary : (bs : List ℕ) (n : ℕ) → IsUtf8 bs → IsCharBoundary bs (size (take n (chars bs)))
boundary bs n u = IsCharBoundary-from_take bs (size (take n (chars bs))) u (within bs n u) (subst IsUtf8 (sym (spelled bs n u)) (taken_utf8 bs n u))

pub characters : (bs : List ℕ) (n : ℕ) → IsUtf8 bs → chars (encode_utf8_all (take n (chars bs))) ≡ take n (chars bs)
characters bs n u = chars-encodes (take n (chars bs)) (scalars_take n (chars bs) (scalars-chars bs u))

-- ---- one character more

pub one_more : (cs : List ℕ) (n c : ℕ) → n < length cs → c ≡ get_or cs n c → take (n + 1) cs ≡ take n cs ++ c ∷ []
one_more cs n c h is = take_more cs n c h ∙ ap (λ x. take n cs ++ x ∷ []) (sym is)

pub size_more : (cs : List ℕ) (n c : ℕ) → n < length cs → c ≡ get_or cs n c → size (take (n + 1) cs) ≡ size (take n cs) + len_utf8 c
size_more cs n c h is =
    ap size (one_more cs n c h is) ∙ ap length (encodes-append (take n cs) (c ∷ [])) ∙ length-append (encode_utf8_all (take n cs)) (encode_utf8_all (c ∷ []))
    ∙ ap (λ k. size (take n cs) + k) (ap length (append-nil (encode c)) ∙ length-encode c)

turn : (most : ℕ) (cs : List ℕ) (n c : ℕ) → n < length cs → c ≡ get_or cs n c → front_on most (take n cs) (drop n cs) ≡ (if nat_le (width (take (n + 1) cs)) most then front_on most (take (n + 1) cs) (drop (n + 1) cs) else take n cs)
turn most cs n c h is =
    ap (front_on most (take n cs)) (drop_more cs n c h ∙ ap (λ x. x ∷ drop (n + 1) cs) (sym is))
    ∙ ap (λ front. if nat_le (width front) most then front_on most front (drop (n + 1) cs) else take n cs) (sym (one_more cs n c h is))

pub goes : (most : ℕ) (cs : List ℕ) (n c : ℕ) → n < length cs → c ≡ get_or cs n c → width (take (n + 1) cs) ≤ most → front_on most (take n cs) (drop n cs) ≡ front_on most (take (n + 1) cs) (drop (n + 1) cs)
goes most cs n c h is fits =
    let test : nat_le (width (take (n + 1) cs)) most ≡ true = grind (arith, nat_tests) in
    turn most cs n c h is ∙ ap (λ b. if b then front_on most (take (n + 1) cs) (drop (n + 1) cs) else take n cs) test

pub stops : (most : ℕ) (cs : List ℕ) (n c : ℕ) → n < length cs → c ≡ get_or cs n c → most < width (take (n + 1) cs) → front_on most (take n cs) (drop n cs) ≡ take n cs
stops most cs n c h is wide =
    let test : nat_le (width (take (n + 1) cs)) most ≡ false = grind (arith, nat_tests) in
    turn most cs n c h is ∙ ap (λ b. if b then front_on most (take (n + 1) cs) (drop (n + 1) cs) else take n cs) test

pub ends : (most : ℕ) (cs : List ℕ) (n : ℕ) → length cs ≤ n → front_on most (take n cs) (drop n cs) ≡ take n cs
ends most cs n h = at_drop_all (front_on most (take n cs)) cs n h

pub next_place : (bs : List ℕ) (end n c len : ℕ) → end ≡ size (take n (chars bs)) → n < length (chars bs) → c ≡ get_or (chars bs) n c → len ≡ len_utf8 c → end + len ≡ size (take (n + 1) (chars bs))
next_place bs end n c len place h is long = omega (arith, place, long, size_more (chars bs) n c h is)

-- the text up to a place, by its characters
pub up_to : (bs part : List ℕ) (end n : ℕ) → IsUtf8 bs → end ≡ size (take n (chars bs)) → part ≡ take (end - 0) bs → part ≡ encode_utf8_all (take n (chars bs))
up_to bs part end n u place is =
    let all : end - 0 ≡ size (take n (chars bs)) = omega (arith, place) in
    is ∙ ap (λ k. take k bs) all ∙ spelled bs n u

pub spells_front : (most : ℕ) (bs part : List ℕ) (n : ℕ) → front_of most bs ≡ take n (chars bs) → part ≡ encode_utf8_all (take n (chars bs)) → part ≡ encode_utf8_all (front_of most bs)
spells_front most bs part n front is = is ∙ ap encode_utf8_all (sym front)

pub has_front : (most : ℕ) (bs part : List ℕ) (n : ℕ) → IsUtf8 bs → front_of most bs ≡ take n (chars bs) → part ≡ encode_utf8_all (take n (chars bs)) → chars part ≡ front_of most bs
has_front most bs part n u front is = ap chars is ∙ characters bs n u ∙ sym front

pub fits_front : (most wide : ℕ) (bs : List ℕ) (n : ℕ) → front_of most bs ≡ take n (chars bs) → wide ≡ width (take n (chars bs)) → wide ≤ most → width (front_of most bs) ≤ most
fits_front most wide bs n front is fits = omega (arith, is, fits, ap width front)

pub all_of : (bs : List ℕ) (n : ℕ) → IsUtf8 bs → n ≡ length (chars bs) → bs ≡ encode_utf8_all (take n (chars bs))
all_of bs n u h = sym (encodes-chars bs u) ∙ ap encode_utf8_all (sym (take_all n (chars bs) (omega arith)))
