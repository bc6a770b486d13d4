-- Characters that add a width of their own.
use Rattle.std.proofs.Common.{◌≡◌, ℕ, ◌+◌, Bool, true, false, not, ◌&&◌, nat_lt, List, [], ◌∷◌, ◌++◌, refl, sym, ap, ◌∙◌, arith, add-zero}
use Rattle.std.specs.Int.{is_in_range}
use Rattle.std.specs.List.{list_all}
use Rattle.std.proofs.lemmas.Bool.{and_parts}
use Rattle.std.proofs.lemmas.Bool.Decides.{nat_tests}
use Rattle.unicode_width.specs.declared.kind.Kind.{Kind}
use Rattle.unicode_width.specs.declared.kind.Kind.TheVariants as kinds
use Rattle.unicode_width.specs.Kind.{kind}
use Rattle.unicode_width.specs.Width.{alone, char_width, of_kind, past_emoji, plain, read_before, single, step, str_width}
use Rattle.unicode_width.proofs.Rules.{is_simple, str_width-append_simple, str_width-printable}
use Rattle.columns.specs.Widths.{AddsWidth, is_mark, is_printable, is_zero, width}

pub printable : (c : ℕ) → is_printable c ≡ true → AddsWidth c 1
printable c h front =
    let simple : list_all is_simple (c ∷ []) ≡ true = grind (arith, h) in
    let one : list_all (is_in_range 0x20 0x7E) (c ∷ []) ≡ true = grind (arith, h) in
    str_width-append_simple false front (c ∷ []) simple ∙ ap (λ n. width front + n) (str_width-printable false (c ∷ []) one)

single-mark : (c : ℕ) → (single false c).0 ≡ 0 → is_in_range 0xFE00 0xFE0F c ≡ false → single false c ≡ (0, plain)
single-mark c zero other = grind (arith, nat_tests)

of_kind-mark : (c : ℕ) (k : Kind) → (of_kind false c k).0 ≡ 0 → is_in_range 0xFE00 0xFE0F c ≡ false → of_kind false c k ≡ (0, plain)
of_kind-mark c kinds.Zero zero other = refl
of_kind-mark c kinds.Narrow zero other = cc
of_kind-mark c kinds.Wide zero other = cc
of_kind-mark c kinds.Ambiguous zero other = cc
of_kind-mark c kinds.Alef zero other = cc
of_kind-mark c kinds.KhmerLetter zero other = cc
of_kind-mark c kinds.TifinaghConsonant zero other = cc
of_kind-mark c kinds.LisuTone zero other = cc
of_kind-mark c kinds.RegionalIndicator zero other = cc
of_kind-mark c kinds.EmojiModifier zero other = cc
of_kind-mark c kinds.Emoji zero other = cc
of_kind-mark c kinds.Single zero other = single-mark c zero other

step-high : (c : ℕ) → nat_lt 0xA0 c ≡ true → step false c (0, plain) ≡ alone false c
unfolding step past_emoji
step-high c h = grind (arith, nat_tests)

width-high : (c : ℕ) → nat_lt 0xA0 c ≡ true → is_zero (char_width false c) ≡ true → (alone false c).0 ≡ 0
unfolding char_width
width-high c high h = grind (arith, nat_tests)

read_before-append : (xs ys : List ℕ) → read_before false (xs ++ ys) (0, plain) ≡ read_before false xs (read_before false ys (0, plain))
read_before-append [] ys = refl
read_before-append (x ∷ xs) ys = ap (step false x) (read_before-append xs ys)

not_true : (b : Bool) → not b ≡ true → b ≡ false
not_true true h = cc
not_true false h = refl

step-mark : (c : ℕ) → is_mark c ≡ true → step false c (0, plain) ≡ (0, plain)
unfolding alone
step-mark c h =
    let both = and_parts (nat_lt 0xA0 c && is_zero (char_width false c)) (not (is_in_range 0xFE00 0xFE0F c)) h in
    let parts = and_parts (nat_lt 0xA0 c) (is_zero (char_width false c)) both.0 in
    step-high c parts.0 ∙ of_kind-mark c (kind c) (width-high c parts.0 parts.1) (not_true (is_in_range 0xFE00 0xFE0F c) both.1)

pub mark : (c : ℕ) → is_mark c ≡ true → AddsWidth c 0
unfolding str_width
mark c h front =
    ap (λ r. r.0) (read_before-append front (c ∷ []) ∙ ap (read_before false front) (step-mark c h)) ∙ sym (add-zero (width front))

pub no_width : width [] ≡ 0
unfolding str_width
no_width = refl
