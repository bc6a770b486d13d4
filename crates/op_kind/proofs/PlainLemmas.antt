-- A string without escapes is its own text.
use Rattle.std.proofs.Common.{◌≡◌, ℕ, Bool, true, false, ◌&&◌, ◌==◌, nat_lt, cond, List, [], ◌∷◌, ◌++◌, Some, refl, sym, ◌∙◌, ap, arith}
use Rattle.std.specs.Prelude.{not, ◌||◌}
use Rattle.std.proofs.lemmas.Bool.{and_parts}
use Rattle.std.proofs.lemmas.Bool.Decides.{nat_tests}
use Rattle.std.specs.List.{list_all}
use Rattle.std.specs.Str.{IsUtf8}
use Rattle.json.specs.Print.{escape, escape_byte, escape_letter, quoted}
use Rattle.op_kind.specs.Members.{is_plain, text_at}
use Rattle.op_kind.specs.QuotedLaws.{quoted_reads}

-- a plain byte is written as it is
byte_plain : (x : ℕ) → is_plain x ≡ true → escape_byte x ≡ x ∷ []
unfolding escape_byte
byte_plain x plain = grind (arith, nat_tests)

escape_plain : (t : List ℕ) → list_all is_plain t ≡ true → escape t ≡ t
escape_plain [] plain = refl
escape_plain (x ∷ xs) plain =
    let here = and_parts (is_plain x) (list_all is_plain xs) plain in
    ap (λ (l : List ℕ). l ++ escape xs) (byte_plain x here.0) ∙ ap (λ (l : List ℕ). x ∷ l) (escape_plain xs here.1)

-- A string without escapes reads as what stands between its quotes.
pub plain_reads : (json inner : List ℕ) → json ≡ 34 ∷ inner ++ 34 ∷ [] → list_all is_plain inner ≡ true → IsUtf8 inner → text_at json ≡ Some inner
plain_reads json inner is plain utf8 = ap text_at (is ∙ ap (λ (t : List ℕ). 34 ∷ t ++ 34 ∷ []) (sym (escape_plain inner plain))) ∙ quoted_reads inner utf8
