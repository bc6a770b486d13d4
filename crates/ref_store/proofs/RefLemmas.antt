-- A ref text is short.
use Rattle.std.proofs.Common.{◌≡◌, ℕ, ◌+◌, ◌<◌, ◌≤◌, List, [], ◌∷◌, ◌++◌, length, Option, Some, None, refl, ◌∙◌, ap, arith}
use Rattle.std.proofs.lemmas.Grind.{common_steps}
use Rattle.gb_text.specs.declared.id.Name.{Name}
use Rattle.gb_text.specs.Digits.{name_of}
use Rattle.gb_text.specs.LineEnd.{line_of}
use Rattle.gb_text.proofs.DigitLemmas.{name_of-is, name_digits-sized}
pub use Rattle.gb_text.proofs.LineEndLemmas.{line_of-more}
use Rattle.ref_store.specs.Refs.{Bad, Head, head_or_bad, ref_of}

length-line_of : (text : List ℕ) → length text ≤ length (line_of text) + 1
length-line_of text = grind (arith, common_steps)

-- a text of more than 4,096 bytes is no ref text
pub long_is_bad : (text : List ℕ) → 4096 < length text → ref_of (Some text) ≡ Bad
long_is_bad text long = each (name_of (line_of text)) refl
  where
    each : (o : Option Name) → name_of (line_of text) ≡ o → head_or_bad (name_of (line_of text)) ≡ Bad
    each None h = ap head_or_bad h
    each (Some name) h =
        let is = name_of-is (line_of text) name h in
        let forty : length (line_of text) ≡ 40 = ap length is.1 ∙ name_digits-sized name is.0 in
        absurd (omega (arith, long, forty, length-line_of text))

-- the digits of a head and a line feed are its ref
pub reads_as_head : (text : List ℕ) (head : Name) → name_of text ≡ Some head → ref_of (Some (text ++ 10 ∷ [])) ≡ Head head
reads_as_head text head reads = ap (λ (t : List ℕ). head_or_bad (name_of t)) (line_of-more text) ∙ ap head_or_bad reads
