-- Which texts are lines, titles and messages, by the characters that they have.
use Rattle.std.proofs.Common.{◌≡◌, ◌∙◌, refl, ap, ℕ, Bool, true, false, ◌&&◌, ◌||◌, ◌==◌, not, List, [], ◌∷◌}
use Rattle.std.specs.Char.{is_whitespace}
use Rattle.std.specs.List.{list_all, list_any}
use Rattle.std.specs.Str.{chars}
use Rattle.gb_text.specs.Rules.{is_control, is_line_text, is_message_text, is_title_text}

-- all pass one test exactly if none passes the other
none_by : (p q : ℕ → Bool) → ((c : ℕ) → p c ≡ not (q c)) → (cs : List ℕ) → list_all p cs ≡ not (list_any q cs)
none_by p q each [] = refl
none_by p q each (c ∷ cs) = ap (λ (b : Bool). b && list_all p cs) (each c) ∙ by (q c) (none_by p q each cs)
  where
    by : (b : Bool) → list_all p cs ≡ not (list_any q cs) → (not b && list_all p cs) ≡ not (b || list_any q cs)
    by true later = refl
    by false later = later

-- some passes one test exactly if not all pass the other
some_not : (q : ℕ → Bool) (cs : List ℕ) → list_any (λ c. not (q c)) cs ≡ not (list_all q cs)
some_not q [] = refl
some_not q (c ∷ cs) = by (q c) (some_not q cs)
  where
    by : (b : Bool) → list_any (λ c. not (q c)) cs ≡ not (list_all q cs) → (not b || list_any (λ c. not (q c)) cs) ≡ not (b && list_all q cs)
    by true later = later
    by false later = refl

pub line_by_controls : (text : List ℕ) → is_line_text text ≡ not (list_any is_control (chars text))
line_by_controls text = none_by (λ c. not (is_control c)) is_control (λ c. refl) (chars text)

pub title_by_spaces : (text : List ℕ) → is_title_text text ≡ (is_line_text text && not (list_all is_whitespace (chars text)))
title_by_spaces text = ap (λ (b : Bool). is_line_text text && b) (some_not is_whitespace (chars text))

pub message_by_controls : (text : List ℕ) → is_message_text text ≡ not (list_any (λ c. is_control c && (not (c == 9) && (not (c == 10) && not (c == 13)))) (chars text))
message_by_controls text = none_by (λ c. ((not (is_control c) || c == 10) || c == 13) || c == 9) (λ c. is_control c && (not (c == 9) && (not (c == 10) && not (c == 13)))) (λ c. by (is_control c) (c == 10) (c == 13) (c == 9)) (chars text)
  where
    by : (control feed back tab : Bool) → (((not control || feed) || back) || tab) ≡ not (control && (not tab && (not feed && not back)))
    by false true back tab = refl
    by false false true tab = refl
    by false false false true = refl
    by false false false false = refl
    by true true true true = refl
    by true true true false = refl
    by true true false true = refl
    by true true false false = refl
    by true false true true = refl
    by true false true false = refl
    by true false false true = refl
    by true false false false = refl
