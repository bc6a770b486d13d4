-- The folders of a world: their texts, which do not overlap, and their names as remotes.
use Rattle.std.proofs.Common.{◌≡◌, ◌<◌, ◌≤◌, ◌^◌, inl, inr, ℕ, Bool, true, false, ◌&&◌, nat_le, List, [], ◌∷◌, ◌++◌, length, decimal, Some, None, refl, sym, ◌∙◌, ap, ap₂, arith}
use Rattle.std.specs.Prelude.{◌==◌, All, filter, if◌then◌else◌}
use Rattle.std.specs.List.{list_all}
use Rattle.std.specs.Str.Parse.{AllDigits}
use Rattle.std.proofs.lemmas.Bool.{le-leb}
use Rattle.std.proofs.lemmas.Bool.Decides.{nat_tests}
use Rattle.std.proofs.lemmas.Fmt.{decimal_injective, decimal_is_IsNumeral, length-decimal-le}
use Rattle.std.proofs.lemmas.List.Elements.{All-cons, All-nil}
use Rattle.std.proofs.lemmas.List.Splits.{slice_split_none}
use Rattle.std.proofs.lemmas.List.Sums.{list_all-from_AllPass}
use Rattle.std.proofs.lemmas.Option.{same_Some}
use Rattle.std.proofs.lemmas.Str.Parse.{digit_from_value}
use Rattle.gb_text.specs.Folder.{counts, folder_of, folder_text, is_bad_folder, parts_of}
use Rattle.gb_text.specs.Overlap.{Overlap, steps_of}
use Rattle.remote_name.specs.RemoteTexts.{is_remote_byte, is_remote_name}
use Rattle.world_events.specs.Words.{folder_word}

-- a fact of each digit is one of each byte of a decimal
of_digits : (Is : ℕ → Type 0) → ((c : ℕ) → 48 ≤ c → c ≤ 57 → Is c) → (ds : List ℕ) → AllDigits 10 ds → All Is ds
of_digits Is each [] digits = All-nil Is
of_digits Is each (c ∷ ds) digits =
    let value = digit_from_value c digits.0 in
    All-cons Is c ds (each c (omega (arith, value)) (omega (arith, value))) (of_digits Is each ds digits.1)

decimal_bytes : (Is : ℕ → Type 0) → ((c : ℕ) → 48 ≤ c → c ≤ 57 → Is c) → (n : ℕ) → n < 2 ^ 64 → All Is (decimal n)
decimal_bytes Is each n within = of_digits Is each (decimal n) (decimal_is_IsNumeral n within).0.1

-- no digit is a slash
no_slash : (c : ℕ) → 48 ≤ c → c ≤ 57 → (c == 47) ≡ false
no_slash c low high = grind (arith, nat_tests)

one_part : (n : ℕ) → n < 2 ^ 64 → parts_of (folder_word n) ≡ folder_word n ∷ []
one_part n within =
    slice_split_none (λ c. c == 47) (folder_word n)
    (All-cons (λ c. (c == 47) ≡ false) 119 (decimal n) refl (decimal_bytes (λ c. (c == 47) ≡ false) no_slash n within))

-- the word of a folder is its one step
pub one_step : (n : ℕ) → n < 2 ^ 64 → steps_of (folder_word n) ≡ folder_word n ∷ []
one_step n within = ap (filter counts) (one_part n within)

-- the text of a folder is its word
pub word_is_folder : (n : ℕ) (text : List ℕ) → n < 2 ^ 64 → folder_of (folder_word n) ≡ Some text → text ≡ folder_word n
word_is_folder n text within e = by (is_bad_folder (folder_word n)) refl
  where
    by : (bad : Bool) → is_bad_folder (folder_word n) ≡ bad → text ≡ folder_word n
    by true is =
        let none : folder_of (folder_word n) ≡ None = ap (λ (b : Bool). if b then None else Some (folder_text false (steps_of (folder_word n)))) is in
        absurd (cc (sym none ∙ e))
    by false is =
        let some : folder_of (folder_word n) ≡ Some (folder_text false (steps_of (folder_word n)))
        = ap (λ (b : Bool). if b then None else Some (folder_text false (steps_of (folder_word n)))) is in
        same_Some text (folder_text false (steps_of (folder_word n))) (sym e ∙ some) ∙ ap (folder_text false) (one_step n within)

-- folders of a world that overlap are one
pub words_apart : (one two : ℕ) → one < 2 ^ 64 → two < 2 ^ 64 → Overlap (folder_word one) (folder_word two) → folder_word one ≡ folder_word two
words_apart one two first second overlap = elim overlap.front [
  | inl front ↦ let e : folder_word two ∷ [] ≡ folder_word one ∷ front.0 = sym (one_step two second) ∙ front.1 ∙ ap (λ (steps : List (List ℕ)). steps ++ front.0) (one_step one first) in
      let same : folder_word two ≡ folder_word one = cc e in sym same
  | inr front ↦ let e : folder_word one ∷ [] ≡ folder_word two ∷ front.0 = sym (one_step one first) ∙ front.1 ∙ ap (λ (steps : List (List ℕ)). steps ++ front.0) (one_step two second) in
      cc e
]

-- and have one number
pub one_word : (one two : ℕ) → one < 2 ^ 64 → two < 2 ^ 64 → folder_word one ≡ folder_word two → one ≡ two
one_word one two first second e =
    let same : 119 ∷ decimal one ≡ 119 ∷ decimal two = e in
    let rest : decimal one ≡ decimal two = cc same in
    decimal_injective one two first second rest

-- the word of a folder is the name of a remote
digit_named : (c : ℕ) → 48 ≤ c → c ≤ 57 → is_remote_byte c ≡ true
digit_named c low high = grind (arith, nat_tests)

pub word_is_remote : (n : ℕ) → n < 2 ^ 64 → is_remote_name (folder_word n) ≡ true
word_is_remote n within =
    let long : length (decimal n) ≤ 20 = length-decimal-le 20 n (omega arith) (omega (arith, within)) within in
    let least : nat_le 1 (length (folder_word n)) ≡ true = le-leb 1 (length (folder_word n)) (omega arith) in
    let most : nat_le (length (folder_word n)) 64 ≡ true = le-leb (length (folder_word n)) 64 (omega (arith, long)) in
    let bytes : list_all is_remote_byte (folder_word n) ≡ true
    = list_all-from_AllPass is_remote_byte (folder_word n) (All-cons (λ c. is_remote_byte c ≡ true) 119 (decimal n) refl (decimal_bytes (λ c. is_remote_byte c ≡ true) digit_named n within)) in
    ap₂ (λ (a b : Bool). a && b) (ap₂ (λ (a b : Bool). a && b) least most) bytes
