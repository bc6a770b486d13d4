-- The digits at the places of one id, as one place after another is read.
use Rattle.std.proofs.Common.{◌≡◌, ℕ, suc, ◌+◌, ◌<◌, ◌≤◌, cond, Bool, true, false, ◌&&◌, List, [], ◌∷◌, ◌++◌, length, take, slice_index, Option, Some, None, refl, sym, ap, subst, ◌∙◌, arith, append-nil}
use Rattle.std.specs.Prelude.{nat_le, is_some, IfSome}
use Rattle.std.specs.List.{list_all}
use Rattle.std.specs.Option.{option_map}
use Rattle.std.proofs.Math.ListN.{set}
use Rattle.std.proofs.lemmas.Bool.{and_from, and_parts}
use Rattle.std.proofs.lemmas.List.{length-take, take_more, take_more_set}
use Rattle.gb_text.specs.Prefix.{digits_of}
use Rattle.gb_text.specs.PrefixText.{is_lower_digit, is_prefix_text}
use Rattle.gb_text.specs.declared.prefix.Prefix.{Prefix}
use Rattle.combined_id.specs.Combined.{digits_at}
use Rattle.combined_id.specs.Split.{some_digits}

-- the digit, where the place is taken
abbrev pub one_at : Bool → ℕ → List ℕ
one_at takes digit = cond takes (digit ∷ []) []

one_more : (b : Bool) (digit : ℕ) (rest : List ℕ) → cond b (digit ∷ rest) rest ≡ one_at b digit ++ rest
one_more true digit rest = refl
one_more false digit rest = refl

moved : (b : Bool) (digit : ℕ) (xs ys : List ℕ) → cond b (digit ∷ xs ++ ys) (xs ++ ys) ≡ cond b (digit ∷ xs) xs ++ ys
moved true digit xs ys = refl
moved false digit xs ys = refl

-- the digits of one text after another
pub digits_at-append : (takes : ℕ → Bool) (place : ℕ) (xs ys : List ℕ) → digits_at takes place (xs ++ ys) ≡ digits_at takes place xs ++ digits_at takes (place + length xs) ys
digits_at-append takes place [] ys = ap (λ (n : ℕ). digits_at takes n ys) (omega arith)
digits_at-append takes place (x ∷ xs) ys =
    let further : suc place + length xs ≡ place + suc (length xs) = omega arith in
    let rest : digits_at takes (suc place) (xs ++ ys) ≡ digits_at takes (suc place) xs ++ digits_at takes (place + suc (length xs)) ys =
    digits_at-append takes (suc place) xs ys ∙ ap (λ (n : ℕ). digits_at takes (suc place) xs ++ digits_at takes n ys) further in
    ap (λ (l : List ℕ). cond (takes place) (x ∷ l) l) rest
    ∙ moved (takes place) x (digits_at takes (suc place) xs) (digits_at takes (place + suc (length xs)) ys)

-- one place further
pub digits_at_more : (takes : ℕ → Bool) (text : List ℕ) (place : ℕ) → place < length text
    → digits_at takes 0 (take (place + 1) text) ≡ digits_at takes 0 (take place text) ++ one_at (takes place) (slice_index text place)
digits_at_more takes text place lt =
    let sized : 0 + length (take place text) ≡ place = omega (arith, length-take place text) in
    ap (digits_at takes 0) (take_more text place 0 lt) ∙ digits_at-append takes 0 (take place text) (slice_index text place ∷ [])
    ∙ ap (λ (n : ℕ). digits_at takes 0 (take place text) ++ digits_at takes n (slice_index text place ∷ [])) sized

-- the place is taken: its digit is written
pub place_taken : (takes : ℕ → Bool) (text out : List ℕ) (place count : ℕ) → place < length text → count < length out → takes place ≡ true
    → take count out ≡ digits_at takes 0 (take place text)
    → take (count + 1) (set out count (slice_index text place)) ≡ digits_at takes 0 (take (place + 1) text)
place_taken takes text out place count lt room h e =
    take_more_set out count (slice_index text place) room ∙ ap (λ (l : List ℕ). l ++ slice_index text place ∷ []) e
    ∙ ap (λ (b : Bool). digits_at takes 0 (take place text) ++ one_at b (slice_index text place)) (sym h) ∙ sym (digits_at_more takes text place lt)

-- it is not
pub place_passed : (takes : ℕ → Bool) (text out : List ℕ) (place count : ℕ) → place < length text → takes place ≡ false
    → take count out ≡ digits_at takes 0 (take place text) → take count out ≡ digits_at takes 0 (take (place + 1) text)
place_passed takes text out place count lt h e =
    e ∙ sym (append-nil (digits_at takes 0 (take place text)))
    ∙ ap (λ (b : Bool). digits_at takes 0 (take place text) ++ one_at b (slice_index text place)) (sym h) ∙ sym (digits_at_more takes text place lt)

-- ---- a part is a prefix again

-- lower-case digits, no more than the text has
pub part_lower : (takes : ℕ → Bool) (place : ℕ) (text : List ℕ) → list_all is_lower_digit text ≡ true
    → (list_all is_lower_digit (digits_at takes place text) ≡ true) × (length (digits_at takes place text) ≤ length text)
part_lower takes place [] h = (refl, omega arith)
part_lower takes place (x ∷ xs) h = decide (part_lower takes (suc place) xs (and_parts (is_lower_digit x) (list_all is_lower_digit xs) h).1) (takes place) refl
  where
    here : is_lower_digit x ≡ true
    here = (and_parts (is_lower_digit x) (list_all is_lower_digit xs) h).0

    decide : (list_all is_lower_digit (digits_at takes (suc place) xs) ≡ true) × (length (digits_at takes (suc place) xs) ≤ length xs) → (b : Bool) → takes place ≡ b → (list_all is_lower_digit (digits_at takes place (x ∷ xs)) ≡ true) × (length (digits_at takes place (x ∷ xs)) ≤ length (x ∷ xs))
    decide more true e = rw e (and_from (is_lower_digit x) (list_all is_lower_digit (digits_at takes (suc place) xs)) here more.0, omega (arith, more.1))
    decide more false e = rw e (more.0, omega (arith, more.1))

-- what a part reads as
pub part_reads : (takes : ℕ → Bool) (whole text : List ℕ) (read : Option Prefix) → is_prefix_text whole ≡ true → text ≡ digits_at takes 0 whole
    → is_some read ≡ is_prefix_text text → IfSome read (λ prefix. digits_of prefix ≡ text) → option_map digits_of read ≡ some_digits (digits_at takes 0 whole)
part_reads takes whole text read good e some digits = subst (λ (t : List ℕ). option_map digits_of read ≡ some_digits t) e (each text read lower few some digits)
  where
    sides : ((nat_le 1 (length whole) && nat_le (length whole) 64) ≡ true) × (list_all is_lower_digit whole ≡ true)
    sides = and_parts (nat_le 1 (length whole) && nat_le (length whole) 64) (list_all is_lower_digit whole) good

    part : (list_all is_lower_digit (digits_at takes 0 whole) ≡ true) × (length (digits_at takes 0 whole) ≤ length whole)
    part = part_lower takes 0 whole sides.1

    lower : list_all is_lower_digit text ≡ true
    lower = ap (list_all is_lower_digit) e ∙ part.0

    most : length whole ≤ 64
    most = grind (arith, sides.0)

    few : length text ≤ 64
    few = rw e (omega (arith, most, part.1))

    each : (text : List ℕ) (read : Option Prefix) → list_all is_lower_digit text ≡ true → length text ≤ 64 → is_some read ≡ is_prefix_text text
        → IfSome read (λ prefix. digits_of prefix ≡ text) → option_map digits_of read ≡ some_digits text
    each [] None l f s d = refl
    each [] (Some prefix) l f s d = cc s
    each (x ∷ xs) None l f s d =
        let fits : (nat_le 1 (length (x ∷ xs)) && nat_le (length (x ∷ xs)) 64) ≡ true = grind (arith, f) in
        let yes : is_prefix_text (x ∷ xs) ≡ true = and_from (nat_le 1 (length (x ∷ xs)) && nat_le (length (x ∷ xs)) 64) (list_all is_lower_digit (x ∷ xs)) fits l in
        cc (s, yes)
    each (x ∷ xs) (Some prefix) l f s d = ap Some d
