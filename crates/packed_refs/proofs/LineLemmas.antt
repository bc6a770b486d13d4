-- What a line is, by its bytes.
use Rattle.std.proofs.Common.{◌≡◌, ◌≢◌, ℕ, ◌-◌, ◌<◌, ◌≤◌, Bool, true, false, cond, eqb, List, [], ◌∷◌, length, get_or, take, drop, Option, Some, None, refl, sym, ◌∙◌, ap, drop-cons, arith}
use Rattle.std.specs.Prelude.{nat_eq, nat_lt, ◌&&◌}
use Rattle.std.specs.List.{starts_with}
use Rattle.std.specs.Option.{option_map}
use Rattle.std.proofs.lemmas.Bool.Decides.{nat_tests}
use Rattle.std.proofs.lemmas.List.{take_rest}
use Rattle.gb_text.specs.Digits.{name_of}
use Rattle.gb_text.specs.declared.id.Name.{Name}
use Rattle.packed_refs.specs.Packed.{PackedLine, Ref, is_named, ref_line}

-- a text begins with a byte where that is its first one
begins : (x : ℕ) (text : List ℕ) (i d : ℕ) → i < length text → starts_with nat_eq (drop i text) (x ∷ []) ≡ (eqb x (get_or text i d) && true)
begins x text i d lt = ap (λ (rest : List ℕ). starts_with nat_eq rest (x ∷ [])) (drop-cons text i d lt)

test_and : (x y : ℕ) → (eqb x y && true) ≡ eqb y x
test_and x y = grind (arith, nat_tests)

-- a line of more than 41 bytes is named where a space follows 40 bytes
named : (line : List ℕ) → 41 < length line → is_named line ≡ eqb (get_or line 40 0) 32
named line long =
    let longer : nat_lt 41 (length line) ≡ true = grind (arith, nat_tests) in
    let spaced : starts_with nat_eq (drop 40 line) (32 ∷ []) ≡ eqb (get_or line 40 0) 32 = begins 32 line 40 0 (omega arith) ∙ test_and 32 (get_or line 40 0) in
    rw (longer, spaced) (grind (arith, nat_tests))

-- a line of at most 41 bytes is not named
not_named : (line : List ℕ) → length line ≤ 41 → is_named line ≡ false
not_named line short =
    let no_longer : nat_lt 41 (length line) ≡ false = grind (arith, nat_tests) in
    rw no_longer (each (starts_with nat_eq (drop 40 line) (32 ∷ [])))
  where
    each : (b : Bool) → (b && false) ≡ false
    each true = refl
    each false = refl

abbrev ref_or_none : Bool → List ℕ → Option Name → Option PackedLine
ref_or_none b name o = cond b (option_map (λ head. Ref (record { name = name; head = head })) o) None

pub line_is_short : (line : List ℕ) → length line ≤ 41 → None ≡ ref_line line
line_is_short line short = sym (ap (λ (b : Bool). ref_or_none b (drop 41 line) (name_of (take 40 line))) (not_named line short))

pub line_has_no_space : (line : List ℕ) → 41 < length line → get_or line 40 0 ≢ 32 → None ≡ ref_line line
line_has_no_space line long differs =
    let none : eqb (get_or line 40 0) 32 ≡ false = grind (arith, nat_tests) in
    sym (ap (λ (b : Bool). ref_or_none b (drop 41 line) (name_of (take 40 line))) (named line long ∙ none))

pub line_has_no_head : (line : List ℕ) → 41 < length line → get_or line 40 0 ≡ 32 → name_of (take 40 line) ≡ None → None ≡ ref_line line
line_has_no_head line long space none =
    let is : is_named line ≡ true = named line long ∙ ap (λ (x : ℕ). eqb x 32) space in
    sym (ap (λ (b : Bool). ref_or_none b (drop 41 line) (name_of (take 40 line))) is ∙ ap (ref_or_none true (drop 41 line)) none)

pub line_is_ref : (line : List ℕ) (head : Name) → 41 < length line → get_or line 40 0 ≡ 32 → name_of (take 40 line) ≡ Some head
    → Some (Ref (record { name = take (length line - 41) (drop 41 line); head = head })) ≡ ref_line line
line_is_ref line head long space some =
    let is : is_named line ≡ true = named line long ∙ ap (λ (x : ℕ). eqb x 32) space in
    ap (λ (name : List ℕ). Some (Ref (record { name = name; head = head }))) (take_rest line 41)
    ∙ sym (ap (λ (b : Bool). ref_or_none b (drop 41 line) (name_of (take 40 line))) is ∙ ap (ref_or_none true (drop 41 line)) some)
