-- Places of two ids' digits, one after another, and that they are the digits of an id.
use Rattle.std.proofs.Common.{◌≡◌, ℕ, zero, suc, ◌+◌, ◌-◌, ◌*◌, ◌/◌, ◌%◌, ◌<◌, ◌≤◌, Bool, true, false, List, [], ◌∷◌, ◌++◌, length, take, drop, slice_index, Result, Ok, Err, refl, sym, ap, subst, ◌∙◌, arith, append-nil, take_all, add-one, drop-cons, drop-drop, append_assoc}
use Rattle.std.proofs.Math.ListN.{set}
use Rattle.std.proofs.lemmas.List.{take_more_set}
use Rattle.std.proofs.lemmas.List.Elements.{All-append, All-cons, All-drop, All-head, All-nil, All-tail, All-take}
use Rattle.std.specs.List.{All}
use Rattle.std.specs.Prelude.{MatchResult}
use Rattle.hex.specs.declared.error.FromHexError.{FromHexError}
use Rattle.hex.specs.Hex.{IsBytes, decode_sized, encode_lower, encode_with, lower_digits}
use Rattle.hex.proofs.HexLemmas.{decode_sized-encode_lower}
use Rattle.combined_id.specs.Combined.{combined_from, combined_of, is_second}

-- ---- one place further

-- the next place is a digit of the secondary
pub second_place : (count place : ℕ) (one two : List ℕ) → is_second place ≡ true
    → combined_from (suc count) place one two ≡ take 1 two ++ combined_from count (suc place) one (drop 1 two)
unfolding combined_from
second_place count place one two h = rw h refl

-- it is a digit of the primary
pub first_place : (count place : ℕ) (one two : List ℕ) → is_second place ≡ false
    → combined_from (suc count) place one two ≡ take 1 one ++ combined_from count (suc place) (drop 1 one) two
unfolding combined_from
first_place count place one two h = rw h refl

-- ---- digits

-- a lower-case digit
pub record IsDigit (digit : ℕ) : Type 0 where
  pub value : ℕ
  pub below : value < 16
  pub is : digit ≡ slice_index lower_digits value

-- bytes print as digits
pub digits-encode_lower : (bytes : List ℕ) → IsBytes bytes → All IsDigit (encode_lower bytes)
unfolding encode_with
digits-encode_lower [] h = All-nil IsDigit
digits-encode_lower (b ∷ rest) h =
    let fits : b < 256 = h 0 in
    All-cons IsDigit (slice_index lower_digits (b / 16)) (slice_index lower_digits (b % 16) ∷ encode_lower rest)
    (record { value = b / 16; below = omega arith; is = refl })
    (All-cons IsDigit (slice_index lower_digits (b % 16)) (encode_lower rest) (record { value = b % 16; below = omega arith; is = refl })
    (digits-encode_lower rest (λ k. h (suc k))))

-- so do the places of two
pub digits-combined_from : (count place : ℕ) (one two : List ℕ) → All IsDigit one → All IsDigit two → All IsDigit (combined_from count place one two)
unfolding combined_from
digits-combined_from zero place one two first second = All-nil IsDigit
digits-combined_from (suc count) place one two first second =
    decide (is_second place) refl (digits-combined_from count (suc place) one (drop 1 two) first (All-drop IsDigit 1 two second))
    (digits-combined_from count (suc place) (drop 1 one) two (All-drop IsDigit 1 one first) second)
  where
    decide : (b : Bool) → is_second place ≡ b → All IsDigit (combined_from count (suc place) one (drop 1 two))
        → All IsDigit (combined_from count (suc place) (drop 1 one) two) → All IsDigit (combined_from (suc count) place one two)
    decide true h more _ =
        rw (second_place count place one two h) (All-append IsDigit (take 1 two) (combined_from count (suc place) one (drop 1 two)) (All-take IsDigit 1 two second) more)
    decide false h _ more =
        rw (first_place count place one two h) (All-append IsDigit (take 1 one) (combined_from count (suc place) (drop 1 one) two) (All-take IsDigit 1 one first) more)

-- bytes whose digits the text is
pub record HasBytes (text : List ℕ) (count : ℕ) : Type 0 where
  pub bytes : List ℕ
  pub are : IsBytes bytes
  pub sized : length bytes ≡ count
  pub prints : encode_lower bytes ≡ text

IsBytes-cons : (b : ℕ) (rest : List ℕ) → b < 256 → IsBytes rest → IsBytes (b ∷ rest)
IsBytes-cons b rest h hs zero = h
IsBytes-cons b rest h hs (suc i) = hs i

-- digits in pairs are those of bytes
pub bytes_of_digits : (count : ℕ) (text : List ℕ) → All IsDigit text → length text ≡ 2 * count → HasBytes text count
unfolding encode_with
bytes_of_digits zero [] all sized = record { bytes = []; are = λ i. omega arith; sized = refl; prints = refl }
bytes_of_digits (suc count) (high ∷ low ∷ rest) all sized =
    let one : IsDigit high = All-head IsDigit high (low ∷ rest) all in
    let others : All IsDigit (low ∷ rest) = All-tail IsDigit high (low ∷ rest) all in
    let two : IsDigit low = All-head IsDigit low rest others in
    let more = bytes_of_digits count rest (All-tail IsDigit low rest others) (omega arith) in
    let upper : (16 * one.value + two.value) / 16 ≡ one.value = omega (arith, one.below, two.below) in
    let lower : (16 * one.value + two.value) % 16 ≡ two.value = omega (arith, one.below, two.below) in
    record {
      bytes = (16 * one.value + two.value) ∷ more.bytes;
      are = IsBytes-cons _ _ (omega (arith, one.below, two.below)) more.are;
      sized = ap suc more.sized;
      prints = rw (upper, lower, ← one.is, ← two.is, more.prints) refl;
    }
bytes_of_digits zero (digit ∷ rest) all sized = absurd (omega arith)
bytes_of_digits (suc count) [] all sized = absurd (omega arith)
bytes_of_digits (suc count) (digit ∷ []) all sized = absurd (omega arith)

-- ---- the loop

-- a place further, by a digit of a list that is left from here on
take_next : (text one : List ℕ) (place here : ℕ) → place < length text → here < length one
    → (more : List ℕ) → take place text ++ (take 1 (drop here one) ++ more) ≡ take (place + 1) (set text place (slice_index one here)) ++ more
take_next text one place here inside some more =
    rw (drop-cons one here 0, take_more_set text place (slice_index one here), append_assoc) refl

drop_next : (xs : List ℕ) (n : ℕ) → drop 1 (drop n xs) ≡ drop (n + 1) xs
drop_next xs n = drop-drop 1 n xs

-- where the place is the secondary's, what stands, with what is left of both
pub one_second : (whole text one two : List ℕ) (place first second : ℕ) → place < 64 → length text ≡ 64 → second < length two → is_second place ≡ true
    → whole ≡ take place text ++ combined_from (64 - place) place (drop first one) (drop second two)
    → whole ≡ take (place + 1) (set text place (slice_index two second)) ++ combined_from (64 - (place + 1)) (place + 1) (drop first one) (drop (second + 1) two)
one_second whole text one two place first second below sized some is e =
    let rest = 64 - (place + 1) in
    let left : 64 - place ≡ suc rest = omega (arith, below) in
    let next : combined_from (64 - place) place (drop first one) (drop second two)
    ≡ take 1 (drop second two) ++ combined_from rest (place + 1) (drop first one) (drop (second + 1) two) =
    ap (λ (n : ℕ). combined_from n place (drop first one) (drop second two)) left ∙ second_place rest place (drop first one) (drop second two) is
    ∙ rw (add-one place, drop_next) refl in
    e ∙ ap (λ (more : List ℕ). take place text ++ more) next
    ∙ take_next text two place second (omega (arith, below, sized)) some (combined_from rest (place + 1) (drop first one) (drop (second + 1) two))

-- where it is the primary's
pub one_first : (whole text one two : List ℕ) (place first second : ℕ) → place < 64 → length text ≡ 64 → first < length one → is_second place ≡ false
    → whole ≡ take place text ++ combined_from (64 - place) place (drop first one) (drop second two)
    → whole ≡ take (place + 1) (set text place (slice_index one first)) ++ combined_from (64 - (place + 1)) (place + 1) (drop (first + 1) one) (drop second two)
one_first whole text one two place first second below sized some is e =
    let rest = 64 - (place + 1) in
    let left : 64 - place ≡ suc rest = omega (arith, below) in
    let next : combined_from (64 - place) place (drop first one) (drop second two)
    ≡ take 1 (drop first one) ++ combined_from rest (place + 1) (drop (first + 1) one) (drop second two) =
    ap (λ (n : ℕ). combined_from n place (drop first one) (drop second two)) left ∙ first_place rest place (drop first one) (drop second two) is
    ∙ rw (add-one place, drop_next) refl in
    e ∙ ap (λ (more : List ℕ). take place text ++ more) next
    ∙ take_next text one place first (omega (arith, below, sized)) some (combined_from rest (place + 1) (drop (first + 1) one) (drop second two))

-- at the end all stands
pub all_places : (whole text one two : List ℕ) (place : ℕ) → 64 ≤ place → length text ≡ 64
    → whole ≡ take place text ++ combined_from (64 - place) place one two → text ≡ whole
unfolding combined_from
all_places whole text one two place above sized e =
    let none : 64 - place ≡ 0 = omega (arith, above) in
    sym (e ∙ ap (λ (n : ℕ). take place text ++ combined_from n place one two) none ∙ append-nil (take place text)
    ∙ take_all place text (omega (arith, above, sized)))

-- ---- the id

-- places of the same digits
pub same_places : (one two first second digits : List ℕ) → digits ≡ combined_of first second → first ≡ one → second ≡ two → digits ≡ combined_of one two
same_places one two first second digits e same others = e ∙ ap (λ (t : List ℕ). combined_of t second) same ∙ ap (combined_of one) others

-- sized digits of two ids are those of an id
pub combined_bytes : (one two digits : List ℕ) → IsBytes one → IsBytes two → digits ≡ combined_of (encode_lower one) (encode_lower two)
    → length digits ≡ 64 → HasBytes digits 32
combined_bytes one two digits first second e sized =
    bytes_of_digits 32 digits
    (subst (All IsDigit) (sym e) (digits-combined_from 64 0 (encode_lower one) (encode_lower two) (digits-encode_lower one first) (digits-encode_lower two second)))
    sized

-- what decoding writes are these bytes
pub decoded_bytes : (digits out : List ℕ) (answer : Result Unit FromHexError) → HasBytes digits 32
    → MatchResult (decode_sized digits 32) (λ bytes. (answer ≡ Ok tt) × (out ≡ bytes)) (λ fault. answer ≡ Err fault)
    → IsBytes out × (length out ≡ 32) × (encode_lower out ≡ digits)
decoded_bytes digits out answer has h =
    let reads : decode_sized digits 32 ≡ Ok has.bytes =
    subst (λ (t : List ℕ). decode_sized t 32 ≡ Ok has.bytes) has.prints (decode_sized-encode_lower has.bytes 32 has.sized has.are) in
    let both : (answer ≡ Ok tt) × (out ≡ has.bytes) =
    subst (λ (r : Result (List ℕ) FromHexError). MatchResult r (λ bytes. (answer ≡ Ok tt) × (out ≡ bytes)) (λ fault. answer ≡ Err fault)) reads h in
    rw both.1 (has.are, has.sized, has.prints)
