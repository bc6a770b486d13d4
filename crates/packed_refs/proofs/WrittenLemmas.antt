-- Refs that are written read back, and those that were read can be written.
use Rattle.std.proofs.Common.{◌≡◌, ◌≢◌, ℕ, ◌<◌, Bool, true, false, eqb, eqb-true, if◌then◌else◌, List, [], ◌∷◌, ◌++◌, length, map, take, drop, Option, Some, None, option_and_then, refl, sym, ◌∙◌, ap, subst, append_assoc, length-append, arith}
use Rattle.std.specs.Prelude.{All, nat_eq, nat_lt, is_some, ◌&&◌}
use Rattle.std.specs.List.{list_all, starts_with}
use Rattle.std.specs.Option.{option_map}
use Rattle.std.proofs.Math.Seq.{take-append_seam}
use Rattle.std.proofs.lemmas.Bool.{and_parts, eqb-false}
use Rattle.std.proofs.lemmas.Bool.Decides.{nat_tests}
use Rattle.std.proofs.lemmas.Grind.{flat_map-append}
use Rattle.std.proofs.lemmas.List.{append-nil, drop_at, length-drop, map-append}
use Rattle.std.proofs.lemmas.List.Elements.{All-append, All-cons, All-drop, All-head, All-nil, All-tail}
use Rattle.hex.specs.Hex.{encode_lower, is_hex_digit}
use Rattle.gb_text.specs.Digits.{name_of}
use Rattle.gb_text.specs.declared.id.Name.{Name}
use Rattle.gb_text.proofs.AsciiLemmas.{encode_lower-digits}
use Rattle.gb_text.proofs.DigitLemmas.{name_digits-sized, name_of-encode_lower, name_of-is}
use Rattle.packed_refs.specs.Lines.{HasNoLineFeed, lines_of, onto_first, text_of}
use Rattle.packed_refs.specs.Packed.{Note, PackedLine, PackedRef, Ref, is_comment, is_named, is_peeled, packed_line, packed_refs, ref_line, refs_of_lines, with_line}
use Rattle.packed_refs.specs.Written.{IsPackable, line_of, packed_text}
use Rattle.packed_refs.proofs.TextLemmas.{lines_of-text}

-- ---- a line of a ref

-- what begins with a digit does not begin with a byte that is none
begins_with_digit : (digits rest : List ℕ) (c : ℕ) → list_all is_hex_digit digits ≡ true → length digits ≡ 40 → is_hex_digit c ≡ false
    → starts_with nat_eq (digits ++ rest) (c ∷ []) ≡ false
begins_with_digit [] rest c all sized other = absurd (omega (arith, sized))
begins_with_digit (d ∷ ds) rest c all sized other = each (eqb c d) refl
  where
    each : (b : Bool) → eqb c d ≡ b → (b && true) ≡ false
    each false e = refl
    each true e =
        let digit : is_hex_digit d ≡ true = (and_parts (is_hex_digit d) (list_all is_hex_digit ds) all).0 in
        absurd (cc (sym other ∙ ap is_hex_digit (eqb-true c d e) ∙ digit))

-- no digit is a line feed
pub digits_have_no_line_feed : (digits : List ℕ) → list_all is_hex_digit digits ≡ true → HasNoLineFeed digits
digits_have_no_line_feed [] all = All-nil (λ byte. byte ≢ 10)
digits_have_no_line_feed (d ∷ ds) all =
    let parts = and_parts (is_hex_digit d) (list_all is_hex_digit ds) all in
    All-cons (λ byte. byte ≢ 10) d ds (λ e. let digit : is_hex_digit 10 ≡ true = ap is_hex_digit (sym e) ∙ parts.0 in cc digit) (digits_have_no_line_feed ds parts.1)

module _ (one : PackedRef) (is : IsPackable one) where
  abbrev digits : List ℕ
  digits = encode_lower one.head.bytes

  sized : length digits ≡ 40
  sized = name_digits-sized one.head is.is_name

  all_digits : list_all is_hex_digit digits ≡ true
  all_digits = encode_lower-digits one.head.bytes is.is_name.bytes

  no_comment : is_comment (line_of one) ≡ false
  no_comment = begins_with_digit digits (32 ∷ one.name) 35 all_digits sized refl

  not_peeled : is_peeled (line_of one) ≡ false
  not_peeled = ap (λ (b : Bool). b && is_some (name_of (drop 1 (line_of one)))) (begins_with_digit digits (32 ∷ one.name) 94 all_digits sized refl)

  longer : (name : List ℕ) → name ≢ [] → 0 < length name
  longer [] some = absurd (some refl)
  longer (x ∷ xs) some = omega arith

  named : is_named (line_of one) ≡ true
  named =
      let long : 41 < length (line_of one) = omega (arith, length-append digits (32 ∷ one.name), sized, longer one.name is.some) in
      let longer : nat_lt 41 (length (line_of one)) ≡ true = grind (arith, nat_tests) in
      ap (λ (rest : List ℕ). starts_with nat_eq rest (32 ∷ []) && nat_lt 41 (length (line_of one))) (drop_at digits (32 ∷ one.name) 40 sized) ∙ longer

  head_part : take 40 (line_of one) ≡ digits
  head_part = ap (λ (n : ℕ). take n (line_of one)) (sym sized) ∙ take-append_seam digits (32 ∷ one.name)

  name_part : drop 41 (line_of one) ≡ one.name
  name_part =
      ap (drop 41) (sym (append_assoc digits (32 ∷ []) one.name))
      ∙ drop_at (digits ++ 32 ∷ []) one.name 41 (omega (arith, length-append digits (32 ∷ []), sized))

  -- the line of a ref is one
  line_reads : packed_line (line_of one) ≡ Some (Ref one)
  line_reads =
      let reads : name_of (take 40 (line_of one)) ≡ Some one.head = ap name_of head_part ∙ name_of-encode_lower one.head is.is_name in
      ap (λ (b : Bool). if b then Some Note else if is_peeled (line_of one) then Some Note else ref_line (line_of one)) no_comment
      ∙ ap (λ (b : Bool). if b then Some Note else ref_line (line_of one)) not_peeled
      ∙ ap (λ (b : Bool). if b then option_map (λ head. Ref (record { name = drop 41 (line_of one); head = head })) (name_of (take 40 (line_of one))) else None) named
      ∙ ap (λ (o : Option Name). option_map (λ head. Ref (record { name = drop 41 (line_of one); head = head })) o) reads
      ∙ ap (λ (name : List ℕ). Some (Ref (record { name = name; head = one.head }))) name_part

  line_has_no_line_feed : HasNoLineFeed (line_of one)
  line_has_no_line_feed =
      All-append (λ byte. byte ≢ 10) digits (32 ∷ one.name) (digits_have_no_line_feed digits all_digits)
      (All-cons (λ byte. byte ≢ 10) 32 one.name (λ e. absurd (omega (arith, e))) is.no_line_feed)

-- ---- the text of refs

lines_have_no_line_feed : (refs : List PackedRef) → All IsPackable refs → All HasNoLineFeed (map line_of refs)
lines_have_no_line_feed [] all = All-nil HasNoLineFeed
lines_have_no_line_feed (one ∷ refs) all =
    All-cons HasNoLineFeed (line_of one) (map line_of refs) (line_has_no_line_feed one (All-head IsPackable one refs all)) (lines_have_no_line_feed refs (All-tail IsPackable one refs all))

lines_read : (refs : List PackedRef) → All IsPackable refs → refs_of_lines (map line_of refs) ≡ Some refs
unfolding refs_of_lines
lines_read [] all = refl
lines_read (one ∷ refs) all =
    ap (λ (o : Option PackedLine). option_and_then (λ line. option_map (with_line line) (refs_of_lines (map line_of refs))) o) (line_reads one (All-head IsPackable one refs all))
    ∙ ap (option_map (with_line (Ref one))) (lines_read refs (All-tail IsPackable one refs all))

-- the text of refs has them
pub written_reads : (refs : List PackedRef) → All IsPackable refs → packed_refs (packed_text refs) ≡ Some refs
written_reads refs all = ap refs_of_lines (lines_of-text (map line_of refs) (lines_have_no_line_feed refs all)) ∙ lines_read refs all

-- one ref more
pub text_more : (refs : List PackedRef) (one : PackedRef) → packed_text (refs ++ one ∷ []) ≡ packed_text refs ++ (line_of one ++ 10 ∷ [])
text_more refs one =
    ap text_of (map-append line_of refs (one ∷ [])) ∙ flat_map-append (λ line. line ++ 10 ∷ []) (map line_of refs) (line_of one ∷ [])
    ∙ ap (λ (t : List ℕ). packed_text refs ++ t) (append-nil (line_of one ++ 10 ∷ []))

-- ---- what is read

-- a line of a text has no line feed
onto_first_without : (x : ℕ) (lines : List (List ℕ)) → x ≢ 10 → All HasNoLineFeed lines → All HasNoLineFeed (onto_first x lines)
onto_first_without x [] other all = All-cons HasNoLineFeed (x ∷ []) [] (All-cons (λ byte. byte ≢ 10) x [] other (All-nil (λ byte. byte ≢ 10))) (All-nil HasNoLineFeed)
onto_first_without x (line ∷ lines) other all =
    All-cons HasNoLineFeed (x ∷ line) lines (All-cons (λ byte. byte ≢ 10) x line other (All-head HasNoLineFeed line lines all)) (All-tail HasNoLineFeed line lines all)

read_lines_have_no_line_feed : (text : List ℕ) → All HasNoLineFeed (lines_of text)
unfolding lines_of
read_lines_have_no_line_feed [] = All-nil HasNoLineFeed
read_lines_have_no_line_feed (x ∷ xs) = each (read_lines_have_no_line_feed xs) (eqb x 10) refl
  where
    each : All HasNoLineFeed (lines_of xs) → (b : Bool) → eqb x 10 ≡ b → All HasNoLineFeed (if b then [] ∷ lines_of xs else onto_first x (lines_of xs))
    each later true e = All-cons HasNoLineFeed [] (lines_of xs) (All-nil (λ byte. byte ≢ 10)) later
    each later false e = onto_first_without x (lines_of xs) (eqb-false x 10 e) later

ref_line_packable : (line : List ℕ) (one : PackedRef) → HasNoLineFeed line → ref_line line ≡ Some (Ref one) → IsPackable one
ref_line_packable line one none e = by (is_named line) refl (name_of (take 40 line)) refl e
  where
    by : (b : Bool) → is_named line ≡ b → (o : Option Name) → name_of (take 40 line) ≡ o
        → (if b then option_map (λ head. Ref (record { name = drop 41 line; head = head })) o else None) ≡ Some (Ref one) → IsPackable one
    by false is o at e = absurd cc
    by true is None at e = absurd cc
    by true is (Some head) at e =
        let same : record { name = drop 41 line; head = head } ≡ one = cc in
        let test : nat_lt 41 (length line) ≡ true = (and_parts (starts_with nat_eq (drop 40 line) (32 ∷ [])) (nat_lt 41 (length line)) is).1 in
        let long : 41 < length line = grind (arith, nat_tests) in
        subst IsPackable same (record {
          is_name = (name_of-is (take 40 line) head at).0;
          some = λ nil. (let size : length (drop 41 line) ≡ 0 = ap length nil in omega (arith, length-drop 41 line, size, long));
          no_line_feed = All-drop (λ byte. byte ≢ 10) 41 line none;
        })

line_packable : (line : List ℕ) (one : PackedRef) → HasNoLineFeed line → packed_line line ≡ Some (Ref one) → IsPackable one
line_packable line one none e = by (is_comment line) (is_peeled line) e
  where
    by : (b c : Bool) → (if b then Some Note else if c then Some Note else ref_line line) ≡ Some (Ref one) → IsPackable one
    by true c e = absurd cc
    by false true e = absurd cc
    by false false e = ref_line_packable line one none e

lines_packable : (lines : List (List ℕ)) (refs : List PackedRef) → All HasNoLineFeed lines → refs_of_lines lines ≡ Some refs → All IsPackable refs
unfolding refs_of_lines
lines_packable [] refs none e = let same : [] ≡ refs = cc in subst (All IsPackable) same (All-nil IsPackable)
lines_packable (line ∷ lines) refs none e =
    by (packed_line line) refl (refs_of_lines lines) (λ more. lines_packable lines more (All-tail HasNoLineFeed line lines none)) e
  where
    by : (o : Option PackedLine) → packed_line line ≡ o → (rest : Option (List PackedRef)) → ((more : List PackedRef) → rest ≡ Some more → All IsPackable more)
        → option_and_then (λ one. option_map (with_line one) rest) o ≡ Some refs → All IsPackable refs
    by None at rest later e = absurd cc
    by (Some one) at None later e = absurd cc
    by (Some Note) at (Some more) later e = let same : more ≡ refs = cc in subst (All IsPackable) same (later more refl)
    by (Some (Ref one)) at (Some more) later e =
        let same : one ∷ more ≡ refs = cc in
        subst (All IsPackable) same (All-cons IsPackable one more (line_packable line one (All-head HasNoLineFeed line lines none) at) (later more refl))

-- what a text has can be written
pub read_is_packable : (text : List ℕ) (refs : List PackedRef) → packed_refs text ≡ Some refs → All IsPackable refs
read_is_packable text refs e = lines_packable (lines_of text) refs (read_lines_have_no_line_feed text) e
