-- Digits of bytes read back, and only digits read.
use Rattle.std.proofs.Common.{◌≡◌, ℕ, ◌*◌, List, length, Option, Some, None, Result, Ok, Err, refl, sym, ◌∙◌, ap, arith}
use Rattle.std.proofs.lemmas.Grind.{common_steps}
use Rattle.std.proofs.lemmas.Slice.Eq.{bytes_eq-Decides}
use Rattle.std.specs.Option.{option_and_then, option_map}
use Rattle.std.specs.Result.{result_ok}
use Rattle.hex.specs.declared.error.FromHexError.{FromHexError}
use Rattle.hex.specs.Hex.{IsBytes, encode_lower, lower_digits, decode_of, decode_sized}
use Rattle.hex.proofs.HexLemmas.{length-encode_with, decode_of-encode_lower, decode_of-ok, decode_sized-twice}
use Rattle.gb_text.specs.declared.id.Id.{Id}
use Rattle.gb_text.specs.declared.id.Name.{Name}
use Rattle.gb_text.specs.Digits.{IsId, IsName, printed_as, bytes_of_digits, id_of, name_of}

printed_as-is : (n : ℕ) (text bytes found : List ℕ) → printed_as n text bytes ≡ Some found
    → (length found ≡ n) × (text ≡ encode_lower found) × (bytes ≡ found)
printed_as-is n text bytes found e = grind (arith, common_steps, bytes_eq-Decides (encode_lower bytes) text)

printed_as-self : (n : ℕ) (bytes : List ℕ) → length bytes ≡ n → printed_as n (encode_lower bytes) bytes ≡ Some bytes
printed_as-self n bytes e = grind (arith, common_steps, bytes_eq-Decides (encode_lower bytes) (encode_lower bytes))

-- the digits of n bytes read as these
pub bytes_of_digits-encode_lower : (n : ℕ) (bytes : List ℕ) → length bytes ≡ n → IsBytes bytes → bytes_of_digits n (encode_lower bytes) ≡ Some bytes
bytes_of_digits-encode_lower n bytes sized are =
    ap (λ (r : Result (List ℕ) FromHexError). option_and_then (printed_as n (encode_lower bytes)) (result_ok r)) (decode_of-encode_lower bytes are)
    ∙ printed_as-self n bytes sized

-- what reads is n bytes, and the text is their digits
pub bytes_of_digits-is : (n : ℕ) (text bytes : List ℕ) → bytes_of_digits n text ≡ Some bytes
    → (length bytes ≡ n) × IsBytes bytes × (text ≡ encode_lower bytes)
bytes_of_digits-is n text bytes e = each (decode_of text) refl
  where
    each : (r : Result (List ℕ) FromHexError) → decode_of text ≡ r → (length bytes ≡ n) × IsBytes bytes × (text ≡ encode_lower bytes)
    each (Err fault) h = cc (sym e ∙ ap (λ (r : Result (List ℕ) FromHexError). option_and_then (printed_as n text) (result_ok r)) h)
    each (Ok found) h =
        let is = printed_as-is n text found bytes (sym (ap (λ (r : Result (List ℕ) FromHexError). option_and_then (printed_as n text) (result_ok r)) h) ∙ e) in
        (is.0, (decode_of-ok text bytes (h ∙ ap Ok is.2)).3, is.1)

-- what doesn't decode into room for n bytes is no text of n bytes
pub refused_digits : (n : ℕ) (text : List ℕ) (fault : FromHexError) → decode_sized text n ≡ Err fault → bytes_of_digits n text ≡ None
refused_digits n text fault e = each (bytes_of_digits n text) refl
  where
    each : (o : Option (List ℕ)) → bytes_of_digits n text ≡ o → bytes_of_digits n text ≡ None
    each None h = h
    each (Some bytes) h =
        let is = bytes_of_digits-is n text bytes h in
        let decodes : decode_of text ≡ Ok bytes = ap decode_of is.2 ∙ decode_of-encode_lower bytes is.1 in
        let twice : length text ≡ 2 * n = omega (arith, is.0, (decode_of-ok text bytes decodes).2) in
        cc (sym e ∙ decode_sized-twice text n twice ∙ decodes)

-- the digits of an id read as it
pub id_of-encode_lower : (id : Id) → IsId id → id_of (encode_lower id.bytes) ≡ Some id
id_of-encode_lower id is =
    ap (λ (o : Option (List ℕ)). option_map (λ bytes. record { bytes = bytes }) o) (bytes_of_digits-encode_lower 32 id.bytes is.sized is.bytes)

-- what reads as an id is its digits
pub id_of-is : (text : List ℕ) (id : Id) → id_of text ≡ Some id → IsId id × (text ≡ encode_lower id.bytes)
id_of-is text id e = each (bytes_of_digits 32 text) refl
  where
    each : (o : Option (List ℕ)) → bytes_of_digits 32 text ≡ o → IsId id × (text ≡ encode_lower id.bytes)
    each None h = cc (sym e ∙ ap (λ (o : Option (List ℕ)). option_map (λ bytes. record { bytes = bytes }) o) h)
    each (Some bytes) h =
        let same : Some (record { bytes = bytes }) ≡ Some id = sym (ap (λ (o : Option (List ℕ)). option_map (λ bytes. record { bytes = bytes }) o) h) ∙ e in
        let is = bytes_of_digits-is 32 text bytes h in
        let eq : bytes ≡ id.bytes = grind (arith, same) in
        rw (← eq) (record { sized = is.0; bytes = is.1 }, is.2)

-- the digits of a name read as it
pub name_of-encode_lower : (name : Name) → IsName name → name_of (encode_lower name.bytes) ≡ Some name
name_of-encode_lower name is =
    ap (λ (o : Option (List ℕ)). option_map (λ bytes. record { bytes = bytes }) o) (bytes_of_digits-encode_lower 20 name.bytes is.sized is.bytes)

-- what reads as a name is its digits
pub name_of-is : (text : List ℕ) (name : Name) → name_of text ≡ Some name → IsName name × (text ≡ encode_lower name.bytes)
name_of-is text name e = each (bytes_of_digits 20 text) refl
  where
    each : (o : Option (List ℕ)) → bytes_of_digits 20 text ≡ o → IsName name × (text ≡ encode_lower name.bytes)
    each None h = cc (sym e ∙ ap (λ (o : Option (List ℕ)). option_map (λ bytes. record { bytes = bytes }) o) h)
    each (Some bytes) h =
        let same : Some (record { bytes = bytes }) ≡ Some name = sym (ap (λ (o : Option (List ℕ)). option_map (λ bytes. record { bytes = bytes }) o) h) ∙ e in
        let is = bytes_of_digits-is 20 text bytes h in
        let eq : bytes ≡ name.bytes = grind (arith, same) in
        rw (← eq) (record { sized = is.0; bytes = is.1 }, is.2)

-- ids with the same digits are the same
pub id_digits-same : (one two : Id) → IsId one → IsId two → encode_lower one.bytes ≡ encode_lower two.bytes → one ≡ two
id_digits-same one two first second e =
    let same : Some one ≡ Some two = sym (id_of-encode_lower one first) ∙ ap id_of e ∙ id_of-encode_lower two second in
    cc

-- names with the same digits are the same
pub name_digits-same : (one two : Name) → IsName one → IsName two → encode_lower one.bytes ≡ encode_lower two.bytes → one ≡ two
name_digits-same one two first second e =
    let same : Some one ≡ Some two = sym (name_of-encode_lower one first) ∙ ap name_of e ∙ name_of-encode_lower two second in
    cc

-- a name has 40 digits
pub name_digits-sized : (name : Name) → IsName name → length (encode_lower name.bytes) ≡ 40
name_digits-sized name is = length-encode_with lower_digits name.bytes ∙ ap (λ (n : ℕ). 2 * n) is.sized
