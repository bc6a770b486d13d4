-- The places of rows: distinct, in the cache, and of no object.
use Rattle.std.proofs.Common.{◌≡◌, ◌≢◌, ℕ, ◌*◌, ◌==◌, ◌&&◌, ◌||◌, Bool, true, false, List, [], ◌∷◌, ◌++◌, length, reverse, refl, sym, ◌∙◌, ap, append_assoc, eqb-true}
use Rattle.std.specs.Prelude.{codes}
use Rattle.std.specs.List.{list_all, list_any}
use Rattle.std.specs.Str.{bytes_eq}
use Rattle.std.proofs.lemmas.Bool.{and_parts}
use Rattle.std.proofs.lemmas.List.{append_cancel_left, reverse-append}
use Rattle.hex.specs.Hex.{encode_lower, is_hex_digit, lower_digits}
use Rattle.hex.proofs.HexLemmas.{length-encode_with}
use Rattle.gb_text.specs.Digits.{IsId}
use Rattle.gb_text.specs.Folder.{joined, joint, parts_of}
use Rattle.gb_text.specs.declared.id.Id.{Id}
use Rattle.gb_text.proofs.AsciiLemmas.{encode_lower-digits}
use Rattle.gb_text.proofs.DigitLemmas.{id_digits-same}
use Rattle.gb_text.proofs.PartLemmas.{parts_of-at_slash, parts_of-join_with_byte}
use Rattle.gb_text.proofs.PathLemmas.{joined-rest}
use Rattle.gb_store.specs.ObjectPath.{ends_as_object, is_digits, is_object_path}
use Rattle.excerpt_cache.specs.Rows.{IsInCache, row_place}

-- rows are in the cache
pub row_place-in_cache : (id : Id) → IsInCache (row_place id)
row_place-in_cache id = (codes "bugs/" ++ encode_lower id.bytes, refl)

-- distinct ids have distinct places
pub row_place-same : (one two : Id) → IsId one → IsId two → row_place one ≡ row_place two → one ≡ two
row_place-same one two first second e =
    id_digits-same one two first second (append_cancel_left (codes "git-bug/cache/bugs/") (encode_lower one.bytes) (encode_lower two.bytes) e)

-- and distinct paths
pub row_paths-differ : (folder : List ℕ) (one two : Id) → IsId one → IsId two → one ≢ two → joined folder (row_place one) ≢ joined folder (row_place two)
row_paths-differ folder one two first second differ e = differ (row_place-same one two first second (joined-rest folder (row_place one) (row_place two) e))

-- digits have no slash
no_slash : (digits : List ℕ) → list_all is_hex_digit digits ≡ true → list_any (λ c. c == 47) digits ≡ false
no_slash [] e = refl
no_slash (d ∷ ds) e = each (d == 47) refl (no_slash ds (and_parts (is_hex_digit d) (list_all is_hex_digit ds) e).1)
  where
    each : (b : Bool) → (d == 47) ≡ b → list_any (λ c. c == 47) ds ≡ false → list_any (λ c. c == 47) (d ∷ ds) ≡ false
    each true is later =
        let slash : d ≡ 47 = eqb-true d 47 is in
        absurd (cc (ap is_hex_digit (sym slash) ∙ (and_parts (is_hex_digit d) (list_all is_hex_digit ds) e).0))
    each false is later = ap (λ (b : Bool). b || list_any (λ c. c == 47) ds) is ∙ later

-- a last part of 64 bytes is none of an object's
long_ends_none : (part : List ℕ) (above : List (List ℕ)) → length part ≡ 64 → ends_as_object (part ∷ above) ≡ false
long_ends_none part [] sized = refl
long_ends_none part (fan ∷ []) sized = refl
long_ends_none part (fan ∷ dir ∷ front) sized =
    ap (λ (n : ℕ). ((n == 38) && list_all is_hex_digit part) && (is_digits 2 fan && bytes_eq dir (codes "objects"))) sized

-- a path whose last part has 64 digits is no object's
pub row_place_is_no_object : (folder : List ℕ) (id : Id) → IsId id → is_object_path (joined folder (row_place id)) ≡ false
unfolding is_object_path
row_place_is_no_object folder id is =
    let digits = encode_lower id.bytes in
    let above = folder ++ joint folder ++ codes "git-bug/cache/bugs" in
    let sized : length digits ≡ 64 = length-encode_with lower_digits id.bytes ∙ ap (λ (n : ℕ). 2 * n) is.sized in
    let path : joined folder (row_place id) ≡ above ++ 47 ∷ digits = simp append_assoc in
    let last : parts_of digits ≡ digits ∷ [] = parts_of-join_with_byte digits [] (no_slash digits (encode_lower-digits id.bytes is.bytes), tt) in
    let parts : parts_of (joined folder (row_place id)) ≡ parts_of above ++ digits ∷ [] =
    ap parts_of path ∙ parts_of-at_slash above digits ∙ ap (λ (l : List (List ℕ)). parts_of above ++ l) last in
    ap (λ (l : List (List ℕ)). ends_as_object (reverse l)) parts
    ∙ ap ends_as_object (reverse-append (parts_of above) (digits ∷ []))
    ∙ long_ends_none digits (reverse (parts_of above)) sized
