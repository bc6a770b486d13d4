-- The place of an id's ref is no object's path.
use Rattle.std.proofs.Common.{◌≡◌, ◌≢◌, ◌⊎◌, ◌<◌, inl, inr, Result, Ok, Err, ℕ, ◌+◌, ◌*◌, ◌==◌, Bool, true, false, List, [], ◌∷◌, ◌++◌, length, take, drop, refl, sym, ◌∙◌, ap, append_assoc, arith, length-append, eqb-true}
use Rattle.std.specs.Prelude.{codes}
use Rattle.std.proofs.Math.Seq.{drop-append_seam}
use Rattle.std.proofs.lemmas.List.{take-append-drop, length-take-le}
use Rattle.std.proofs.lemmas.List.Folds.{list_all-append}
use Rattle.std.specs.List.{list_all}
use Rattle.std.proofs.lemmas.Bool.{and_parts}
use Rattle.hex.specs.Hex.{encode_lower, is_hex_digit, lower_digits}
use Rattle.hex.proofs.HexLemmas.{length-encode_with}
pub use Rattle.std.proofs.lemmas.Bool.{and_parts as both}
pub use Rattle.gb_text.proofs.AsciiLemmas.{encode_lower-digits, encode_lower-utf8}
use Rattle.gb_text.specs.Digits.{IsId}
use Rattle.gb_text.proofs.PathLemmas.{append_cases}
use Rattle.gb_text.specs.declared.id.Id.{Id}
use Rattle.gb_text.specs.Folder.{joined, joint}
use Rattle.gb_store.specs.ObjectPath.{is_object_path, reads_after}
use Rattle.gb_store.proofs.ObjectPathLemmas.{form_of_parts}
use Rattle.ref_store.specs.Listing.{id_place}
use Rattle.ref_store.specs.Refs.{ReadsOnce, packed_place}
use Rattle.ref_store.specs.declared.fault.RefFault.{RefFault}
use Rattle.ref_store.specs.declared.fault.RefFault.TheVariants as fault

-- a path that ends in more than thirty-eight digits is none of an object
long_is_none : (path front digits : List ℕ) → path ≡ front ++ digits → length digits ≡ 64 → list_all is_hex_digit digits ≡ true → (b : Bool) → is_object_path path ≡ b → is_object_path path ≡ false
long_is_none path front digits is sized all false e = e
long_is_none path front digits is sized all true e =
    let form = form_of_parts path e in
    let size : length form.rest ≡ 38 = eqb-true _ _ (and_parts (length form.rest == 38) (list_all is_hex_digit form.rest) form.rest_digits).0 in
    let before = form.front ++ codes "objects/" ++ form.fan in
    let one : path ≡ before ++ 47 ∷ form.rest = form.is ∙ simp append_assoc in
    let above = front ++ take 25 digits in
    let two : path ≡ above ++ drop 25 digits = is ∙ ap (λ (t : List ℕ). front ++ t) (sym (take-append-drop 25 digits)) ∙ sym (append_assoc front (take 25 digits) (drop 25 digits)) in
    let taken : length (take 25 digits) ≡ 25 = length-take-le 25 digits (omega arith) in
    let first : length path ≡ length before + 39 = ap length one ∙ omega (arith, length-append before (47 ∷ form.rest)) in
    let second : length path ≡ length front + 64 = ap length is ∙ omega (arith, length-append front digits) in
    let same : length above ≡ length before = omega (arith, length-append front (take 25 digits)) in
    let here : drop (length before) path ≡ 47 ∷ form.rest = ap (drop (length before)) one ∙ drop-append_seam before (47 ∷ form.rest) in
    let there : drop (length before) path ≡ drop 25 digits = ap (λ (k : ℕ). drop k path) (sym same) ∙ ap (drop (length above)) two ∙ drop-append_seam above (drop 25 digits) in
    let rest : list_all is_hex_digit (drop 25 digits) ≡ true = (and_parts (list_all is_hex_digit (take 25 digits)) (list_all is_hex_digit (drop 25 digits)) (sym (list_all-append is_hex_digit (take 25 digits) (drop 25 digits)) ∙ ap (list_all is_hex_digit) (take-append-drop 25 digits) ∙ all)).1 in
    let slash : list_all is_hex_digit (47 ∷ form.rest) ≡ true = ap (list_all is_hex_digit) (sym here ∙ there) ∙ rest in
    absurd (cc slash)

-- the place of an id is no object's
pub id_place_is_no_object : (folder dir : List ℕ) (id : Id) → IsId id → is_object_path (joined folder (id_place dir id)) ≡ false
id_place_is_no_object folder dir id is =
    let digits = encode_lower id.bytes in
    let sized : length digits ≡ 64 = length-encode_with lower_digits id.bytes ∙ ap (λ (n : ℕ). 2 * n) is.sized in
    let path : joined folder (id_place dir id) ≡ (folder ++ joint folder ++ dir ++ 47 ∷ []) ++ digits = simp append_assoc in
    long_is_none (joined folder (id_place dir id)) (folder ++ joint folder ++ dir ++ 47 ∷ []) digits path sized (encode_lower-digits id.bytes is.bytes) (is_object_path (joined folder (id_place dir id))) refl

-- ---- the place of packed refs

-- a path that ends in more than eleven digits is not that of packed refs
digits_are_not_packed : (path front digits folder : List ℕ) → path ≡ front ++ digits → 11 < length digits → list_all is_hex_digit digits ≡ true → path ≢ joined folder packed_place
digits_are_not_packed path front digits folder is long all same = each (append_cases front (folder ++ joint folder) digits packed_place (sym is ∙ same ∙ simp append_assoc))
  where
    each : ((rest : List ℕ) × (folder ++ joint folder ≡ front ++ rest) × (digits ≡ rest ++ packed_place)) ⊎ ((rest : List ℕ) × (front ≡ (folder ++ joint folder) ++ rest) × (packed_place ≡ rest ++ digits)) → ⊥
    each (inl ends) =
        let both = and_parts (list_all is_hex_digit ends.0) (list_all is_hex_digit packed_place) (sym (list_all-append is_hex_digit ends.0 packed_place) ∙ ap (list_all is_hex_digit) (sym ends.2) ∙ all) in
        cc (both.1)
    each (inr ends) =
        let sized : length packed_place ≡ length ends.0 + length digits = ap length ends.2 ∙ length-append ends.0 digits in
        omega (arith, long, sized)

-- nor is that of an object
pub object_is_not_packed : (folder path : List ℕ) → is_object_path path ≡ true → path ≢ joined folder packed_place
object_is_not_packed folder path is =
    let form = form_of_parts path is in
    let parts = and_parts (length form.rest == 38) (list_all is_hex_digit form.rest) form.rest_digits in
    let sized : length form.rest ≡ 38 = eqb-true _ _ parts.0 in
    let ends : path ≡ (form.front ++ codes "objects/" ++ form.fan ++ codes "/") ++ form.rest = form.is ∙ simp append_assoc in
    digits_are_not_packed path (form.front ++ codes "objects/" ++ form.fan ++ codes "/") form.rest folder ends (omega (arith, sized)) parts.1

-- so it is no object's
pub packed_is_no_object : (folder : List ℕ) → is_object_path (joined folder packed_place) ≡ false
packed_is_no_object folder = each (is_object_path (joined folder packed_place)) refl
  where
    each : (b : Bool) → is_object_path (joined folder packed_place) ≡ b → is_object_path (joined folder packed_place) ≡ false
    each false e = e
    each true e = absurd (object_is_not_packed folder (joined folder packed_place) e refl)

-- and a read of it reads no object
pub packed_reads_none : (folder path : List ℕ) (old new : ℕ) → path ≡ joined folder packed_place → new ≡ reads_after path old → new ≡ old
packed_reads_none folder path old new is after = after ∙ rw (ap is_object_path is ∙ packed_is_no_object folder) refl

-- nor is that of an id's ref
pub id_place_is_not_packed : (folder other dir : List ℕ) (id : Id) → IsId id → joined folder (id_place dir id) ≢ joined other packed_place
id_place_is_not_packed folder other dir id is =
    let digits = encode_lower id.bytes in
    let sized : length digits ≡ 64 = length-encode_with lower_digits id.bytes ∙ ap (λ (n : ℕ). 2 * n) is.sized in
    let path : joined folder (id_place dir id) ≡ (folder ++ joint folder ++ dir ++ 47 ∷ []) ++ digits = simp append_assoc in
    digits_are_not_packed (joined folder (id_place dir id)) (folder ++ joint folder ++ dir ++ 47 ∷ []) digits other path (omega (arith, sized)) (encode_lower-digits id.bytes is.bytes)

-- a read of another path reads no object
pub reads_none : {T : Type 0} (path : List ℕ) (r : Result T RefFault) (old new : ℕ) → is_object_path path ≡ false → ReadsOnce path r old new → new ≡ old
reads_none path (Ok value) old new other after = after ∙ rw other refl
reads_none path (Err fault.Memory) old new other (inl same) = same
reads_none path (Err fault.Memory) old new other (inr after) = after ∙ rw other refl
reads_none path (Err fault.Disk) old new other after = after ∙ rw other refl
reads_none path (Err (fault.BadRef at)) old new other after = after ∙ rw other refl
