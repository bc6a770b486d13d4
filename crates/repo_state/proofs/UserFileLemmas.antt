-- What a user file names, and that it is no object.
use Rattle.std.proofs.Common.{◌≡◌, ℕ, ◌+◌, ◌-◌, ◌*◌, ◌<◌, ◌==◌, Bool, true, false, List, [], ◌∷◌, ◌++◌, length, take, drop, Option, Some, None, IsTrue, refl, sym, ◌∙◌, ap, subst, append_assoc, arith, length-append, length-drop, eqb-true}
use Rattle.std.specs.Prelude.{codes, IsErrOf, OnOk, Result, Ok, Err}
use Rattle.std.proofs.Math.Seq.{drop-append_seam}
use Rattle.std.proofs.lemmas.List.{take-append-drop}
use Rattle.std.proofs.lemmas.List.Folds.{list_all-append}
use Rattle.std.proofs.lemmas.Grind.{common_steps}
use Rattle.std.specs.List.{list_all}
use Rattle.hex.specs.Hex.{is_hex_digit, lower_digits}
use Rattle.hex.proofs.HexLemmas.{length-encode_with}
use Rattle.gb_text.specs.Digits.{id_of}
use Rattle.gb_text.specs.Folder.{joined, joint}
use Rattle.gb_text.specs.LineEnd.{line_of}
use Rattle.gb_text.specs.declared.id.Id.{Id}
use Rattle.gb_text.proofs.DigitLemmas.{id_of-is}
use Rattle.gb_store.specs.Files.{Files, History, Put}
use Rattle.gb_store.specs.Moments.{MaybeWrote, WroteIf}
use Rattle.gb_store.specs.declared.fault.StoreFault.{StoreFault}
use Rattle.gb_store.specs.declared.fault.StoreFault.TheVariants as store
use Rattle.gb_store.specs.declared.store.Change.{Change}
use Rattle.gb_store.proofs.MomentLemmas.{WroteIf_one}
use Rattle.gb_store.specs.ObjectPath.{is_object_path, reads_after}
use Rattle.gb_store.proofs.ObjectPathLemmas.{form_of_parts}
use Rattle.ref_store.proofs.IdPathLemmas.{both}
use Rattle.repo_state.specs.Answers.{PutAnswers, PutsUser}
use Rattle.repo_state.specs.Users.{BadUser, id_line, local_user, user_of, user_place, user_write}

-- ---- a user file is short

-- a file of more than 4,096 bytes names no one
pub long_is_bad : (files : Files) (folder text : List ℕ) → 4096 < length text → user_of files folder (Some text) ≡ BadUser
long_is_bad files folder text long = each (id_of (line_of text)) refl
  where
    each : (o : Option Id) → id_of (line_of text) ≡ o → local_user files folder (id_of (line_of text)) ≡ BadUser
    each None h = ap (local_user files folder) h
    each (Some id) h =
        let is = id_of-is (line_of text) id h in
        let sized : length (line_of text) ≡ 64 = ap length is.1 ∙ length-encode_with lower_digits id.bytes ∙ ap (λ n. 2 * n) is.0.sized in
        absurd (grind (arith, common_steps, long, sized))

-- ---- a user file is no object

-- a path with a byte that is no digit among its last thirty-eight is none of an object
pub ending_is_none : (path front tail : List ℕ) (c : ℕ) → path ≡ front ++ c ∷ tail → is_hex_digit c ≡ false → length tail < 38 → (b : Bool) → is_object_path path ≡ b → is_object_path path ≡ false
ending_is_none path front tail c is other short false e = e
ending_is_none path front tail c is other short true e =
    let form = form_of_parts path e in
    let rest = both (length form.rest == 38) (list_all is_hex_digit form.rest) form.rest_digits in
    let size : length form.rest ≡ 38 = eqb-true _ _ rest.0 in
    let before = form.front ++ codes "objects/" ++ form.fan ++ codes "/" in
    let k = 37 - length tail in
    let above = before ++ take k form.rest in
    let cut : form.rest ≡ take k form.rest ++ drop k form.rest = sym (take-append-drop k form.rest) in
    let one : path ≡ above ++ drop k form.rest =
    form.is ∙ ap (λ (t : List ℕ). form.front ++ codes "objects/" ++ form.fan ++ codes "/" ++ t) cut ∙ simp append_assoc in
    let first : length path ≡ length above + length (drop k form.rest) = ap length one ∙ length-append above (drop k form.rest) in
    let last : length (drop k form.rest) ≡ length tail + 1 = omega (arith, length-drop k form.rest) in
    let second : length path ≡ length front + (length tail + 1) = ap length is ∙ omega (arith, length-append front (c ∷ tail)) in
    let same : length above ≡ length front = omega arith in
    let here : drop (length above) path ≡ drop k form.rest = ap (drop (length above)) one ∙ drop-append_seam above (drop k form.rest) in
    let there : drop (length above) path ≡ c ∷ tail = ap (λ (n : ℕ). drop n path) same ∙ ap (drop (length front)) is ∙ drop-append_seam front (c ∷ tail) in
    let digits : list_all is_hex_digit (drop k form.rest) ≡ true =
    (both (list_all is_hex_digit (take k form.rest)) (list_all is_hex_digit (drop k form.rest)) (sym (list_all-append is_hex_digit (take k form.rest) (drop k form.rest)) ∙ ap (list_all is_hex_digit) (sym cut) ∙ rest.1)).1 in
    let letter : is_hex_digit c ≡ true = (both (is_hex_digit c) (list_all is_hex_digit tail) (ap (list_all is_hex_digit) (sym there ∙ here) ∙ digits)).0 in
    absurd (cc (sym other ∙ letter))

-- nor is one of such a place below a folder
pub place_is_no_object : (folder front tail : List ℕ) (c : ℕ) → is_hex_digit c ≡ false → length tail < 38 → is_object_path (joined folder (front ++ c ∷ tail)) ≡ false
place_is_no_object folder front tail c other short =
    let path : joined folder (front ++ c ∷ tail) ≡ (folder ++ joint folder ++ front) ++ c ∷ tail = simp append_assoc in
    ending_is_none (joined folder (front ++ c ∷ tail)) (folder ++ joint folder ++ front) tail c path other short (is_object_path (joined folder (front ++ c ∷ tail))) refl

user_place_is_no_object : (folder : List ℕ) → is_object_path (joined folder user_place) ≡ false
user_place_is_no_object folder = place_is_no_object folder (codes "git-bug/use") [] 114 refl (omega arith)

-- a read of the user file reads no object
pub reads_none : (folder path : List ℕ) (old new : ℕ) → path ≡ joined folder user_place → new ≡ reads_after path old → new ≡ old
reads_none folder path old new at reads = reads ∙ rw (ap is_object_path at ∙ user_place_is_no_object folder) refl

-- ---- the write of the user

-- what a store answers to a put is the answer to that write
pub put_answers : (change : Change) (old new : History) (result : Result Unit StoreFault) → OnOk result (new ≡ change ∷ old) → MaybeWrote change old new
    → (IsErrOf result store.Memory → new ≡ old) → PutAnswers change old new result
put_answers change old new (Ok done) made maybe none = made
put_answers change old new (Err store.Memory) made maybe none = none refl
put_answers change old new (Err store.Failed) made maybe none = maybe

-- an id's line that is put at the user file is the write of that user
pub user_write-is : (folder place line : List ℕ) (id : Id) → place ≡ joined folder user_place → line ≡ id_line id → Put place line ≡ user_write folder id
user_write-is folder place line id at is = ap (λ (p : List ℕ). Put p line) at ∙ ap (Put (joined folder user_place)) is

-- a put of the line of an id at the user's place is that write
pub user_write-wrote : (tells : Bool) (folder place line : List ℕ) (id : Id) (old new : History) → place ≡ joined folder user_place → line ≡ id_line id
    → (IsTrue tells → MaybeWrote (Put place line) old new) → WroteIf tells (PutsUser folder id) old new
user_write-wrote tells folder place line id old new at is made =
    WroteIf_one tells (PutsUser folder id) (user_write folder id) old new (λ t. refl) (λ t. subst (λ (w : Change). MaybeWrote w old new) (user_write-is folder place line id at is) (made t))
