-- What a write below one folder leaves as it was below another.
use Rattle.std.proofs.Common.{◌≡◌, ◌≢◌, ◌⊎◌, ℕ, true, false, List, [], ◌∷◌, ◌++◌, length, take, drop, inl, inr, refl, sym, ◌∙◌, ap, arith, length-append, length-drop, length-take}
use Rattle.std.specs.Prelude.{codes}
use Rattle.std.proofs.lemmas.Grind.{common_steps}
use Rattle.std.proofs.lemmas.Slice.Eq.{bytes_eq-Decides}
use Rattle.hex.specs.Hex.{encode_lower}
use Rattle.gb_text.specs.Digits.{IsName}
use Rattle.gb_text.specs.Folder.{is_rooted, joint, joined}
use Rattle.gb_text.specs.Overlap.{Overlap}
use Rattle.gb_text.specs.declared.id.Name.{Name}
use Rattle.gb_text.proofs.DigitLemmas.{name_digits-same, name_digits-sized}
use Rattle.gb_text.proofs.PathLemmas.{append_cases, Overlap-joined, joined-rest}
use Rattle.gb_store.specs.declared.store.Change.{Change}
use Rattle.gb_store.specs.Files.{Files, written}
use Rattle.gb_store.specs.ObjectPath.{is_object_path, object_place}
use Rattle.gb_store.proofs.ObjectPathLemmas.{is_object_path-form, object_place-form}

-- a write changes its path
pub written-same : (files : Files) (change : Change) → written files change change.path ≡ change.bytes
written-same files change = rw ((bytes_eq-Decides change.path change.path).1 refl) refl

-- a write leaves each other path
pub written-other : (files : Files) (change : Change) (path : List ℕ) → change.path ≢ path → written files change path ≡ files path
written-other files change path other = grind (arith, common_steps, bytes_eq-Decides change.path path)

-- folders that do not overlap
pub written-apart : (files : Files) (change : Change) (folder other place rest : List ℕ) → change.path ≡ joined other place → is_rooted place ≡ false → is_rooted rest ≡ false
    → (Overlap folder other → ⊥) → written files change (joined folder rest) ≡ files (joined folder rest)
written-apart files change folder other place rest is plain also apart =
    written-other files change (joined folder rest) (λ same. apart (Overlap-joined folder other rest place also plain (sym same ∙ is)))

-- places of one folder that differ
pub written-beside : (files : Files) (change : Change) (folder place rest : List ℕ) → change.path ≡ joined folder place → place ≢ rest
    → written files change (joined folder rest) ≡ files (joined folder rest)
written-beside files change folder place rest is differ =
    written-other files change (joined folder rest) (λ same. differ (joined-rest folder place rest (sym is ∙ same)))

-- a path that is no object's
pub written-no_object : (files : Files) (change : Change) (folder : List ℕ) (name : Name) → is_object_path change.path ≡ false → IsName name
    → written files change (joined folder (object_place name)) ≡ files (joined folder (object_place name))
written-no_object files change folder name none is =
    written-other files change (joined folder (object_place name))
    (λ same. let yes : is_object_path change.path ≡ true = ap is_object_path same ∙ is_object_path-form _ (object_place-form folder name is) in cc (none))

-- ---- places of objects

-- digits behind the folder of objects, with a slash behind the second
cut_same : (xs ys : List ℕ) → length xs ≡ 40 → length ys ≡ 40 → codes "objects/" ++ take 2 xs ++ codes "/" ++ drop 2 xs ≡ codes "objects/" ++ take 2 ys ++ codes "/" ++ drop 2 ys → xs ≡ ys
cut_same [] ys one two e = absurd (omega arith)
cut_same (a ∷ []) ys one two e = absurd (omega arith)
cut_same (a ∷ b ∷ xs) [] one two e = absurd (omega arith)
cut_same (a ∷ b ∷ xs) (c ∷ []) one two e = absurd (omega arith)
cut_same (a ∷ b ∷ xs) (c ∷ d ∷ ys) one two e = cc

-- one place is that of one name
pub object_place-same : (one two : Name) → IsName one → IsName two → object_place one ≡ object_place two → one ≡ two
object_place-same one two first second e =
    name_digits-same one two first second
    (cut_same (encode_lower one.bytes) (encode_lower two.bytes) (name_digits-sized one first) (name_digits-sized two second) e)

object_place-sized : (name : Name) → IsName name → length (object_place name) ≡ 49
object_place-sized name is =
    let text = encode_lower name.bytes in
    let digits : length text ≡ 40 = name_digits-sized name is in
    simp (length-append, length-take, length-drop) (omega arith)

-- ends of the same length
same_end : (one two xs ys : List ℕ) → length xs ≡ length ys → one ++ xs ≡ two ++ ys → xs ≡ ys
same_end one two xs ys sized e = each (append_cases one two xs ys e)
  where
    none : (rest : List ℕ) → length rest ≡ 0 → rest ≡ []
    none [] e = refl
    none (x ∷ rest) e = absurd (omega arith)

    each : ((rest : List ℕ) × (two ≡ one ++ rest) × (xs ≡ rest ++ ys)) ⊎ ((rest : List ℕ) × (one ≡ two ++ rest) × (ys ≡ rest ++ xs)) → xs ≡ ys
    each (inl front) =
        let empty : front.0 ≡ [] = none front.0 (omega (arith, ap length front.2, length-append front.0 ys)) in
        front.2 ∙ ap (λ (t : List ℕ). t ++ ys) empty
    each (inr front) =
        let empty : front.0 ≡ [] = none front.0 (omega (arith, ap length front.2, length-append front.0 xs)) in
        sym (front.2 ∙ ap (λ (t : List ℕ). t ++ xs) empty)

-- one path, below whatever folders, is that of one name
pub object_path-same : (folder other : List ℕ) (one two : Name) → IsName one → IsName two → joined folder (object_place one) ≡ joined other (object_place two) → one ≡ two
object_path-same folder other one two first second e =
    object_place-same one two first second
    (same_end (folder ++ joint folder) (other ++ joint other) (object_place one) (object_place two) (object_place-sized one first ∙ sym (object_place-sized two second)) e)
