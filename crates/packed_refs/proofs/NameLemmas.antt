-- Each head of a packed text is an object's name.
use Rattle.std.proofs.Common.{◌≡◌, ℕ, Bool, true, false, if◌then◌else◌, List, [], ◌∷◌, take, drop, Option, Some, None, option_and_then, refl, ap, subst}
use Rattle.std.specs.List.{AllByRecursion}
use Rattle.std.specs.Option.{option_map}
use Rattle.std.specs.Str.{bytes_eq}
use Rattle.gb_text.specs.Digits.{IsName, name_of}
use Rattle.gb_text.specs.declared.id.Name.{Name}
use Rattle.gb_text.proofs.DigitLemmas.{name_of-is}
use Rattle.packed_refs.specs.Lines.{lines_of}
use Rattle.packed_refs.specs.Packed.{Note, PackedLine, PackedRef, Ref, head_of, is_comment, is_named, is_peeled, last_head, or_none, packed_line, packed_refs, ref_line, refs_in, refs_of_lines, with_line}

-- the heads of refs are names
abbrev AllNamed : List PackedRef → Type 0
AllNamed refs = AllByRecursion (λ (one : PackedRef). IsName one.head) refs

ref_line_named : (line : List ℕ) (one : PackedRef) → ref_line line ≡ Some (Ref one) → IsName one.head
ref_line_named line one e = by (is_named line) (name_of (take 40 line)) refl e
  where
    by : (b : Bool) (o : Option Name) → name_of (take 40 line) ≡ o
        → (if b then option_map (λ head. Ref (record { name = drop 41 line; head = head })) o else None) ≡ Some (Ref one) → IsName one.head
    by false o at e = absurd cc
    by true None at e = absurd cc
    by true (Some head) at e =
        let same : record { name = drop 41 line; head = head } ≡ one = cc in
        subst IsName (ap (λ (r : PackedRef). r.head) same) (name_of-is (take 40 line) head at).0

line_named : (line : List ℕ) (one : PackedRef) → packed_line line ≡ Some (Ref one) → IsName one.head
line_named line one e = by (is_comment line) (is_peeled line) e
  where
    by : (b c : Bool) → (if b then Some Note else if c then Some Note else ref_line line) ≡ Some (Ref one) → IsName one.head
    by true c e = absurd cc
    by false true e = absurd cc
    by false false e = ref_line_named line one e

lines_named : (lines : List (List ℕ)) (refs : List PackedRef) → refs_of_lines lines ≡ Some refs → AllNamed refs
unfolding refs_of_lines
lines_named [] refs e = let same : [] ≡ refs = cc in subst AllNamed same tt
lines_named (line ∷ lines) refs e = by (packed_line line) refl (refs_of_lines lines) (lines_named lines) e
  where
    by : (o : Option PackedLine) → packed_line line ≡ o → (rest : Option (List PackedRef)) → ((more : List PackedRef) → rest ≡ Some more → AllNamed more)
        → option_and_then (λ one. option_map (with_line one) rest) o ≡ Some refs → AllNamed refs
    by None at rest later e = absurd cc
    by (Some one) at None later e = absurd cc
    by (Some Note) at (Some more) later e = let same : more ≡ refs = cc in subst AllNamed same (later more refl)
    by (Some (Ref one)) at (Some more) later e = let same : one ∷ more ≡ refs = cc in subst AllNamed same (line_named line one at, later more refl)

last_named : (name : List ℕ) (found : Option Name) (refs : List PackedRef) (head : Name) → AllNamed refs → ((n : Name) → found ≡ Some n → IsName n)
    → last_head name found refs ≡ Some head → IsName head
unfolding last_head
last_named name found [] head all was e = was head e
last_named name found (one ∷ refs) head all was e = by (λ f. last_named name f refs head all.1) (bytes_eq one.name name) e
  where
    by : ((f : Option Name) → ((n : Name) → f ≡ Some n → IsName n) → last_head name f refs ≡ Some head → IsName head)
        → (b : Bool) → last_head name (if b then Some one.head else found) refs ≡ Some head → IsName head
    by later true e = later (Some one.head) (λ n same. let is : one.head ≡ n = cc in subst IsName is all.0) e
    by later false e = later found was e

-- what a packed text gives a name is the name of an object
pub packed_head_is_name : (name text : List ℕ) (head : Name) → head_of name (refs_in text) ≡ Some head → IsName head
packed_head_is_name name text head e = by (packed_refs text) refl e
  where
    by : (o : Option (List PackedRef)) → packed_refs text ≡ o → last_head name None (or_none o) ≡ Some head → IsName head
    by None at e = last_named name None [] head tt (λ n none. absurd cc) e
    by (Some refs) at e = last_named name None refs head (lines_named (lines_of text) refs at) (λ n none. absurd cc) e
