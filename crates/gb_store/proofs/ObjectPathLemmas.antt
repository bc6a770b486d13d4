-- Paths of objects, by their parts, by their form and by their last bytes.
use Rattle.std.proofs.Common.{◌≡◌, ◌⊎◌, ℕ, ◌+◌, ◌*◌, ◌-◌, ◌≤◌, ◌==◌, Bool, true, false, ◌&&◌, ◌||◌, List, [], ◌∷◌, ◌++◌, length, take, drop, reverse, refl, sym, ◌∙◌, ap, inl, inr, append_assoc, arith, length-append, length-drop, drop-cons}
use Rattle.std.specs.Prelude.{codes, slice_index, nat_le}
use Rattle.std.proofs.Common.{eqb-true}
use Rattle.std.proofs.lemmas.Bool.{and_parts}
use Rattle.gb_text.proofs.AsciiLemmas.{encode_lower-digits}
use Rattle.gb_text.proofs.PartLemmas.{parts_of-at_slash}
use Rattle.std.proofs.lemmas.List.{take-append-drop, take_more, reverse-append, reverse-reverse, length-take-le, drop-drop}
use Rattle.std.proofs.lemmas.Bool.Decides.{nat_tests}
use Rattle.std.proofs.lemmas.List.Splits.{join_with_byte-slice_split, slice_split-cons_no}
use Rattle.std.proofs.lemmas.Slice.Eq.{bytes_eq-Decides}
use Rattle.std.proofs.Math.Seq.{drop-append_seam}
use Rattle.std.specs.List.{list_all, onto_first, join_with_byte}
use Rattle.std.specs.Str.{bytes_eq}
use Rattle.std.proofs.lemmas.List.Folds.{list_all-append}
use Rattle.hex.specs.Hex.{encode_lower, is_hex_digit, lower_digits}
use Rattle.hex.proofs.HexLemmas.{length-encode_with}
use Rattle.gb_text.specs.Digits.{IsName}
use Rattle.gb_text.specs.declared.id.Name.{Name}
use Rattle.gb_text.specs.Folder.{parts_of, joint, joined}
use Rattle.gb_store.specs.ObjectPath.{is_digits, ends_as_object, is_object_path, IsFront, IsObjectPath, object_place}
use Rattle.gb_store.specs.ObjectTail.{is_object_tail, has_object_tail}

-- ---- parts

digit_is_no_slash : (c : ℕ) → is_hex_digit c ≡ true → (c == 47) ≡ false
digit_is_no_slash c digit = grind (arith, nat_tests)

-- digits have no slash
parts_of-digits : (text : List ℕ) → list_all is_hex_digit text ≡ true → parts_of text ≡ text ∷ []
parts_of-digits [] digits = refl
parts_of-digits (c ∷ cs) digits =
    let here = and_parts (is_hex_digit c) (list_all is_hex_digit cs) digits in
    slice_split-cons_no (λ c. c == 47) c cs (digit_is_no_slash c here.0) ∙ ap (onto_first c) (parts_of-digits cs here.1)

-- what follows the front of an object's path
abbrev tail_of : List ℕ → List ℕ → List ℕ
tail_of fan rest = codes "objects/" ++ (fan ++ 47 ∷ rest)

parts_of-tail : (fan rest : List ℕ) → list_all is_hex_digit fan ≡ true → list_all is_hex_digit rest ≡ true → parts_of (tail_of fan rest) ≡ codes "objects" ∷ fan ∷ rest ∷ []
parts_of-tail fan rest f r =
    parts_of-at_slash (codes "objects") (fan ++ 47 ∷ rest)
    ∙ ap (λ (l : List (List ℕ)). codes "objects" ∷ l) (parts_of-at_slash fan rest ∙ ap (λ (l : List (List ℕ)). l ++ parts_of rest) (parts_of-digits fan f) ∙ ap (λ (l : List (List ℕ)). fan ∷ l) (parts_of-digits rest r))

ends_as_object-form : (fan rest : List ℕ) (more : List (List ℕ)) → is_digits 2 fan ≡ true → is_digits 38 rest ≡ true → ends_as_object (rest ∷ fan ∷ codes "objects" ∷ more) ≡ true
ends_as_object-form fan rest more f r = rw (r, f) refl

-- the form has such parts
pub is_object_path-form : (path : List ℕ) → IsObjectPath path → is_object_path path ≡ true
unfolding is_object_path
is_object_path-form path form = each form.begins
  where
    parts : parts_of (tail_of form.fan form.rest) ≡ codes "objects" ∷ form.fan ∷ form.rest ∷ []
    parts = parts_of-tail form.fan form.rest (and_parts (length form.fan == 2) (list_all is_hex_digit form.fan) form.fan_digits).1 (and_parts (length form.rest == 38) (list_all is_hex_digit form.rest) form.rest_digits).1

    each : IsFront form.front → ends_as_object (reverse (parts_of path)) ≡ true
    each (inl none) =
        let is : path ≡ tail_of form.fan form.rest = form.is ∙ ap (λ (t : List ℕ). t ++ codes "objects/" ++ form.fan ++ codes "/" ++ form.rest) none ∙ simp append_assoc in
        rw (is, parts) (ends_as_object-form form.fan form.rest [] form.fan_digits form.rest_digits)
    each (inr above) =
        let is : path ≡ above.0 ++ 47 ∷ tail_of form.fan form.rest = form.is ∙ ap (λ (t : List ℕ). t ++ codes "objects/" ++ form.fan ++ codes "/" ++ form.rest) above.1 ∙ simp append_assoc in
        let cut : parts_of path ≡ parts_of above.0 ++ (codes "objects" ∷ form.fan ∷ form.rest ∷ []) =
        ap parts_of is ∙ parts_of-at_slash above.0 (tail_of form.fan form.rest) ∙ ap (λ (l : List (List ℕ)). parts_of above.0 ++ l) parts in
        ap ends_as_object (ap reverse cut ∙ reverse-append (parts_of above.0) (codes "objects" ∷ form.fan ∷ form.rest ∷ []))
        ∙ ends_as_object-form form.fan form.rest (reverse (parts_of above.0)) form.fan_digits form.rest_digits

-- ---- the form of such parts

front_of : List (List ℕ) → List ℕ
front_of [] = []
front_of (y ∷ ys) = join_with_byte 47 (y ∷ ys) ++ codes "/"

IsFront-front_of : (ys : List (List ℕ)) → IsFront (front_of ys)
unfolding front_of
IsFront-front_of [] = inl refl
IsFront-front_of (y ∷ ys) = inr (join_with_byte 47 (y ∷ ys), refl)

join-three : (ys : List (List ℕ)) (d f r : List ℕ) → join_with_byte 47 (ys ++ d ∷ f ∷ r ∷ []) ≡ front_of ys ++ (d ++ 47 ∷ (f ++ 47 ∷ r))
unfolding front_of
join-three [] d f r = refl
join-three (y ∷ []) d f r = sym (append_assoc y (codes "/") (d ++ 47 ∷ (f ++ 47 ∷ r)))
join-three (y ∷ z ∷ zs) d f r =
    ap (λ (t : List ℕ). y ++ 47 ∷ t) (join-three (z ∷ zs) d f r) ∙ simp append_assoc

three_in_front : (rest fan dir : List ℕ) (more : List (List ℕ)) → reverse (rest ∷ fan ∷ dir ∷ more) ≡ reverse more ++ dir ∷ fan ∷ rest ∷ []
three_in_front rest fan dir more = reverse-append (rest ∷ fan ∷ dir ∷ []) more

-- such parts have the form
pub form_of_parts : (path : List ℕ) → is_object_path path ≡ true → IsObjectPath path
unfolding is_object_path
form_of_parts path ends = each (reverse (parts_of path)) refl ends
  where
    each : (parts : List (List ℕ)) → reverse (parts_of path) ≡ parts → ends_as_object parts ≡ true → IsObjectPath path
    each [] e ends = absurd (cc ends)
    each (rest ∷ []) e ends = absurd (cc ends)
    each (rest ∷ fan ∷ []) e ends = absurd (cc ends)
    each (rest ∷ fan ∷ dir ∷ more) e ends =
        let first = and_parts (is_digits 38 rest) (is_digits 2 fan && bytes_eq dir (codes "objects")) ends in
        let second = and_parts (is_digits 2 fan) (bytes_eq dir (codes "objects")) first.1 in
        let dir_is : dir ≡ codes "objects" = (bytes_eq-Decides dir (codes "objects")).0 second.1 in
        let parts : parts_of path ≡ reverse more ++ dir ∷ fan ∷ rest ∷ [] = sym (reverse-reverse (parts_of path)) ∙ ap reverse e ∙ three_in_front rest fan dir more in
        let whole : path ≡ front_of (reverse more) ++ (dir ++ 47 ∷ (fan ++ 47 ∷ rest)) =
        sym (join_with_byte-slice_split 47 path) ∙ ap (join_with_byte 47) parts ∙ join-three (reverse more) dir fan rest in
        record {
          front = front_of (reverse more);
          fan = fan;
          rest = rest;
          begins = IsFront-front_of (reverse more);
          fan_digits = second.0;
          rest_digits = first.0;
          is = whole ∙ ap (λ (t : List ℕ). front_of (reverse more) ++ (t ++ 47 ∷ (fan ++ 47 ∷ rest))) dir_is ∙ simp append_assoc;
        }

-- ---- the form by the last bytes

or_right : (a b : Bool) → b ≡ true → (a || b) ≡ true
or_right true b e = refl
or_right false b e = e

either : (a b : Bool) → (a || b) ≡ true → (a ≡ true) ⊎ (b ≡ true)
either true b e = inl refl
either false b e = inr e

two_digits : (fan rest : List ℕ) → is_digits 2 fan ≡ true → list_all is_hex_digit rest ≡ true → is_object_tail (tail_of fan rest) ≡ true
two_digits [] rest f r = absurd (cc f)
two_digits (a ∷ []) rest f r = absurd (cc f)
two_digits (a ∷ b ∷ []) rest f r = rw (f, r) refl
two_digits (a ∷ b ∷ c ∷ cs) rest f r =
    let long : length (a ∷ b ∷ c ∷ cs) ≡ 2 = eqb-true _ _ (and_parts (length (a ∷ b ∷ c ∷ cs) == 2) (list_all is_hex_digit (a ∷ b ∷ c ∷ cs)) f).0 in
    absurd (omega arith)

length-tail_of : (fan rest : List ℕ) → length fan ≡ 2 → length rest ≡ 38 → length (tail_of fan rest) ≡ 49
length-tail_of fan rest f r = omega (arith, length-append fan (47 ∷ rest))

index-at : (above rest : List ℕ) → slice_index (above ++ 47 ∷ rest) (length above) ≡ 47
index-at [] rest = refl
index-at (x ∷ xs) rest = index-at xs rest

three : (a b c : Bool) → a ≡ true → b ≡ true → c ≡ true → (a && (b && c)) ≡ true
three a b c p q r = rw (p, q, r) refl

nat_le-true : (a b : ℕ) → a ≤ b → nat_le a b ≡ true
nat_le-true a b le = grind (arith, nat_tests)

has_tail-append : (front tail : List ℕ) → length tail ≡ 49 → IsFront front → is_object_tail tail ≡ true → has_object_tail (front ++ tail) ≡ true
has_tail-append front tail long begins good =
    let size : length (front ++ tail) ≡ length front + 49 = omega (arith, length-append front tail) in
    let count : length (front ++ tail) - 49 ≡ length front = omega arith in
    let last : drop (length (front ++ tail) - 49) (front ++ tail) ≡ tail = ap (λ (k : ℕ). drop k (front ++ tail)) count ∙ drop-append_seam front tail in
    three (nat_le 49 (length (front ++ tail))) ((length (front ++ tail) == 49) || (slice_index (front ++ tail) (length (front ++ tail) - 50) == 47)) (is_object_tail (drop (length (front ++ tail) - 49) (front ++ tail)))
    (nat_le-true 49 (length (front ++ tail)) (omega arith)) (each begins) (ap is_object_tail last ∙ good)
  where
    each : IsFront front → ((length (front ++ tail) == 49) || (slice_index (front ++ tail) (length (front ++ tail) - 50) == 47)) ≡ true
    each (inl none) =
        let size : length (front ++ tail) ≡ 49 = ap (λ (t : List ℕ). length (t ++ tail)) none ∙ long in
        ap (λ (n : ℕ). (n == 49) || (slice_index (front ++ tail) (length (front ++ tail) - 50) == 47)) size
    each (inr above) =
        let is : front ++ tail ≡ above.0 ++ 47 ∷ tail = ap (λ (t : List ℕ). t ++ tail) above.1 ∙ append_assoc above.0 (codes "/") tail in
        let size : length (front ++ tail) - 50 ≡ length above.0 = omega (arith, ap length is, length-append above.0 (47 ∷ tail)) in
        let at : slice_index (front ++ tail) (length (front ++ tail) - 50) ≡ 47 =
        ap (λ (k : ℕ). slice_index (front ++ tail) k) size ∙ ap (λ (t : List ℕ). slice_index t (length above.0)) is ∙ index-at above.0 tail in
        or_right (length (front ++ tail) == 49) (slice_index (front ++ tail) (length (front ++ tail) - 50) == 47) (ap (λ (c : ℕ). c == 47) at)

has_object_tail-form : (path : List ℕ) → IsObjectPath path → has_object_tail path ≡ true
has_object_tail-form path form =
    let fan = and_parts (length form.fan == 2) (list_all is_hex_digit form.fan) form.fan_digits in
    let rest = and_parts (length form.rest == 38) (list_all is_hex_digit form.rest) form.rest_digits in
    let is : path ≡ form.front ++ tail_of form.fan form.rest = form.is ∙ simp append_assoc in
    ap has_object_tail is ∙ has_tail-append form.front (tail_of form.fan form.rest)
    (length-tail_of form.fan form.rest (eqb-true _ _ fan.0) (eqb-true _ _ rest.0)) form.begins (two_digits form.fan form.rest form.fan_digits rest.1)

-- 49 such bytes, cut into their parts
tail_parts : (tail : List ℕ) → length tail ≡ 49 → is_object_tail tail ≡ true
    → (tail ≡ tail_of (take 2 (drop 8 tail)) (drop 11 tail)) × (is_digits 2 (take 2 (drop 8 tail)) ≡ true) × (is_digits 38 (drop 11 tail) ≡ true)
tail_parts tail long good =
    let first = and_parts (bytes_eq (take 8 tail) (codes "objects/")) (list_all is_hex_digit (take 2 (drop 8 tail)) && ((slice_index tail 10 == 47) && list_all is_hex_digit (drop 11 tail))) good in
    let second = and_parts (list_all is_hex_digit (take 2 (drop 8 tail))) ((slice_index tail 10 == 47) && list_all is_hex_digit (drop 11 tail)) first.1 in
    let third = and_parts (slice_index tail 10 == 47) (list_all is_hex_digit (drop 11 tail)) second.1 in
    let word : take 8 tail ≡ codes "objects/" = (bytes_eq-Decides (take 8 tail) (codes "objects/")).0 first.0 in
    let slash : slice_index tail 10 ≡ 47 = eqb-true _ _ third.0 in
    let eight : length (drop 8 tail) ≡ 41 = omega (arith, length-drop 8 tail) in
    let fan : length (take 2 (drop 8 tail)) ≡ 2 = length-take-le 2 (drop 8 tail) (omega arith) in
    let rest : length (drop 11 tail) ≡ 38 = omega (arith, length-drop 11 tail) in
    let ten : drop 2 (drop 8 tail) ≡ 47 ∷ drop 11 tail = drop-drop 2 8 tail ∙ drop-cons tail 10 0 (omega arith) ∙ ap (λ (c : ℕ). c ∷ drop 11 tail) slash in
    let cut : drop 8 tail ≡ take 2 (drop 8 tail) ++ 47 ∷ drop 11 tail = sym (take-append-drop 2 (drop 8 tail)) ∙ ap (λ (t : List ℕ). take 2 (drop 8 tail) ++ t) ten in (
      sym (take-append-drop 8 tail) ∙ ap (λ (t : List ℕ). t ++ drop 8 tail) word ∙ ap (λ (t : List ℕ). codes "objects/" ++ t) cut,
      ap (λ (n : ℕ). (n == 2) && list_all is_hex_digit (take 2 (drop 8 tail))) fan ∙ second.0,
      ap (λ (n : ℕ). (n == 38) && list_all is_hex_digit (drop 11 tail)) rest ∙ third.1,
    )

-- what stands before the last 49 bytes, where these begin a part
front_before : (path : List ℕ) → 49 ≤ length path → ((length path == 49) || (slice_index path (length path - 50) == 47)) ≡ true → IsFront (take (length path - 49) path)
front_before path long begins = each (length path == 49) refl begins
  where
    each : (b : Bool) → (length path == 49) ≡ b → (b || (slice_index path (length path - 50) == 47)) ≡ true → IsFront (take (length path - 49) path)
    each true all begins =
        let size : length path ≡ 49 = eqb-true _ _ all in
        let none : length path - 49 ≡ 0 = omega arith in
        inl (ap (λ (k : ℕ). take k path) none)
    each false more begins =
        let slash : slice_index path (length path - 50) ≡ 47 = eqb-true _ _ begins in
        let longer : 50 ≤ length path = grind (arith, nat_tests) in
        let count : length path - 49 ≡ (length path - 50) + 1 = omega arith in
        inr (
          take (length path - 50) path,
          ap (λ (k : ℕ). take k path) count ∙ take_more path (length path - 50) 0 (omega arith) ∙ ap (λ (c : ℕ). take (length path - 50) path ++ c ∷ []) slash,
        )

-- such last bytes have the form
form_of_tail : (path : List ℕ) → has_object_tail path ≡ true → IsObjectPath path
form_of_tail path has =
    let tail = drop (length path - 49) path in
    let first = and_parts (nat_le 49 (length path)) (((length path == 49) || (slice_index path (length path - 50) == 47)) && is_object_tail tail) has in
    let second = and_parts ((length path == 49) || (slice_index path (length path - 50) == 47)) (is_object_tail tail) first.1 in
    let long : 49 ≤ length path = grind (arith, nat_tests) in
    let size : length tail ≡ 49 = omega (arith, length-drop (length path - 49) path) in
    let parts = tail_parts tail size second.1 in
    record {
      front = take (length path - 49) path;
      fan = take 2 (drop 8 tail);
      rest = drop 11 tail;
      begins = front_before path long second.0;
      fan_digits = parts.1;
      rest_digits = parts.2;
      is = sym (take-append-drop (length path - 49) path) ∙ ap (λ (t : List ℕ). take (length path - 49) path ++ t) parts.0 ∙ simp append_assoc;
    }

same_answer : (a b : Bool) → (a ≡ true → b ≡ true) → (b ≡ true → a ≡ true) → a ≡ b
same_answer true b there back = sym (there refl)
same_answer false true there back = let no : false ≡ true = back refl in no
same_answer false false there back = refl

-- the last bytes tell just as the parts do
pub has_object_tail-is : (path : List ℕ) → has_object_tail path ≡ is_object_path path
has_object_tail-is path =
    same_answer (has_object_tail path) (is_object_path path) (λ has. is_object_path-form path (form_of_tail path has)) (λ is. has_object_tail-form path (form_of_parts path is))

-- ---- the place of an object

front_joint : (folder : List ℕ) → IsFront (folder ++ joint folder)
front_joint folder = each (bytes_eq folder (codes "")) refl (bytes_eq folder (codes "/")) refl
  where
    each : (a : Bool) → bytes_eq folder (codes "") ≡ a → (b : Bool) → bytes_eq folder (codes "/") ≡ b → IsFront (folder ++ joint folder)
    each true e b f =
        let none : folder ≡ [] = (bytes_eq-Decides folder (codes "")).0 e in
        inl (ap (λ (t : List ℕ). t ++ joint t) none)
    each false e true f =
        let root : folder ≡ codes "/" = (bytes_eq-Decides folder (codes "/")).0 f in
        inr ([], ap (λ (t : List ℕ). t ++ joint t) root)
    each false e false f = inr (folder, rw (e, f) refl)

-- what stands below a folder at the place of an object
pub object_place-form : (folder : List ℕ) (name : Name) → IsName name → IsObjectPath (joined folder (object_place name))
object_place-form folder name is =
    let text = encode_lower name.bytes in
    let digits : list_all is_hex_digit text ≡ true = encode_lower-digits name.bytes is.bytes in
    let size : length text ≡ 40 = length-encode_with lower_digits name.bytes ∙ ap (λ (n : ℕ). 2 * n) is.sized in
    let parts = and_parts (list_all is_hex_digit (take 2 text)) (list_all is_hex_digit (drop 2 text)) (sym (list_all-append is_hex_digit (take 2 text) (drop 2 text)) ∙ ap (list_all is_hex_digit) (take-append-drop 2 text) ∙ digits) in
    let fan : length (take 2 text) ≡ 2 = length-take-le 2 text (omega arith) in
    let rest : length (drop 2 text) ≡ 38 = omega (arith, length-drop 2 text) in
    record {
      front = folder ++ joint folder;
      fan = take 2 text;
      rest = drop 2 text;
      begins = front_joint folder;
      fan_digits = ap (λ (n : ℕ). (n == 2) && list_all is_hex_digit (take 2 text)) fan ∙ parts.0;
      rest_digits = ap (λ (n : ℕ). (n == 38) && list_all is_hex_digit (drop 2 text)) rest ∙ parts.1;
      is = simp append_assoc;
    }
