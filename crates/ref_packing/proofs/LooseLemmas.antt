-- The lines of the names of two dirs are the loose refs, in byte order.
use Rattle.std.proofs.Common.{◌≡◌, ◌≢◌, ◌⊎◌, inl, inr, ℕ, zero, suc, List, [], ◌∷◌, ◌++◌, Option, Some, None, option_and_then, refl, sym, ◌∙◌, ap, subst, append_assoc, arith}
use Rattle.std.specs.Prelude.{All, Contains, IsSome, codes}
use Rattle.std.specs.Cmp.Lexicographic.{slice_cmp}
use Rattle.std.specs.List.{AllByRecursion, cons_option, filter_map}
use Rattle.std.specs.List.Sorted.{IsStrictlySortedBy}
use Rattle.std.specs.Ordering.{nat_cmp, ordering_reverse, ordering_then}
use Rattle.std.specs.declared.cmp.Ordering.{Ordering}
use Rattle.std.specs.declared.cmp.Ordering.TheVariants.{Less, Equal, Greater}
use Rattle.std.proofs.lemmas.Cmp.{nat_cmp_total, nat_list_cmp_total}
use Rattle.std.proofs.lemmas.List.Elements.{All-contains, Contains-append_cases, Contains-append_left, Contains-append_right}
use Rattle.std.proofs.lemmas.Map.Keys.{sorted_head, sorted_tail}
use Rattle.hex.specs.Hex.{encode_lower}
use Rattle.gb_text.specs.Digits.{IsId, id_of}
use Rattle.gb_text.specs.Folder.{joined}
use Rattle.gb_text.specs.declared.id.Id.{Id}
use Rattle.gb_text.proofs.DigitLemmas.{id_of-encode_lower, id_of-is}
use Rattle.gb_store.specs.Files.{Files, IsListing}
use Rattle.packed_refs.specs.Packed.{PackedRef}
use Rattle.ref_store.specs.Listing.{id_place}
use Rattle.ref_store.specs.Refs.{Ref, Absent, Bad, Head, ref_at, ref_of}
use Rattle.ref_store.proofs.FrameLemmas.{by_loose, loose_ref}
use Rattle.ref_store.proofs.ListLemmas.{digits_listed, filter_map-from, filter_map-has, not_before_itself}
use Rattle.ref_packing.specs.Packing.{AreLoose, IsFirstBad, IsLoose, IsPlace, packed_dirs}
use Rattle.ref_packing.specs.Reading.{IsBadName, IsFirstBadName, IsGoodName, id_line, line_at, named_line}
use Rattle.ref_packing.proofs.LastLemmas.{Rise, names, rise_tail}

-- ---- order

-- texts with one front are in the order of what follows
same_front : (front xs ys : List ℕ) → slice_cmp nat_cmp (front ++ xs) (front ++ ys) ≡ slice_cmp nat_cmp xs ys
same_front [] xs ys = refl
same_front (x ∷ front) xs ys =
    ap (λ (o : Ordering). ordering_then o (slice_cmp nat_cmp (front ++ xs) (front ++ ys))) (itself x) ∙ same_front front xs ys
  where
    flip : (o : Ordering) → o ≡ ordering_reverse o → o ≡ Equal
    flip Less e = absurd cc
    flip Equal e = refl
    flip Greater e = absurd cc

    itself : (n : ℕ) → nat_cmp n n ≡ Equal
    itself n = flip (nat_cmp n n) (nat_cmp_total.antisymm n n)

-- no two texts stand before each other
not_both : (x y : List ℕ) → slice_cmp nat_cmp x y ≡ Less → slice_cmp nat_cmp y x ≡ Less → ⊥
not_both x y one two = (let e : Less ≡ ordering_reverse Less = sym one ∙ nat_list_cmp_total.antisymm x y ∙ ap ordering_reverse two in cc e)

-- rising refs behind rising ones that are all before them
all_append : (P : List ℕ → Type 0) (xs ys : List PackedRef) → AllByRecursion P (names xs) → AllByRecursion P (names ys) → AllByRecursion P (names (xs ++ ys))
all_append P [] ys first then = then
all_append P (x ∷ xs) ys first then = (first.0, all_append P xs ys first.1 then)

all_each : (P : List ℕ → Type 0) (xs : List PackedRef) → ((one : PackedRef) → Contains xs one → P one.name) → AllByRecursion P (names xs)
all_each P [] each = tt
all_each P (x ∷ xs) each = (each x (0, omega arith, refl), all_each P xs (λ one has. each one (suc has.0, omega (arith, has.1), has.2)))

rise_append : (xs ys : List PackedRef) → Rise xs → Rise ys → ((x y : PackedRef) → Contains xs x → Contains ys y → slice_cmp nat_cmp x.name y.name ≡ Less) → Rise (xs ++ ys)
unfolding IsStrictlySortedBy
rise_append [] ys first then below = then
rise_append (x ∷ xs) ys first then below = (
  all_append (λ n. slice_cmp nat_cmp x.name n ≡ Less) xs ys (sorted_head (slice_cmp nat_cmp) x.name (names xs) first)
      (all_each (λ n. slice_cmp nat_cmp x.name n ≡ Less) ys (λ y has. below x y (0, omega arith, refl) has)),
  rise_append xs ys (rise_tail x xs first) then (λ z y at has. below z y (suc at.0, omega (arith, at.1), at.2) has),
)

-- ---- the files of a dir

-- the name of the ref of an id in a dir
pub record IsIn (dir name : List ℕ) : Type 0 where
  pub id : Id
  pub is_id : IsId id
  pub is_place : name ≡ id_place dir id

-- places are in one of the two dirs
pub by_dir : (name : List ℕ) → IsPlace name → IsIn (codes "refs/bugs") name ⊎ IsIn (codes "refs/identities") name
by_dir name place = by place.dir place.of place.is_place
  where
    by : (dir : List ℕ) → Contains packed_dirs dir → name ≡ id_place dir place.id → IsIn (codes "refs/bugs") name ⊎ IsIn (codes "refs/identities") name
    by dir (zero, lt, e) is = inl (record { id = place.id; is_id = place.is_id; is_place = is ∙ ap (λ (d : List ℕ). id_place d place.id) (sym e) })
    by dir (suc zero, lt, e) is = inr (record { id = place.id; is_id = place.is_id; is_place = is ∙ ap (λ (d : List ℕ). id_place d place.id) (sym e) })
    by dir (suc (suc k), lt, e) is = absurd (omega arith)

pub in_bugs : (name : List ℕ) → IsIn (codes "refs/bugs") name → IsPlace name
in_bugs name is = record { dir = codes "refs/bugs"; of = (0, omega arith, refl); id = is.id; is_id = is.is_id; is_place = is.is_place }

pub in_identities : (name : List ℕ) → IsIn (codes "refs/identities") name → IsPlace name
in_identities name is = record { dir = codes "refs/identities"; of = (1, omega arith, refl); id = is.id; is_id = is.is_id; is_place = is.is_place }

-- the first dir's names are before the second one's
bugs_first : (one two : List ℕ) → IsIn (codes "refs/bugs") one → IsIn (codes "refs/identities") two → slice_cmp nat_cmp one two ≡ Less
bugs_first one two first second = ap (λ (n : List ℕ). slice_cmp nat_cmp n two) first.is_place ∙ ap (slice_cmp nat_cmp (id_place (codes "refs/bugs") first.id)) second.is_place

module _ (files : Files) (folder dir : List ℕ) (all : List (List ℕ)) (listing : IsListing files (joined folder dir) all) where
  abbrev place : List ℕ → List ℕ
  place name = dir ++ 47 ∷ name

  abbrev file : List ℕ → Option (List ℕ)
  file name = files (joined folder (place name))

  path_is : (name : List ℕ) → joined folder (place name) ≡ joined folder dir ++ 47 ∷ name
  path_is name = simp append_assoc

  -- a file of a name that is listed stands, so its ref is the loose one
  listed_is_loose : (name : List ℕ) → Contains all name → ref_at files folder (place name) ≡ ref_of (file name)
  listed_is_loose name has = by (file name) refl (subst (λ (p : List ℕ). IsSome (files p)) (sym (path_is name)) ((listing.members name).0 has).1)
    where
      by : (found : Option (List ℕ)) → file name ≡ found → IsSome found → ref_at files folder (place name) ≡ ref_of (file name)
      by None at some = absurd (cc some)
      by (Some text) at some = loose_ref files folder (place name) text at ∙ ap ref_of (sym at)

  -- the digits of an id whose file is a ref are listed
  ref_listed : (id : Id) → IsId id → (ref : Ref) → ref ≢ Absent → ref_of (file (encode_lower id.bytes)) ≡ ref → Contains all (encode_lower id.bytes)
  ref_listed id is ref some e = digits_listed files folder dir all id listing is (by (file (encode_lower id.bytes)) e)
    where
      by : (found : Option (List ℕ)) → ref_of found ≡ ref → IsSome found
      by None at = absurd (some (sym at))
      by (Some text) at = refl

  -- the line of a name
  record IsLineOf (name : List ℕ) (one : PackedRef) : Type 0 where
    id : Id
    is_id : IsId id
    digits : name ≡ encode_lower id.bytes
    named : one.name ≡ place name
    head : ref_at files folder (place name) ≡ Head one.head

  line_is : (name : List ℕ) (one : PackedRef) → named_line files folder dir name ≡ Some one → IsLineOf name one
  line_is name one e = by (id_of name) refl e
    where
      inner : (id : Id) → id_of name ≡ Some id → (ref : Ref) → ref_at files folder (id_place dir id) ≡ ref → line_at (id_place dir id) ref ≡ Some one → IsLineOf name one
      inner id at Absent is e = absurd cc
      inner id at Bad is e = absurd cc
      inner id at (Head head) is e =
          let digits = id_of-is name id at in
          let same : record { name = id_place dir id; head = head } ≡ one = cc in
          record {
            id = id;
            is_id = digits.0;
            digits = digits.1;
            named = ap (λ (o : PackedRef). o.name) (sym same) ∙ ap place (sym digits.1);
            head = ap (λ (n : List ℕ). ref_at files folder (place n)) digits.1 ∙ is ∙ ap (λ (o : PackedRef). Head o.head) same;
          }

      by : (o : Option Id) → id_of name ≡ o → option_and_then (id_line files folder dir) o ≡ Some one → IsLineOf name one
      by None at e = absurd cc
      by (Some id) at e = inner id at (ref_at files folder (id_place dir id)) refl e

  abbrev lines : List (List ℕ) → List PackedRef
  lines names = filter_map (named_line files folder dir) names

  -- a line is of a loose ref
  line_is_loose : (one : PackedRef) → Contains (lines all) one → IsIn dir one.name × (ref_of (files (joined folder one.name)) ≡ Head one.head)
  line_is_loose one has =
      let from = filter_map-from (named_line files folder dir) all one has in
      let is = line_is from.0 one from.2 in (
        record { id = is.id; is_id = is.is_id; is_place = is.named ∙ ap place is.digits },
        ap (λ (n : List ℕ). ref_of (files (joined folder n))) is.named ∙ sym (listed_is_loose from.0 from.1) ∙ is.head,
      )

  -- and each loose ref has one
  loose_has_line : (one : PackedRef) → IsIn dir one.name → ref_of (files (joined folder one.name)) ≡ Head one.head → Contains (lines all) one
  loose_has_line one is head =
      let digits = encode_lower is.id.bytes in
      let loose : ref_of (file digits) ≡ Head one.head = ap (λ (n : List ℕ). ref_of (files (joined folder n))) (sym is.is_place) ∙ head in
      let listed : Contains all digits = ref_listed is.id is.is_id (Head one.head) (λ e. cc e) loose in
      let of : List ℕ → PackedRef = λ n. record { name = n; head = one.head } in
      let line : named_line files folder dir digits ≡ Some one =
      ap (option_and_then (id_line files folder dir)) (id_of-encode_lower is.id is.is_id)
      ∙ ap (line_at (place digits)) (by_loose files folder (place digits) (Head one.head) loose)
      ∙ ap (λ (n : List ℕ). Some (of n)) (sym is.is_place) in
      filter_map-has (named_line files folder dir) all digits one listed line

  -- a bad loose ref has a bad name
  bad_has_name : (name : List ℕ) (is : IsIn dir name) → ref_of (files (joined folder name)) ≡ Bad → Contains all (encode_lower is.id.bytes) × IsBadName files folder dir (encode_lower is.id.bytes) name
  bad_has_name name is bad =
      let digits = encode_lower is.id.bytes in
      let loose : ref_of (file digits) ≡ Bad = ap (λ (n : List ℕ). ref_of (files (joined folder n))) (sym is.is_place) ∙ bad in (
        ref_listed is.id is.is_id Bad (λ e. cc e) loose,
        record { id = is.id; is_id = id_of-encode_lower is.id is.is_id; is_place = is.is_place; is_bad = by_loose files folder name Bad bad },
      )

  none_bad : All (IsGoodName files folder dir) all → (name : List ℕ) → IsIn dir name → ref_of (files (joined folder name)) ≡ Bad → ⊥
  none_bad good name is bad =
      let has = bad_has_name name is bad in
      All-contains (IsGoodName files folder dir) all (encode_lower is.id.bytes) good has.0 name has.1

  -- lines rise
  above : (name : List ℕ) (names : List (List ℕ)) → AllByRecursion (λ n. slice_cmp nat_cmp name n ≡ Less) names
      → (one : PackedRef) → Contains (lines names) one → slice_cmp nat_cmp (place name) one.name ≡ Less
  above name [] later one (k, lt, e) = absurd (omega arith)
  above name (n ∷ names) later one has = by (above name names later.1 one) (named_line files folder dir n) refl has
    where
      by : (Contains (lines names) one → slice_cmp nat_cmp (place name) one.name ≡ Less) → (o : Option PackedRef) → named_line files folder dir n ≡ o
          → Contains (cons_option o (lines names)) one → slice_cmp nat_cmp (place name) one.name ≡ Less
      by rest None at has = rest has
      by rest (Some two) at (zero, lt, e) =
          ap (slice_cmp nat_cmp (place name)) (ap (λ (o : PackedRef). o.name) (sym e) ∙ (line_is n two at).named)
          ∙ same_front dir (47 ∷ name) (47 ∷ n) ∙ same_front (47 ∷ []) name n ∙ later.0
      by rest (Some two) at (suc k, lt, e) = rest (k, omega arith, e)

  lines_rise : (names : List (List ℕ)) → IsStrictlySortedBy (slice_cmp nat_cmp) names → Rise (lines names)
  unfolding IsStrictlySortedBy
  lines_rise [] sorted = tt
  lines_rise (n ∷ names) sorted = by (lines_rise names sorted.1) (named_line files folder dir n) refl
    where
      by : Rise (lines names) → (o : Option PackedRef) → named_line files folder dir n ≡ o → Rise (cons_option o (lines names))
      by rest None at = rest
      by rest (Some one) at = (
        all_each (λ m. slice_cmp nat_cmp one.name m ≡ Less) (lines names)
            (λ two has. ap (λ (m : List ℕ). slice_cmp nat_cmp m two.name) (line_is n one at).named ∙ above n names sorted.0 two has),
        rest,
      )

  -- the first bad name is of the first bad loose ref of the dir
  first_bad : (at : List ℕ) (first : IsFirstBadName files folder dir all at) → IsIn dir at × (ref_of (files (joined folder at)) ≡ Bad)
      × ((other : List ℕ) → IsIn dir other → ref_of (files (joined folder other)) ≡ Bad → slice_cmp nat_cmp other at ≡ Less → ⊥)
  first_bad at first =
      let digits = id_of-is first.name first.bad.id first.bad.is_id in
      let named : at ≡ place first.name = first.bad.is_place ∙ ap place (sym digits.1) in
      let listed : Contains all first.name =
      subst (λ (ns : List (List ℕ)). Contains ns first.name) (sym first.are) (Contains-append_right first.before (first.name ∷ first.after) first.name (0, omega arith, refl)) in (
        record { id = first.bad.id; is_id = digits.0; is_place = first.bad.is_place },
        ap (λ (n : List ℕ). ref_of (files (joined folder n))) named ∙ sym (listed_is_loose first.name listed) ∙ ap (ref_at files folder) (sym named) ∙ first.bad.is_bad,
        λ other is bad less. (let has = bad_has_name other is bad in earlier other is has.1 less named (Contains-append_cases first.before (first.name ∷ first.after) (encode_lower is.id.bytes) (subst (λ (ns : List (List ℕ)). Contains ns (encode_lower is.id.bytes)) first.are has.0))),
      )
    where
      sorted : (before : List (List ℕ)) → IsStrictlySortedBy (slice_cmp nat_cmp) (before ++ first.name ∷ first.after) → AllByRecursion (λ n. slice_cmp nat_cmp first.name n ≡ Less) first.after
      sorted [] rising = sorted_head (slice_cmp nat_cmp) first.name first.after rising
      sorted (n ∷ before) rising = sorted before (sorted_tail (slice_cmp nat_cmp) n (before ++ first.name ∷ first.after) rising)

      member : (P : List ℕ → Type 0) (ns : List (List ℕ)) (n : List ℕ) → AllByRecursion P ns → Contains ns n → P n
      member P [] n each (k, lt, e) = absurd (omega arith)
      member P (m ∷ ns) n each (zero, lt, e) = subst P e each.0
      member P (m ∷ ns) n each (suc k, lt, e) = member P ns n each.1 (k, omega arith, e)

      earlier : (other : List ℕ) (is : IsIn dir other) → IsBadName files folder dir (encode_lower is.id.bytes) other → slice_cmp nat_cmp other at ≡ Less → at ≡ place first.name
          → Contains first.before (encode_lower is.id.bytes) ⊎ Contains (first.name ∷ first.after) (encode_lower is.id.bytes) → ⊥
      earlier other is bad less named (inl has) = All-contains (IsGoodName files folder dir) first.before (encode_lower is.id.bytes) first.good has other bad
      earlier other is bad less named (inr (zero, lt, e)) = not_before_itself other at (is.is_place ∙ ap place (sym e) ∙ sym named) less
      earlier other is bad less named (inr (suc k, lt, e)) =
          let after : slice_cmp nat_cmp first.name (encode_lower is.id.bytes) ≡ Less =
          member (λ n. slice_cmp nat_cmp first.name n ≡ Less) first.after (encode_lower is.id.bytes)
          (sorted first.before (subst (IsStrictlySortedBy (slice_cmp nat_cmp)) first.are listing.rising)) (k, omega arith, e) in
          let turned : slice_cmp nat_cmp at other ≡ Less =
          ap (λ (n : List ℕ). slice_cmp nat_cmp n other) named ∙ ap (slice_cmp nat_cmp (place first.name)) is.is_place
          ∙ same_front dir (47 ∷ first.name) (47 ∷ encode_lower is.id.bytes) ∙ same_front (47 ∷ []) first.name (encode_lower is.id.bytes) ∙ after in
          not_both other at less turned

-- ---- both dirs

module _ (files : Files) (folder : List ℕ) (bugs persons : List (List ℕ)) (in_first : IsListing files (joined folder (codes "refs/bugs")) bugs) (good : All (IsGoodName files folder (codes "refs/bugs")) bugs) where
  abbrev first_lines : List PackedRef
  first_lines = filter_map (named_line files folder (codes "refs/bugs")) bugs

  abbrev second_lines : List PackedRef
  second_lines = filter_map (named_line files folder (codes "refs/identities")) persons

  -- the lines of both are the loose refs
  pub are_loose : IsListing files (joined folder (codes "refs/identities")) persons → All (IsGoodName files folder (codes "refs/identities")) persons
      → AreLoose files folder (first_lines ++ second_lines)
  are_loose in_second too = record {
    rising = rise_append first_lines second_lines (lines_rise files folder (codes "refs/bugs") bugs in_first bugs in_first.rising)
        (lines_rise files folder (codes "refs/identities") persons in_second persons in_second.rising)
        (λ x y first second.
        bugs_first x.name y.name (line_is_loose files folder (codes "refs/bugs") bugs in_first x first).0 (line_is_loose files folder (codes "refs/identities") persons in_second y second).0);
    members = λ one. (λ has. there one (Contains-append_cases first_lines second_lines one has), λ loose. among one loose (by_dir one.name loose.place));
    none_bad = λ name bad. elim (by_dir name bad.place) [
      | inl is ↦ none_bad files folder (codes "refs/bugs") bugs in_first good name is bad.is_bad
      | inr is ↦ none_bad files folder (codes "refs/identities") persons in_second too name is bad.is_bad
    ];
  }
    where
      there : (one : PackedRef) → Contains first_lines one ⊎ Contains second_lines one → IsLoose files folder one
      there one (inl has) = (let is = line_is_loose files folder (codes "refs/bugs") bugs in_first one has in record { place = in_bugs one.name is.0; is_head = is.1 })
      there one (inr has) = (let is = line_is_loose files folder (codes "refs/identities") persons in_second one has in record { place = in_identities one.name is.0; is_head = is.1 })

      among : (one : PackedRef) → IsLoose files folder one → IsIn (codes "refs/bugs") one.name ⊎ IsIn (codes "refs/identities") one.name → Contains (first_lines ++ second_lines) one
      among one loose (inl is) = Contains-append_left first_lines second_lines one (loose_has_line files folder (codes "refs/bugs") bugs in_first one is loose.is_head)
      among one loose (inr is) = Contains-append_right first_lines second_lines one (loose_has_line files folder (codes "refs/identities") persons in_second one is loose.is_head)

  -- the first bad one of the second dir is the first of all
  pub second_is_first_bad : (at : List ℕ) → IsListing files (joined folder (codes "refs/identities")) persons → IsFirstBadName files folder (codes "refs/identities") persons at → IsFirstBad files folder at
  second_is_first_bad at in_second first =
      let is = first_bad files folder (codes "refs/identities") persons in_second at first in
      record {
        is_bad = record { place = in_identities at is.0; is_bad = is.1 };
        none_before = λ other bad less. elim (by_dir other bad.place) [
          | inl here ↦ none_bad files folder (codes "refs/bugs") bugs in_first good other here bad.is_bad
          | inr here ↦ is.2 other here bad.is_bad less
        ];
      }

-- and so is that of the first dir
pub first_is_first_bad : (files : Files) (folder : List ℕ) (bugs : List (List ℕ)) (at : List ℕ) → IsListing files (joined folder (codes "refs/bugs")) bugs
    → IsFirstBadName files folder (codes "refs/bugs") bugs at → IsFirstBad files folder at
first_is_first_bad files folder bugs at in_first first =
    let is = first_bad files folder (codes "refs/bugs") bugs in_first at first in
    record {
      is_bad = record { place = in_bugs at is.0; is_bad = is.1 };
      none_before = λ other bad less. elim (by_dir other bad.place) [
        | inl here ↦ is.2 other here bad.is_bad less
        | inr here ↦ not_both other at less (bugs_first at other is.0 here)
      ];
    }
