-- What the index of a store in memory lists.
use Rattle.std.proofs.Common.{◌≡◌, inl, inr, ℕ, ◌==◌, zero, suc, Bool, true, false, cond, List, [], ◌∷◌, ◌++◌, reverse, map, Option, Some, None, is_some, String, string_bytes, refl, sym, ◌∙◌, ap, subst, arith}
use Rattle.std.specs.Prelude.{Contains, IsSome}
use Rattle.std.proofs.lemmas.Bool.Decides.{nat_tests}
use Rattle.std.proofs.lemmas.List.Elements.{Contains-append_right, Contains-append_cases}
use Rattle.std.proofs.lemmas.Map.Entries.{place_from_lookup, btree_map_get_place}
use Rattle.std.proofs.lemmas.Map.Text.{is_eq-slice_cmp}
use Rattle.std.proofs.lemmas.Slice.Eq.{bytes_eq-Decides}
use Rattle.std.specs.BTreeMap.{BTreeMap, get_by_text, IsOrdered}
use Rattle.std.specs.Cmp.Lexicographic.{slice_cmp}
use Rattle.std.specs.List.{list_any, slice_get, AllByRecursion}
use Rattle.std.specs.List.Sorted.{IsStrictlySortedBy}
use Rattle.std.specs.Option.{option_to_list}
use Rattle.std.specs.BTreeMap.Range.{entries_between, range_contains}
use Rattle.std.specs.Ordering.{nat_cmp, is_eq, is_gt, is_le, ordering_then}
use Rattle.std.specs.declared.ops.Bound.TheVariants.{Included, Excluded}
use Rattle.std.specs.String.{string_cmp, string_cmp_total}
use Rattle.std.specs.declared.alloc.Global.{Global}
use Rattle.std.specs.declared.cmp.Ordering.{Ordering}
use Rattle.std.specs.declared.cmp.Ordering.TheVariants.{Less, Equal}
use Rattle.gb_store.specs.declared.store.Change.{Change}
use Rattle.gb_store.specs.Files.{file_at, files_of, IsListing}
use Rattle.gb_store.specs.MemIndex.{IsIndex, bytes_at, name_below, entry_name, listed}
use Rattle.gb_store.proofs.NameLemmas.{name_below-is, name_below-at_slash}
use Rattle.gb_store.proofs.MemLemmas.{newest_is, absent_is}

-- ---- order

nat_cmp-same : (c : ℕ) → nat_cmp c c ≡ Equal
nat_cmp-same c = grind (arith, nat_tests)

slice_cmp-append : (p a b : List ℕ) → slice_cmp nat_cmp (p ++ a) (p ++ b) ≡ slice_cmp nat_cmp a b
slice_cmp-append [] a b = refl
slice_cmp-append (c ∷ cs) a b = ap (λ (o : Ordering). ordering_then o (slice_cmp nat_cmp (cs ++ a) (cs ++ b))) (nat_cmp-same c) ∙ slice_cmp-append cs a b

-- names in one folder are in the order of their paths
name_below-order : (dir one two a b : List ℕ) → name_below dir one ≡ Some a → name_below dir two ≡ Some b
    → slice_cmp nat_cmp one two ≡ Less → slice_cmp nat_cmp a b ≡ Less
name_below-order dir one two a b e f less =
    let first = (name_below-is dir one a e).0 in
    let second = (name_below-is dir two b f).0 in
    sym (slice_cmp-append dir (47 ∷ a) (47 ∷ b))
    ∙ ap (λ (t : List ℕ). slice_cmp nat_cmp t (dir ++ 47 ∷ b)) (sym first)
    ∙ ap (λ (t : List ℕ). slice_cmp nat_cmp one t) (sym second) ∙ less

module _ (changes : List Change) (dir : List ℕ) where
  -- what a listed entry has
  entry_name-is : (entry : String Global × ℕ) (name : List ℕ) → entry_name changes dir entry ≡ Some name
      → (is_some (bytes_at changes entry.1) ≡ true) × (name_below dir (string_bytes entry.0) ≡ Some name)
  entry_name-is entry name e = each (is_some (bytes_at changes entry.1)) refl
    where
      each : (b : Bool) → is_some (bytes_at changes entry.1) ≡ b → (is_some (bytes_at changes entry.1) ≡ true) × (name_below dir (string_bytes entry.0) ≡ Some name)
      each true h = (h, sym (ap (λ (b : Bool). cond b (name_below dir (string_bytes entry.0)) None) h) ∙ e)
      each false h = let none : None ≡ Some name = sym (ap (λ (b : Bool). cond b (name_below dir (string_bytes entry.0)) None) h) ∙ e in cc

  entry_name-of : (entry : String Global × ℕ) (name : List ℕ) → is_some (bytes_at changes entry.1) ≡ true
      → name_below dir (string_bytes entry.0) ≡ Some name → entry_name changes dir entry ≡ Some name
  entry_name-of entry name stands e = ap (λ (b : Bool). cond b (name_below dir (string_bytes entry.0)) None) stands ∙ e

  -- a name is below those of later entries
  listed-above : (name path : List ℕ) → name_below dir path ≡ Some name → (es : List (String Global × ℕ))
      → AllByRecursion (λ k. slice_cmp nat_cmp path (string_bytes k) ≡ Less) (map (λ e. e.0) es)
      → AllByRecursion (λ n. slice_cmp nat_cmp name n ≡ Less) (listed changes dir es)
  listed-above name path e [] above = tt
  listed-above name path e (entry ∷ es) above = each (listed-above name path e es above.1) (entry_name changes dir entry) refl
    where
      each : AllByRecursion (λ n. slice_cmp nat_cmp name n ≡ Less) (listed changes dir es) → (o : Option (List ℕ)) → entry_name changes dir entry ≡ o
          → AllByRecursion (λ n. slice_cmp nat_cmp name n ≡ Less) (option_to_list o ++ listed changes dir es)
      each rest None h = rest
      each rest (Some n) h = (name_below-order dir path (string_bytes entry.0) name n e (entry_name-is entry n h).1 above.0, rest)

  onto : (entry : String Global × ℕ) (es : List (String Global × ℕ)) (o : Option (List ℕ)) → entry_name changes dir entry ≡ o
      → AllByRecursion (λ k. string_cmp entry.0 k ≡ Less) (map (λ e. e.0) es) → IsStrictlySortedBy (slice_cmp nat_cmp) (listed changes dir es)
      → IsStrictlySortedBy (slice_cmp nat_cmp) (option_to_list o ++ listed changes dir es)
  unfolding IsStrictlySortedBy
  onto entry es None h above rest = rest
  onto entry es (Some n) h above rest = (listed-above n (string_bytes entry.0) (entry_name-is entry n h).1 es above, rest)

  listed-rising : (es : List (String Global × ℕ)) → IsStrictlySortedBy string_cmp (map (λ e. e.0) es)
      → IsStrictlySortedBy (slice_cmp nat_cmp) (listed changes dir es)
  unfolding IsStrictlySortedBy
  listed-rising [] sorted = tt
  listed-rising (entry ∷ es) sorted = onto entry es (entry_name changes dir entry) refl sorted.0 (listed-rising es sorted.1)

  -- ---- members

  only_one : (o : Option (List ℕ)) (name : List ℕ) → Contains (option_to_list o) name → o ≡ Some name
  only_one None name (k, lt, e) = absurd (omega arith)
  only_one (Some n) name (zero, lt, e) = ap Some e
  only_one (Some n) name (suc k, lt, e) = absurd (omega arith)

  listed-place : (es : List (String Global × ℕ)) (name : List ℕ) → Contains (listed changes dir es) name
      → (i : ℕ) × (entry : String Global × ℕ) × (slice_get es i ≡ Some entry) × (entry_name changes dir entry ≡ Some name)
  listed-place [] name (k, lt, e) = absurd (omega arith)
  listed-place (entry ∷ es) name h =
      elim (Contains-append_cases (option_to_list (entry_name changes dir entry)) (listed changes dir es) name h) [
        | inl here ↦ (0, entry, refl, only_one (entry_name changes dir entry) name here)
        | inr later ↦ let place = listed-place es name later in (suc place.0, place.1, place.2, place.3)
      ]

  listed-holds : (es : List (String Global × ℕ)) (i : ℕ) (entry : String Global × ℕ) (name : List ℕ) → slice_get es i ≡ Some entry
      → entry_name changes dir entry ≡ Some name → Contains (listed changes dir es) name
  listed-holds [] i entry name at e = absurd (cc)
  listed-holds (first ∷ es) zero entry name at e =
      let same : first ≡ entry = cc in
      let o : entry_name changes dir first ≡ Some name = ap (entry_name changes dir) same ∙ e in
      subst (λ (o : Option (List ℕ)). Contains (option_to_list o ++ listed changes dir es) name) (sym o) (0, omega arith, refl)
  listed-holds (first ∷ es) (suc i) entry name at e =
      Contains-append_right (option_to_list (entry_name changes dir first)) (listed changes dir es) name (listed-holds es i entry name at e)

-- what the index lists is the listing
pub IsListing-listed : (latest : BTreeMap (String Global) ℕ) (changes : List Change) (dir : List ℕ) → IsOrdered string_cmp latest
    → IsIndex latest changes → IsListing (files_of (reverse changes)) dir (listed changes dir latest.entries)
IsListing-listed latest changes dir ordered index = record {
  rising = listed-rising changes dir latest.entries ordered;
  members = λ name. (there name, back name);
}
  where
    there : (name : List ℕ) → Contains (listed changes dir latest.entries) name → (list_any (λ c. c == 47) name ≡ false) × IsSome (file_at (reverse changes) (dir ++ 47 ∷ name))
    there name h =
        let place = listed-place changes dir latest.entries name h in
        let has = entry_name-is changes dir place.1 name place.3 in
        let form = name_below-is dir (string_bytes place.1.0) name has.1 in
        let got = btree_map_get_place string_cmp_total latest place.0 place.1.0 place.1.1 ordered place.2 in
        let newest = newest_is latest changes index (string_bytes place.1.0) place.1.1 got in
        (form.1, ap is_some (ap (file_at (reverse changes)) (sym form.0) ∙ newest.1) ∙ has.0)

    found : (name : List ℕ) → list_any (λ c. c == 47) name ≡ false → IsSome (file_at (reverse changes) (dir ++ 47 ∷ name))
        → (o : Option ℕ) → get_by_text latest (dir ++ 47 ∷ name) ≡ o → Contains (listed changes dir latest.entries) name
    found name plain stands None e =
        let none = absent_is latest changes index (dir ++ 47 ∷ name) e in
        let no : false ≡ true = sym (ap is_some none) ∙ stands in
        absurd (cc)
    found name plain stands (Some at) e =
        let newest = newest_is latest changes index (dir ++ 47 ∷ name) at e in
        let place = place_from_lookup (λ k. is_eq (slice_cmp nat_cmp (dir ++ 47 ∷ name) (string_bytes k))) latest.entries at e in
        let same : dir ++ 47 ∷ name ≡ string_bytes place.1 = (bytes_eq-Decides (dir ++ 47 ∷ name) (string_bytes place.1)).0 (sym (is_eq-slice_cmp (dir ++ 47 ∷ name) (string_bytes place.1)) ∙ place.3) in
        listed-holds changes dir latest.entries place.0 (place.1, at) name place.2
        (entry_name-of changes dir (place.1, at) name (sym (ap is_some newest.1) ∙ stands) (name_below-at_slash dir (string_bytes place.1) name (sym same) false plain))

    back : (name : List ℕ) → (list_any (λ c. c == 47) name ≡ false) × IsSome (file_at (reverse changes) (dir ++ 47 ∷ name)) → Contains (listed changes dir latest.entries) name
    back name h = found name h.0 h.1 (get_by_text latest (dir ++ 47 ∷ name)) refl

-- ---- the part of the index that lies below a folder

slice_cmp-longer : (name : List ℕ) → is_le (slice_cmp nat_cmp [] name) ≡ true
slice_cmp-longer [] = refl
slice_cmp-longer (c ∷ cs) = refl

-- a path right in a folder lies between the folder's path with a slash and with the byte after it
between_bounds : (dir name : List ℕ) (start end path : String Global) → string_bytes start ≡ dir ++ 47 ∷ [] → string_bytes end ≡ dir ++ 48 ∷ []
    → string_bytes path ≡ dir ++ 47 ∷ name → range_contains string_cmp (Included start) (Excluded end) path ≡ true
between_bounds dir name start end path s e p =
    let low : is_le (string_cmp start path) ≡ true =
    ap is_le (ap (λ (t : List ℕ). slice_cmp nat_cmp t (string_bytes path)) s ∙ ap (λ (t : List ℕ). slice_cmp nat_cmp (dir ++ 47 ∷ []) t) p ∙ slice_cmp-append dir (47 ∷ []) (47 ∷ name)) ∙ slice_cmp-longer name in
    let high : is_le (string_cmp end path) ≡ false =
    ap is_le (ap (λ (t : List ℕ). slice_cmp nat_cmp t (string_bytes path)) e ∙ ap (λ (t : List ℕ). slice_cmp nat_cmp (dir ++ 48 ∷ []) t) p ∙ slice_cmp-append dir (48 ∷ []) (47 ∷ name)) in
    rw (low, high) refl

-- what lies elsewhere in the index is not listed
pub listed-between : (changes : List Change) (dir : List ℕ) (start end : String Global) → string_bytes start ≡ dir ++ 47 ∷ [] → string_bytes end ≡ dir ++ 48 ∷ []
    → (es : List (String Global × ℕ)) → listed changes dir (entries_between string_cmp (Included start) (Excluded end) es) ≡ listed changes dir es
listed-between changes dir start end s e [] = refl
listed-between changes dir start end s e (entry ∷ es) =
    each (range_contains string_cmp (Included start) (Excluded end) entry.0) refl (listed-between changes dir start end s e es)
  where
    unlisted : range_contains string_cmp (Included start) (Excluded end) entry.0 ≡ false → (o : Option (List ℕ)) → entry_name changes dir entry ≡ o → entry_name changes dir entry ≡ None
    unlisted out None h = h
    unlisted out (Some name) h =
        let path = (name_below-is dir (string_bytes entry.0) name (entry_name-is changes dir entry name h).1).0 in
        let no : false ≡ true = sym out ∙ between_bounds dir name start end entry.0 s e path in
        absurd (cc)

    each : (b : Bool) → range_contains string_cmp (Included start) (Excluded end) entry.0 ≡ b
        → listed changes dir (entries_between string_cmp (Included start) (Excluded end) es) ≡ listed changes dir es
        → listed changes dir (cond b (entry ∷ entries_between string_cmp (Included start) (Excluded end) es) (entries_between string_cmp (Included start) (Excluded end) es))
        ≡ option_to_list (entry_name changes dir entry) ++ listed changes dir es
    each true h later = ap (λ (l : List (List ℕ)). option_to_list (entry_name changes dir entry) ++ l) later
    each false h later = later ∙ ap (λ (o : Option (List ℕ)). option_to_list o ++ listed changes dir es) (sym (unlisted h (entry_name changes dir entry) refl))

-- the one bound is below the other
pub bounds_in_order : (dir : List ℕ) (start end : String Global) → string_bytes start ≡ dir ++ 47 ∷ [] → string_bytes end ≡ dir ++ 48 ∷ []
    → is_gt (string_cmp start end) ≡ false
bounds_in_order dir start end s e =
    ap is_gt (ap (λ (t : List ℕ). slice_cmp nat_cmp t (string_bytes end)) s ∙ ap (λ (t : List ℕ). slice_cmp nat_cmp (dir ++ 47 ∷ []) t) e ∙ slice_cmp-append dir (47 ∷ []) (48 ∷ []))
