-- The entries of a listing's names are the refs of the ids.
use Rattle.std.proofs.Common.{◌≡◌, ◌≢◌, ◌↔◌, ◌⊎◌, inl, inr, ℕ, zero, suc, ◌+◌, ◌<◌, ◌==◌, Bool, true, false, IsTrue, if◌then◌else◌, List, [], ◌∷◌, ◌++◌, length, map, take, get_or, Option, Some, None, option_and_then, refl, sym, ◌∙◌, ap, subst, append_assoc, arith}
use Rattle.std.specs.Prelude.{Contains, IsSome}
use Rattle.std.proofs.lemmas.Bool.Decides.{nat_tests}
use Rattle.std.proofs.lemmas.List.Elements.{filter_map-append, Contains-append_left, Contains-append_right, Contains-append_cases}
use Rattle.std.proofs.lemmas.Option.{same_Some}
use Rattle.std.proofs.lemmas.List.{get_or-map, length-map, take_more}
use Rattle.std.proofs.lemmas.Map.Keys.{Less-from_sorted}
use Rattle.std.proofs.lemmas.Map.Text.{is_eq-slice_cmp}
use Rattle.std.proofs.lemmas.Slice.Eq.{bytes_eq-Decides}
use Rattle.std.specs.Str.{bytes_eq}
use Rattle.std.specs.Option.{option_map, option_or}
use Rattle.std.specs.Cmp.Lexicographic.{slice_cmp}
use Rattle.std.specs.List.{AllByRecursion, AllPairs, cons_option, filter_map, list_all, list_any}
use Rattle.std.specs.List.Sorted.{IsStrictlySortedBy}
use Rattle.std.specs.Ordering.{is_eq, nat_cmp}
use Rattle.std.specs.declared.cmp.Ordering.TheVariants.{Less}
use Rattle.hex.specs.Hex.{encode_lower, is_hex_digit}
use Rattle.gb_text.specs.Digits.{IsId, id_of}
use Rattle.gb_text.specs.Folder.{joined}
use Rattle.gb_text.specs.declared.id.Id.{Id}
use Rattle.gb_text.proofs.DigitLemmas.{id_of-encode_lower, id_of-is}
use Rattle.gb_store.specs.Files.{Files, IsListing}
use Rattle.gb_text.specs.declared.id.Name.{Name}
use Rattle.ref_store.specs.Refs.{Ref, Absent, Head, Bad, head_if, is_there, or_packed, packed_at, ref_at, ref_of}
use Rattle.packed_refs.specs.Packed.{head_in, head_of, heads_in, id_below, id_head_after, id_head_of, last_id_head}
use Rattle.packed_refs.specs.declared.packed.PackedHead.{PackedHead}
use Rattle.packed_refs.proofs.BelowLemmas.{names_below}
use Rattle.packed_refs.proofs.HeadLemmas.{heads_are}
use Rattle.ref_store.proofs.FrameLemmas.{loose_is_there, loose_ref, packed_ref}
use Rattle.ref_store.specs.Listing.{AreLast, AreSorted, IsIdList, IsRefList, found_after, found_of, id_place, last_found, loose_named, loose_of, packed_entry}
use Rattle.ref_store.specs.declared.listing.RefEntry.{RefEntry}
use Rattle.ref_store.specs.declared.listing.RefFound.{RefFound}
use Rattle.ref_store.specs.declared.listing.RefFound.TheVariants as variant
use Rattle.std.proofs.lemmas.Bool.{and_parts}
use Rattle.gb_text.proofs.AsciiLemmas.{encode_lower-digits}
use Rattle.gb_text.proofs.OrderLemmas.{encode_lower-order}

-- ---- lists

pub filter_map-has : {X Y : Type 0} (f : X → Option Y) (xs : List X) (x : X) (y : Y) → Contains xs x → f x ≡ Some y → Contains (filter_map f xs) y
filter_map-has f [] x y (k, lt, e) h = absurd (omega arith)
filter_map-has f (z ∷ xs) x y (zero, lt, e) h =
    subst (λ o. Contains (cons_option o (filter_map f xs)) y) (sym (ap f e ∙ h)) (0, omega arith, refl)
filter_map-has {Y = Y} f (z ∷ xs) x y (suc k, lt, e) h = each (f z) (filter_map-has f xs x y (k, omega arith, e) h)
  where
    each : (o : Option Y) → Contains (filter_map f xs) y → Contains (cons_option o (filter_map f xs)) y
    each None later = later
    each (Some w) later = (suc later.0, omega (arith, later.1), later.2)

pub filter_map-from : {X Y : Type 0} (f : X → Option Y) (xs : List X) (y : Y) → Contains (filter_map f xs) y → (x : X) × Contains xs x × (f x ≡ Some y)
filter_map-from f [] y (k, lt, e) = absurd (omega arith)
filter_map-from {X = X} {Y = Y} f (z ∷ xs) y h = each (filter_map-from f xs y) (f z) refl h
  where
    more : (x : X) × Contains xs x × (f x ≡ Some y) → (x : X) × Contains (z ∷ xs) x × (f x ≡ Some y)
    more m = (m.0, (suc m.1.0, omega (arith, m.1.1), m.1.2), m.2)

    each : (Contains (filter_map f xs) y → (x : X) × Contains xs x × (f x ≡ Some y)) → (o : Option Y) → f z ≡ o → Contains (cons_option o (filter_map f xs)) y
        → (x : X) × Contains (z ∷ xs) x × (f x ≡ Some y)
    each later None at h = more (later h)
    each later (Some w) at (zero, lt, e) = (z, (0, omega arith, refl), at ∙ ap Some e)
    each later (Some w) at (suc k, lt, e) = more (later (k, omega arith, e))

pub Contains-map : {X Y : Type 0} (f : X → Y) (xs : List X) (x : X) → Contains xs x → Contains (map f xs) (f x)
Contains-map f [] x (k, lt, e) = absurd (omega arith)
Contains-map f (y ∷ ys) x (zero, lt, e) = subst (λ z. Contains (f y ∷ map f ys) (f z)) e (0, omega arith, refl)
Contains-map f (y ∷ ys) x (suc k, lt, e) = let later = Contains-map f ys x (k, omega arith, e) in (suc later.0, omega (arith, later.1), later.2)

-- what a mapped list has comes from an element
pub Contains-from_map : {X Y : Type 0} (f : X → Y) (xs : List X) (y : Y) → Contains (map f xs) y → (x : X) × Contains xs x × (f x ≡ y)
Contains-from_map f [] y (k, lt, e) = absurd (omega arith)
Contains-from_map f (x ∷ xs) y (zero, lt, e) = (x, (0, omega arith, refl), e)
Contains-from_map f (x ∷ xs) y (suc k, lt, e) = let found = Contains-from_map f xs y (k, omega arith, e) in (found.0, (suc found.1.0, omega (arith, found.1.1), found.1.2), found.2)

-- one name more
pub filter_map-more : {X Y : Type 0} (f : X → Option Y) (xs : List X) (i : ℕ) (d : X) → i < length xs
    → filter_map f (take (i + 1) xs) ≡ filter_map f (take i xs) ++ cons_option (f (get_or xs i d)) []
filter_map-more f xs i d lt = ap (filter_map f) (take_more xs i d lt) ∙ filter_map-append f (take i xs) (get_or xs i d ∷ [])

-- ---- order

-- what is read of names by the ids that they are
module _ {X : Type 0} (read : List ℕ → Option X) (id_in : X → Id) (is_name : (name : List ℕ) (x : X) → read name ≡ Some x → id_of name ≡ Some (id_in x)) where
  abbrev bytes_in : X → List ℕ
  bytes_in x = (id_in x).bytes

  -- ids of later names are above
  above : (id : Id) → IsId id → (names : List (List ℕ)) → AllByRecursion (λ n. slice_cmp nat_cmp (encode_lower id.bytes) n ≡ Less) names
      → AllByRecursion (λ b. slice_cmp nat_cmp id.bytes b ≡ Less) (map bytes_in (filter_map read names))
  above id is [] all = tt
  above id is (name ∷ names) all = each (above id is names all.1) (read name) refl
    where
      each : AllByRecursion (λ b. slice_cmp nat_cmp id.bytes b ≡ Less) (map bytes_in (filter_map read names))
          → (o : Option X) → read name ≡ o → AllByRecursion (λ b. slice_cmp nat_cmp id.bytes b ≡ Less) (map bytes_in (cons_option o (filter_map read names)))
      each later None at = later
      each later (Some x) at =
          let digits = id_of-is name (id_in x) (is_name name x at) in
          let less : slice_cmp nat_cmp id.bytes (bytes_in x) ≡ Less =
          sym (encode_lower-order id.bytes (bytes_in x) is.bytes digits.0.bytes) ∙ ap (slice_cmp nat_cmp (encode_lower id.bytes)) (sym digits.1) ∙ all.0 in
          (less, later)

  rising : (names : List (List ℕ)) → IsStrictlySortedBy (slice_cmp nat_cmp) names → IsStrictlySortedBy (slice_cmp nat_cmp) (map bytes_in (filter_map read names))
  unfolding IsStrictlySortedBy
  rising [] sorted = tt
  rising (name ∷ names) sorted = each (rising names sorted.1) (read name) refl
    where
      each : IsStrictlySortedBy (slice_cmp nat_cmp) (map bytes_in (filter_map read names))
          → (o : Option X) → read name ≡ o → IsStrictlySortedBy (slice_cmp nat_cmp) (map bytes_in (cons_option o (filter_map read names)))
      each later None at = later
      each later (Some x) at =
          let digits = id_of-is name (id_in x) (is_name name x at) in
          (above (id_in x) digits.0 names (subst (λ (t : List ℕ). AllByRecursion (λ n. slice_cmp nat_cmp t n ≡ Less) names) digits.1 sorted.0), later)

-- ---- the last entry of an id

pub same_id : (one two : Id) → one.bytes ≡ two.bytes → one ≡ two
same_id one two e = let of_bytes : List ℕ → Id = λ b. record { bytes = b } in ap of_bytes e

last_found-append : (id : Id) (before : Option RefFound) (xs ys : List RefEntry) → last_found id before (xs ++ ys) ≡ last_found id (last_found id before xs) ys
unfolding last_found
last_found-append id before [] ys = refl
last_found-append id before (x ∷ xs) ys = last_found-append id (found_after id before x) xs ys

-- where each entry of the id says the same, and there is one
last_same : (id : Id) (f : RefFound) (entries : List RefEntry) → ((entry : RefEntry) → Contains entries entry → entry.id ≡ id → entry.found ≡ f) → (before : Option RefFound)
    → (before ≡ Some f) ⊎ ((entry : RefEntry) × Contains entries entry × (entry.id ≡ id)) → last_found id before entries ≡ Some f
unfolding last_found
last_same id f [] each before (inl is) = is
last_same id f [] each before (inr has) = absurd (omega (arith, has.1.1))
last_same id f (entry ∷ entries) each before has =
    by (last_same id f entries (λ e c same. each e (suc c.0, omega (arith, c.1), c.2) same)) (bytes_eq entry.id.bytes id.bytes) refl has
  where
    by : ((b : Option RefFound) → (b ≡ Some f) ⊎ ((e : RefEntry) × Contains entries e × (e.id ≡ id)) → last_found id b entries ≡ Some f)
        → (b : Bool) → bytes_eq entry.id.bytes id.bytes ≡ b → (before ≡ Some f) ⊎ ((e : RefEntry) × Contains (entry ∷ entries) e × (e.id ≡ id))
        → last_found id (if b then Some entry.found else before) entries ≡ Some f
    by later true at has = later (Some entry.found) (inl (ap Some (each entry (0, omega arith, refl) (same_id entry.id id ((bytes_eq-Decides entry.id.bytes id.bytes).0 at)))))
    by later false at (inl is) = later before (inl is)
    by later false at (inr (e, (zero, lt, is), same)) =
        let equal : bytes_eq entry.id.bytes id.bytes ≡ true = (bytes_eq-Decides entry.id.bytes id.bytes).1 (ap (λ (x : RefEntry). x.id.bytes) is ∙ ap (λ (x : Id). x.bytes) same) in
        absurd (cc (at, equal))
    by later false at (inr (e, (suc k, lt, is), same)) = later before (inr (e, (k, omega arith, is), same))

-- where no entry is of the id
last_none : (id : Id) (entries : List RefEntry) → ((entry : RefEntry) → Contains entries entry → entry.id ≢ id) → (before : Option RefFound) → last_found id before entries ≡ before
unfolding last_found
last_none id [] none before = refl
last_none id (entry ∷ entries) none before = by (last_none id entries (λ e c. none e (suc c.0, omega (arith, c.1), c.2)) before) (bytes_eq entry.id.bytes id.bytes) refl
  where
    by : last_found id before entries ≡ before → (b : Bool) → bytes_eq entry.id.bytes id.bytes ≡ b → last_found id (if b then Some entry.found else before) entries ≡ before
    by later true at = absurd (none entry (0, omega arith, refl) (same_id entry.id id ((bytes_eq-Decides entry.id.bytes id.bytes).0 at)))
    by later false at = later

-- what was found last is what was found before, or an entry of the id
last_from : (id : Id) (f : RefFound) (entries : List RefEntry) (before : Option RefFound) → last_found id before entries ≡ Some f
    → (before ≡ Some f) ⊎ ((entry : RefEntry) × Contains entries entry × (entry.id ≡ id))
unfolding last_found
last_from id f [] before e = inl e
last_from id f (entry ∷ entries) before e = by (last_from id f entries before) (bytes_eq entry.id.bytes id.bytes) refl e
  where
    more : (e : RefEntry) × Contains entries e × (e.id ≡ id) → (e : RefEntry) × Contains (entry ∷ entries) e × (e.id ≡ id)
    more m = (m.0, (suc m.1.0, omega (arith, m.1.1), m.1.2), m.2)

    by : (last_found id before entries ≡ Some f → (before ≡ Some f) ⊎ ((e : RefEntry) × Contains entries e × (e.id ≡ id)))
        → (b : Bool) → bytes_eq entry.id.bytes id.bytes ≡ b → last_found id (if b then Some entry.found else before) entries ≡ Some f
        → (before ≡ Some f) ⊎ ((e : RefEntry) × Contains (entry ∷ entries) e × (e.id ≡ id))
    by later true at e = inr (entry, (0, omega arith, refl), same_id entry.id id ((bytes_eq-Decides entry.id.bytes id.bytes).0 at))
    by later false at e = elim (later e) [ inl is ↦ inl is | inr m ↦ inr (more m) ]

-- a head that was found last is what was found before, or that of an entry of the id
last_from_packed : (id : Id) (head : Name) (heads : List PackedHead) (before : Option Name) → last_id_head id before heads ≡ Some head
    → (before ≡ Some head) ⊎ ((one : PackedHead) × Contains heads one × (one.id ≡ id) × (one.head ≡ head))
unfolding last_id_head
last_from_packed id head [] before e = inl e
last_from_packed id head (one ∷ heads) before e = by (last_from_packed id head heads) (bytes_eq one.id.bytes id.bytes) refl e
  where
    more : (x : PackedHead) × Contains heads x × (x.id ≡ id) × (x.head ≡ head) → (x : PackedHead) × Contains (one ∷ heads) x × (x.id ≡ id) × (x.head ≡ head)
    more m = (m.0, (suc m.1.0, omega (arith, m.1.1), m.1.2), m.2, m.3)

    by : ((b : Option Name) → last_id_head id b heads ≡ Some head → (b ≡ Some head) ⊎ ((x : PackedHead) × Contains heads x × (x.id ≡ id) × (x.head ≡ head)))
        → (b : Bool) → bytes_eq one.id.bytes id.bytes ≡ b → last_id_head id (if b then Some one.head else before) heads ≡ Some head
        → (before ≡ Some head) ⊎ ((x : PackedHead) × Contains (one ∷ heads) x × (x.id ≡ id) × (x.head ≡ head))
    by later true at e = elim (later (Some one.head) e) [
      | inl is ↦ inr (one, (0, omega arith, refl), same_id one.id id ((bytes_eq-Decides one.id.bytes id.bytes).0 at), cc is)
      | inr m ↦ inr (more m)
    ]
    by later false at e = elim (later before e) [ inl is ↦ inl is | inr m ↦ inr (more m) ]

-- once a head was found, one is found
stays : (id : Id) (found : Name) (heads : List PackedHead) → (head : Name) × (last_id_head id (Some found) heads ≡ Some head)
unfolding last_id_head
stays id found [] = (found, refl)
stays id found (one ∷ heads) = by (λ f. stays id f heads) (bytes_eq one.id.bytes id.bytes)
  where
    by : ((f : Name) → (head : Name) × (last_id_head id (Some f) heads ≡ Some head)) → (b : Bool) → (head : Name) × (last_id_head id (if b then Some one.head else Some found) heads ≡ Some head)
    by later true = later one.head
    by later false = later found

-- where an entry is of the id, a head is found
last_some : (id : Id) (before : Option Name) (heads : List PackedHead) → ((one : PackedHead) × Contains heads one × (one.id ≡ id)) → (head : Name) × (last_id_head id before heads ≡ Some head)
unfolding last_id_head
last_some id before [] (one, c, same) = absurd (omega (arith, c.1))
last_some id before (one ∷ heads) (x, (zero, lt, is), same) =
    let equal : bytes_eq one.id.bytes id.bytes ≡ true = (bytes_eq-Decides one.id.bytes id.bytes).1 (ap (λ (y : PackedHead). y.id.bytes) is ∙ ap (λ (y : Id). y.bytes) same) in
    let rest = stays id one.head heads in
    (rest.0, ap (λ (b : Bool). last_id_head id (if b then Some one.head else before) heads) equal ∙ rest.1)
last_some id before (one ∷ heads) (x, (suc k, lt, is), same) = last_some id (id_head_after id before one) heads (x, (k, omega arith, is), same)

-- what the last of packed entries says of an id is its head
packed_last : (id : Id) (before : Option Name) (heads : List PackedHead)
    → last_found id (option_map variant.Head before) (map packed_entry heads) ≡ option_map variant.Head (last_id_head id before heads)
unfolding last_found last_id_head
packed_last id before [] = refl
packed_last id before (one ∷ heads) = by (λ b. packed_last id b heads) (bytes_eq one.id.bytes id.bytes)
  where
    by : ((b : Option Name) → last_found id (option_map variant.Head b) (map packed_entry heads) ≡ option_map variant.Head (last_id_head id b heads))
        → (b : Bool) → last_found id (if b then Some (variant.Head one.head) else option_map variant.Head before) (map packed_entry heads)
        ≡ option_map variant.Head (last_id_head id (if b then Some one.head else before) heads)
    by later true = later (Some one.head)
    by later false = later before

-- ---- the digits of an id are a file's name

digit_is_no_slash : (c : ℕ) → is_hex_digit c ≡ true → (c == 47) ≡ false
digit_is_no_slash c digit = grind (arith, nat_tests)

pub digits_have_no_slash : (text : List ℕ) → list_all is_hex_digit text ≡ true → list_any (λ c. c == 47) text ≡ false
digits_have_no_slash [] all = refl
digits_have_no_slash (c ∷ cs) all =
    let here = and_parts (is_hex_digit c) (list_all is_hex_digit cs) all in
    rw (digit_is_no_slash c here.0, digits_have_no_slash cs here.1) refl

module _ (files : Files) (folder dir : List ℕ) where
  -- where the ref of an id stands
  path_is : (id : Id) → joined folder (id_place dir id) ≡ joined folder dir ++ 47 ∷ encode_lower id.bytes
  path_is id = simp append_assoc

  -- an id with a file is listed by its digits
  pub digits_listed : (names : List (List ℕ)) (id : Id) → IsListing files (joined folder dir) names → IsId id → IsSome (files (joined folder (id_place dir id))) → Contains names (encode_lower id.bytes)
  digits_listed names id listing is stands =
      let there : IsSome (files (joined folder dir ++ 47 ∷ encode_lower id.bytes)) = subst (λ (p : List ℕ). IsSome (files p)) (path_is id) stands in
      (listing.members (encode_lower id.bytes)).1 (digits_have_no_slash (encode_lower id.bytes) (encode_lower-digits id.bytes is.bytes), there)

-- ---- the entry of a name

module _ (files : Files) (folder dir : List ℕ) where
  -- the file of an id's loose ref
  abbrev file_of : Id → Option (List ℕ)
  file_of id = files (joined folder (id_place dir id))

  -- a name with an entry is the digits of the entry's id, whose loose ref it is
  loose-is : (name : List ℕ) (entry : RefEntry) → loose_named files folder dir name ≡ Some entry
      → (id_of name ≡ Some entry.id) × (found_of (ref_of (file_of entry.id)) ≡ Some entry.found)
  loose-is name entry e = each (id_of name) refl
    where
      inner : (id : Id) (o : Option RefFound) → found_of (ref_of (file_of id)) ≡ o → loose_of files folder dir id ≡ Some entry
          → (id ≡ entry.id) × (found_of (ref_of (file_of entry.id)) ≡ Some entry.found)
      inner id None at h = cc
      inner id (Some f) at h =
          let is : record { id = id; found = f } ≡ entry = cc in
          subst (λ (x : RefEntry). (id ≡ x.id) × (found_of (ref_of (file_of x.id)) ≡ Some x.found)) is (refl, at)

      each : (o : Option Id) → id_of name ≡ o → (id_of name ≡ Some entry.id) × (found_of (ref_of (file_of entry.id)) ≡ Some entry.found)
      each None h = cc
      each (Some id) h =
          let has : loose_of files folder dir id ≡ Some entry = sym (ap (option_and_then (loose_of files folder dir)) h) ∙ e in
          let both = inner id (found_of (ref_of (file_of id))) refl has in
          (h ∙ ap Some both.0, both.1)

  loose-of : (entry : RefEntry) → IsId entry.id → found_of (ref_of (file_of entry.id)) ≡ Some entry.found
      → loose_named files folder dir (encode_lower entry.id.bytes) ≡ Some entry
  loose-of entry is found = rw (id_of-encode_lower entry.id is, found) refl

  -- a loose ref that is found has a file
  found_stands : (file : Option (List ℕ)) (found : RefFound) → found_of (ref_of file) ≡ Some found → IsSome file
  found_stands None found e = cc
  found_stands (Some text) found e = refl

  loose_listed : (names : List (List ℕ)) → IsListing files (joined folder dir) names → (entry : RefEntry) → IsId entry.id
      → found_of (ref_of (file_of entry.id)) ≡ Some entry.found → Contains (filter_map (loose_named files folder dir) names) entry
  loose_listed names listing entry is found =
      let stands = found_stands (file_of entry.id) entry.found found in
      filter_map-has (loose_named files folder dir) names (encode_lower entry.id.bytes) entry (digits_listed files folder dir names entry.id listing is stands) (loose-of entry is found)

  abbrev loose_all : List (List ℕ) → List RefEntry
  loose_all names = filter_map (loose_named files folder dir) names

  -- what the last of the loose entries says of an id
  loose_last : (names : List (List ℕ)) → IsListing files (joined folder dir) names → (id : Id) → IsId id → (before : Option RefFound)
      → last_found id before (filter_map (loose_named files folder dir) names) ≡ option_or (found_of (ref_of (file_of id))) before
  loose_last names listing id is before = each (found_of (ref_of (file_of id))) refl
    where
      found : (entry : RefEntry) → Contains (loose_all names) entry → entry.id ≡ id → found_of (ref_of (file_of id)) ≡ Some entry.found
      found entry has same =
          let from = filter_map-from (loose_named files folder dir) names entry has in
          subst (λ (at : Id). found_of (ref_of (file_of at)) ≡ Some entry.found) same (loose-is from.0 entry from.2).1

      each : (o : Option RefFound) → found_of (ref_of (file_of id)) ≡ o → last_found id before (loose_all names) ≡ option_or (found_of (ref_of (file_of id))) before
      each None at = last_none id (loose_all names) (λ entry has same. let f = found entry has same in cc (at, f)) before ∙ ap (λ (o : Option RefFound). option_or o before) (sym at)
      each (Some f) at =
          last_same id f (loose_all names) (λ entry has same. same_Some entry.found f (sym (found entry has same) ∙ at)) before (inr (record { id = id; found = f }, loose_listed names listing (record { id = id; found = f }) is at, refl))
          ∙ ap (λ (o : Option RefFound). option_or o before) (sym at)

  -- ---- loose and packed refs

  -- what is found of a ref, by its two files
  found_at : (id : Id) → found_of (ref_at files folder (id_place dir id))
      ≡ option_or (found_of (ref_of (file_of id))) (option_map variant.Head (head_of (id_place dir id) (packed_at files folder)))
  unfolding ref_at
  found_at id = by (ref_of (file_of id)) (head_of (id_place dir id) (packed_at files folder))
    where
      by : (ref : Ref) (head : Option Name) → found_of (or_packed ref head) ≡ option_or (found_of ref) (option_map variant.Head head)
      by Absent None = refl
      by Absent (Some name) = refl
      by (Head name) head = refl
      by Bad head = refl

  abbrev heads : List PackedHead
  heads = heads_in dir (packed_at files folder)

  abbrev with_head : Name → Id → PackedHead
  with_head head id = record { id = id; head = head }

  -- the head of a packed ref is of an id
  heads_valid : (one : PackedHead) → Contains heads one → IsId one.id
  heads_valid one has =
      let from = filter_map-from (head_in dir) (packed_at files folder) one has in
      by from.0.name from.0.head (id_below dir from.0.name) refl from.2
    where
      by : (name : List ℕ) (head : Name) (o : Option Id) → id_below dir name ≡ o → option_map (with_head head) o ≡ Some one → IsId one.id
      by name head None at e = absurd cc
      by name head (Some id) at e = subst IsId (ap (λ (x : PackedHead). x.id) (same_Some (with_head head id) one e)) ((names_below dir name id).0 at).1

  abbrev all_of : List (List ℕ) → List RefEntry
  all_of names = map packed_entry heads ++ filter_map (loose_named files folder dir) names

  -- what the last of all entries says of an id is what is found of its ref
  all_last : (names : List (List ℕ)) → IsListing files (joined folder dir) names → (id : Id) → IsId id
      → last_found id None (all_of names) ≡ found_of (ref_at files folder (id_place dir id))
  all_last names listing id is =
      last_found-append id None (map packed_entry heads) (filter_map (loose_named files folder dir) names)
      ∙ ap (λ (o : Option RefFound). last_found id o (filter_map (loose_named files folder dir) names)) (packed_last id None heads)
      ∙ loose_last names listing id is (option_map variant.Head (id_head_of id heads))
      ∙ ap (λ (o : Option Name). option_or (found_of (ref_of (file_of id))) (option_map variant.Head o)) (sym (heads_are dir (packed_at files folder) id is))
      ∙ sym (found_at id)

  -- each of them is of an id
  all_valid : (names : List (List ℕ)) (entry : RefEntry) → Contains (all_of names) entry → IsId entry.id
  all_valid names entry has = each (Contains-append_cases (map packed_entry heads) (filter_map (loose_named files folder dir) names) entry has)
    where
      each : Contains (map packed_entry heads) entry ⊎ Contains (filter_map (loose_named files folder dir) names) entry → IsId entry.id
      each (inl c) =
          let from = Contains-from_map packed_entry heads entry c in
          subst (λ (x : RefEntry). IsId x.id) from.2 (heads_valid from.0 from.1)
      each (inr c) =
          let from = filter_map-from (loose_named files folder dir) names entry c in
          (id_of-is from.0 entry.id (loose-is from.0 entry from.2).0).0

  -- the last entry of each id is the list of refs
  pub last_is_ref_list : (names : List (List ℕ)) (last : List RefEntry) → IsListing files (joined folder dir) names
      → AreLast (map packed_entry heads ++ filter_map (loose_named files folder dir) names) last → IsRefList files folder dir last
  last_is_ref_list names last listing are = record {
    rising = are.rising;
    members = λ entry. (
      λ has.
          let found = (are.members entry).0 has in
          let valid : IsId entry.id = elim (last_from entry.id entry.found (all_of names) None found) [
            | inl none ↦ absurd (cc none)
            | inr from ↦ subst IsId from.2 (all_valid names from.0 from.1)
          ] in
          (valid, sym (all_last names listing entry.id valid) ∙ found),
      λ h. (are.members entry).1 (all_last names listing entry.id h.0 ∙ h.1),
    );
  }

-- ---- ids

module _ (files : Files) (folder dir : List ℕ) where
  -- an id with a packed head is among the packed ones, and the other way round
  packed_ids : (id : Id) → IsId id → Contains (map (λ (one : PackedHead). one.id) (heads files folder dir)) id
      ↔ ((head : Name) × (head_of (id_place dir id) (packed_at files folder) ≡ Some head))
  packed_ids id is = (
    λ has.
        let from = Contains-from_map (λ (one : PackedHead). one.id) (heads files folder dir) id has in
        let some = last_some id None (heads files folder dir) (from.0, from.1, from.2) in
        (some.0, heads_are dir (packed_at files folder) id is ∙ some.1),
    λ h. elim (last_from_packed id h.0 (heads files folder dir) None (sym (heads_are dir (packed_at files folder) id is) ∙ h.1)) [
      | inl none ↦ absurd (cc none)
      | inr from ↦ subst (Contains (map (λ (one : PackedHead). one.id) (heads files folder dir))) from.2 (Contains-map (λ (one : PackedHead). one.id) (heads files folder dir) from.0 from.1)
    ],
  )

  -- the ids of loose and of packed refs are those of all refs
  pub sorted_is_id_list : (names : List (List ℕ)) (ids : List Id) → IsListing files (joined folder dir) names
      → AreSorted (filter_map id_of names ++ map (λ (one : PackedHead). one.id) (heads files folder dir)) ids → IsIdList files folder dir ids
  sorted_is_id_list names ids listing sorted = record {
    rising = sorted.rising;
    members = λ id. (λ has. there id ((sorted.members id).0 has), λ h. (sorted.members id).1 (among id h.0 h.1));
  }
    where
      there : (id : Id) → Contains (filter_map id_of names ++ map (λ (one : PackedHead). one.id) (heads files folder dir)) id → IsId id × IsTrue (is_there (ref_at files folder (id_place dir id)))
      there id has = elim (Contains-append_cases (filter_map id_of names) (map (λ (one : PackedHead). one.id) (heads files folder dir)) id has) [
        | inl c ↦
            let from = filter_map-from id_of names id c in
            let digits = id_of-is from.0 id from.2 in
            let named : Contains names (encode_lower id.bytes) = subst (λ (n : List ℕ). Contains names n) digits.1 from.1 in
            let file : IsSome (files (joined folder (id_place dir id))) = subst (λ (p : List ℕ). IsSome (files p)) (sym (path_is files folder dir id)) ((listing.members (encode_lower id.bytes)).0 named).1 in
            (digits.0, loose_there (files (joined folder (id_place dir id))) refl file)
        | inr c ↦
            let from = Contains-from_map (λ (one : PackedHead). one.id) (heads files folder dir) id c in
            let is : IsId id = subst IsId from.2 (heads_valid files folder dir from.0 from.1) in
            (is, packed_there (files (joined folder (id_place dir id))) refl ((packed_ids id is).0 c))
      ]
        where
          loose_there : (file : Option (List ℕ)) → files (joined folder (id_place dir id)) ≡ file → IsSome file → IsTrue (is_there (ref_at files folder (id_place dir id)))
          loose_there None at some = absurd (cc some)
          loose_there (Some text) at some = ap is_there (loose_ref files folder (id_place dir id) text at) ∙ loose_is_there text

          packed_there : (file : Option (List ℕ)) → files (joined folder (id_place dir id)) ≡ file → ((head : Name) × (head_of (id_place dir id) (packed_at files folder) ≡ Some head))
              → IsTrue (is_there (ref_at files folder (id_place dir id)))
          packed_there None at h = ap is_there (packed_ref files folder (id_place dir id) at ∙ ap head_if h.1)
          packed_there (Some text) at h = loose_there (Some text) at refl

      among : (id : Id) → IsId id → IsTrue (is_there (ref_at files folder (id_place dir id))) → Contains (filter_map id_of names ++ map (λ (one : PackedHead). one.id) (heads files folder dir)) id
      among id is there = by (files (joined folder (id_place dir id))) refl (head_of (id_place dir id) (packed_at files folder)) refl
        where
          by : (file : Option (List ℕ)) → files (joined folder (id_place dir id)) ≡ file → (o : Option Name) → head_of (id_place dir id) (packed_at files folder) ≡ o
              → Contains (filter_map id_of names ++ map (λ (one : PackedHead). one.id) (heads files folder dir)) id
          by (Some text) at o head =
              Contains-append_left (filter_map id_of names) (map (λ (one : PackedHead). one.id) (heads files folder dir)) id
              (filter_map-has id_of names (encode_lower id.bytes) id (digits_listed files folder dir names id listing is (subst IsSome (sym at) refl)) (id_of-encode_lower id is))
          by None at (Some name) head =
              Contains-append_right (filter_map id_of names) (map (λ (one : PackedHead). one.id) (heads files folder dir)) id ((packed_ids id is).1 (name, head))
          by None at None head = absurd (cc (sym (ap is_there (packed_ref files folder (id_place dir id) at ∙ ap head_if head)) ∙ there))

-- an id has an entry exactly where it has a ref
pub each_ref : (files : Files) (folder dir : List ℕ) (entries : List RefEntry) (id : Id) → IsRefList files folder dir entries → IsId id
    → IsTrue (is_there (ref_at files folder (id_place dir id))) ↔ ((entry : RefEntry) × Contains entries entry × (entry.id ≡ id))
each_ref files folder dir entries id is valid = (
  λ there. by (ref_at files folder (id_place dir id)) refl there,
  λ h. subst (λ (at : Id). IsTrue (is_there (ref_at files folder (id_place dir at)))) h.2 (back (ref_at files folder (id_place dir h.0.id)) h.0.found ((is.members h.0).0 h.1).1),
)
  where
    of : (found : RefFound) → found_of (ref_at files folder (id_place dir id)) ≡ Some found → (entry : RefEntry) × Contains entries entry × (entry.id ≡ id)
    of found e = (record { id = id; found = found }, (is.members (record { id = id; found = found })).1 (valid, e), refl)

    by : (ref : Ref) → ref_at files folder (id_place dir id) ≡ ref → IsTrue (is_there ref) → (entry : RefEntry) × Contains entries entry × (entry.id ≡ id)
    by Absent e there = absurd (cc there)
    by (Head name) e there = of (variant.Head name) (ap found_of e)
    by Bad e there = of variant.Bad (ap found_of e)

    back : (ref : Ref) (found : RefFound) → found_of ref ≡ Some found → IsTrue (is_there ref)
    back Absent found e = absurd cc
    back (Head name) found e = refl
    back Bad found e = refl

-- what is found is a head where the ref is that head
pub head_found : (found : RefFound) (name : Name) (ref : Ref) → found_of ref ≡ Some found → (found ≡ variant.Head name) ↔ (ref ≡ Head name)
head_found found name Absent e = absurd cc
head_found found name (Head other) e = (λ is. cc, λ is. cc)
head_found found name Bad e = (λ is. cc, λ is. cc)

-- and it is bad where the ref is
pub bad_found : (found : RefFound) (ref : Ref) → found_of ref ≡ Some found → (found ≡ variant.Bad) ↔ (ref ≡ Bad)
bad_found found Absent e = absurd cc
bad_found found (Head other) e = (λ is. cc, λ is. cc)
bad_found found Bad e = (λ is. cc, λ is. cc)

-- ---- ids in their order

-- no text stands before itself
pub not_before_itself : (x y : List ℕ) → x ≡ y → slice_cmp nat_cmp x y ≡ Less → ⊥
not_before_itself x y e less = (let t = (bytes_eq-Decides x y).1 e in let f = sym (is_eq-slice_cmp x y) ∙ ap is_eq less in absurd cc)

-- ids in ascending order differ
pub ids_differ : (ids : List Id) → IsStrictlySortedBy (slice_cmp nat_cmp) (map (λ (id : Id). id.bytes) ids) → AllPairs (λ (one other : Id). one ≢ other) ids
ids_differ ids rising i j d lt within =
    let bytes = map (λ (id : Id). id.bytes) ids in
    let size : length bytes ≡ length ids = length-map ids (λ (id : Id). id.bytes) in
    let first : get_or bytes i [] ≡ (get_or ids i d).bytes = get_or-map (λ (id : Id). id.bytes) ids i d [] (omega arith) in
    let second : get_or bytes j [] ≡ (get_or ids j d).bytes = get_or-map (λ (id : Id). id.bytes) ids j d [] within in
    λ same. not_before_itself (get_or bytes i []) (get_or bytes j []) (first ∙ ap (λ (id : Id). id.bytes) same ∙ sym second)
    (Less-from_sorted (slice_cmp nat_cmp) bytes i j [] rising lt (omega arith))
