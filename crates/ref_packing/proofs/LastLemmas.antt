-- The last of refs with each name: what it gives each name, and that it can be written.
use Rattle.std.proofs.Common.{◌≡◌, ◌≢◌, ◌⊎◌, inl, inr, ℕ, zero, suc, Bool, true, false, if◌then◌else◌, List, [], ◌∷◌, ◌++◌, map, get_or, Option, Some, None, refl, sym, ◌∙◌, ap, subst, arith}
use Rattle.std.specs.Prelude.{All, Contains}
use Rattle.std.specs.Cmp.Lexicographic.{slice_cmp}
use Rattle.std.specs.List.{AllByRecursion}
use Rattle.std.specs.List.Sorted.{IsStrictlySortedBy}
use Rattle.std.specs.Ordering.{nat_cmp}
use Rattle.std.specs.Str.{bytes_eq}
use Rattle.std.specs.declared.cmp.Ordering.TheVariants.{Less}
use Rattle.std.proofs.lemmas.List.Elements.{Contains-get_or}
use Rattle.std.proofs.lemmas.Map.Keys.{sorted_head, sorted_tail}
use Rattle.std.proofs.lemmas.Slice.Eq.{bytes_eq-Decides}
use Rattle.gb_text.specs.declared.id.Name.{Name}
use Rattle.packed_refs.specs.Packed.{PackedRef, head_after, head_of, last_head}
use Rattle.packed_refs.specs.Written.{IsPackable}
use Rattle.ref_store.proofs.ListLemmas.{not_before_itself}
use Rattle.ref_packing.specs.Packing.{AreLast}

abbrev pub names : List PackedRef → List (List ℕ)
names refs = map (λ (one : PackedRef). one.name) refs

-- refs in byte order of names, each name once
abbrev pub Rise : List PackedRef → Type 0
Rise refs = IsStrictlySortedBy (slice_cmp nat_cmp) (names refs)

-- what holds of all names holds of that of each ref
pub all_names : (P : List ℕ → Type 0) (refs : List PackedRef) (one : PackedRef) → AllByRecursion P (names refs) → Contains refs one → P one.name
all_names P [] one all (k, lt, e) = absurd (omega arith)
all_names P (x ∷ xs) one all (zero, lt, e) = subst (λ (y : PackedRef). P y.name) e all.0
all_names P (x ∷ xs) one all (suc k, lt, e) = all_names P xs one all.1 (k, omega arith, e)

-- later names differ
pub later_differ : (first : PackedRef) (refs : List PackedRef) (one : PackedRef) → Rise (first ∷ refs) → Contains refs one → first.name ≢ one.name
later_differ first refs one rise has =
    λ same. not_before_itself first.name one.name same (all_names (λ n. slice_cmp nat_cmp first.name n ≡ Less) refs one (sorted_head (slice_cmp nat_cmp) first.name (names refs) rise) has)

pub rise_tail : (first : PackedRef) (refs : List PackedRef) → Rise (first ∷ refs) → Rise refs
rise_tail first refs rise = sorted_tail (slice_cmp nat_cmp) first.name (names refs) rise

-- ---- the last head of a name

-- it was found before, or is that of a ref of the name
pub last_from : (name : List ℕ) (found : Option Name) (refs : List PackedRef) (head : Name) → last_head name found refs ≡ Some head
    → (found ≡ Some head) ⊎ Contains refs (record { name = name; head = head })
unfolding last_head
last_from name found [] head e = inl e
last_from name found (x ∷ xs) head e = by (λ f. last_from name f xs head) (bytes_eq x.name name) refl e
  where
    more : Contains xs (record { name = name; head = head }) → Contains (x ∷ xs) (record { name = name; head = head })
    more has = (suc has.0, omega (arith, has.1), has.2)

    first : x.name ≡ name → x.head ≡ head → Contains (x ∷ xs) (record { name = name; head = head })
    first same is = (0, omega arith, let of : List ℕ → Name → PackedRef = λ n h. record { name = n; head = h } in ap (λ (n : List ℕ). of n x.head) same ∙ ap (of name) is)

    by : ((f : Option Name) → last_head name f xs ≡ Some head → (f ≡ Some head) ⊎ Contains xs (record { name = name; head = head }))
        → (b : Bool) → bytes_eq x.name name ≡ b → last_head name (if b then Some x.head else found) xs ≡ Some head
        → (found ≡ Some head) ⊎ Contains (x ∷ xs) (record { name = name; head = head })
    by later true at e = elim (later (Some x.head) e) [ inl is ↦ inr (first ((bytes_eq-Decides x.name name).0 at) cc) | inr has ↦ inr (more has) ]
    by later false at e = elim (later found e) [ inl is ↦ inl is | inr has ↦ inr (more has) ]

-- what was found before stays where no ref has the name
last_stays : (name : List ℕ) (found : Option Name) (refs : List PackedRef) → ((one : PackedRef) → Contains refs one → one.name ≢ name) → last_head name found refs ≡ found
unfolding last_head
last_stays name found [] never = refl
last_stays name found (x ∷ xs) never = by (λ f. last_stays name f xs (λ one has. never one (suc has.0, omega (arith, has.1), has.2))) (bytes_eq x.name name) refl
  where
    by : ((f : Option Name) → last_head name f xs ≡ f) → (b : Bool) → bytes_eq x.name name ≡ b → last_head name (if b then Some x.head else found) xs ≡ found
    by later true at = absurd (never x (0, omega arith, refl) ((bytes_eq-Decides x.name name).0 at))
    by later false at = later found

-- in rising refs each ref's head is that of its name
pub member_counts : (refs : List PackedRef) (one : PackedRef) (found : Option Name) → Rise refs → Contains refs one → last_head one.name found refs ≡ Some one.head
unfolding last_head
member_counts [] one found rise (k, lt, e) = absurd (omega arith)
member_counts (x ∷ xs) one found rise (zero, lt, e) =
    ap (λ (y : PackedRef). last_head y.name (head_after y.name found x) xs) (sym e)
    ∙ ap (λ (b : Bool). last_head x.name (if b then Some x.head else found) xs) ((bytes_eq-Decides x.name x.name).1 refl)
    ∙ last_stays x.name (Some x.head) xs (λ other has same. later_differ x xs other rise has (sym same))
    ∙ ap (λ (y : PackedRef). Some y.head) e
member_counts (x ∷ xs) one found rise (suc k, lt, e) = member_counts xs one (head_after one.name found x) (rise_tail x xs rise) (k, omega arith, e)

-- what follows gives a name its head
pub follower_counts : (before refs : List PackedRef) (one : PackedRef) (found : Option Name) → Rise refs → Contains refs one → last_head one.name found (before ++ refs) ≡ Some one.head
unfolding last_head
follower_counts [] refs one found rise has = member_counts refs one found rise has
follower_counts (x ∷ before) refs one found rise has = follower_counts before refs one (head_after one.name found x) rise has

-- a name that had a head has one
still_some : (name : List ℕ) (found : Option Name) (refs : List PackedRef) (head : Name) → found ≡ Some head → (now : Name) × (last_head name found refs ≡ Some now)
unfolding last_head
still_some name found [] head e = (head, e)
still_some name found (x ∷ xs) head e = by (λ f. still_some name f xs) (bytes_eq x.name name)
  where
    by : ((f : Option Name) (h : Name) → f ≡ Some h → (now : Name) × (last_head name f xs ≡ Some now)) → (b : Bool) → (now : Name) × (last_head name (if b then Some x.head else found) xs ≡ Some now)
    by later true = later (Some x.head) x.head refl
    by later false = later found head e

pub kept_before : (name : List ℕ) (found : Option Name) (before refs : List PackedRef) (head : Name) → last_head name found before ≡ Some head
    → (now : Name) × (last_head name found (before ++ refs) ≡ Some now)
unfolding last_head
kept_before name found [] refs head e = still_some name found refs head e
kept_before name found (x ∷ before) refs head e = kept_before name (head_after name found x) before refs head e

-- the head of a name is that of a follower, or the one before
pub head_from : (name : List ℕ) (found : Option Name) (before refs : List PackedRef) (head : Name) → last_head name found (before ++ refs) ≡ Some head
    → Contains refs (record { name = name; head = head }) ⊎ (last_head name found before ≡ Some head)
unfolding last_head
head_from name found [] refs head e = elim (last_from name found refs head e) [ inl was ↦ inr was | inr has ↦ inl has ]
head_from name found (x ∷ before) refs head e = head_from name (head_after name found x) before refs head e

-- ---- the last refs

pub member_from : (name : List ℕ) (refs : List PackedRef) (head : Name) → head_of name refs ≡ Some head → Contains refs (record { name = name; head = head })
member_from name refs head e = elim (last_from name None refs head e) [ inl none ↦ absurd (cc none) | inr has ↦ has ]

-- they give each name what the refs give it
pub last_gives : (refs last : List PackedRef) (name : List ℕ) → AreLast refs last → head_of name last ≡ head_of name refs
last_gives refs last name are = by (head_of name last) (head_of name refs) refl refl
  where
    by : (after before : Option Name) → head_of name last ≡ after → head_of name refs ≡ before → after ≡ before
    by (Some head) before at was = sym ((are.members (record { name = name; head = head })).0 (member_from name last head at)) ∙ was
    by None None at was = refl
    by None (Some head) at was =
        let has : Contains last (record { name = name; head = head }) = (are.members (record { name = name; head = head })).1 was in
        let counts : head_of name last ≡ Some head = member_counts last (record { name = name; head = head }) None are.rising has in
        absurd (cc (at, counts))

-- and can be written where the refs can
pub last_packable : (refs last : List PackedRef) → ((one : PackedRef) → Contains refs one → IsPackable one) → AreLast refs last → All IsPackable last
last_packable refs last all are = λ k d lt.
    let one = get_or last k d in
    let head : head_of one.name refs ≡ Some one.head = (are.members one).0 (Contains-get_or last k d lt) in
    all one (member_from one.name refs one.head head)
