-- There are last refs of any refs.
use Rattle.std.proofs.Common.{◌≡◌, ◌≢◌, ℕ, Bool, true, false, if◌then◌else◌, List, [], ◌∷◌, Option, Some, None, refl, sym, ◌∙◌, ap}
use Rattle.std.specs.Cmp.Lexicographic.{slice_cmp}
use Rattle.std.specs.List.{AllByRecursion}
use Rattle.std.specs.List.Sorted.{IsStrictlySortedBy}
use Rattle.std.specs.Option.{option_or}
use Rattle.std.specs.Ordering.{nat_cmp, ordering_reverse}
use Rattle.std.specs.Str.{bytes_eq}
use Rattle.std.specs.declared.cmp.Ordering.{Ordering}
use Rattle.std.specs.declared.cmp.Ordering.TheVariants.{Less, Equal, Greater}
use Rattle.std.proofs.lemmas.Cmp.{nat_list_cmp_total}
use Rattle.std.proofs.lemmas.Map.Lookups.{exact_bytes}
use Rattle.std.proofs.lemmas.Slice.Eq.{bytes_eq-Decides}
use Rattle.gb_text.specs.declared.id.Name.{Name}
use Rattle.packed_refs.specs.Packed.{PackedRef, head_after, head_of, last_head}
use Rattle.ref_packing.specs.Packing.{AreLast}
use Rattle.ref_packing.proofs.LastLemmas.{Rise, member_counts, member_from, names}

abbrev cmp : List ℕ → List ℕ → Ordering
cmp = slice_cmp nat_cmp

-- a ref before those that come later, if none of them has its name
abbrev placed : Ordering → PackedRef → PackedRef → List PackedRef → List PackedRef → List PackedRef
placed Less one x xs later = one ∷ x ∷ xs
placed Equal one x xs later = x ∷ xs
placed Greater one x xs later = x ∷ later

abbrev into : PackedRef → List PackedRef → List PackedRef
into one [] = one ∷ []
into one (x ∷ xs) = placed (cmp one.name x.name) one x xs (into one xs)

-- the last of each name
abbrev last_of : List PackedRef → List PackedRef
last_of [] = []
last_of (one ∷ refs) = into one (last_of refs)

-- ---- they rise

all_below : (n m : List ℕ) (ks : List (List ℕ)) → cmp n m ≡ Less → AllByRecursion (λ k. cmp m k ≡ Less) ks → AllByRecursion (λ k. cmp n k ≡ Less) ks
all_below n m [] less all = tt
all_below n m (k ∷ ks) less all = (nat_list_cmp_total.trans n m k less all.0, all_below n m ks less all.1)

into-above : (n : List ℕ) (one : PackedRef) (xs : List PackedRef) → cmp n one.name ≡ Less → AllByRecursion (λ k. cmp n k ≡ Less) (names xs)
    → AllByRecursion (λ k. cmp n k ≡ Less) (names (into one xs))
into-above n one [] less all = (less, tt)
into-above n one (x ∷ xs) less all = by (cmp one.name x.name) (into-above n one xs less all.1)
  where
    by : (o : Ordering) → AllByRecursion (λ k. cmp n k ≡ Less) (names (into one xs)) → AllByRecursion (λ k. cmp n k ≡ Less) (names (placed o one x xs (into one xs)))
    by Less rest = (less, all)
    by Equal rest = all
    by Greater rest = (all.0, rest)

into-rise : (one : PackedRef) (xs : List PackedRef) → Rise xs → Rise (into one xs)
unfolding IsStrictlySortedBy
into-rise one [] rise = (tt, tt)
into-rise one (x ∷ xs) rise = by (cmp one.name x.name) refl (into-rise one xs rise.1)
  where
    by : (o : Ordering) → cmp one.name x.name ≡ o → Rise (into one xs) → Rise (placed o one x xs (into one xs))
    by Less at rest = ((at, all_below one.name x.name (names xs) at rise.0), rise)
    by Equal at rest = rise
    by Greater at rest =
        (into-above x.name one xs (nat_list_cmp_total.antisymm x.name one.name ∙ ap ordering_reverse at) rise.0, rest)

last_of-rise : (refs : List PackedRef) → Rise (last_of refs)
unfolding IsStrictlySortedBy
last_of-rise [] = tt
last_of-rise (one ∷ refs) = into-rise one (last_of refs) (last_of-rise refs)

-- ---- they give each name its last head

abbrev its : List ℕ → PackedRef → Option Name
its name one = head_after name None one

last_or : (name : List ℕ) (found : Option Name) (refs : List PackedRef) → last_head name found refs ≡ option_or (head_of name refs) found
unfolding last_head
last_or name found [] = refl
last_or name found (x ∷ xs) =
    last_or name (head_after name found x) xs
    ∙ by (head_of name xs) (bytes_eq x.name name)
    ∙ sym (ap (λ (o : Option Name). option_or o found) (last_or name (its name x) xs))
  where
    by : (o : Option Name) (b : Bool) → option_or o (if b then Some x.head else found) ≡ option_or (option_or o (if b then Some x.head else None)) found
    by (Some head) b = refl
    by None true = refl
    by None false = refl

head_of-cons : (name : List ℕ) (x : PackedRef) (xs : List PackedRef) → head_of name (x ∷ xs) ≡ option_or (head_of name xs) (its name x)
unfolding last_head
head_of-cons name x xs = last_or name (its name x) xs

-- both have the name, or one at most
swapped : (o : Option Name) (name : List ℕ) (one x : PackedRef) → one.name ≢ x.name → option_or (option_or o (its name one)) (its name x) ≡ option_or (option_or o (its name x)) (its name one)
swapped (Some head) name one x differ = refl
swapped None name one x differ = by (bytes_eq one.name name) (bytes_eq x.name name) refl refl
  where
    by : (a b : Bool) → bytes_eq one.name name ≡ a → bytes_eq x.name name ≡ b
        → option_or (if a then Some one.head else None) (if b then Some x.head else None) ≡ option_or (if b then Some x.head else None) (if a then Some one.head else None)
    by true true first second = absurd (differ ((bytes_eq-Decides one.name name).0 first ∙ sym ((bytes_eq-Decides x.name name).0 second)))
    by true false first second = refl
    by false true first second = refl
    by false false first second = refl

-- the second of one name stays
kept : (o : Option Name) (name : List ℕ) (one x : PackedRef) → one.name ≡ x.name → option_or o (its name x) ≡ option_or (option_or o (its name x)) (its name one)
kept (Some head) name one x same = refl
kept None name one x same = by (bytes_eq one.name name) (bytes_eq x.name name) refl refl
  where
    by : (a b : Bool) → bytes_eq one.name name ≡ a → bytes_eq x.name name ≡ b
        → (if b then Some x.head else None) ≡ option_or (if b then Some x.head else None) (if a then Some one.head else None)
    by a true first second = refl
    by false false first second = refl
    by true false first second = absurd (let yes : bytes_eq x.name name ≡ true = ap (λ (n : List ℕ). bytes_eq n name) (sym same) ∙ first in cc (second, yes))

into-gives : (name : List ℕ) (one : PackedRef) (xs : List PackedRef) → head_of name (into one xs) ≡ option_or (head_of name xs) (its name one)
into-gives name one [] = head_of-cons name one []
into-gives name one (x ∷ xs) = by (cmp one.name x.name) refl (into-gives name one xs)
  where
    by : (o : Ordering) → cmp one.name x.name ≡ o → head_of name (into one xs) ≡ option_or (head_of name xs) (its name one)
        → head_of name (placed o one x xs (into one xs)) ≡ option_or (head_of name (x ∷ xs)) (its name one)
    by Less at rest = head_of-cons name one (x ∷ xs)
    by Equal at rest =
        head_of-cons name x xs ∙ kept (head_of name xs) name one x (exact_bytes one.name x.name at)
        ∙ sym (ap (λ (o : Option Name). option_or o (its name one)) (head_of-cons name x xs))
    by Greater at rest =
        head_of-cons name x (into one xs) ∙ ap (λ (o : Option Name). option_or o (its name x)) rest
        ∙ swapped (head_of name xs) name one x differ
        ∙ sym (ap (λ (o : Option Name). option_or o (its name one)) (head_of-cons name x xs))
      where
        differ : one.name ≢ x.name
        differ same =
            let turned : cmp x.name one.name ≡ Greater = ap (λ (n : List ℕ). cmp n one.name) (sym same) ∙ ap (cmp one.name) same ∙ at in
            let back : Greater ≡ Less = sym turned ∙ nat_list_cmp_total.antisymm x.name one.name ∙ ap ordering_reverse at in
            absurd (cc back)

last_of-gives : (name : List ℕ) (refs : List PackedRef) → head_of name (last_of refs) ≡ head_of name refs
last_of-gives name [] = refl
last_of-gives name (one ∷ refs) =
    into-gives name one (last_of refs) ∙ ap (λ (o : Option Name). option_or o (its name one)) (last_of-gives name refs) ∙ sym (head_of-cons name one refs)

pub last_exists : (refs : List PackedRef) → (last : List PackedRef) × AreLast refs last
last_exists refs = (
  last_of refs,
  record {
    rising = last_of-rise refs;
    members = λ one. (
      λ has. sym (last_of-gives one.name refs) ∙ member_counts (last_of refs) one None (last_of-rise refs) has,
      λ is. member_from one.name (last_of refs) one.head (last_of-gives one.name refs ∙ is),
    );
  },
)
