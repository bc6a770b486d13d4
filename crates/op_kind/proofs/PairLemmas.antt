-- The pairs of an object are what its members read as, in byte order of their keys.
use Rattle.std.proofs.Common.{◌≡◌, ◌∙◌, ◌++◌, refl, sym, ap, subst, ℕ, List, [], ◌∷◌, Option, None, Some, map, append-nil}
use Rattle.std.specs.Prelude.{option_and_then, is_some, All, codes, Bool, true, false, if◌then◌else◌}
use Rattle.std.specs.Str.{bytes_eq}
use Rattle.std.specs.Cmp.{IsTotalOrder, on_total}
use Rattle.std.specs.Cmp.Lexicographic.{slice_cmp, nat_list_cmp_total}
use Rattle.std.specs.declared.cmp.Ordering.{Ordering}
use Rattle.std.specs.declared.cmp.Ordering.TheVariants.{Less}
use Rattle.std.specs.Ordering.{nat_cmp, is_eq, eq_by_cmp}
use Rattle.std.specs.Option.{option_map, unwrap_or}
use Rattle.std.specs.List.{AllByRecursion, AllZip, Contains}
use Rattle.std.specs.List.Sorted.{IsStrictlySortedBy, IsPermutation}
use Rattle.std.specs.Map.{lookup}
use Rattle.std.specs.BTreeMap.{insert_entry, is_at}
use Rattle.std.proofs.lemmas.Cmp.{eq_by_cmp_equiv}
use Rattle.std.proofs.lemmas.Map.{NonePasses, lookup-none, none_passes_from_lookup}
use Rattle.std.proofs.lemmas.Map.Keys.{IsDistinct-from_sorted, IsDistinct-head, IsDistinct-IsPermutation}
use Rattle.std.proofs.lemmas.List.Elements.{All-nil, All-cons, recursion_from_All}
use Rattle.std.proofs.lemmas.List.Sorted.{IsPermutation-refl, IsPermutation-sym, IsPermutation-trans, IsPermutation-map, IsPermutation-middle, IsPermutation-append_left, All-permutation, Contains-permutation}
use Rattle.json_span.specs.Parts.{members_of}
use Rattle.op_kind.specs.Common.{metadata_at}
use Rattle.json_span.proofs.BasicLaws.{map_some}
use Rattle.op_kind.specs.Members.{text_at}
use Rattle.op_kind.specs.Metadata.{Entries, with_texts, entries_from, pair_of, pairs_at}
use Rattle.op_kind.specs.Pairs.{by_key, AreInKeyOrder, texts_of, both_of, ArePairsOf}
use Rattle.op_kind.specs.declared.place.Pair.{Pair}
use Rattle.gb_text.proofs.SortedLemmas.{same_elements}
use Rattle.op_kind.proofs.SortedLemmas.{put_sorted, put_adds}

-- ---- entries in byte order

-- a text
abbrev pub Bytes : Type 0
Bytes = List ℕ

-- byte order
abbrev pub by_bytes : Bytes → Bytes → Ordering
by_bytes = slice_cmp nat_cmp

-- entries by their keys
abbrev pub by_name : Bytes × Bytes → Bytes × Bytes → Ordering
by_name e f = by_bytes e.0 f.0

by_name_total : IsTotalOrder by_name
by_name_total = on_total (λ (e : Bytes × Bytes). e.0) nat_list_cmp_total

by_key_total : IsTotalOrder by_key
by_key_total = on_total (λ (p : Pair). p.key) nat_list_cmp_total

-- The keys of entries ascend.
abbrev pub Ascends : Entries → Type 0
Ascends es = IsStrictlySortedBy by_name es

-- No entries ascend.
pub empty_ascends : Ascends []
unfolding IsStrictlySortedBy
empty_ascends = tt

-- the texts of an entry
abbrev texts_in : Bytes × Bytes → Option Bytes × Option Bytes
texts_in e = (Some e.0, Some e.1)

-- members that read as entries
abbrev ReadAs : List (Bytes × Bytes) → Entries → Type 0
ReadAs ms es = AllZip (λ m e. texts_of m ≡ texts_in e) ms es

front_of : {A : Type 0} (P : A → Type 0) (xs ys : List A) → AllByRecursion P (xs ++ ys) → AllByRecursion P xs
front_of P [] ys all = tt
front_of P (x ∷ xs) ys all = (all.0, front_of P xs ys all.1)

new_key : (r : Bytes × Bytes) (es rs fs : Entries) → Ascends fs → IsPermutation (r ∷ (es ++ rs)) fs → NonePasses (is_at (by_bytes r.0)) es
new_key r es rs fs t p =
    let laws = eq_by_cmp_equiv by_name_total in
    let distinct = IsDistinct-IsPermutation (eq_by_cmp by_name) laws.symm fs (r ∷ (es ++ rs)) (IsPermutation-sym _ _ p) (IsDistinct-from_sorted by_name fs t) in
    front_of (λ e. is_eq (by_name r e) ≡ false) es rs (IsDistinct-head (eq_by_cmp by_name) r (es ++ rs) distinct)

-- ---- what is gathered of members

record Gathered (es : Entries) (ms : List (Bytes × Bytes)) (fs : Entries) : Type 0 where
  read : Entries
  reads : ReadAs ms read
  same : IsPermutation (es ++ read) fs
  ascends : Ascends fs

-- the same for other entries before the members
abbrev Later : List (Bytes × Bytes) → Entries → Type 0
Later ms fs = (more : Entries) → Ascends more → entries_from more ms ≡ Some fs → Gathered more ms fs

gathered : (es : Entries) (ms : List (Bytes × Bytes)) (fs : Entries) → Ascends es → entries_from es ms ≡ Some fs → Gathered es ms fs
gathered es [] fs s h =
    let e : es ≡ fs = cc (h) in
    record { read = []; reads = tt; same = subst (λ l. IsPermutation l fs) (sym (append-nil es)) (subst (IsPermutation es) e (IsPermutation-refl es)); ascends = subst Ascends e s }
gathered es (m ∷ ms) fs s h = by (λ more. gathered more ms fs) (text_at m.0) (text_at m.1) refl refl h
  where
    put : Later ms fs → (k v : Bytes) → text_at m.0 ≡ Some k → text_at m.1 ≡ Some v → (found : Option Bytes) → lookup (is_at (by_bytes k)) es ≡ found
        → option_and_then (λ more. entries_from more ms) (if is_some found then None else Some (insert_entry by_bytes es k v)) ≡ Some fs → Gathered es (m ∷ ms) fs
    put later k v a b (Some w) e h = absurd (cc (h))
    put later k v a b None e h =
        let none = none_passes_from_lookup (is_at (by_bytes k)) es e in
        let rest = later (insert_entry by_bytes es k v) (put_sorted nat_list_cmp_total es k v none s) h in
        let more = IsPermutation-append_left rest.read _ _ (put_adds nat_list_cmp_total es k v none) in
        record {
          read = (k, v) ∷ rest.read;
          reads = (λ i. (a i, b i), rest.reads);
          same = IsPermutation-trans _ _ _ (IsPermutation-middle es (k, v) rest.read) (IsPermutation-trans _ _ _ more rest.same);
          ascends = rest.ascends;
        }

    by : Later ms fs → (k v : Option Bytes) → text_at m.0 ≡ k → text_at m.1 ≡ v → option_and_then (λ more. entries_from more ms) (with_texts es k v) ≡ Some fs → Gathered es (m ∷ ms) fs
    by later None v a b h = absurd (cc (h))
    by later (Some k) None a b h = absurd (cc (h))
    by later (Some k) (Some v) a b h = put later k v a b (lookup (is_at (by_bytes k)) es) refl h

same_entries : (es fs : Entries) → Ascends es → Ascends fs → IsPermutation es fs → es ≡ fs
same_entries es fs s t p = same_elements by_name_total es fs s t (λ z. Contains-permutation es fs z p) (λ z. Contains-permutation fs es z (IsPermutation-sym _ _ p))

made : (es : Entries) (ms : List (Bytes × Bytes)) (rs fs : Entries) → Ascends es → Ascends fs → ReadAs ms rs → IsPermutation (es ++ rs) fs → entries_from es ms ≡ Some fs
made es [] [] fs s t reads p = ap Some (same_entries es fs s t (subst (λ l. IsPermutation l fs) (append-nil es) p))
made es [] (r ∷ rs) fs s t reads p = absurd reads
made es (m ∷ ms) [] fs s t reads p = absurd reads
made es (m ∷ ms) (r ∷ rs) fs s t reads p =
    let front = IsPermutation-trans _ _ _ (IsPermutation-sym _ _ (IsPermutation-middle es r rs)) p in
    let none = new_key r es rs fs t front in
    let less = IsPermutation-append_left rs _ _ (IsPermutation-sym _ _ (put_adds nat_list_cmp_total es r.0 r.1 none)) in
    ap (λ k. option_and_then (λ more. entries_from more ms) (with_texts es k (text_at m.1))) (ap (λ x. x.0) reads.0)
    ∙ ap (λ v. option_and_then (λ more. entries_from more ms) (with_texts es (Some r.0) v)) (ap (λ x. x.1) reads.0)
    ∙ ap (λ found. option_and_then (λ more. entries_from more ms) (if is_some found then None else Some (insert_entry by_bytes es r.0 r.1))) (lookup-none (is_at (by_bytes r.0)) es none)
    ∙ made (insert_entry by_bytes es r.0 r.1) ms rs fs (put_sorted nat_list_cmp_total es r.0 r.1 none s) t reads.1 (IsPermutation-trans _ _ _ less front)

-- ---- entries and pairs

abbrev entry_of : Pair → Bytes × Bytes
entry_of p = (p.key, p.value)

entries_back : (ps : List Pair) → map pair_of (map entry_of ps) ≡ ps
entries_back [] = refl
entries_back (p ∷ ps) = ap (λ rest. p ∷ rest) (entries_back ps)

pairs_above : (e : Bytes × Bytes) (es : Entries) → AllByRecursion (λ f. by_name e f ≡ Less) es → AllByRecursion (λ q. by_key (pair_of e) q ≡ Less) (map pair_of es)
pairs_above e [] all = tt
pairs_above e (f ∷ es) all = (all.0, pairs_above e es all.1)

-- Entries that ascend are pairs that do.
pub pairs_ascend : (es : Entries) → Ascends es → AreInKeyOrder (map pair_of es)
unfolding IsStrictlySortedBy
pairs_ascend [] s = tt
pairs_ascend (e ∷ es) s = (pairs_above e es s.0, pairs_ascend es s.1)

entries_above : (p : Pair) (ps : List Pair) → AllByRecursion (λ q. by_key p q ≡ Less) ps → AllByRecursion (λ f. by_name (entry_of p) f ≡ Less) (map entry_of ps)
entries_above p [] all = tt
entries_above p (q ∷ ps) all = (all.0, entries_above p ps all.1)

entries_ascend : (ps : List Pair) → AreInKeyOrder ps → Ascends (map entry_of ps)
unfolding IsStrictlySortedBy
entries_ascend [] s = tt
entries_ascend (p ∷ ps) s = (entries_above p ps s.0, entries_ascend ps s.1)

-- ---- pairs of an object

read_texts : (ms : List (Bytes × Bytes)) (es : Entries) → ReadAs ms es → map texts_of ms ≡ map texts_in es
read_texts [] [] reads = refl
read_texts [] (e ∷ es) reads = absurd reads
read_texts (m ∷ ms) [] reads = absurd reads
read_texts (m ∷ ms) (e ∷ es) reads = let rest = read_texts ms es reads.1 in λ i. reads.0 i ∷ rest i

both_of_pairs : (es : Entries) → map texts_in es ≡ map both_of (map pair_of es)
both_of_pairs [] = refl
both_of_pairs (e ∷ es) = ap (λ rest. texts_in e ∷ rest) (both_of_pairs es)

pairs_in_members : (json : Bytes) (ms : List (Bytes × Bytes)) (es : Entries) → members_of json ≡ Some ms → Gathered [] ms es → ArePairsOf json (map pair_of es)
pairs_in_members json ms es at g = record {
  members = ms;
  object = at;
  same = subst (λ l. IsPermutation l (map both_of (map pair_of es))) (sym (read_texts ms g.read g.reads))
      (subst (IsPermutation (map texts_in g.read)) (both_of_pairs es) (IsPermutation-map texts_in g.read es g.same));
  ascending = pairs_ascend es g.ascends;
}

-- What is read as pairs are the pairs of the object.
pub pairs_found : (json : Bytes) (ps : List Pair) → pairs_at json ≡ Some ps → ArePairsOf json ps
unfolding pairs_at
pairs_found json ps h = by (members_of json) refl h
  where
    by : (ms : Option (List (Bytes × Bytes))) → members_of json ≡ ms → option_map (map pair_of) (option_and_then (entries_from []) ms) ≡ Some ps → ArePairsOf json ps
    by None at h = absurd (cc (h))
    by (Some ms) at h =
        let m = map_some (map pair_of) (entries_from [] ms) ps h in
        subst (ArePairsOf json) m.2 (pairs_in_members json ms m.0 at (gathered [] ms m.0 empty_ascends m.1))

abbrev entry_in : Option Bytes × Option Bytes → Bytes × Bytes
entry_in x = (unwrap_or x.0 [], unwrap_or x.1 [])

-- both texts are there
abbrev AreThere : Option Bytes × Option Bytes → Type 0
AreThere x = x ≡ texts_in (entry_in x)

all_there : (ps : List Pair) → All AreThere (map both_of ps)
all_there [] = All-nil AreThere
all_there (p ∷ ps) = All-cons AreThere (both_of p) (map both_of ps) refl (all_there ps)

reads_all : (ms : List (Bytes × Bytes)) → AllByRecursion AreThere (map texts_of ms) → ReadAs ms (map entry_in (map texts_of ms))
reads_all [] all = tt
reads_all (m ∷ ms) all = (all.0, reads_all ms all.1)

entries_in : (ps : List Pair) → map entry_in (map both_of ps) ≡ map entry_of ps
entries_in [] = refl
entries_in (p ∷ ps) = ap (λ rest. entry_of p ∷ rest) (entries_in ps)

-- The pairs of the object are what is read as pairs.
pub pairs_only : (json : Bytes) (ps : List Pair) → ArePairsOf json ps → pairs_at json ≡ Some ps
unfolding pairs_at
pairs_only json ps is =
    let there = All-permutation AreThere _ _ (IsPermutation-sym _ _ is.same) (all_there ps) in
    let reads = reads_all is.members (recursion_from_All AreThere (map texts_of is.members) there) in
    let same = subst (IsPermutation (map entry_in (map texts_of is.members))) (entries_in ps) (IsPermutation-map entry_in _ _ is.same) in
    ap (λ ms. option_map (map pair_of) (option_and_then (entries_from []) ms)) is.object
    ∙ ap (option_map (map pair_of)) (made [] is.members _ (map entry_of ps) empty_ascends (entries_ascend ps is.ascending) reads same)
    ∙ ap Some (entries_back ps)

-- ---- the order of members

-- Lists in byte order of their keys that have the same pairs are equal.
pub same_pairs : (ps qs : List Pair) → AreInKeyOrder ps → AreInKeyOrder qs → ((p : Pair) → Contains ps p → Contains qs p) → ((p : Pair) → Contains qs p → Contains ps p) → ps ≡ qs
same_pairs = same_elements by_key_total

pairs_moved : (a b : Bytes) (ms ns : List (Bytes × Bytes)) (ps : List Pair) → members_of a ≡ Some ms → members_of b ≡ Some ns → IsPermutation ms ns → pairs_at a ≡ Some ps → pairs_at b ≡ Some ps
pairs_moved a b ms ns ps first second p h =
    let is = pairs_found a ps h in
    let e : is.members ≡ ms = let at = is.object in cc (at, first) in
    let same = IsPermutation-trans _ _ _ (IsPermutation-sym _ _ (IsPermutation-map texts_of ms ns p)) (subst (λ l. IsPermutation (map texts_of l) (map both_of ps)) e is.same) in
    pairs_only b ps (record { members = ns; object = second; same = same; ascending = is.ascending })

-- Objects with the same members in another order have the same pairs.
pub pairs_by_members : (a b : Bytes) (ms ns : List (Bytes × Bytes)) → members_of a ≡ Some ms → members_of b ≡ Some ns → IsPermutation ms ns → pairs_at a ≡ pairs_at b
pairs_by_members a b ms ns first second p = by (pairs_at a) (pairs_at b) refl refl
  where
    by : (x y : Option (List Pair)) → pairs_at a ≡ x → pairs_at b ≡ y → pairs_at a ≡ pairs_at b
    by (Some ps) y h k = h ∙ sym (pairs_moved a b ms ns ps first second p h)
    by None None h k = h ∙ sym k
    by None (Some ps) h k = let moved = pairs_moved b a ns ms ps second first (IsPermutation-sym _ _ p) k in absurd (cc (h, moved))

-- ---- metadata

-- Pairs that are read are in byte order of their keys.
pub pairs_ascending : (json : Bytes) (ps : List Pair) → pairs_at json ≡ Some ps → AreInKeyOrder ps
pairs_ascending json ps h = let is = pairs_found json ps h in is.ascending

-- What holds of the empty list and of each list that reads holds of what `null` or a list reads as.
pub null_or_read : {A : Type 0} (P : List A → Type 0) (read : Option (List A)) (null : Bool) (xs : List A) → P [] → ((ys : List A) → read ≡ Some ys → P ys)
    → (if null then Some [] else read) ≡ Some xs → P xs
null_or_read P read true xs none each h = let e : [] ≡ xs = cc (h) in subst P e none
null_or_read P read false xs none each h = each xs h

-- No pairs are in order.
pub none_in_order : AreInKeyOrder []
unfolding IsStrictlySortedBy
none_in_order = tt

-- Metadata that is read is in byte order of its keys.
pub metadata_ascends : (json : Bytes) (ps : List Pair) → metadata_at json ≡ Some ps → AreInKeyOrder ps
metadata_ascends json ps h = null_or_read AreInKeyOrder (pairs_at json) (bytes_eq json (codes "null")) ps none_in_order (pairs_ascending json) h
