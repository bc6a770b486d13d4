-- Pairs in byte order of their keys as entries of a map.
use Rattle.std.proofs.Common.{◌≡◌, ◌∙◌, ◌++◌, sym, ap, subst, refl, List, [], ◌∷◌, map, append_assoc, append-nil}
use Rattle.std.specs.Prelude.{is_some, if◌then◌else◌}
use Rattle.std.specs.BTreeMap.{insert_entry, is_at}
use Rattle.std.specs.Ordering.{is_eq}
use Rattle.std.specs.List.Sorted.{IsStrictlySortedBy}
use Rattle.std.specs.declared.cmp.Ordering.TheVariants.{Less}
use Rattle.std.proofs.lemmas.Map.{NonePasses, lookup-none}
use Rattle.op_kind.specs.Metadata.{Entries, pair_of}
use Rattle.op_kind.specs.Pairs.{by_key, AreInKeyOrder}
use Rattle.op_kind.specs.declared.place.Pair.{Pair}
use Rattle.bug_ops.specs.Snapshots.{by_bytes, with_pair, with_pairs}
use Rattle.bug_ops.proofs.KeyOrder.{greater_back, behind_front, put_last}

-- pairs as entries
abbrev entries_of : List Pair → Entries
entries_of ps = map (λ p. (p.key, p.value)) ps

pairs_back : (es : Entries) → entries_of (map pair_of es) ≡ es
pairs_back [] = refl
pairs_back (e ∷ es) = ap (λ rest. e ∷ rest) (pairs_back es)

none_in_front : (p : Pair) (front ps : List Pair) → AreInKeyOrder (front ++ p ∷ ps) → NonePasses (is_at (by_bytes p.key)) (entries_of front)
unfolding IsStrictlySortedBy
none_in_front p [] ps s = tt
none_in_front p (q ∷ qs) ps s = (ap is_eq (greater_back q.key p.key (behind_front (λ r. by_key q r ≡ Less) qs p ps s.0)), none_in_front p qs ps s.1)

-- a pair whose key is not set is put in its place
new_pair : (ps : List Pair) (p : Pair) → NonePasses (is_at (by_bytes p.key)) (entries_of ps) → insert_entry by_bytes (entries_of ps) p.key p.value ≡ with_pair (entries_of ps) p
new_pair ps p none = ap (λ o. if is_some o then entries_of ps else insert_entry by_bytes (entries_of ps) p.key p.value) (sym (lookup-none (is_at (by_bytes p.key)) (entries_of ps) none))

pairs_from : (front back : List Pair) → AreInKeyOrder (front ++ back) → with_pairs (entries_of front) back ≡ entries_of (front ++ back)
pairs_from front [] s = ap entries_of (sym (append-nil front))
pairs_from front (p ∷ ps) s =
    ap (λ es. with_pairs es ps) (sym (new_pair front p (none_in_front p front ps s)) ∙ put_last (λ q. q.key) (λ q. q.value) front p ps s)
    ∙ pairs_from (front ++ p ∷ []) ps (subst AreInKeyOrder (sym (append_assoc front (p ∷ []) ps)) s)
    ∙ ap entries_of (append_assoc front (p ∷ []) ps)

-- Entries in byte order are those of their pairs.
pub entries_are : (es : Entries) → AreInKeyOrder (map pair_of es) → es ≡ with_pairs [] (map pair_of es)
entries_are es s = sym (pairs_from [] (map pair_of es) s ∙ pairs_back es)
