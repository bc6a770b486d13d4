-- A map of entries has the last one of each id, and a set of ids has each once.
use Rattle.std.proofs.Common.{◌≡◌, ℕ, Bool, if◌then◌else◌, List, [], ◌∷◌, map, Option, Some, None, refl, sym, ◌∙◌, ap, subst}
use Rattle.std.specs.BTreeMap.{BTreeMap}
use Rattle.std.specs.BTreeMap as tree
use Rattle.std.specs.BTreeSet.{BTreeSet}
use Rattle.std.specs.BTreeSet as set
use Rattle.std.specs.Cmp.{IsTotalOrder}
use Rattle.std.specs.Cmp.Lexicographic.{slice_cmp}
use Rattle.std.specs.List.{AllByRecursion}
use Rattle.std.specs.List.Sorted.{IsStrictlySortedBy}
use Rattle.std.specs.Map.{update, update_all}
use Rattle.std.specs.Ordering.{eq_by_cmp, nat_cmp}
use Rattle.std.specs.Prelude.{Contains}
use Rattle.std.specs.declared.cmp.Ordering.TheVariants.{Less}
use Rattle.std.proofs.lemmas.Cmp.{nat_list_cmp_total, on_total}
use Rattle.std.proofs.lemmas.Map.Lookups.{CmpEqualImpliesEq, exact_bytes}
use Rattle.std.proofs.lemmas.Map.Text.{is_eq-slice_cmp}
use Rattle.std.proofs.lemmas.Map.Views.{btree_map_get_iff, btree_set_contains_from_list, btree_set_contains_iff}
use Rattle.gb_text.specs.declared.id.Id.{Id}
use Rattle.ref_store.specs.Listing.{AreLast, AreSorted, entry_of, id_cmp, last_found, pair_of}
use Rattle.ref_store.specs.declared.listing.RefEntry.{RefEntry}
use Rattle.ref_store.specs.declared.listing.RefFound.{RefFound}
use Rattle.ref_store.proofs.ListLemmas.{Contains-from_map, Contains-map, same_id}

id_total : IsTotalOrder id_cmp
id_total = on_total (λ (id : Id). id.bytes) nat_list_cmp_total

exact_id : CmpEqualImpliesEq id_cmp
exact_id x y e = same_id x y (exact_bytes x.bytes y.bytes e)

-- ids in order, as their bytes are
above : {X : Type 0} (f : X → Id) (id : Id) (xs : List X) → AllByRecursion (λ y. id_cmp id y ≡ Less) (map f xs) → AllByRecursion (λ b. slice_cmp nat_cmp id.bytes b ≡ Less) (map (λ x. (f x).bytes) xs)
above f id [] all = tt
above f id (x ∷ xs) all = (all.0, above f id xs all.1)

rising : {X : Type 0} (f : X → Id) (xs : List X) → IsStrictlySortedBy id_cmp (map f xs) → IsStrictlySortedBy (slice_cmp nat_cmp) (map (λ x. (f x).bytes) xs)
unfolding IsStrictlySortedBy
rising f [] sorted = tt
rising f (x ∷ xs) sorted = (above f (f x) xs sorted.0, rising f xs sorted.1)

entries_bytes : (pairs : List (Id × RefFound)) → map (λ (e : RefEntry). e.id.bytes) (map entry_of pairs) ≡ map (λ (p : Id × RefFound). p.0.bytes) pairs
entries_bytes [] = refl
entries_bytes (p ∷ ps) = ap (λ (bs : List (List ℕ)). p.0.bytes ∷ bs) (entries_bytes ps)

ids_bytes : (ids : List Id) → map (λ (id : Id). id) ids ≡ ids
ids_bytes [] = refl
ids_bytes (id ∷ ids) = ap (λ (xs : List Id). id ∷ xs) (ids_bytes ids)

-- what a map has of an id, after it took some entries
taken : (id : Id) (f : Id → Option RefFound) (entries : List RefEntry) → update_all (eq_by_cmp id_cmp) f (map pair_of entries) id ≡ last_found id (f id) entries
unfolding last_found
taken id f [] = refl
taken id f (entry ∷ entries) =
    taken id (update (eq_by_cmp id_cmp) f entry.id (Some entry.found)) entries
    ∙ ap (λ (b : Bool). last_found id (if b then Some entry.found else f id) entries) (is_eq-slice_cmp entry.id.bytes id.bytes)

-- the entries of a map that took some are the last of each id
pub map_is_last : (entries : List RefEntry) (last : BTreeMap Id RefFound) → tree.IsFromIterResult id_cmp (map pair_of entries) last → AreLast entries (map entry_of last.entries)
map_is_last entries last made = record {
  rising = subst (IsStrictlySortedBy (slice_cmp nat_cmp)) (sym (entries_bytes last.entries)) (rising (λ (p : Id × RefFound). p.0) last.entries made.1);
  members = λ entry. (λ has. here entry (Contains-from_map entry_of last.entries entry has), λ is. there entry is);
}
  where
    found : (id : Id) → tree.get id_cmp last id ≡ last_found id None entries
    found id = made.0 id ∙ taken id (λ _. None) entries

    here : (entry : RefEntry) → ((pair : Id × RefFound) × Contains last.entries pair × (entry_of pair ≡ entry)) → last_found entry.id None entries ≡ Some entry.found
    here entry from =
        let is : last_found from.0.0 None entries ≡ Some from.0.1 = sym (found from.0.0) ∙ (btree_map_get_iff id_total exact_id last made.1 from.0.0 from.0.1).1 from.1 in
        subst (λ (e : RefEntry). last_found e.id None entries ≡ Some e.found) from.2 is

    there : (entry : RefEntry) → last_found entry.id None entries ≡ Some entry.found → Contains (map entry_of last.entries) entry
    there entry is = Contains-map entry_of last.entries (pair_of entry) ((btree_map_get_iff id_total exact_id last made.1 entry.id entry.found).0 (found entry.id ∙ is))

-- the keys of a set that took some ids are these ids
pub set_is_sorted : (ids : List Id) (sorted : BTreeSet Id) → set.IsFromIterResult id_cmp ids sorted → AreSorted ids sorted.keys
set_is_sorted ids sorted made = record {
  rising = rising (λ (id : Id). id) sorted.keys (subst (IsStrictlySortedBy id_cmp) (sym (ids_bytes sorted.keys)) made.1);
  members = λ id.
      let all = btree_set_contains_from_list id_total exact_id ids sorted made id in
      let keys = btree_set_contains_iff id_total exact_id sorted id in
      (λ has. all.0 (keys.1 has), λ has. keys.0 (all.1 has));
}
