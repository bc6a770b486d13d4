-- The entries of a map that took some refs are the last of each name.
use Rattle.std.proofs.Common.{◌≡◌, ℕ, Bool, if◌then◌else◌, List, [], ◌∷◌, map, Option, Some, None, refl, sym, ◌∙◌, ap, subst}
use Rattle.std.specs.BTreeMap.{BTreeMap}
use Rattle.std.specs.BTreeMap as tree
use Rattle.std.specs.List.Sorted.{IsStrictlySortedBy}
use Rattle.std.specs.Map.{update, update_all}
use Rattle.std.specs.Ordering.{eq_by_cmp}
use Rattle.std.specs.Prelude.{Contains}
use Rattle.std.proofs.lemmas.Cmp.{nat_list_cmp_total}
use Rattle.std.proofs.lemmas.Map.Lookups.{exact_bytes}
use Rattle.std.proofs.lemmas.Map.Text.{is_eq-slice_cmp}
use Rattle.std.proofs.lemmas.Map.Views.{btree_map_get_iff}
use Rattle.gb_text.specs.declared.id.Name.{Name}
use Rattle.packed_refs.specs.Packed.{PackedRef, head_of, last_head}
use Rattle.ref_store.proofs.ListLemmas.{Contains-from_map, Contains-map}
use Rattle.ref_packing.specs.Merging.{name_cmp, pair_of, ref_of_pair}
use Rattle.ref_packing.specs.Packing.{AreLast}

names_of_pairs : (pairs : List (List ℕ × Name)) → map (λ (one : PackedRef). one.name) (map ref_of_pair pairs) ≡ map (λ (p : List ℕ × Name). p.0) pairs
names_of_pairs [] = refl
names_of_pairs (p ∷ ps) = ap (λ (ns : List (List ℕ)). p.0 ∷ ns) (names_of_pairs ps)

-- what a map has of a name, after it took some refs
took : (name : List ℕ) (f : List ℕ → Option Name) (refs : List PackedRef) → update_all (eq_by_cmp name_cmp) f (map pair_of refs) name ≡ last_head name (f name) refs
unfolding last_head
took name f [] = refl
took name f (one ∷ refs) =
    took name (update (eq_by_cmp name_cmp) f one.name (Some one.head)) refs
    ∙ ap (λ (b : Bool). last_head name (if b then Some one.head else f name) refs) (is_eq-slice_cmp one.name name)

pub map_is_last : (refs : List PackedRef) (last : BTreeMap (List ℕ) Name) → tree.IsFromIterResult name_cmp (map pair_of refs) last → AreLast refs (map ref_of_pair last.entries)
map_is_last refs last made = record {
  rising = subst (IsStrictlySortedBy name_cmp) (sym (names_of_pairs last.entries)) made.1;
  members = λ one. (λ has. here one (Contains-from_map ref_of_pair last.entries one has), λ is. there one is);
}
  where
    found : (name : List ℕ) → tree.get name_cmp last name ≡ head_of name refs
    found name = made.0 name ∙ took name (λ _. None) refs

    here : (one : PackedRef) → ((pair : List ℕ × Name) × Contains last.entries pair × (ref_of_pair pair ≡ one)) → head_of one.name refs ≡ Some one.head
    here one from =
        let is : head_of from.0.0 refs ≡ Some from.0.1 = sym (found from.0.0) ∙ (btree_map_get_iff nat_list_cmp_total exact_bytes last made.1 from.0.0 from.0.1).1 from.1 in
        subst (λ (o : PackedRef). head_of o.name refs ≡ Some o.head) from.2 is

    there : (one : PackedRef) → head_of one.name refs ≡ Some one.head → Contains (map ref_of_pair last.entries) one
    there one is = Contains-map ref_of_pair last.entries (pair_of one) ((btree_map_get_iff nat_list_cmp_total exact_bytes last made.1 one.name one.head).0 (found one.name ∙ is))
