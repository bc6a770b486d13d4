-- The refs that a listing finds are all that stand.
use Rattle.std.proofs.Common.{◌≡◌, ℕ, List, map, Option, Some, None, refl, sym, ◌∙◌, ap, subst}
use Rattle.std.specs.Prelude.{Contains}
use Rattle.std.proofs.lemmas.Simd.{map-map}
use Rattle.std.specs.Cmp.Lexicographic.{slice_cmp}
use Rattle.std.specs.List.Sorted.{IsStrictlySortedBy}
use Rattle.std.specs.Ordering.{nat_cmp}
use Rattle.gb_text.specs.Digits.{IsId}
use Rattle.gb_text.specs.declared.id.Name.{Name}
use Rattle.gb_store.specs.Files.{Files}
use Rattle.ref_store.specs.Listing.{IsRefList, found_of}
use Rattle.ref_store.specs.Refs.{Ref}
use Rattle.ref_store.specs.declared.listing.RefEntry.{RefEntry}
use Rattle.ref_store.specs.declared.listing.RefFound.{RefFound}
use Rattle.ref_store.specs.declared.listing.RefFound.TheVariants as found
use Rattle.repo_state.specs.Listed.{AreRefs, head_in, ref_in, ref_with}
use Rattle.repo_state.specs.Sides.{dir_of, head_at}
use Rattle.repo_state.specs.declared.refs.EntityRef.{EntityRef}
use Rattle.repo_state.specs.declared.side.Side.{Side}
use Rattle.repo_state.proofs.ListingLemmas.{Contains-from_map, Contains-map, bad_found, head_found}

-- what was found of a ref says what it is
found_is : (ref : Ref) (f : RefFound) → found_of ref ≡ Some f → ref ≡ ref_with (head_in f)
found_is ref (found.Head name) e = head_found ref name e
found_is ref found.Bad e = bad_found ref e

-- and what it is says what is found
is_found : (head : Option Name) → (f : RefFound) × (found_of (ref_with head) ≡ Some f) × (head_in f ≡ head)
is_found None = (found.Bad, refl, refl)
is_found (Some name) = (found.Head name, refl, refl)

module _ (files : Files) (folder : List ℕ) (of : Side) (entries : List RefEntry) (are : IsRefList files folder (dir_of of) entries) where
  all_in : (e : EntityRef) → Contains (map ref_in entries) e → IsId e.id × (head_at files folder of e.id ≡ ref_with e.head)
  all_in e c =
      let from = Contains-from_map ref_in entries e c in
      let is = (are.members from.0).0 from.1 in
      subst (λ (x : EntityRef). IsId x.id × (head_at files folder of x.id ≡ ref_with x.head)) from.2 (is.0, found_is (head_at files folder of from.0.id) from.0.found is.1)

  in_all : (e : EntityRef) → IsId e.id × (head_at files folder of e.id ≡ ref_with e.head) → Contains (map ref_in entries) e
  in_all e h =
      let it = is_found e.head in
      let one : RefEntry = record { id = e.id; found = it.0 } in
      let among : Contains entries one = (are.members one).1 (h.0, ap found_of h.1 ∙ it.1) in
      let same : ref_in one ≡ e = ap (λ (o : Option Name). record { id = e.id; head = o }) it.2 in
      subst (Contains (map ref_in entries)) same (Contains-map ref_in entries one among)

  pub refs_are : (refs : List EntityRef) → refs ≡ map ref_in entries → AreRefs files folder of refs
  refs_are refs is = subst (AreRefs files folder of) (sym is) (record {
    rising = subst (IsStrictlySortedBy (slice_cmp nat_cmp)) (sym (map-map (λ (e : EntityRef). e.id.bytes) ref_in entries)) are.rising;
    members = λ e. (all_in e, in_all e);
  })
