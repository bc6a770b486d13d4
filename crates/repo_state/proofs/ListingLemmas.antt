-- The refs of a side are the ids whose refs stand, and the heads of the refs that read.
use Rattle.std.proofs.Common.{◌≡◌, ◌⊎◌, ℕ, inl, inr, zero, suc, List, [], ◌∷◌, ◌++◌, map, Some, Err, refl, sym, ◌∙◌, ap, subst, arith}
use Rattle.std.specs.Prelude.{Contains, IfOk, IsTrue, Result, Ok}
use Rattle.std.specs.List.{AllByRecursion}
use Rattle.std.specs.declared.cmp.Ordering.{Ordering}
use Rattle.std.specs.declared.cmp.Ordering.TheVariants.{Equal, Greater, Less}
use Rattle.std.proofs.lemmas.Cmp.{nat_list_cmp_total, tied_itself}
use Rattle.std.proofs.lemmas.List.{map-append}
use Rattle.std.proofs.lemmas.List.Elements.{All-contains, All-from_recursion, Contains-append_cases, Contains-append_left, Contains-append_right}
use Rattle.std.proofs.lemmas.Simd.{map-map}
use Rattle.std.specs.Cmp.Lexicographic.{slice_cmp}
use Rattle.std.specs.List.Sorted.{IsStrictlySortedBy}
use Rattle.std.specs.Ordering.{is_eq, nat_cmp, ordering_reverse}
use Rattle.std.proofs.lemmas.Map.Text.{is_eq-slice_cmp}
use Rattle.std.proofs.lemmas.Slice.Eq.{bytes_eq-Decides}
use Rattle.gb_text.specs.Digits.{IsId}
use Rattle.gb_text.specs.declared.id.Id.{Id}
use Rattle.gb_text.specs.declared.id.Name.{Name}
use Rattle.gb_store.specs.Files.{Files}
use Rattle.gb_store.specs.declared.fault.StoreFault.{StoreFault}
use Rattle.object_batch.proofs.ClashLemmas.{Contains-cons_cases, Contains-first}
use Rattle.ref_store.specs.Listing.{IsIdList, IsRefList, found_of}
use Rattle.ref_store.specs.Refs.{Ref, Absent, Head, Bad}
use Rattle.ref_store.specs.declared.listing.RefEntry.{RefEntry}
use Rattle.ref_store.specs.declared.listing.RefFound.{RefFound}
use Rattle.ref_store.specs.declared.listing.RefFound.TheVariants as found
use Rattle.repo_state.specs.Answers.{HasBadRef, HeadsOf, IsBehind, Reads, as_entry}
use Rattle.repo_state.specs.Sides.{AreHeads, AreIds, IsBefore, IsFirst, dir_of, has_ref, head_at, is_there}
use Rattle.repo_state.specs.declared.stop.ReadStop.{ReadStop}
use Rattle.repo_state.specs.declared.stop.ReadStop.TheVariants as stop
use Rattle.repo_state.specs.declared.side.HeadEntry.{HeadEntry}
use Rattle.repo_state.specs.declared.side.Side.{Side}

-- ---- lists

-- what a list has is mapped with it
pub Contains-map : {X Y : Type 0} (f : X → Y) (xs : List X) (x : X) → Contains xs x → Contains (map f xs) (f x)
Contains-map f [] x (k, lt, e) = absurd (omega arith)
Contains-map f (z ∷ xs) x (zero, lt, e) = (0, omega arith, ap f e)
Contains-map f (z ∷ xs) x (suc k, lt, e) =
    let later = Contains-map f xs x (k, omega arith, e) in
    (suc later.0, omega (arith, later.1), later.2)

-- what a mapped list has came from the list
pub Contains-from_map : {X Y : Type 0} (f : X → Y) (xs : List X) (y : Y) → Contains (map f xs) y → (x : X) × Contains xs x × (f x ≡ y)
Contains-from_map f [] y (k, lt, e) = absurd (omega arith)
Contains-from_map f (z ∷ xs) y (zero, lt, e) = (z, (0, omega arith, refl), e)
Contains-from_map f (z ∷ xs) y (suc k, lt, e) =
    let later = Contains-from_map f xs y (k, omega arith, e) in
    (later.0, (suc later.1.0, omega (arith, later.1.1), later.1.2), later.2)

-- ---- order

-- in a list that ascends what stands behind is greater
behind : (xs : List (List ℕ)) (x : List ℕ) (ys : List (List ℕ)) → IsStrictlySortedBy (slice_cmp nat_cmp) (xs ++ x ∷ ys) → AllByRecursion (λ y. slice_cmp nat_cmp x y ≡ Less) ys
unfolding IsStrictlySortedBy
behind [] x ys rising = rising.0
behind (z ∷ xs) x ys rising = behind xs x ys rising.1

-- nothing is before itself, and of two that are each before the other there are none
pub not_before_itself : (x : List ℕ) → slice_cmp nat_cmp x x ≡ Less → ⊥
not_before_itself x less = let tied = tied_itself nat_list_cmp_total x in cc (less, tied)

pub not_both_before : (x y : List ℕ) → slice_cmp nat_cmp x y ≡ Less → slice_cmp nat_cmp y x ≡ Less → ⊥
not_both_before x y one other = let turned = nat_list_cmp_total.antisymm x y in cc (one, other, turned)

-- of two ids one is before the other, or they are the same
pub in_order : (one two : Id) → IsBefore one two ⊎ (one ≡ two) ⊎ IsBefore two one
in_order one two = by_order (slice_cmp nat_cmp one.bytes two.bytes) refl
  where
    by_order : (o : Ordering) → slice_cmp nat_cmp one.bytes two.bytes ≡ o → IsBefore one two ⊎ (one ≡ two) ⊎ IsBefore two one
    by_order Less is = inl is
    by_order Equal is =
        let same = (bytes_eq-Decides one.bytes two.bytes).0 (sym (is_eq-slice_cmp one.bytes two.bytes) ∙ ap is_eq is) in
        inr (inl (λ i. record { bytes = same i }))
    by_order Greater is = inr (inr (nat_list_cmp_total.antisymm two.bytes one.bytes ∙ ap ordering_reverse is))

-- there is one first id of which something is so
pub one_first : (IsSo : Id → Type 0) (one two : Id) → IsFirst IsSo one → IsFirst IsSo two → one ≡ two
one_first IsSo one two first second = each (in_order one two)
  where
    each : IsBefore one two ⊎ (one ≡ two) ⊎ IsBefore two one → one ≡ two
    each (inl before) = absurd (second.none_before one first.is_id first.is_so before)
    each (inr (inl same)) = same
    each (inr (inr before)) = absurd (first.none_before two second.is_id second.is_so before)

-- ---- refs

-- a ref that is found stands, and one that stands is found
found_stands : (ref : Ref) (f : RefFound) → found_of ref ≡ Some f → IsTrue (is_there ref)
found_stands Absent f e = cc
found_stands (Head name) f e = refl
found_stands Bad f e = refl

stands_found : (ref : Ref) → IsTrue (is_there ref) → (f : RefFound) × (found_of ref ≡ Some f)
stands_found Absent stands = cc
stands_found (Head name) stands = (found.Head name, refl)
stands_found Bad stands = (found.Bad, refl)

-- what is found is what the ref is
pub head_found : (ref : Ref) (name : Name) → found_of ref ≡ Some (found.Head name) → ref ≡ Head name
head_found Absent name e = cc
head_found (Head other) name e = cc
head_found Bad name e = cc

pub bad_found : (ref : Ref) → found_of ref ≡ Some found.Bad → ref ≡ Bad
bad_found Absent e = cc
bad_found (Head other) e = cc
bad_found Bad e = refl

-- the ids of a dir are those whose refs exist
pub ids_are_listed : (files : Files) (folder : List ℕ) (of : Side) (ids : List Id) → IsIdList files folder (dir_of of) ids → AreIds files folder of ids
ids_are_listed files folder of ids are = record {
  rising = are.rising;
  members = are.members;
}

pub all_listed : (files : Files) (folder : List ℕ) (of : Side) (dir : List ℕ) (r : Result (List Id) StoreFault) → dir ≡ dir_of of → IfOk r (IsIdList files folder dir) → IfOk r (AreIds files folder of)
all_listed files folder of dir (Ok ids) same are = ids_are_listed files folder of ids (subst (λ (d : List ℕ). IsIdList files folder d ids) same are)
all_listed files folder of dir (Err fault) same are = tt

-- ---- entries of heads

as_entry-same : (one two : HeadEntry) → as_entry one ≡ as_entry two → one ≡ two
as_entry-same one two e =
    let ids : one.id ≡ two.id = ap (λ (x : RefEntry). x.id) e in
    let founds : found.Head one.name ≡ found.Head two.name = ap (λ (x : RefEntry). x.found) e in
    let names : one.name ≡ two.name = cc in
    λ i. record { id = ids i; name = names i }

as_entry-reads : (e : HeadEntry) (id : Id) → as_entry e ≡ record { id = id; found = found.Bad } → ⊥
as_entry-reads e id same =
    let founds : found.Head e.name ≡ found.Bad = ap (λ (x : RefEntry). x.found) same in
    cc

-- ---- the refs of a side

module _ (files : Files) (folder : List ℕ) (of : Side) (entries : List RefEntry) (are : IsRefList files folder (dir_of of) entries) where
  -- the ids of the refs
  pub ids_of_refs : (ids : List Id) → ids ≡ map (λ (e : RefEntry). e.id) entries → AreIds files folder of ids
  ids_of_refs ids is = record {
    rising = subst (λ (bs : List (List ℕ)). IsStrictlySortedBy (slice_cmp nat_cmp) bs)
        (sym (ap (map (λ (id : Id). id.bytes)) is ∙ map-map (λ (id : Id). id.bytes) (λ (e : RefEntry). e.id) entries)) are.rising;
    members = λ id. (
      λ has.
          let from = Contains-from_map (λ (e : RefEntry). e.id) entries id (subst (λ (is : List Id). Contains is id) is has) in
          let member = (are.members from.0).0 from.1 in
          let stands = found_stands (head_at files folder of from.0.id) from.0.found member.1 in
          subst (λ (i : Id). IsId i × IsTrue (has_ref files folder of i)) from.2 (member.0, stands),
      λ h.
          let found = stands_found (head_at files folder of id) h.1 in
          let member : Contains entries (record { id = id; found = found.0 }) = (are.members (record { id = id; found = found.0 })).1 (h.0, found.1) in
          subst (λ (is : List Id). Contains is id) (sym is) (Contains-map (λ (e : RefEntry). e.id) entries (record { id = id; found = found.0 }) member),
    );
  }

  -- the heads of the refs, all of which read
  pub heads_of_refs : (heads : List HeadEntry) → map as_entry heads ≡ entries → AreHeads files folder of heads
  heads_of_refs heads is = record {
    rising = subst (λ (bs : List (List ℕ)). IsStrictlySortedBy (slice_cmp nat_cmp) bs)
        (ap (map (λ (e : RefEntry). e.id.bytes)) (sym is) ∙ map-map (λ (e : RefEntry). e.id.bytes) as_entry heads) are.rising;
    members = λ e. (
      λ has.
          let member = (are.members (as_entry e)).0 (subst (λ (es : List RefEntry). Contains es (as_entry e)) is (Contains-map as_entry heads e has)) in
          (member.0, head_found (head_at files folder of e.id) e.name member.1),
      λ h.
          let has : Contains (map as_entry heads) (as_entry e) = subst (λ (es : List RefEntry). Contains es (as_entry e)) (sym is) ((are.members (as_entry e)).1 (h.0, ap found_of h.1)) in
          let from = Contains-from_map as_entry heads (as_entry e) has in
          subst (λ (x : HeadEntry). Contains heads x) (as_entry-same from.0 e from.2) from.1,
    );
    none_bad = λ id is_id bad.
        let has : Contains (map as_entry heads) (record { id = id; found = found.Bad }) =
        subst (λ (es : List RefEntry). Contains es (record { id = id; found = found.Bad })) (sym is) ((are.members (record { id = id; found = found.Bad })).1 (is_id, ap found_of bad)) in
        let from = Contains-from_map as_entry heads (record { id = id; found = found.Bad }) has in
        as_entry-reads from.0 id from.2;
  }

  -- what stands behind an entry is greater
  later_is_greater : (heads : List HeadEntry) (entry : RefEntry) (rest : List RefEntry) → entries ≡ map as_entry heads ++ entry ∷ rest
      → (later : RefEntry) → Contains rest later → slice_cmp nat_cmp entry.id.bytes later.id.bytes ≡ Less
  later_is_greater heads entry rest is later has =
      let bytes : RefEntry → List ℕ = λ e. e.id.bytes in
      let rising : IsStrictlySortedBy (slice_cmp nat_cmp) (map bytes (map as_entry heads) ++ bytes entry ∷ map bytes rest) =
      subst (IsStrictlySortedBy (slice_cmp nat_cmp)) (ap (map bytes) is ∙ map-append bytes (map as_entry heads) (entry ∷ rest)) are.rising in
      All-contains (λ y. slice_cmp nat_cmp entry.id.bytes y ≡ Less) (map bytes rest) (bytes later)
      (All-from_recursion (λ y. slice_cmp nat_cmp entry.id.bytes y ≡ Less) (map bytes rest) (behind (map bytes (map as_entry heads)) (bytes entry) (map bytes rest) rising))
      (Contains-map bytes rest later has)

  -- an entry that stands behind some is one of the refs
  standing_entry : (heads : List HeadEntry) (entry : RefEntry) → IsBehind entries heads entry → IsId entry.id × (found_of (head_at files folder of entry.id) ≡ Some entry.found)
  standing_entry heads entry (rest, is) =
      (are.members entry).0 (subst (λ (es : List RefEntry). Contains es entry) (sym is) (Contains-append_right (map as_entry heads) (entry ∷ rest) entry (Contains-first entry rest)))

  -- the heads before it read
  pub sooner_reads : (heads : List HeadEntry) (entry : RefEntry) → IsBehind entries heads entry → (e : HeadEntry) → Contains heads e → head_at files folder of e.id ≡ Head e.name
  sooner_reads heads entry (rest, is) e has =
      let member : Contains entries (as_entry e) =
      subst (λ (es : List RefEntry). Contains es (as_entry e)) (sym is) (Contains-append_left (map as_entry heads) (entry ∷ rest) (as_entry e) (Contains-map as_entry heads e has)) in
      head_found (head_at files folder of e.id) e.name ((are.members (as_entry e)).0 member).1

  -- what an entry of a ref that stands says is what the ref is
  pub entry_reads : (heads : List HeadEntry) (entry : RefEntry) → IsBehind entries heads entry → (name : Name) → entry.found ≡ found.Head name → head_at files folder of entry.id ≡ Head name
  entry_reads heads entry behind name is = head_found (head_at files folder of entry.id) name ((standing_entry heads entry behind).1 ∙ ap Some is)

  pub entry_is_bad : (heads : List HeadEntry) (entry : RefEntry) → IsBehind entries heads entry → entry.found ≡ found.Bad → head_at files folder of entry.id ≡ Bad
  entry_is_bad heads entry behind is = bad_found (head_at files folder of entry.id) ((standing_entry heads entry behind).1 ∙ ap Some is)

  -- an entry of which something is so that is not so of those before it, and only so of refs that stand, is the first
  pub first_of_refs : (IsSo : Id → Type 0) → ((id : Id) → IsSo id → IsTrue (has_ref files folder of id)) → (heads : List HeadEntry) (entry : RefEntry)
      → IsBehind entries heads entry → IsSo entry.id → ((e : HeadEntry) → Contains heads e → IsSo e.id → ⊥) → IsFirst IsSo entry.id
  first_of_refs IsSo stands heads entry (rest, is) so none = record {
    is_id = (standing_entry heads entry (rest, is)).0;
    is_so = so;
    none_before = not_before;
  }
    where
      greater : (other : RefEntry) → Contains (entry ∷ rest) other → IsBefore other.id entry.id → ⊥
      greater other has before = elim (Contains-cons_cases entry rest other has) [
        | inl same ↦ not_before_itself entry.id.bytes (subst (λ (e : RefEntry). slice_cmp nat_cmp e.id.bytes entry.id.bytes ≡ Less) (sym same) before)
        | inr later ↦ not_both_before entry.id.bytes other.id.bytes (later_is_greater heads entry rest is other later) before
      ]

      not_before : (other : Id) → IsId other → IsSo other → IsBefore other entry.id → ⊥
      not_before other is_id other_so before =
          let found = stands_found (head_at files folder of other) (stands other other_so) in
          let e : RefEntry = record { id = other; found = found.0 } in
          let has : Contains (map as_entry heads ++ entry ∷ rest) e = subst (λ (es : List RefEntry). Contains es e) is ((are.members e).1 (is_id, found.1)) in
          elim (Contains-append_cases (map as_entry heads) (entry ∷ rest) e has) [
            | inl sooner ↦ (
                let from = Contains-from_map as_entry heads e sooner in
                let same : from.0.id ≡ other = ap (λ (x : RefEntry). x.id) from.2 in
                none from.0 from.1 (subst IsSo (sym same) other_so))
            | inr later ↦ greater e later before
          ]

  -- `Damaged` for the first that does not read
  pub stops_at_bad_ref : (s : ReadStop) → HeadsOf folder of entries (Err s) → Reads {T = List HeadEntry} (AreHeads files folder of) (HasBadRef files folder of) (Err s)
  stops_at_bad_ref stop.Memory h = h
  stops_at_bad_ref stop.Disk h = absurd h
  stops_at_bad_ref (stop.Damaged path) (id, heads, before, at) =
      let entry : RefEntry = record { id = id; found = found.Bad } in
      let stands : (one : Id) → head_at files folder of one ≡ Bad → IsTrue (has_ref files folder of one) = λ one bad. ap is_there bad in
      let none : (e : HeadEntry) → Contains heads e → head_at files folder of e.id ≡ Bad → ⊥ =
      λ e has bad. let both : Head e.name ≡ Bad = sym (sooner_reads heads entry before e has) ∙ bad in cc (both) in
      (id, first_of_refs (λ one. head_at files folder of one ≡ Bad) stands heads entry before (entry_is_bad heads entry before refl) none, at)
