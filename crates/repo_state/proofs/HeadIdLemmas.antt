-- The ids of a side are those of its heads, where every ref reads.
use Rattle.std.proofs.Common.{◌≡◌, ℕ, List, [], ◌∷◌, map, refl, sym, ◌∙◌, ap, subst}
use Rattle.std.specs.Prelude.{Contains, IsTrue}
use Rattle.std.proofs.lemmas.Cmp.{nat_list_cmp_total}
use Rattle.std.proofs.lemmas.Simd.{map-map}
use Rattle.std.specs.Cmp.Lexicographic.{slice_cmp}
use Rattle.std.specs.List.Sorted.{IsStrictlySortedBy}
use Rattle.std.specs.Ordering.{nat_cmp}
use Rattle.gb_text.specs.Digits.{IsId}
use Rattle.gb_text.specs.declared.id.Id.{Id}
use Rattle.gb_text.specs.declared.id.Name.{Name}
use Rattle.gb_store.specs.Files.{Files}
use Rattle.gb_text.proofs.SortedLemmas.{same_elements}
use Rattle.ref_store.specs.Refs.{Ref, Absent, Head, Bad}
use Rattle.repo_state.specs.Sides.{AllRead, AreHeads, AreIds, head_at, is_there}
use Rattle.repo_state.specs.declared.side.HeadEntry.{HeadEntry}
use Rattle.repo_state.specs.declared.side.Side.{Side}
use Rattle.repo_state.proofs.ListingLemmas.{Contains-from_map, Contains-map}

-- ---- ids and their bytes

Id-same : (one two : Id) → one.bytes ≡ two.bytes → one ≡ two
Id-same one two e = λ i. record { bytes = e i }

-- ids with the same bytes are the same
pub ids-same : (ones twos : List Id) → map (λ (id : Id). id.bytes) ones ≡ map (λ (id : Id). id.bytes) twos → ones ≡ twos
ids-same [] [] e = refl
ids-same [] (two ∷ twos) e = absurd (cc)
ids-same (one ∷ ones) [] e = absurd (cc)
ids-same (one ∷ ones) (two ∷ twos) e =
    let first : one.bytes ≡ two.bytes = cc in
    let rest : map (λ (id : Id). id.bytes) ones ≡ map (λ (id : Id). id.bytes) twos = cc in
    let is : one ≡ two = Id-same one two first in
    let are : ones ≡ twos = ids-same ones twos rest in
    λ i. is i ∷ are i

-- ---- a ref that stands and reads has a head

abbrev name_in : Ref → Name
name_in Absent = record { bytes = [] }
name_in (Head name) = name
name_in Bad = record { bytes = [] }

head_stands : (ref : Ref) (name : Name) → ref ≡ Head name → IsTrue (is_there ref)
head_stands Absent name e = absurd (cc)
head_stands (Head other) name e = refl
head_stands Bad name e = refl

stands_head : (ref : Ref) → IsTrue (is_there ref) → (ref ≡ Bad → ⊥) → ref ≡ Head (name_in ref)
stands_head Absent stands good = absurd (cc)
stands_head (Head name) stands good = refl
stands_head Bad stands good = absurd (good refl)

-- ---- the refs of a side

module _ (files : Files) (folder : List ℕ) (of : Side) (ids : List Id) (are : AreIds files folder of ids) where
  abbrev entry : Id → HeadEntry
  entry id = record { id = id; name = name_in (head_at files folder of id) }

  entry-head : AllRead files folder of → (id : Id) → Contains ids id → IsId id × (head_at files folder of id ≡ Head (name_in (head_at files folder of id)))
  entry-head good id has =
      let member = (are.members id).0 has in
      (member.0, stands_head (head_at files folder of id) member.1 (good id member.0))

  has_id : (e : HeadEntry) → IsId e.id → head_at files folder of e.id ≡ Head e.name → Contains ids e.id
  has_id e is_id head = (are.members e.id).1 (is_id, head_stands (head_at files folder of e.id) e.name head)

  -- the heads of these ids
  pub heads_of_ids : AllRead files folder of → (heads : List HeadEntry) × AreHeads files folder of heads
  heads_of_ids good = (
    map entry ids,
    record {
      rising = subst (IsStrictlySortedBy (slice_cmp nat_cmp)) (sym (map-map (λ (e : HeadEntry). e.id.bytes) entry ids)) are.rising;
      members = λ e. (
        λ has.
            let from = Contains-from_map entry ids e has in
            subst (λ (x : HeadEntry). IsId x.id × (head_at files folder of x.id ≡ Head x.name)) from.2 (entry-head good from.0 from.1),
        λ h.
            let name : name_in (head_at files folder of e.id) ≡ e.name = ap name_in h.1 in
            let same : entry e.id ≡ e = λ i. record { id = e.id; name = name i } in
            subst (Contains (map entry ids)) same (Contains-map entry ids e.id (has_id e h.0 h.1)),
      );
      none_bad = good;
    },
  )

  -- the ids of these heads
  pub ids_of_heads : (heads : List HeadEntry) → AreHeads files folder of heads → ids ≡ map (λ (e : HeadEntry). e.id) heads
  ids_of_heads heads have = ids-same ids (map (λ (e : HeadEntry). e.id) heads)
      (same_elements nat_list_cmp_total (map (λ (id : Id). id.bytes) ids) (map (λ (id : Id). id.bytes) (map (λ (e : HeadEntry). e.id) heads)) are.rising
      (subst (IsStrictlySortedBy (slice_cmp nat_cmp)) (sym (map-map (λ (id : Id). id.bytes) (λ (e : HeadEntry). e.id) heads)) have.rising) there back)
    where
      there : (bytes : List ℕ) → Contains (map (λ (id : Id). id.bytes) ids) bytes → Contains (map (λ (id : Id). id.bytes) (map (λ (e : HeadEntry). e.id) heads)) bytes
      there bytes has =
          let from = Contains-from_map (λ (id : Id). id.bytes) ids bytes has in
          let member = (have.members (entry from.0)).1 (entry-head have.none_bad from.0 from.1) in
          subst (Contains (map (λ (id : Id). id.bytes) (map (λ (e : HeadEntry). e.id) heads))) from.2
          (Contains-map (λ (id : Id). id.bytes) (map (λ (e : HeadEntry). e.id) heads) from.0 (Contains-map (λ (e : HeadEntry). e.id) heads (entry from.0) member))

      back : (bytes : List ℕ) → Contains (map (λ (id : Id). id.bytes) (map (λ (e : HeadEntry). e.id) heads)) bytes → Contains (map (λ (id : Id). id.bytes) ids) bytes
      back bytes has =
          let from = Contains-from_map (λ (id : Id). id.bytes) (map (λ (e : HeadEntry). e.id) heads) bytes has in
          let head = Contains-from_map (λ (e : HeadEntry). e.id) heads from.0 from.1 in
          let member = (have.members head.0).0 head.1 in
          subst (Contains (map (λ (id : Id). id.bytes) ids)) (ap (λ (id : Id). id.bytes) head.2 ∙ from.2)
          (Contains-map (λ (id : Id). id.bytes) ids head.0.id (has_id head.0 member.0 member.1))
