-- Ids that come twice in the packs of an entity: in one pack, or in two.
use Rattle.std.proofs.Common.{◌≡◌, ◌≢◌, ◌⊎◌, inl, inr, ◌<◌, zero, suc, ℕ, List, [], ◌∷◌, ◌++◌, Some, option_map, Contains, refl, sym, ◌∙◌, ap, subst, arith}
use Rattle.std.specs.List.{slice_get}
use Rattle.std.proofs.lemmas.List.Elements.{Contains-append_left, Contains-append_right, Contains-append_cases}
use Rattle.std.proofs.lemmas.Option.{get_or_from_slice_get, same_Some, slice_get-get_or, slice_get-map, slice_get_within}
use Rattle.gb_text.specs.declared.id.Id.{Id}
use Rattle.commit_walk.specs.Distinct.{AreDistinct}
use Rattle.commit_walk.proofs.DistinctLemmas.{Contains-nil, Contains-cons, Contains-first, Contains-later}
use Rattle.op_kind.specs.Meaning.{Meaning}
use Rattle.op_pack.specs.declared.pack.Pack.{Pack}
use Rattle.dag_entity.specs.Judging.{IsRepeated, all_ids}
use Rattle.dag_entity.specs.Nodes.{ids_of}
use Rattle.dag_entity.specs.declared.entity.Placed.{Placed}

-- ---- lists

module _ {X : Type 0} where
  -- a list with an element at a place
  pub Contains-at : (xs : List X) (place : ℕ) (x : X) → slice_get xs place ≡ Some x → Contains xs x
  Contains-at xs place x at = (place, slice_get_within xs place x at, get_or_from_slice_get xs place x x at)

  pub place_of : (xs : List X) (x : X) → Contains xs x → (place : ℕ) × (slice_get xs place ≡ Some x)
  place_of xs x c = (c.0, slice_get-get_or xs c.0 x c.1 ∙ ap Some c.2)

  -- a list that begins with an element
  pub rest_of : (xs : List X) (x : X) → Some x ≡ slice_get xs 0 → (rest : List X) × (xs ≡ x ∷ rest)
  rest_of [] x at = absurd (cc at)
  rest_of (y ∷ ys) x at = (ys, ap (λ (z : X). z ∷ ys) (sym (same_Some x y at)))

  -- an element comes in a list, and once more behind
  abbrev Twice : X → List X → Type 0
  Twice x [] = ⊥
  Twice x (y ∷ ys) = ((y ≡ x) × Contains ys x) ⊎ Twice x ys

  Twice-split : (front rest : List X) (x : X) → Contains front x → Twice x (front ++ x ∷ rest)
  Twice-split [] rest x c = absurd (Contains-nil x c)
  Twice-split (y ∷ ys) rest x c =
      elim (Contains-cons y ys x c) [
        | inl e ↦ inl (e, Contains-append_right ys (x ∷ rest) x (Contains-first x rest))
        | inr h ↦ inr (Twice-split ys rest x h)
      ]

  Twice-left : (xs ys : List X) (x : X) → Twice x xs → Twice x (xs ++ ys)
  Twice-left [] ys x t = absurd t
  Twice-left (z ∷ zs) ys x (inl h) = inl (h.0, Contains-append_left zs ys x h.1)
  Twice-left (z ∷ zs) ys x (inr t) = inr (Twice-left zs ys x t)

  Twice-right : (xs ys : List X) (x : X) → Twice x ys → Twice x (xs ++ ys)
  Twice-right [] ys x t = t
  Twice-right (z ∷ zs) ys x t = inr (Twice-right zs ys x t)

  Twice-both : (xs ys : List X) (x : X) → Contains xs x → Contains ys x → Twice x (xs ++ ys)
  Twice-both [] ys x one two = absurd (Contains-nil x one)
  Twice-both (z ∷ zs) ys x one two =
      elim (Contains-cons z zs x one) [
        | inl e ↦ inl (e, Contains-append_right zs ys x two)
        | inr h ↦ inr (Twice-both zs ys x h two)
      ]

  -- twice in two lists joined: in the first, in each, or in the second
  Twice-cases : (xs ys : List X) (x : X) → Twice x (xs ++ ys) → Twice x xs ⊎ ((Contains xs x × Contains ys x) ⊎ Twice x ys)
  Twice-cases [] ys x t = inr (inr t)
  Twice-cases (z ∷ zs) ys x (inl h) =
      elim (Contains-append_cases zs ys x h.1) [
        | inl l ↦ inl (inl (h.0, l))
        | inr r ↦ inr (inl (subst (Contains (z ∷ zs)) h.0 (Contains-first z zs), r))
      ]
  Twice-cases (z ∷ zs) ys x (inr t) =
      elim (Twice-cases zs ys x t) [
        | inl l ↦ inl (inr l)
        | inr r ↦ elim r [
          | inl b ↦ inr (inl (Contains-later z zs x b.0, b.1))
          | inr k ↦ inr (inr k)
        ]
      ]

  record AtTwoPlaces (xs : List X) (x : X) : Type 0 where
    pub one : ℕ
    pub two : ℕ
    pub before : one < two
    pub at_one : slice_get xs one ≡ Some x
    pub at_two : slice_get xs two ≡ Some x

  Twice-places : (xs : List X) (x : X) → Twice x xs → AtTwoPlaces xs x
  Twice-places [] x t = absurd t
  Twice-places (y ∷ ys) x (inl h) =
      let found = place_of ys x h.1 in
      record { one = zero; two = suc found.0; before = omega arith; at_one = ap Some h.0; at_two = found.1 }
  Twice-places (y ∷ ys) x (inr t) =
      let are = Twice-places ys x t in
      record { one = suc are.one; two = suc are.two; before = omega (arith, are.before); at_one = are.at_one; at_two = are.at_two }

  Twice-at : (xs : List X) (x : X) (one two : ℕ) → one ≢ two → slice_get xs one ≡ Some x → slice_get xs two ≡ Some x → Twice x xs
  Twice-at [] x one two differ at_one at_two = absurd (cc at_one)
  Twice-at (y ∷ ys) x zero zero differ at_one at_two = absurd (differ refl)
  Twice-at (y ∷ ys) x zero (suc two) differ at_one at_two = inl (same_Some y x at_one, Contains-at ys two x at_two)
  Twice-at (y ∷ ys) x (suc one) zero differ at_one at_two = inl (same_Some y x at_two, Contains-at ys one x at_one)
  Twice-at (y ∷ ys) x (suc one) (suc two) differ at_one at_two = inr (Twice-at ys x one two (λ same. differ (ap suc same)) at_one at_two)

  Twice-never : (xs : List X) (x : X) → AreDistinct xs → Twice x xs → ⊥
  Twice-never xs x once t =
      let are = Twice-places xs x t in
      once are.one are.two x are.before (slice_get_within xs are.two x are.at_two)
      (get_or_from_slice_get xs are.one x x are.at_one ∙ sym (get_or_from_slice_get xs are.two x x are.at_two))

module _ {Op State Row : Type 0} (k : Meaning Op State Row) where
  -- ---- packs

  -- the id of a pack's first operation
  pub first_id : (pack : Pack Op) (first : Op) → Some first ≡ slice_get pack.ops 0 → slice_get (ids_of k pack) 0 ≡ Some (k.common_of first).place.id
  first_id pack first at = slice_get-map (λ (op : Op). (k.common_of op).place.id) pack.ops 0 ∙ ap (option_map (λ (op : Op). (k.common_of op).place.id)) (sym at)

  -- a pack among some has an id at two places
  pub record RepeatsInOne (packs : List (Placed Op)) (id : Id) : Type 0 where
    pub placed : Placed Op
    pub among : Contains packs placed
    pub one : ℕ
    pub two : ℕ
    pub differ : one ≢ two
    pub at_one : slice_get (ids_of k placed.pack) one ≡ Some id
    pub at_two : slice_get (ids_of k placed.pack) two ≡ Some id

  -- the packs at two places have an id
  pub record RepeatsInTwo (packs : List (Placed Op)) (id : Id) : Type 0 where
    pub first : ℕ
    pub second : ℕ
    pub differ : first ≢ second
    pub one : Placed Op
    pub two : Placed Op
    pub at_first : slice_get packs first ≡ Some one
    pub at_second : slice_get packs second ≡ Some two
    pub in_one : Contains (ids_of k one.pack) id
    pub in_two : Contains (ids_of k two.pack) id

  -- a pack at a place that has an id
  record HasAt (packs : List (Placed Op)) (id : Id) : Type 0 where
    pub place : ℕ
    pub placed : Placed Op
    pub at : slice_get packs place ≡ Some placed
    pub has : Contains (ids_of k placed.pack) id

  HasAt-from : (packs : List (Placed Op)) (id : Id) → Contains (all_ids k packs) id → HasAt packs id
  HasAt-from [] id c = absurd (Contains-nil id c)
  HasAt-from (p ∷ ps) id c =
      elim (Contains-append_cases (ids_of k p.pack) (all_ids k ps) id c) [
        | inl h ↦ record { place = zero; placed = p; at = refl; has = h }
        | inr h ↦ let found = HasAt-from ps id h in record { place = suc found.place; placed = found.placed; at = found.at; has = found.has }
      ]

  all_ids-has : (packs : List (Placed Op)) (place : ℕ) (placed : Placed Op) (id : Id) → slice_get packs place ≡ Some placed → Contains (ids_of k placed.pack) id → Contains (all_ids k packs) id
  all_ids-has [] place placed id at c = absurd (cc at)
  all_ids-has (p ∷ ps) zero placed id at c =
      Contains-append_left (ids_of k p.pack) (all_ids k ps) id (subst (λ (q : Placed Op). Contains (ids_of k q.pack) id) (sym (same_Some p placed at)) c)
  all_ids-has (p ∷ ps) (suc place) placed id at c = Contains-append_right (ids_of k p.pack) (all_ids k ps) id (all_ids-has ps place placed id at c)

  Twice-parts : (packs : List (Placed Op)) (id : Id) → Twice id (all_ids k packs) → RepeatsInOne packs id ⊎ RepeatsInTwo packs id
  Twice-parts [] id t = absurd t
  Twice-parts (p ∷ ps) id t =
      elim (Twice-cases (ids_of k p.pack) (all_ids k ps) id t) [
        | inl l ↦ let are = Twice-places (ids_of k p.pack) id l in
            inl (record { placed = p; among = Contains-first p ps; one = are.one; two = are.two; differ = omega (arith, are.before); at_one = are.at_one; at_two = are.at_two })
        | inr r ↦ elim r [
          | inl b ↦ let found = HasAt-from ps id b.1 in
              inr (record { first = zero; second = suc found.place; differ = omega arith; one = p; two = found.placed; at_first = refl; at_second = found.at; in_one = b.0; in_two = found.has })
          | inr h ↦ elim (Twice-parts ps id h) [
            | inl w ↦ inl (record { placed = w.placed; among = Contains-later p ps w.placed w.among; one = w.one; two = w.two; differ = w.differ; at_one = w.at_one; at_two = w.at_two })
            | inr w ↦ inr (record { first = suc w.first; second = suc w.second; differ = λ same. w.differ (omega (arith, same)); one = w.one; two = w.two; at_first = w.at_first; at_second = w.at_second; in_one = w.in_one; in_two = w.in_two })
          ]
        ]
      ]

  -- an id that comes twice does so in one pack, or in two
  pub repeated_parts : (packs : List (Placed Op)) (id : Id) → IsRepeated (all_ids k packs) id → RepeatsInOne packs id ⊎ RepeatsInTwo packs id
  repeated_parts packs id r = Twice-parts packs id (subst (Twice id) (sym r.is) (Twice-split r.front r.rest id r.again))

  Twice-in_one : (packs : List (Placed Op)) (placed : Placed Op) (id : Id) → Contains packs placed → Twice id (ids_of k placed.pack) → Twice id (all_ids k packs)
  Twice-in_one [] placed id c t = absurd (Contains-nil placed c)
  Twice-in_one (p ∷ ps) placed id c t =
      elim (Contains-cons p ps placed c) [
        | inl e ↦ Twice-left (ids_of k p.pack) (all_ids k ps) id (subst (λ (q : Placed Op). Twice id (ids_of k q.pack)) (sym e) t)
        | inr h ↦ Twice-right (ids_of k p.pack) (all_ids k ps) id (Twice-in_one ps placed id h t)
      ]

  Twice-in_two : (packs : List (Placed Op)) (first second : ℕ) (one two : Placed Op) (id : Id) → first ≢ second → slice_get packs first ≡ Some one → slice_get packs second ≡ Some two
      → Contains (ids_of k one.pack) id → Contains (ids_of k two.pack) id → Twice id (all_ids k packs)
  Twice-in_two [] first second one two id differ at_first at_second in_one in_two = absurd (cc at_first)
  Twice-in_two (p ∷ ps) zero zero one two id differ at_first at_second in_one in_two = absurd (differ refl)
  Twice-in_two (p ∷ ps) zero (suc second) one two id differ at_first at_second in_one in_two =
      Twice-both (ids_of k p.pack) (all_ids k ps) id (subst (λ (q : Placed Op). Contains (ids_of k q.pack) id) (sym (same_Some p one at_first)) in_one) (all_ids-has ps second two id at_second in_two)
  Twice-in_two (p ∷ ps) (suc first) zero one two id differ at_first at_second in_one in_two =
      Twice-both (ids_of k p.pack) (all_ids k ps) id (subst (λ (q : Placed Op). Contains (ids_of k q.pack) id) (sym (same_Some p two at_second)) in_two) (all_ids-has ps first one id at_first in_one)
  Twice-in_two (p ∷ ps) (suc first) (suc second) one two id differ at_first at_second in_one in_two =
      Twice-right (ids_of k p.pack) (all_ids k ps) id (Twice-in_two ps first second one two id (λ same. differ (ap suc same)) at_first at_second in_one in_two)

  -- where no id comes twice, none does so in one pack
  pub distinct_in_one : (packs : List (Placed Op)) (id : Id) → AreDistinct (all_ids k packs) → RepeatsInOne packs id → ⊥
  distinct_in_one packs id once r = Twice-never (all_ids k packs) id once (Twice-in_one packs r.placed id r.among (Twice-at (ids_of k r.placed.pack) id r.one r.two r.differ r.at_one r.at_two))

  -- nor in two
  pub distinct_in_two : (packs : List (Placed Op)) (id : Id) → AreDistinct (all_ids k packs) → RepeatsInTwo packs id → ⊥
  distinct_in_two packs id once r = Twice-never (all_ids k packs) id once (Twice-in_two packs r.first r.second r.one r.two id r.differ r.at_first r.at_second r.in_one r.in_two)
