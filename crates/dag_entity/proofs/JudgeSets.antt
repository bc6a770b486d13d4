-- Sets of the ids of a list, and lists without repetition that grow by an id.
use Rattle.std.proofs.Common.{◌≡◌, ⊎_elim, ◌<◌, ◌+◌, Bool, true, false, cond, List, [], ◌∷◌, ◌++◌, ℕ, take, drop, get_or, length, Contains, refl, sym, ◌∙◌, ap, subst}
use Rattle.std.specs.BTreeMap.{is_at}
use Rattle.std.specs.BTreeSet.{BTreeSet, IsEmpty, contains}
use Rattle.std.specs.List.{list_any}
use Rattle.std.proofs.lemmas.List.{drop_more, take_more, take-append-drop}
use Rattle.std.proofs.lemmas.Map.Text.{is_eq-slice_cmp}
use Rattle.std.proofs.lemmas.Slice.Eq.{bytes_eq-Decides}
use Rattle.std.proofs.lemmas.List.Elements.{Contains-append_left, Contains-push, Contains-push_cases}
use Rattle.gb_text.specs.declared.id.Id.{Id}
use Rattle.commit_walk.specs.Distinct.{AreDistinct}
use Rattle.commit_walk.proofs.DistinctLemmas.{Contains-nil, AreDistinct-push}
use Rattle.dag_entity.specs.Judging.{IsRepeated, IsSetOf, by_bytes}

-- ids that compare as equal are the same
same_id : (one two : Id) → is_at (by_bytes one) two ≡ true → one ≡ two
same_id one two tied =
    let bytes : one.bytes ≡ two.bytes = (bytes_eq-Decides one.bytes two.bytes).0 (sym (is_eq-slice_cmp one.bytes two.bytes) ∙ tied) in
    ap (λ (bytes : List ℕ). record { bytes = bytes }) bytes

is_at-itself : (id : Id) → is_at (by_bytes id) id ≡ true
is_at-itself id = is_eq-slice_cmp id.bytes id.bytes ∙ (bytes_eq-Decides id.bytes id.bytes).1 refl

-- a set without ids
pub IsSetOf-none : (known : BTreeSet Id) → IsEmpty known → IsSetOf known []
IsSetOf-none known empty = record {
  all = λ id c. absurd (Contains-nil id c);
  only = λ id is. let no : contains by_bytes known id ≡ false = ap (λ (ids : List Id). list_any (is_at (by_bytes id)) ids) empty in absurd (cc (sym no ∙ is));
}

-- the set has one id more, and the list too
IsSetOf-push : (old new : BTreeSet Id) (ids : List Id) (id : Id) → IsSetOf old ids
    → ((q : Id) → contains by_bytes new q ≡ cond (is_at (by_bytes id) q) true (contains by_bytes old q))
    → IsSetOf new (ids ++ id ∷ [])
IsSetOf-push old new ids id known has = record {
  all = λ n c. ⊎_elim
      (λ (h : Contains ids n). has n ∙ ap (cond (is_at (by_bytes id) n) true) (known.all n h) ∙ either (is_at (by_bytes id) n))
      (λ (e : id ≡ n). subst (λ (m : Id). contains by_bytes new m ≡ true) e (has id ∙ ap (λ (b : Bool). cond b true (contains by_bytes old id)) (is_at-itself id)))
      (Contains-push_cases ids id n c);
  only = λ n is. by n (is_at (by_bytes id) n) refl (sym (has n) ∙ is);
}
  where
    either : (b : Bool) → cond b true true ≡ true
    either true = refl
    either false = refl

    by : (n : Id) (b : Bool) → is_at (by_bytes id) n ≡ b → cond b true (contains by_bytes old n) ≡ true → Contains (ids ++ id ∷ []) n
    by n true at is = subst (Contains (ids ++ id ∷ [])) (same_id id n at) (Contains-push ids id)
    by n false at is = Contains-append_left ids (id ∷ []) n (known.only n is)

-- the set has the id at the next place too
pub IsSetOf-more : (old new : BTreeSet Id) (ids : List Id) (place : ℕ) (none : Id) → place < length ids → IsSetOf old (take place ids)
    → ((q : Id) → contains by_bytes new q ≡ cond (is_at (by_bytes (get_or ids place none)) q) true (contains by_bytes old q))
    → IsSetOf new (take (place + 1) ids)
IsSetOf-more old new ids place none within known has =
    subst (IsSetOf new) (sym (take_more ids place none within)) (IsSetOf-push old new (take place ids) (get_or ids place none) known has)

-- the id at the next place is none of those before it
pub AreDistinct-more : (old : BTreeSet Id) (ids : List Id) (place : ℕ) (none : Id) → place < length ids → IsSetOf old (take place ids) → AreDistinct (take place ids)
    → contains by_bytes old (get_or ids place none) ≡ false → AreDistinct (take (place + 1) ids)
AreDistinct-more old ids place none within known once absent =
    subst AreDistinct (sym (take_more ids place none within))
    (AreDistinct-push (take place ids) (get_or ids place none) once (λ c. let there = known.all (get_or ids place none) c in cc (sym absent ∙ there)))

-- the id at a place is one of those before it
pub IsRepeated-at : (old : BTreeSet Id) (ids : List Id) (place : ℕ) (none : Id) → place < length ids → IsSetOf old (take place ids)
    → contains by_bytes old (get_or ids place none) ≡ true → IsRepeated ids (get_or ids place none)
IsRepeated-at old ids place none within known there = record {
  front = take place ids;
  rest = drop (place + 1) ids;
  is = sym (split_at ids place within);
  again = known.only (get_or ids place none) there;
}
  where
    split_at : (xs : List Id) (n : ℕ) → n < length xs → take n xs ++ get_or xs n none ∷ drop (n + 1) xs ≡ xs
    split_at xs n within = ap (λ (rest : List Id). take n xs ++ rest) (sym (drop_more xs n none within)) ∙ take-append-drop n xs
