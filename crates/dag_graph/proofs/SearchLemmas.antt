-- What a search has found, one position after the other.
use Rattle.std.proofs.Common.{◌≡◌, ◌≢◌, ◌⊎◌, inl, inr, ⊎_elim, ◌<◌, ◌≤◌, ◌+◌, ℕ, zero, suc, Bool, true, false, List, [], ◌∷◌, ◌++◌, length, get_or, set, replicate, Contains, refl, sym, ◌∙◌, ap, subst, arith, append_assoc, append-nil, length-append}
use Rattle.std.specs.List.{AllPairs}
use Rattle.std.proofs.lemmas.Bool.{cases_Bool, cases_eq, cases_lt, eq-eqb, eqb-true}
use Rattle.std.proofs.lemmas.List.{length-set, get_or-set_same, get_or-set_other, set-get_or, get_or_append_left}
use Rattle.std.proofs.lemmas.List.Elements.{Contains-append_left, Contains-get_or, Contains-push, Contains-push_cases}
use Rattle.std.proofs.lemmas.List.Quantifiers.{all_pairs_push}
use Rattle.std.proofs.lemmas.Map.Made.{IsDistinct-from_AllPairs}
use Rattle.std.proofs.lemmas.Map.Steps.{length-le_from_distinct_below}
use Rattle.std.proofs.lemmas.Map.Views.{Contains-from_any}
use Rattle.gb_text.specs.declared.id.Name.{Name}
use Rattle.dag_graph.specs.Below.{IsBelow, IsAncestor, head, parent}
use Rattle.dag_graph.specs.Nodes.{AreNodes, node_at}
use Rattle.dag_graph.specs.Search.{AreBelow, AreFound, Follows, found_with, is_met}
use Rattle.dag_graph.specs.declared.node.Node.{Node}
use Rattle.dag_graph.proofs.ListLemmas.{Contains-first, Contains-nil, Contains-one, get_or_any}
use Rattle.dag_graph.proofs.NodeLemmas.{AreApart, has_at, named, same_node, same_place}

pub met_none : (n place : ℕ) → is_met (replicate n false) place ≡ false
met_none zero place = refl
met_none (suc n) zero = refl
met_none (suc n) (suc place) = met_none n place

pub AreFound-none : (n : ℕ) → AreFound (replicate n false) []
AreFound-none n = record {
  inside = λ place c. absurd (Contains-nil place c);
  once = λ i j d below within. absurd (omega (arith, within));
  marked = λ place c. absurd (Contains-nil place c);
  only = λ place t. let f : is_met (replicate n false) place ≡ false = met_none n place in cc (t, f);
}

pub AreFound-at : (met : List Bool) (found : List ℕ) (turn : ℕ) → AreFound met found → turn < length found → get_or found turn 0 < length met
AreFound-at met found turn are before = are.inside (get_or found turn 0) (Contains-get_or found turn 0 before)

module _ (met : List Bool) (found : List ℕ) (are : AreFound met found) (place : ℕ) (within : place < length met) where
  not_found : is_met met place ≡ false → (k : ℕ) (d : ℕ) → k < length found → get_or found k d ≢ place
  not_found f k d inside e =
      let t : is_met met place ≡ true = are.marked place (k, inside, subst (λ (x : ℕ). get_or found k x ≡ x) refl (any k d inside ∙ e)) in
      cc (t, f)
    where
      any : (k : ℕ) (d : ℕ) → k < length found → get_or found k place ≡ get_or found k d
      any k d inside = get_or_any found k place d inside

  once_more : is_met met place ≡ false → AllPairs (λ (one other : ℕ). one ≢ other) (found ++ place ∷ [])
  once_more f = all_pairs_push (λ (one other : ℕ). one ≢ other) found place are.once (λ k d inside. not_found f k d inside)

  -- there is room for what is found
  pub has_room : is_met met place ≡ false → length found < length met
  has_room f =
      let few : length (found ++ place ∷ []) ≤ length met =
      length-le_from_distinct_below (found ++ place ∷ []) (length met) (IsDistinct-from_AllPairs (λ (x y : ℕ). (eqb-true x y, eq-eqb x y)) (found ++ place ∷ []) (once_more f))
      (λ q t. ⊎_elim (λ (c : Contains found q). are.inside q c) (λ (e : place ≡ q). subst (λ (k : ℕ). k < length met) e within)
      (Contains-push_cases found place q (Contains-from_any eqb-true q (found ++ place ∷ []) t))) in
      omega (arith, few, length-append found (place ∷ []))

  pub marked_again : is_met met place ≡ true → met ≡ set met place true
  marked_again t = sym (set-get_or met place false) ∙ ap (set met place) t

  more_marked : AreFound (set met place true) (found ++ place ∷ []) → is_met met place ≡ false → AreFound (set met place true) (found_with met found place)
  more_marked a f = rw f a

  marked_same : is_met met place ≡ true → AreFound (set met place true) (found_with met found place)
  marked_same t = subst (λ (m : List Bool). AreFound m (found_with met found place)) (marked_again t) (rw t are)

  met_after : (k : ℕ) → is_met (set met place true) k ≡ true → is_met met k ≡ true ⊎ (place ≡ k)
  met_after k e =
      elim (cases_eq place k) [
        | inl same ↦ inr same
        | inr differ ↦ inl (sym (get_or-set_other met place k true false (λ s. differ (sym s))) ∙ e)
      ]

  met_still : (k : ℕ) → is_met met k ≡ true → is_met (set met place true) k ≡ true
  met_still k e =
      elim (cases_eq place k) [
        | inl same ↦ subst (λ (n : ℕ). is_met (set met place true) n ≡ true) same (get_or-set_same met place true false within)
        | inr differ ↦ get_or-set_other met place k true false (λ s. differ (sym s)) ∙ e
      ]

  newly_marked : is_met met place ≡ false → AreFound (set met place true) (found ++ place ∷ [])
  newly_marked f = record {
    inside = λ k c. let small : k < length met = ⊎_elim (λ (h : Contains found k). are.inside k h) (λ (e : place ≡ k). subst (λ (n : ℕ). n < length met) e within) (Contains-push_cases found place k c) in
        omega (arith, small, length-set met place true);
    once = once_more f;
    marked = λ k c. ⊎_elim (λ (h : Contains found k). met_still k (are.marked k h))
        (λ (e : place ≡ k). subst (λ (n : ℕ). is_met (set met place true) n ≡ true) e (get_or-set_same met place true false within)) (Contains-push_cases found place k c);
    only = λ k e. ⊎_elim (λ (t : is_met met k ≡ true). Contains-append_left found (place ∷ []) k (are.only k t))
        (λ (s : place ≡ k). subst (λ (n : ℕ). Contains (found ++ place ∷ []) n) s (Contains-push found place)) (met_after k e);
  }

  pub AreFound-more : AreFound (set met place true) (found_with met found place)
  AreFound-more = ⊎_elim (λ (t : is_met met place ≡ true). marked_same t) (λ (f : is_met met place ≡ false). more_marked (newly_marked f) f) (cases_Bool (is_met met place))

  -- what was found, with the position
  pub found_more : (rest : List ℕ) × (found_with met found place ≡ found ++ rest)
  found_more = ⊎_elim (λ (t : is_met met place ≡ true). ([], rw t (sym (append-nil found)))) (λ (f : is_met met place ≡ false). (place ∷ [], rw f refl)) (cases_Bool (is_met met place))

  pub found_has : Contains (found_with met found place) place
  found_has = ⊎_elim (λ (t : is_met met place ≡ true). rw t (are.only place t)) (λ (f : is_met met place ≡ false). rw f (Contains-push found place)) (cases_Bool (is_met met place))

  pub found_only : (k : ℕ) → Contains (found_with met found place) k → Contains found k ⊎ (place ≡ k)
  found_only k c = ⊎_elim (λ (t : is_met met place ≡ true). inl (rw t at c)) (λ (f : is_met met place ≡ false). Contains-push_cases found place k (rw f at c)) (cases_Bool (is_met met place))

pub Follows-none : (nodes : List Node) (found : List ℕ) → Follows nodes [] found found
Follows-none nodes found = record {
  rest = [];
  kept = sym (append-nil found);
  has = λ place within c. absurd (Contains-nil (node_at nodes place).name c);
  only = λ place c. inl c;
}

-- one name more
pub Follows-more : (nodes : List Node) → AreApart nodes → (names : List Name) (name : Name) (old mid new : List ℕ) (met : List Bool) (place : ℕ) → AreFound met mid → place < length met → place < length nodes
    → (node_at nodes place).name ≡ name → new ≡ found_with met mid place → Follows nodes names old mid → Follows nodes (names ++ name ∷ []) old new
Follows-more nodes apart names name old mid new met place are inside within named is follows =
    let more = found_more met mid are place inside in
    let longer : new ≡ mid ++ more.0 = is ∙ more.1 in
    record {
      rest = follows.rest ++ more.0;
      kept = longer ∙ ap (λ (l : List ℕ). l ++ more.0) follows.kept ∙ append_assoc old follows.rest more.0;
      has = λ k lt c. subst (λ (l : List ℕ). Contains l k) (sym longer) (⊎_elim
          (λ (h : Contains names (node_at nodes k).name). Contains-append_left mid more.0 k (follows.has k lt h))
          (λ (e : name ≡ (node_at nodes k).name). subst (λ (l : List ℕ). Contains l k) more.1
          (subst (λ (n : ℕ). Contains (found_with met mid place) n) (same_place nodes apart place k within lt (named ∙ e)) (found_has met mid are place inside)))
          (Contains-push_cases names name (node_at nodes k).name c));
      only = λ k c. ⊎_elim
          (λ (h : Contains mid k). ⊎_elim (λ (o : Contains old k). inl o) (λ (n : Contains names (node_at nodes k).name). inr (Contains-append_left names (name ∷ []) (node_at nodes k).name n)) (follows.only k h))
          (λ (e : place ≡ k). inr (subst (λ (n : Name). Contains (names ++ name ∷ []) n) (sym named ∙ ap (λ (p : ℕ). (node_at nodes p).name) e) (Contains-push names name)))
          (found_only met mid are place inside k (subst (λ (l : List ℕ). Contains l k) is c));
    }

pub found_new : (met : List Bool) (found : List ℕ) (place : ℕ) → is_met met place ≡ false → found ++ place ∷ [] ≡ found_with met found place
found_new met found place f = rw f refl

-- what was found is below the node, and the first of it, so many, have their parents found
pub record Reaches (nodes : List Node) (high : ℕ) (found : List ℕ) (turn : ℕ) : Type 0 where
  pub top : Contains found high
  pub below : (place : ℕ) → Contains found place → IsAncestor nodes (node_at nodes place).name (node_at nodes high).name
  pub followed : (k : ℕ) → k < turn → (place : ℕ) → place < length nodes → Contains (node_at nodes (get_or found k 0)).parents (node_at nodes place).name → Contains found place

pub Reaches-first : (nodes : List Node) (high : ℕ) → Reaches nodes high (high ∷ []) 0
Reaches-first nodes high = record {
  top = Contains-first high [];
  below = λ place c. head (subst (λ (k : ℕ). Contains ((node_at nodes high).name ∷ []) (node_at nodes k).name) (Contains-one high place c) (Contains-first (node_at nodes high).name []));
  followed = λ k lt. absurd (omega (arith, lt));
}

pub Reaches-more : (nodes : List Node) (high : ℕ) (old new : List ℕ) (turn place : ℕ) → turn < length old → get_or old turn 0 ≡ place → place < length nodes
    → Follows nodes (node_at nodes place).parents old new → Reaches nodes high old turn → Reaches nodes high new (turn + 1)
Reaches-more nodes high old new turn place before is within follows reaches = record {
  top = still high reaches.top;
  below = λ k c. ⊎_elim (λ (o : Contains old k). reaches.below k o)
      (λ (n : Contains (node_at nodes place).parents (node_at nodes k).name). parent (reaches.below place here) (record { node = node_at nodes place; at = has_at nodes place within; is = refl; names = n })) (follows.only k c);
  followed = λ k lt p inside c. elim (cases_lt k turn) [
    | inl earlier ↦ still p (reaches.followed k earlier p inside (subst (λ (n : ℕ). Contains (node_at nodes n).parents (node_at nodes p).name) (same k (omega (arith, earlier, before))) c))
    | inr later ↦
        let at : k ≡ turn = omega (arith, lt, later) in
        let place_is : get_or new k 0 ≡ place = same k (omega (arith, at, before)) ∙ ap (λ (n : ℕ). get_or old n 0) at ∙ is in
        follows.has p inside (subst (λ (n : ℕ). Contains (node_at nodes n).parents (node_at nodes p).name) place_is c)
  ];
}
  where
    here : Contains old place
    here = subst (λ (n : ℕ). Contains old n) is (Contains-get_or old turn 0 before)

    still : (k : ℕ) → Contains old k → Contains new k
    still k c = subst (λ (l : List ℕ). Contains l k) (sym follows.kept) (Contains-append_left old follows.rest k c)

    same : (k : ℕ) → k < length old → get_or new k 0 ≡ get_or old k 0
    same k lt = ap (λ (l : List ℕ). get_or l k 0) follows.kept ∙ get_or_append_left old follows.rest 0 k lt

module _ (nodes : List Node) (are : AreNodes nodes) (high : ℕ) (within : high < length nodes) (found : List ℕ) (turn : ℕ) (all : length found ≤ turn) (reaches : Reaches nodes high found turn)
    (inside : (place : ℕ) → Contains found place → place < length nodes) where
  -- what is below was found
  reached : (name : Name) → IsBelow nodes ((node_at nodes high).name ∷ []) name → (place : ℕ) × Contains found place × ((node_at nodes place).name ≡ name)
  reached name (head c) = (high, reaches.top, Contains-one (node_at nodes high).name name c)
  reached name (parent {high = mid} b p) =
      let (q, c, is) = reached mid b in
      let node : node_at nodes q ≡ p.node = same_node nodes are.once (node_at nodes q) p.node (has_at nodes q (inside q c)) p.at (is ∙ sym p.is) in
      let (r, lt, named_r) = named nodes name (are.closed p.node name p.at p.names) in
      let place_is : get_or found c.0 0 ≡ q = get_or_any found c.0 0 q c.1 ∙ c.2 in
      let has : Contains (node_at nodes (get_or found c.0 0)).parents (node_at nodes r).name =
      subst (λ (n : Name). Contains (node_at nodes (get_or found c.0 0)).parents n) (sym named_r)
      (subst (λ (n : Node). Contains n.parents name) (sym (ap (node_at nodes) place_is ∙ node)) p.names) in
      (r, reaches.followed c.0 (omega (arith, c.1, all)) r lt has, named_r)

  pub AreBelow-all : (met : List Bool) → AreFound met found → AreBelow nodes high met
  AreBelow-all met found_are place lt = (
    λ t. reaches.below place (found_are.only place t),
    λ b. let (q, c, is) = reached (node_at nodes place).name b in
        subst (λ (n : ℕ). is_met met n ≡ true) (same_place nodes are.once q place (inside q c) lt is) (found_are.marked q c),
  )
