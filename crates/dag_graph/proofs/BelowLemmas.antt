-- What lies below: step by step, and by adding parents again and again.
use Rattle.std.proofs.Common.{◌≡◌, ℕ, zero, suc, ◌+◌, ◌-◌, ◌<◌, ◌≤◌, Bool, true, List, [], ◌∷◌, length, flat_map, cond, Contains, bytes_eq, refl, sym, ◌∙◌, ap, subst, inl, inr, ◌⊎◌, ⊎_elim, arith, add-suc, add-zero}
use Rattle.std.specs.Cmp.Lexicographic.{bytes_decides}
use Rattle.std.proofs.lemmas.Bool.{cases_Bool, both_ways}
use Rattle.std.proofs.lemmas.List.Elements.{Contains-append_left, Contains-append_right, Contains-append_cases}
use Rattle.gb_text.specs.declared.id.Name.{Name}
use Rattle.dag_graph.specs.Below.{IsAncestor, IsBelow, IsParent, added, head, parent, parents_of}
use Rattle.dag_graph.specs.Nodes.{names_of}
use Rattle.dag_graph.specs.declared.node.Node.{Node}
use Rattle.dag_graph.proofs.ListLemmas.{Contains-cons, Contains-first, Contains-later, Contains-map, Contains-nil, Contains-one}
use Rattle.dag_graph.proofs.NodeLemmas.{length-names}

abbrev name_eq : Name → Name → Bool
name_eq x y = bytes_eq x.bytes y.bytes

name_is : (x y : Name) → name_eq x y ≡ true → x ≡ y
name_is x y t =
    let of_bytes : List ℕ → Name = λ b. record { bytes = b } in
    ap of_bytes ((bytes_decides x.bytes y.bytes).0 t)

is_name : (x y : Name) → x ≡ y → name_eq x y ≡ true
is_name x y e = (bytes_decides x.bytes y.bytes).1 (ap (λ (n : Name). n.bytes) e)

pub same_or_not : (x y : Name) → (x ≡ y) ⊎ (x ≡ y → ⊥)
same_or_not x y =
    elim (cases_Bool (name_eq x y)) [
      | inl t ↦ inl (name_is x y t)
      | inr f ↦ inr (λ e. both_ways (name_eq x y) f (is_name x y e))
    ]

has_flat_map : {X A : Type 0} (f : X → List A) (xs : List X) (x : X) (a : A) → Contains xs x → Contains (f x) a → Contains (flat_map f xs) a
has_flat_map f [] x a h g = absurd (Contains-nil x h)
has_flat_map f (y ∷ xs) x a h g =
    ⊎_elim
    (λ (e : y ≡ x). Contains-append_left (f y) (flat_map f xs) a (subst (λ z. Contains (f z) a) (sym e) g))
    (λ (k : Contains xs x). Contains-append_right (f y) (flat_map f xs) a (has_flat_map f xs x a k g))
    (Contains-cons y xs x h)

flat_map_has : {X A : Type 0} (f : X → List A) (xs : List X) (a : A) → Contains (flat_map f xs) a → (x : X) × Contains xs x × Contains (f x) a
flat_map_has f [] a h = absurd (Contains-nil a h)
flat_map_has f (y ∷ xs) a h =
    elim (Contains-append_cases (f y) (flat_map f xs) a h) [
      | inl g ↦ (y, Contains-first y xs, g)
      | inr g ↦ let (x, k, l) = flat_map_has f xs a g in (x, Contains-later y xs x k, l)
    ]

abbrev without : Name → List Name → List Name
without x [] = []
without x (y ∷ ys) = cond (name_eq x y) (without x ys) (y ∷ without x ys)

keeps_others : (x y : Name) (xs : List Name) → (x ≡ y → ⊥) → Contains xs y → Contains (without x xs) y
keeps_others x y [] n h = absurd (Contains-nil y h)
keeps_others x y (z ∷ zs) n h =
    elim (cases_Bool (name_eq x z)) [
      | inl t ↦ rw t (⊎_elim (λ (e : z ≡ y). absurd (n (name_is x z t ∙ e))) (λ (k : Contains zs y). keeps_others x y zs n k) (Contains-cons z zs y h))
      | inr f ↦ rw f (⊎_elim (λ (e : z ≡ y). subst (λ w. Contains (z ∷ without x zs) w) e (Contains-first z (without x zs)))
          (λ (k : Contains zs y). Contains-later z (without x zs) y (keeps_others x y zs n k)) (Contains-cons z zs y h))
    ]

no_longer : (x : Name) (xs : List Name) → length (without x xs) ≤ length xs
no_longer x [] = omega arith
no_longer x (z ∷ zs) =
    let ih : length (without x zs) ≤ length zs = no_longer x zs in
    elim (cases_Bool (name_eq x z)) [
      | inl t ↦ rw t (omega arith)
      | inr f ↦ rw f (omega arith)
    ]

shorter : (x : Name) (xs : List Name) → Contains xs x → length (without x xs) < length xs
shorter x [] h = absurd (Contains-nil x h)
shorter x (z ∷ zs) h =
    elim (cases_Bool (name_eq x z)) [
      | inl t ↦ let le : length (without x zs) ≤ length zs = no_longer x zs in rw t (omega arith)
      | inr f ↦
          let ih : length (without x zs) < length zs =
          ⊎_elim (λ (e : z ≡ x). absurd (both_ways (name_eq x z) f (is_name x z (sym e)))) (λ (k : Contains zs x). shorter x zs k) (Contains-cons z zs x h) in
          rw f (omega arith)
    ]

-- steps down from high to low, each from one of these names
data Steps (nodes : List Node) (from : List Name) : Name → Name → Type 0 where
  done : {name : Name} → Steps nodes from name name
  step : {high mid low : Name} → Contains from high → IsParent nodes high mid → Steps nodes from mid low → Steps nodes from high low

abbrev Down : List Node → ℕ → Name → Name → Type 0
Down nodes zero high low = high ≡ low
Down nodes (suc n) high low = (mid : Name) × IsParent nodes high mid × Down nodes n mid low

module _ (nodes : List Node) where
  pub through : (heads others : List Name) (name : Name) → ((low : Name) → Contains others low → IsBelow nodes heads low) → IsBelow nodes others name → IsBelow nodes heads name
  through heads others name all (head h) = all name h
  through heads others name all (parent b p) = parent (through heads others _ all b) p

  pub ancestors : (low mid high : Name) → IsAncestor nodes low mid → IsAncestor nodes mid high → IsAncestor nodes low high
  ancestors low mid high b c = through (high ∷ []) (mid ∷ []) low (λ name h. subst (λ (n : Name). IsAncestor nodes n high) (Contains-one mid name h) c) b

  parent_has : (high low : Name) → IsParent nodes high low → Contains (parents_of nodes high) low
  parent_has high low p = has_flat_map _ nodes p.node low p.at (rw (is_name p.node.name high p.is) p.names)

  parent_from : (high low : Name) → Contains (parents_of nodes high) low → IsParent nodes high low
  parent_from high low h =
      let (node, at, g) = flat_map_has _ nodes low h in
      elim (cases_Bool (name_eq node.name high)) [
        | inl t ↦ record { node = node; at = at; is = name_is node.name high t; names = rw t at g }
        | inr f ↦ absurd (Contains-nil low (rw f at g))
      ]

  pub added_below : (heads : List Name) (n : ℕ) (low : Name) → Contains (added nodes heads n) low → IsBelow nodes heads low
  added_below heads zero low h = head h
  added_below heads (suc n) low h =
      ⊎_elim (λ a. added_below heads n low a)
      (λ b. let (high, g, k) = flat_map_has (parents_of nodes) (added nodes heads n) low b in parent (added_below heads n high g) (parent_from high low k))
      (Contains-append_cases (added nodes heads n) (flat_map (parents_of nodes) (added nodes heads n)) low h)

  one_more : (from : List Name) (high mid low : Name) → Steps nodes from high mid → Contains from mid → IsParent nodes mid low → Steps nodes from high low
  one_more from high mid low done h p = step h p done
  one_more from high mid low (step g q s) h p = step g q (one_more from _ mid low s h p)

  -- the last time that the steps leave x
  last_from : (from : List Name) (x high low : Name) → Steps nodes from high low
      → Steps nodes (without x from) high low ⊎ ((mid : Name) × Contains from x × IsParent nodes x mid × Steps nodes (without x from) mid low)
  last_from from x high low done = inl done
  last_from from x high low (step {mid = mid} h p s) = by (last_from from x mid low s)
    where
      by : Steps nodes (without x from) mid low ⊎ ((mid : Name) × Contains from x × IsParent nodes x mid × Steps nodes (without x from) mid low)
          → Steps nodes (without x from) high low ⊎ ((mid : Name) × Contains from x × IsParent nodes x mid × Steps nodes (without x from) mid low)
      by (inr r) = inr r
      by (inl t) =
          elim (same_or_not x high) [
            | inl e ↦ inr (mid, subst (Contains from) (sym e) h, subst (λ (n : Name). IsParent nodes n mid) (sym e) p, t)
            | inr n ↦ inl (step (keeps_others x high from n h) p t)
          ]

  short : (n : ℕ) (from : List Name) (high low : Name) → length from ≤ n → Steps nodes from high low → (k : ℕ) × (k ≤ length from) × Down nodes k high low
  short n from high low le done = (0, omega arith, refl)
  short zero [] high low le (step h p s) = absurd (Contains-nil high h)
  short zero (x ∷ from) high low le (step h p s) = absurd (omega arith)
  short (suc n) from high low le (step h p s) =
      let less : length (without high from) < length from = shorter high from h in
      ⊎_elim
      (λ (t : Steps nodes (without high from) high low). let (k, kl, d) = short n (without high from) high low (omega arith) t in (k, omega arith, d))
      (λ r. let (k, kl, d) = short n (without high from) r.0 low (omega arith) r.3 in (suc k, omega arith, (r.0, r.2, d)))
      (last_from from high high low (step h p s))

  more : (heads : List Name) (n : ℕ) (high low : Name) → Contains (added nodes heads n) high → IsParent nodes high low → Contains (added nodes heads (suc n)) low
  more heads n high low h p =
      Contains-append_right (added nodes heads n) (flat_map (parents_of nodes) (added nodes heads n)) low (has_flat_map (parents_of nodes) (added nodes heads n) high low h (parent_has high low p))

  later : (heads : List Name) (n k : ℕ) (name : Name) → Contains (added nodes heads n) name → Contains (added nodes heads (n + k)) name
  later heads n zero name h = rw add-zero h
  later heads n (suc k) name h = rw add-suc (Contains-append_left (added nodes heads (n + k)) (flat_map (parents_of nodes) (added nodes heads (n + k))) name (later heads n k name h))

  down_added : (heads : List Name) (k n : ℕ) (high low : Name) → Contains (added nodes heads n) high → Down nodes k high low → Contains (added nodes heads (n + k)) low
  down_added heads zero n high low h e = rw add-zero (subst (Contains (added nodes heads n)) e h)
  down_added heads (suc k) n high low h (mid, p, d) =
      let same : suc n + k ≡ n + suc k = omega arith in
      subst (λ (i : ℕ). Contains (added nodes heads i) low) same (down_added heads k (suc n) mid low (more heads n high mid h p) d)

  named_parent : (high low : Name) → IsParent nodes high low → Contains (names_of nodes) high
  named_parent high low p = subst (Contains (names_of nodes)) p.is (Contains-map (λ (n : Node). n.name) nodes p.node p.at)

  steps : (heads : List Name) (low : Name) → IsBelow nodes heads low → (high : Name) × Contains heads high × Steps nodes (names_of nodes) high low
  steps heads low (head h) = (low, h, done)
  steps heads low (parent {high = mid} b p) = let (top, h, s) = steps heads mid b in (top, h, one_more (names_of nodes) top mid low s (named_parent mid low p) p)

  -- so many times as there are nodes are enough
  pub below_added : (heads : List Name) (low : Name) → IsBelow nodes heads low → Contains (added nodes heads (length nodes)) low
  below_added heads low b =
      let (high, h, s) = steps heads low b in
      let (k, few, d) = short (length (names_of nodes)) (names_of nodes) high low (omega arith) s in
      let enough : k ≤ length nodes = omega (arith, few, length-names nodes) in
      let j : 0 + k + (length nodes - k) ≡ length nodes = omega arith in
      subst (λ (i : ℕ). Contains (added nodes heads i) low) j (later heads (0 + k) (length nodes - k) low (down_added heads k 0 high low h d))
