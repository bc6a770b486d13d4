-- Chains of commits from one head.
use Rattle.std.proofs.Common.{◌≡◌, ◌⊎◌, inl, inr, ◌<◌, ◌≤◌, List, [], ◌∷◌, length, Contains, Some, refl, sym, ◌∙◌, ap, subst, arith}
use Rattle.std.proofs.lemmas.Bool.{cases_eq, cases_lt}
use Rattle.gb_text.specs.declared.id.Name.{Name}
use Rattle.git_object.specs.declared.commit.Commit.{Commit}
use Rattle.object_store.specs.Held.{Objects}
use Rattle.object_store.specs.Typed.{commit_at}
use Rattle.commit_walk.specs.Below.{IsBelow, head as at_top, parent}
use Rattle.commit_walk.specs.Chain.{IsLink, Chain, MeetsMerge}
use Rattle.commit_walk.specs.declared.chain.Link.{Link}
use Rattle.commit_walk.proofs.DistinctLemmas.{Contains-first}

-- a commit has one tree and one list of parents
pub IsLink-same : (objects : Objects) (one two : Link) (ps qs : List Name) → one.name ≡ two.name → IsLink objects one ps → IsLink objects two qs
    → (one ≡ two) × (ps ≡ qs)
IsLink-same objects one two ps qs e first second =
    let same : Some first.commit ≡ Some second.commit = sym first.held ∙ ap (commit_at objects) e ∙ second.held in
    let commit : first.commit ≡ second.commit = grind (arith, same) in
    let tree : one.tree ≡ two.tree = first.tree ∙ ap (λ (c : Commit). c.tree) commit ∙ sym second.tree in
    (grind (arith, e, tree), first.parents ∙ ap (λ (c : Commit). c.parents) commit ∙ sym second.parents)

-- what a chain leads to lies below its head
pub chain_below : (objects : Objects) (top : Name) (above : List Link) (name : Name) → Chain objects top above name → IsBelow objects (top ∷ []) name
chain_below objects top [] name c = at_top (subst (λ (n : Name). Contains (n ∷ []) name) c (Contains-first name []))
chain_below objects top (link ∷ above) name c =
    parent (chain_below objects top above link.name c.0) (record { commit = c.1.commit; held = c.1.held; names = subst (λ (l : List Name). Contains l name) c.1.parents (Contains-first name []) })

-- two chains of one length from one head are the same, and lead to one name
pub Chain-same : (objects : Objects) (head : Name) (a b : List Link) (n m : Name) → length a ≡ length b
    → Chain objects head a n → Chain objects head b m → (a ≡ b) × (n ≡ m)
Chain-same objects head [] [] n m e first second = (refl, first ∙ sym second)
Chain-same objects head [] (y ∷ b) n m e first second = absurd (omega (arith, e))
Chain-same objects head (x ∷ a) [] n m e first second = absurd (omega (arith, e))
Chain-same objects head (x ∷ a) (y ∷ b) n m e first second =
    let above = Chain-same objects head a b x.name y.name (omega (arith, e)) first.0 second.0 in
    let here = IsLink-same objects x y (n ∷ []) (m ∷ []) above.1 first.1 second.1 in
    (grind (arith, here.0, above.0), grind (arith, here.1))

-- of two chains from one head, the shorter leads to a commit with a single parent
pub Chain-shorter : (objects : Objects) (head : Name) (a b : List Link) (n m : Name) → length a < length b
    → Chain objects head a n → Chain objects head b m → (p : Name) × (c : Commit) × (commit_at objects n ≡ Some c) × (c.parents ≡ p ∷ [])
Chain-shorter objects head a [] n m lt first second = absurd (omega (arith, lt))
Chain-shorter objects head a (y ∷ b) n m lt first second =
    elim (cases_eq (length a) (length b)) [
      | inl e ↦
          let same = Chain-same objects head a b n y.name e first second.0 in
          (m, second.1.commit, ap (commit_at objects) same.1 ∙ second.1.held, sym second.1.parents)
      | inr differ ↦ Chain-shorter objects head a b n y.name (omega (arith, lt, differ)) first second.0
    ]

-- a walk that ends at a name with no single parent, or after so many, meets no merge but perhaps there
pub no_merge : (objects : Objects) (head : Name) (a : List Link) (n : Name) → Chain objects head a n
    → ((c : Commit) → commit_at objects n ≡ Some c → length c.parents ≤ 1)
    → (length a ≡ 65536) ⊎ ((p : Name) (c : Commit) → commit_at objects n ≡ Some c → c.parents ≡ p ∷ [] → ⊥)
    → (m : Name) → MeetsMerge objects head m → ⊥
no_merge objects head a n chain few ends m merge =
    let b = merge.meets.above in
    elim (cases_eq (length a) (length b)) [
      | inl e ↦
          let same = Chain-same objects head a b n m e chain merge.meets.chain in
          omega (arith, few merge.commit (ap (commit_at objects) same.1 ∙ merge.held), merge.many)
      | inr differ ↦ elim (cases_lt (length b) (length a)) [
        | inl lt ↦
            let one = Chain-shorter objects head b a m n lt merge.meets.chain chain in
            let same : Some one.1 ≡ Some merge.commit = sym one.2 ∙ merge.held in
            let commit : one.1 ≡ merge.commit = grind (arith, same) in
            let parents : length merge.commit.parents ≡ 1 = ap (λ (c : Commit). length c.parents) (sym commit) ∙ ap length one.3 in
            omega (arith, parents, merge.many)
        | inr le ↦
            let lt : length a < length b = omega (arith, differ, le) in
            elim ends [
              | inl far ↦ omega (arith, far, lt, merge.meets.near)
              | inr none ↦
                  let one = Chain-shorter objects head a b n m lt chain merge.meets.chain in
                  none one.0 one.1 one.2 one.3
            ]
      ]
    ]
