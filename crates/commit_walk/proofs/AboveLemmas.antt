-- The walk from a head to a known name: as long as it has come by steps from a commit to its only parent, and once it has left that way.
use Rattle.std.proofs.Common.{◌≡◌, ◌≢◌, ◌⊎◌, inl, inr, ⊎_elim, ◌<◌, ◌≤◌, ◌+◌, ℕ, Bool, true, false, nat_eq, List, [], ◌∷◌, ◌++◌, length, map, reverse, get_or, Contains, Some, None, Err, refl, sym, ◌∙◌, ap, subst, arith, length-append}
use Rattle.std.specs.List.{slice_get}
use Rattle.std.proofs.lemmas.Bool.{cases_eq}
use Rattle.std.proofs.lemmas.Bool.Decides.{nat_tests}
use Rattle.std.proofs.lemmas.List.{map-append, reverse-append, length-map, length-reverse, get_or_append_left}
use Rattle.std.proofs.lemmas.List.Elements.{Contains-append_left, Contains-append_right, Contains-push_cases}
use Rattle.std.proofs.lemmas.List.Sorted.{Contains-permutation, IsPermutation-map, IsPermutation-reverse, IsPermutation-sym}
use Rattle.std.proofs.lemmas.Option.{get_or_from_slice_get, same_Some, slice_get_within}
use Rattle.gb_text.specs.declared.id.Name.{Name}
use Rattle.git_object.specs.declared.commit.Commit.{Commit}
use Rattle.object_store.specs.Held.{Objects}
use Rattle.object_store.specs.Typed.{commit_at}
use Rattle.commit_walk.specs.Above.{AboveAnswers, IsChainAbove, LeavesOut, link_of}
use Rattle.commit_walk.specs.Answers.{CommitRefused}
use Rattle.commit_walk.specs.Below.{IsCommit, names_of}
use Rattle.commit_walk.specs.Chain.{Chain, IsLink, Meets}
use Rattle.commit_walk.specs.Distinct.{AreDistinct}
use Rattle.commit_walk.specs.Queues.{Adds}
use Rattle.commit_walk.specs.declared.below.Met.{Met}
use Rattle.commit_walk.specs.declared.chain.Link.{Link}
use Rattle.commit_walk.specs.declared.fault.WalkStop.{WalkStop}
use Rattle.commit_walk.specs.declared.fault.WalkStop.TheVariants as stop
use Rattle.commit_walk.proofs.ChainLemmas.{Chain-same, Chain-shorter, chain_below}
use Rattle.commit_walk.proofs.DistinctLemmas.{AreDistinct-head, AreDistinct-nil, AreDistinct-push, AreDistinct-tail, Contains-nil, Contains-one, length-distinct}
use Rattle.commit_walk.proofs.FrontierLemmas.{Frontier, Frontier-refused, Frontier-whole, name_is_known}

-- ---- tests

pub not_both : (b : Bool) → b ≡ true → b ≡ false → ⊥
not_both b is_true is_false = cc (sym is_true ∙ is_false)

pub counts_one : (b : Bool) (n m : ℕ) → b ≡ nat_eq n 1 → n ≡ m → b ≡ true → m ≡ 1
counts_one b n m is same is_true = grind (arith, nat_tests)

pub counts_others : (b : Bool) (n m : ℕ) → b ≡ nat_eq n 1 → n ≡ m → b ≡ false → m ≢ 1
counts_others b n m is same is_false one = grind (arith, nat_tests)

-- ---- lists

one_of : {X : Type 0} (xs : List X) → length xs ≡ 1 → (x : X) × (xs ≡ x ∷ [])
one_of [] one = absurd (omega (arith, one))
one_of (x ∷ []) one = (x, refl)
one_of (x ∷ y ∷ ys) one = absurd (omega (arith, one))

-- what stands behind the front of a list without repetition is not in the front
behind : {X : Type 0} (front rest all : List X) (place : ℕ) (x : X) → all ≡ front ++ rest → AreDistinct all → length front ≤ place → slice_get all place ≡ Some x → Contains front x → ⊥
behind {X = X} front rest all place x is once after at c =
    let within = slice_get_within all place x at in
    let here = get_or_from_slice_get all place x x at in
    let there = ap (λ (l : List X). get_or l c.0 x) is ∙ get_or_append_left front rest x c.0 c.1 ∙ c.2 in
    once c.0 place x (omega (arith, c.1, after)) within (there ∙ sym here)

-- names that come once do so in reverse
reversed_once : (walk : List Met) → AreDistinct (names_of walk) → AreDistinct (names_of (reverse walk))
reversed_once [] once = AreDistinct-nil
reversed_once (met ∷ walk) once =
    let is : names_of (reverse (met ∷ walk)) ≡ names_of (reverse walk) ++ met.name ∷ [] =
    ap names_of (reverse-append (met ∷ []) walk) ∙ map-append (λ (m : Met). m.name) (reverse walk) (met ∷ []) in
    let same = IsPermutation-sym (names_of walk) (names_of (reverse walk)) (IsPermutation-map (λ (m : Met). m.name) walk (reverse walk) (IsPermutation-reverse walk)) in
    subst AreDistinct (sym is)
    (AreDistinct-push (names_of (reverse walk)) met.name (reversed_once walk (AreDistinct-tail met.name (names_of walk) once))
    (λ c. AreDistinct-head met.name (names_of walk) once (Contains-permutation (names_of (reverse walk)) (names_of walk) met.name same c)))

-- the commits that were met, as links of a chain, the last of them first
abbrev links_of : List Met → List Link
links_of walk = map link_of (reverse walk)

length-links_of : (walk : List Met) → length (links_of walk) ≡ length walk
length-links_of walk = length-map (reverse walk) link_of ∙ length-reverse walk

links_of-push : (walk : List Met) (met : Met) → links_of (walk ++ met ∷ []) ≡ link_of met ∷ links_of walk
links_of-push walk met = ap (map link_of) (reverse-append walk (met ∷ []))

module _ (objects : Objects) (head known : Name) where
  -- ---- on the chain

  -- steps lead through what was met to the next name, if one is left, and have not met the known one
  pub record OnChain (names : List Name) (walk : List Met) : Type 0 where
    pub leads : (name : Name) → slice_get names (length walk) ≡ Some name → Chain objects head (links_of walk) name
    pub short : length names ≤ length walk + 1
    pub not_met : Contains (names_of walk) known → ⊥
    pub not_before : (others : List Link) → Chain objects head others known → length walk ≤ length others

  -- the walk is on the chain, or no steps lead to the known name
  abbrev pub Follows : Bool → List Name → List Met → Type 0
  Follows true names walk = OnChain names walk
  Follows false names walk = LeavesOut objects head known

  pub OnChain-start : (names : List Name) → Adds [] (head ∷ []) names → AreDistinct names → OnChain names []
  OnChain-start names adds once =
      let only : (name : Name) → Contains names name → head ≡ name =
      λ name c. ⊎_elim (λ (h : Contains [] name). absurd (Contains-nil name h)) (λ (h : Contains (head ∷ []) name). Contains-one head name h) (adds.only name c) in
      record {
        leads = λ name at. sym (only name (name_is_known names 0 name at));
        short = length-distinct names (head ∷ []) once (λ name c. ⊎_elim (λ (h : Contains [] name). absurd (Contains-nil name h)) (λ (h : Contains (head ∷ []) name). h) (adds.only name c));
        not_met = λ c. Contains-nil known c;
        not_before = λ others chain. omega arith;
      }

  module _ (names : List Name) (walk : List Met) (name : Name) (at : slice_get names (length walk) ≡ Some name) where
    -- further steps lead to the known name, unless it is the next
    later : OnChain names walk → name ≢ known → (others : List Link) → Chain objects head others known → length walk < length others
    later on differ others chain =
        elim (cases_eq (length walk) (length others)) [
          | inl e ↦ absurd (differ (Chain-same objects head (links_of walk) others name known (length-links_of walk ∙ e) (on.leads name at) chain).1)
          | inr other ↦ omega (arith, other, on.not_before others chain)
        ]

    pub Follows-later : (is_chain : Bool) → Follows is_chain names walk → (is_chain ≡ true → name ≢ known) → (others : List Link) → Chain objects head others known → length walk < length others
    Follows-later true on differ others chain = later on (differ refl) others chain
    Follows-later false leaves differ others chain = absurd (leaves others chain)

    module _ (met : Met) (is : met.name ≡ name) (commit : IsCommit objects met) where
      -- a step to the only parent
      OnChain-step : (new : List Name) → OnChain names walk → name ≢ known → length met.parents ≡ 1 → Adds names met.parents new → AreDistinct new → OnChain new (walk ++ met ∷ [])
      OnChain-step new on differ one adds once =
          let parent = one_of met.parents one in
          let count : length (walk ++ met ∷ []) ≡ length walk + 1 = length-append walk (met ∷ []) in
          let fewer : length new ≤ length (names ++ met.parents) = length-distinct new (names ++ met.parents) once
          (λ n c. ⊎_elim (λ (h : Contains names n). Contains-append_left names met.parents n h) (λ (h : Contains met.parents n). Contains-append_right names met.parents n h) (adds.only n c)) in
          record {
            leads = λ next there.
                let here : slice_get new (length walk + 1) ≡ Some next = ap (slice_get new) (sym count) ∙ there in
                let is_parent : parent.0 ≡ next = ⊎_elim
                (λ (h : Contains names next). absurd (behind names adds.rest new (length walk + 1) next adds.kept once on.short here h))
                (λ (h : Contains met.parents next). Contains-one parent.0 next (subst (λ (l : List Name). Contains l next) parent.1 h))
                (adds.only next (name_is_known new (length walk + 1) next here)) in
                let parents : next ∷ [] ≡ commit.commit.parents = ap (λ (n : Name). n ∷ []) (sym is_parent) ∙ sym parent.1 ∙ commit.parents in
                let link : IsLink objects (link_of met) (next ∷ []) = record { commit = commit.commit; held = commit.held; tree = commit.tree; parents = parents } in
                let first : Chain objects head (links_of walk) met.name = subst (Chain objects head (links_of walk)) (sym is) (on.leads name at) in
                let all : Chain objects head (link_of met ∷ links_of walk) next = (first, link) in
                subst (λ (l : List Link). Chain objects head l next) (sym (links_of-push walk met)) all;
            short = omega (arith, fewer, length-append names met.parents, one, on.short, count);
            not_met = λ c. ⊎_elim (λ (h : Contains (names_of walk) known). on.not_met h) (λ (e : met.name ≡ known). differ (sym is ∙ e))
                (Contains-push_cases (names_of walk) met.name known (subst (λ (l : List Name). Contains l known) (map-append (λ (m : Met). m.name) walk (met ∷ [])) c));
            not_before = λ others chain. let more = later on differ others chain in omega (arith, more, count);
          }

      -- where a commit has not one parent, no further steps lead on
      OnChain-left : OnChain names walk → name ≢ known → length met.parents ≢ 1 → LeavesOut objects head known
      OnChain-left on differ not_one others chain =
          let more : length (links_of walk) < length others = omega (arith, length-links_of walk, later on differ others chain) in
          let further = Chain-shorter objects head (links_of walk) others name known more (on.leads name at) chain in
          let same : further.1 ≡ commit.commit = same_Some further.1 commit.commit (sym further.2 ∙ ap (commit_at objects) (sym is) ∙ commit.held) in
          not_one (ap length commit.parents ∙ ap (λ (c : Commit). length c.parents) (sym same) ∙ ap length further.3)

      pub Follows-step : (is_chain on : Bool) (new : List Name) → Follows is_chain names walk → (is_chain ≡ true → name ≢ known)
          → (on ≡ true → (is_chain ≡ true) × (length met.parents ≡ 1)) → (on ≡ false → is_chain ≡ true → length met.parents ≢ 1)
          → Adds names met.parents new → AreDistinct new → Follows on new (walk ++ met ∷ [])
      Follows-step true true new follows differ stays leaves adds once = OnChain-step new follows (differ refl) (stays refl).1 adds once
      Follows-step true false new follows differ stays leaves adds once = OnChain-left follows (differ refl) (leaves refl refl)
      Follows-step false true new follows differ stays leaves adds once = let never = (stays refl).0 in absurd (cc)
      Follows-step false false new follows differ stays leaves adds once = follows

  -- ---- where the walk ends

  -- no name is left
  pub Follows-whole : (names : List Name) (walk : List Met) (is_chain : Bool) → Follows is_chain names walk → AreDistinct names → Frontier objects (head ∷ []) names walk
      → slice_get names (length walk) ≡ None → LeavesOut objects head known
  Follows-whole names walk true on once frontier at =
      let whole = Frontier-whole objects (head ∷ []) names walk once frontier at in
      λ others chain. on.not_met (whole.all known (chain_below objects head others known chain))
  Follows-whole names walk false leaves once frontier at = leaves

  -- the next name is the known one
  pub OnChain-known : (names : List Name) (walk : List Met) (name : Name) → OnChain names walk → AreDistinct (names_of walk) → Frontier objects (head ∷ []) names walk
      → slice_get names (length walk) ≡ Some name → name ≡ known → IsChainAbove objects head known (reverse walk)
  OnChain-known names walk name on once frontier at is = record {
    leads = subst (Chain objects head (links_of walk)) is (on.leads name at);
    each = λ met c. frontier.each met (Contains-permutation (reverse walk) walk met (IsPermutation-sym walk (reverse walk) (IsPermutation-reverse walk)) c);
    once = reversed_once walk once;
    fewest = λ others chain. let fewer = on.not_before others chain in omega (arith, fewer, length-reverse walk);
  }

  -- so many commits stand above the known name, if steps lead there
  pub Follows-before : (names : List Name) (walk : List Met) (is_chain : Bool) → Follows is_chain names walk → (met : Meets objects head known) → length walk ≤ length met.above
  Follows-before names walk true on met = on.not_before met.above met.chain
  Follows-before names walk false leaves met = absurd (leaves met.above met.chain)

-- what keeps a name that is known from being a commit is wrong with the commits below the head
pub above_refused : (objects : Objects) (head known : Name) (names : List Name) (walk : List Met) (place : ℕ) (name : Name) (s : WalkStop) → Frontier objects (head ∷ []) names walk
    → slice_get names place ≡ Some name → CommitRefused objects name s → AboveAnswers objects head known (Err s)
above_refused objects head known names walk place name stop.Memory f at h = tt
above_refused objects head known names walk place name stop.Disk f at h = tt
above_refused objects head known names walk place name (stop.Fault fault) f at h = Frontier-refused objects (head ∷ []) names walk place name (stop.Fault fault) f at h
