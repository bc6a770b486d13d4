-- Of two commits of a chain one is at or below the other; and what lies below a commit lies below it in each store that holds it.
use Rattle.std.proofs.Common.{◌≡◌, ◌≤◌, inl, inr, List, [], ◌∷◌, length, Contains, Some, option_and_then, refl, sym, ◌∙◌, ap, subst, arith}
use Rattle.std.proofs.lemmas.Bool.{cases_eq, cases_lt}
use Rattle.std.proofs.lemmas.Option.{same_Some}
use Rattle.gb_text.specs.declared.id.Id.{Id}
use Rattle.gb_text.specs.declared.id.Name.{Name}
use Rattle.git_object.specs.declared.commit.Commit.{Commit}
use Rattle.git_object.specs.declared.frame.Kind.TheVariants as kinds
use Rattle.git_object.specs.declared.object.Object.{Object}
use Rattle.git_object.specs.declared.object.Object.TheVariants as objects
use Rattle.git_object.specs.Reading.{object_of}
use Rattle.object_store.specs.Held.{Objects, object_at, text_at}
use Rattle.object_store.specs.Typed.{as_commit, commit_at}
use Rattle.object_store.proofs.GrowthLemmas.{bind-some}
use Rattle.object_batch.specs.Needs.{IsHeldAs, IsWhole}
use Rattle.commit_walk.specs.Below.{IsBelow, IsParent, head as at_top, parent}
use Rattle.commit_walk.specs.Chain.{Chain, IsLink, Meets, Walked}
use Rattle.commit_walk.specs.declared.below.TheConstants.{MOST_COMMITS}
use Rattle.commit_walk.specs.declared.chain.Link.{Link}
use Rattle.commit_walk.proofs.ChainLemmas.{Chain-same, Chain-shorter}
use Rattle.commit_walk.proofs.DistinctLemmas.{Contains-first, Contains-nil, Contains-one}
use Rattle.identity.specs.Persons.{IsChain}
use Rattle.full_exchanges.proofs.OneTextLemmas.{HaveOneText}
use Rattle.identity_runs.specs.Heads.{AreInLine}

-- ---- one chain

module _ (held : Objects) (top : Name) (root : Link) (above : List Link) (leads : Chain held top above root.name) (ends : IsLink held root []) where
  -- no chain is longer than the whole one
  no_longer : (a : List Link) (name : Name) → Chain held top a name → length a ≤ length above
  no_longer a name chain = elim (cases_lt (length above) (length a)) [
    | inl lt ↦
        let single = Chain-shorter held top above a root.name name lt leads chain in
        let commit : ends.commit ≡ single.1 = same_Some ends.commit single.1 (sym ends.held ∙ single.2) in
        let none : [] ≡ single.0 ∷ [] = ends.parents ∙ ap (λ (c : Commit). c.parents) commit ∙ single.3 in
        absurd (cc none)
    | inr le ↦ le
  ]

  -- a chain goes on to each parent
  goes_on : (a : List Link) (name low : Name) → Chain held top a name → IsParent held name low → (link : Link) × Chain held top (link ∷ a) low
  goes_on a name low chain up = elim (cases_lt (length a) (length above)) [
    | inl lt ↦
        let single = Chain-shorter held top a above name root.name lt chain leads in
        let commit : single.1 ≡ up.commit = same_Some single.1 up.commit (sym single.2 ∙ up.held) in
        let parents : up.commit.parents ≡ single.0 ∷ [] = ap (λ (c : Commit). c.parents) (sym commit) ∙ single.3 in
        let same : single.0 ≡ low = Contains-one single.0 low (subst (λ (l : List Name). Contains l low) parents up.names) in
        (record { name = name; tree = up.commit.tree }, (chain, record { commit = up.commit; held = up.held; tree = refl; parents = ap (λ (n : Name). n ∷ []) (sym same) ∙ sym parents }))
    | inr le ↦
        let same = Chain-same held top above a root.name name (omega (arith, le, no_longer a name chain)) leads chain in
        let commit : ends.commit ≡ up.commit = same_Some ends.commit up.commit (sym ends.held ∙ ap (commit_at held) same.1 ∙ up.held) in
        let parents : up.commit.parents ≡ [] = ap (λ (c : Commit). c.parents) (sym commit) ∙ sym ends.parents in
        absurd (Contains-nil low (subst (λ (l : List Name). Contains l low) parents up.names))
  ]

  -- so one leads to all that lies below the head
  reach : (name : Name) → IsBelow held (top ∷ []) name → (a : List Link) × Chain held top a name
  reach name (at_top c) = ([], sym (Contains-one top name c))
  reach name (parent {high = high} b p) =
      let far = reach high b in
      let more = goes_on far.0 high name far.1 p in
      (more.0 ∷ far.0, more.1)

-- the walk from the head of a chain meets all that lies below it
walk_meets : (held : Objects) (top : Name) (walk : List Link) → Walked held top walk → length walk ≤ MOST_COMMITS → (name : Name) → IsBelow held (top ∷ []) name → Meets held top name
walk_meets held top [] none within name below = absurd none
walk_meets held top (root ∷ above) (leads, ends) within name below =
    let at = reach held top root above leads ends name below in
    record { above = at.0; chain = at.1; near = omega (arith, within, no_longer held top root above leads ends at.0 name at.1) }

pub chain_meets : (held : Objects) (id : Id) (top : Name) → IsChain held id top → (name : Name) → IsBelow held (top ∷ []) name → Meets held top name
chain_meets held id top chain name below = walk_meets held top chain.walk chain.walked chain.within name below

-- the longer of two chains from one head leads to what is at or below that to which the shorter leads
longer_below : (held : Objects) (top : Name) (a b : List Link) (one two : Name) → length a ≤ length b → Chain held top a one → Chain held top b two → IsBelow held (one ∷ []) two
longer_below held top a [] one two few first second = at_top (subst (Contains (one ∷ [])) (Chain-same held top a [] one two (omega (arith, few)) first second).1 (Contains-first one []))
longer_below held top a (link ∷ b) one two few first second = elim (cases_eq (length a) (length (link ∷ b))) [
  | inl e ↦ at_top (subst (Contains (one ∷ [])) (Chain-same held top a (link ∷ b) one two e first second).1 (Contains-first one []))
  | inr differ ↦
      parent (longer_below held top a b one link.name (omega (arith, few, differ)) first second.0)
      (record { commit = second.1.commit; held = second.1.held; names = subst (λ (l : List Name). Contains l two) second.1.parents (Contains-first two []) })
]

-- of two commits of a chain, one is at or below the other
pub in_line : (held : Objects) (id : Id) (top : Name) → IsChain held id top → (one two : Name) → IsBelow held (top ∷ []) one → IsBelow held (top ∷ []) two → AreInLine held one two
in_line held id top chain one two high low =
    let first = chain_meets held id top chain one high in
    let second = chain_meets held id top chain two low in
    elim (cases_lt (length first.above) (length second.above)) [
      | inl lt ↦ inl (longer_below held top first.above second.above one two (omega (arith, lt)) first.chain second.chain)
      | inr le ↦ inr (longer_below held top second.above first.above two one le second.chain first.chain)
    ]

-- ---- two stores

-- an object that reads as a commit is one
commit_is : (object : Object) (commit : Commit) → as_commit object ≡ Some commit → object ≡ objects.Commit commit
commit_is (objects.Blob content) commit e = absurd (cc)
commit_is (objects.Tree tree) commit e = absurd (cc)
commit_is (objects.Commit found) commit e = ap objects.Commit (same_Some found commit e)

commit_held : (held : Objects) (name : Name) (commit : Commit) → commit_at held name ≡ Some commit → object_at held name ≡ Some (objects.Commit commit)
commit_held held name commit e =
    let found = bind-some as_commit (object_at held name) commit e in
    found.1 ∙ ap Some (commit_is found.0 commit found.2)

module _ (source target : Objects) (whole : IsWhole source) (also : IsWhole target) (alike : HaveOneText source target) where
  -- both hold a commit under this name
  record BothHold (name : Name) : Type 0 where
    pub here : IsHeldAs source name kinds.Commit
    pub there : IsHeldAs target name kinds.Commit

  -- so it is one
  same_object : (name : Name) → BothHold name → object_at target name ≡ object_at source name
  same_object name both =
      let text = bind-some object_of (text_at source name) both.here.object both.here.is in
      let other = bind-some object_of (text_at target name) both.there.object both.there.is in
      ap (option_and_then object_of) (other.1 ∙ ap Some (sym (alike name text.0 other.0 text.1 other.1)) ∙ sym text.1)

  module _ (top : Name) (both : BothHold top) where
    -- what lies below it in the one, both hold, and it lies below it in the other
    below_both : (name : Name) → IsBelow source (top ∷ []) name → BothHold name × IsBelow target (top ∷ []) name
    below_both name (at_top c) = (subst BothHold (Contains-one top name c) both, at_top c)
    below_both name (parent {high = high} b p) =
        let up = below_both high b in
        let same = same_object high up.0 in
        let is = commit_held source high p.commit p.held in (
          record {
            here = whole.needs high (objects.Commit p.commit) is name kinds.Commit (inr (p.names, refl));
            there = also.needs high (objects.Commit p.commit) (same ∙ is) name kinds.Commit (inr (p.names, refl));
          },
          parent up.1 (record { commit = p.commit; held = ap (option_and_then as_commit) same ∙ p.held; names = p.names }),
        )

  pub below_over : (top : Name) → IsHeldAs source top kinds.Commit → IsHeldAs target top kinds.Commit → (name : Name) → IsBelow source (top ∷ []) name → IsBelow target (top ∷ []) name
  below_over top here there name below = (below_both top (record { here = here; there = there }) name below).1

-- what lies below a commit that a whole store holds, it holds
pub below_held : (held : Objects) → IsWhole held → (top : Name) → IsHeldAs held top kinds.Commit → (name : Name) → IsBelow held (top ∷ []) name → IsHeldAs held name kinds.Commit
below_held held whole top here name below =
    (below_both held held whole whole (λ one text other first second. same_Some text other (sym first ∙ second)) top (record { here = here; there = here }) name below).0.here
