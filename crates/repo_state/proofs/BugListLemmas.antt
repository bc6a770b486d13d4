-- The operations of a bug in order begin with its one creation.
use Rattle.std.proofs.Common.{◌≡◌, ◌≢◌, ◌≤◌, ◌<◌, ◌⊎◌, inl, inr, ℕ, zero, suc, List, [], ◌∷◌, ◌++◌, flat_map, slice_get, Contains, Some, refl, sym, ◌∙◌, ap, subst, arith}
use Rattle.std.specs.List.{AllByRecursion}
use Rattle.std.specs.List.Sorted.{IsStrictlySortedBy}
use Rattle.std.specs.declared.cmp.Ordering.TheVariants.{Less}
use Rattle.std.proofs.lemmas.Bool.{cases_Bool, cases_lt, lt-ltb}
use Rattle.std.proofs.lemmas.List.Elements.{All-contains}
use Rattle.std.proofs.lemmas.Option.{same_Some}
use Rattle.gb_text.specs.declared.id.Id.{Id}
use Rattle.gb_text.specs.declared.id.Name.{Name}
use Rattle.git_object.specs.declared.commit.Commit.{Commit}
use Rattle.object_store.specs.Held.{Objects}
use Rattle.object_store.specs.Typed.{commit_at}
use Rattle.object_store.proofs.GrowthLemmas.{bind-some}
use Rattle.object_batch.proofs.ClashLemmas.{Contains-cons_cases, Contains-first, Contains-later}
use Rattle.commit_pack.specs.Packs.{pack_under}
use Rattle.commit_walk.specs.Below.{IsParent, parent}
use Rattle.bug_ops.specs.Kind.{bug_kind}
use Rattle.bug_ops.specs.declared.op.BugOp.{BugOp}
use Rattle.snapshot.specs.LastMention.{IsBugList, IsLater}
use Rattle.dag_entity.specs.Entities.{IsEntity, KeepsRules, ops_in}
use Rattle.dag_entity.specs.Order.{Rise, placed_cmp}
use Rattle.dag_entity.specs.Extending.{BeginsOnce}
use Rattle.dag_entity.specs.Faults.{EntityFaultHolds}
use Rattle.dag_entity.specs.Nodes.{IsNodeBelow, edit_at, pack_at}
use Rattle.dag_entity.specs.declared.entity.Entity.{Entity}
use Rattle.dag_entity.specs.declared.entity.Loaded.{Loaded}
use Rattle.dag_entity.specs.declared.entity.Placed.{Placed}
use Rattle.dag_entity.specs.declared.fault.EntityFault.TheVariants as fault
use Rattle.dag_entity.proofs.LawValid.{begins_once, clocks_rise, edit_of_pack, pack_of_node}
use Rattle.dag_entity.proofs.OrderLemmas.{placed_total}
use Rattle.repo_state.proofs.ListingLemmas.{Contains-from_map}

-- ---- lists

-- what is so of all of a list is so of each of it
from_all : {X : Type 0} (P : X → Type 0) (xs : List X) (x : X) → AllByRecursion P xs → Contains xs x → P x
from_all P [] x all has = absurd (omega (arith, has.1))
from_all P (y ∷ ys) x all has = elim (Contains-cons_cases y ys x has) [ inl same ↦ subst P same all.0 | inr later ↦ from_all P ys x all.1 later ]

-- and what is so of each is so of all
to_all : {X : Type 0} (P : X → Type 0) (xs : List X) → ((x : X) → Contains xs x → P x) → AllByRecursion P xs
to_all P [] each = tt
to_all P (y ∷ ys) each = (each y (Contains-first y ys), to_all P ys (λ x has. each x (Contains-later y ys x has)))

all_both : {X : Type 0} (P : X → Type 0) (xs ys : List X) → AllByRecursion P xs → AllByRecursion P ys → AllByRecursion P (xs ++ ys)
all_both P [] ys one two = two
all_both P (x ∷ xs) ys one two = (one.0, all_both P xs ys one.1 two)

-- what is so of the items of each list is so of all of them one after the other
all_flat : {X A : Type 0} (P : A → Type 0) (f : X → List A) (xs : List X) → ((x : X) → Contains xs x → AllByRecursion P (f x)) → AllByRecursion P (flat_map f xs)
all_flat P f [] each = tt
all_flat P f (x ∷ xs) each = all_both P (f x) (flat_map f xs) (each x (Contains-first x xs)) (all_flat P f xs (λ y has. each y (Contains-later x xs y has)))

-- the items of a list at their places
all_at : {X : Type 0} (P : X → Type 0) (xs : List X) → ((i : ℕ) (x : X) → slice_get xs i ≡ Some x → P x) → AllByRecursion P xs
all_at P [] each = tt
all_at P (y ∷ ys) each = (each 0 y refl, all_at P ys (λ i x at. each (suc i) x at))

-- ---- the order of packs

-- of packs that rise the first stands before each other
first_before : (first : Placed BugOp) (rest : List (Placed BugOp)) → Rise (first ∷ rest) → (other : Placed BugOp) → Contains rest other → placed_cmp first other ≡ Less
unfolding IsStrictlySortedBy
first_before first rest rise other has = from_all (λ (p : Placed BugOp). placed_cmp first p ≡ Less) rest other rise.0 has

never_before_itself : (p : Placed BugOp) → placed_cmp p p ≢ Less
never_before_itself p less = cc (less, placed_total.antisymm p p)

-- so its edit clock is not above another's
first_low : (first other : Placed BugOp) → placed_cmp first other ≡ Less → first.pack.edit ≤ other.pack.edit
first_low first other less = elim (cases_lt other.pack.edit first.pack.edit) [
  | inl low ↦
      let back : placed_cmp other first ≡ Less = rw (lt-ltb other.pack.edit first.pack.edit low) refl in
      absurd (never_before_itself first (placed_total.trans first other first less back))
  | inr above ↦ above
]

-- ---- an entity

module _ (objects : Objects) (id : Id) (heads : List Name) (authors : List Id) (entity : Entity BugOp) (was : IsEntity bug_kind objects id heads authors entity) where
  begins : BeginsOnce bug_kind objects heads id entity.create
  begins = begins_once bug_kind objects id heads authors entity was

  abbrev root : Loaded BugOp
  root = begins.root

  -- the pack of a parent, whose edit clock is lower
  lower : (placed : Placed BugOp) → Contains entity.packs placed → (low : Name) → IsParent objects placed.commit low
      → (other : Placed BugOp) × Contains entity.packs other × (other.commit ≡ low) × (other.pack.edit < placed.pack.edit)
  lower placed has low names =
      let below = was.packs.only placed has in
      let found = Contains-from_map (λ (p : Placed BugOp). p.commit) entity.packs low (was.packs.all low (parent below names)) in
      let clocks = clocks_rise bug_kind objects id heads authors entity was placed.commit low below names in
      let above = same_Some _ _ (sym (edit_of_pack bug_kind objects placed.commit placed.pack (was.packs.each placed has)) ∙ clocks.says_above) in
      let beneath = same_Some _ _ (sym (edit_of_pack bug_kind objects found.0.commit found.0.pack (was.packs.each found.0 found.1)) ∙ ap (edit_at objects) found.2 ∙ clocks.says_beneath) in
      (found.0, found.1, found.2, omega (arith, above, beneath, clocks.rises))

  -- a commit is the root, or its edit clock is above the root's
  above_root : (bound : ℕ) (placed : Placed BugOp) → Contains entity.packs placed → placed.pack.edit < bound
      → (placed.commit ≡ root.placed.commit) ⊎ (root.placed.pack.edit < placed.pack.edit)
  above_root zero placed has within = absurd (omega (arith, within))
  above_root (suc bound) placed has within = by_parents (above_root bound) commit.0.parents refl
    where
      commit : (c : Commit) × (commit_at objects placed.commit ≡ Some c) × (pack_under bug_kind objects c.tree ≡ Some placed.pack)
      commit = bind-some (λ (c : Commit). pack_under bug_kind objects c.tree) (commit_at objects placed.commit) placed.pack (was.packs.each placed has)

      by_parents : ((p : Placed BugOp) → Contains entity.packs p → p.pack.edit < bound → (p.commit ≡ root.placed.commit) ⊎ (root.placed.pack.edit < p.pack.edit))
          → (parents : List Name) → commit.0.parents ≡ parents → (placed.commit ≡ root.placed.commit) ⊎ (root.placed.pack.edit < placed.pack.edit)
      by_parents before [] none =
          inl (begins.only placed.commit (record { commit = commit.0; is = record { below = was.packs.only placed has; held = commit.1 }; root = none }))
      by_parents before (low ∷ lows) some =
          let names : IsParent objects placed.commit low = record { commit = commit.0; held = commit.1; names = subst (λ (l : List Name). Contains l low) (sym some) (Contains-first low lows) } in
          let other = lower placed has low names in
          inr (elim (before other.0 other.1 (omega (arith, other.3, within))) [
            | inl is_root ↦
                let packs : Some other.0.pack ≡ Some root.placed.pack = sym (was.packs.each other.0 other.1) ∙ ap (pack_at bug_kind objects) is_root ∙ pack_of_node bug_kind objects root begins.is.is.is in
                let same : other.0.pack.edit ≡ root.placed.pack.edit = ap (λ p. p.edit) (same_Some other.0.pack root.placed.pack packs) in
                omega (arith, same, other.3)
            | inr above ↦ omega (arith, above, other.3)
          ])

  -- the pack of the root is one of the packs
  root_among : (p : Placed BugOp) × Contains entity.packs p × (p.commit ≡ root.placed.commit) × (p.pack ≡ root.placed.pack)
  root_among =
      let found = Contains-from_map (λ (p : Placed BugOp). p.commit) entity.packs root.placed.commit (was.packs.all root.placed.commit begins.is.is.below) in
      (found.0, found.1, found.2, same_Some found.0.pack root.placed.pack (sym (was.packs.each found.0 found.1) ∙ ap (pack_at bug_kind objects) found.2 ∙ pack_of_node bug_kind objects root begins.is.is.is))

  -- ---- the operations

  -- an operation that is not the first of a root may follow
  follows_at : (node : Loaded BugOp) → IsNodeBelow bug_kind objects heads node → (place : ℕ) (op : BugOp) → slice_get node.placed.pack.ops place ≡ Some op
      → (node.parents ≡ [] → place ≡ 0 → ⊥) → IsLater op
  unfolding EntityFaultHolds
  follows_at node is place op at later = elim (cases_Bool (bug_kind.is_following op)) [
    | inl good ↦ good
    | inr bad ↦ absurd (was.valid (fault.SecondCreate (bug_kind.common_of op).place.id) (record { node = node; is = is; place = place; op = op; at = at; named = refl; bad = bad; later = later }))
  ]

  -- the operations of a pack that is not the root's may follow
  all_follow : (placed : Placed BugOp) → Contains entity.packs placed → (placed.commit ≡ root.placed.commit → ⊥) → AllByRecursion IsLater placed.pack.ops
  all_follow placed has other = all_at IsLater placed.pack.ops (λ i op at.
      follows_at (record { parents = commit.0.parents; placed = placed })
      (record { below = was.packs.only placed has; is = record { commit = commit.0; held = commit.1; parents = refl; pack = commit.2 } }) i op at
      (λ none zero. other (begins.only placed.commit (record { commit = commit.0; is = record { below = was.packs.only placed has; held = commit.1 }; root = none }))))
    where
      commit : (c : Commit) × (commit_at objects placed.commit ≡ Some c) × (pack_under bug_kind objects c.tree ≡ Some placed.pack)
      commit = bind-some (λ (c : Commit). pack_under bug_kind objects c.tree) (commit_at objects placed.commit) placed.pack (was.packs.each placed has)

  -- the operations of packs in order, the first of which is the root's
  module _ (first : Placed BugOp) (rest : List (Placed BugOp)) (packs : entity.packs ≡ first ∷ rest) (rules : KeepsRules bug_kind entity.packs) where
    among : (placed : Placed BugOp) → Contains (first ∷ rest) placed → Contains entity.packs placed
    among placed = subst (λ (l : List (Placed BugOp)). Contains l placed) (sym packs)

    rise : Rise (first ∷ rest)
    rise = subst (λ (l : List (Placed BugOp)). Rise l) packs was.packs.rise

    first_is_root : first.commit ≡ root.placed.commit
    first_is_root = elim (above_root (suc first.pack.edit) first (among first (Contains-first first rest)) (omega arith)) [
      | inl is ↦ is
      | inr above ↦
          let found = root_among in
          elim (Contains-cons_cases first rest found.0 (subst (λ (l : List (Placed BugOp)). Contains l found.0) packs found.1)) [
            | inl same ↦ ap (λ p. p.commit) same ∙ found.2
            | inr later ↦
                let low = first_low first found.0 (first_before first rest rise found.0 later) in
                let same : found.0.pack.edit ≡ root.placed.pack.edit = ap (λ p. p.edit) found.3 in
                absurd (omega (arith, above, low, same))
          ]
    ]

    pack_is : first.pack ≡ root.placed.pack
    pack_is = same_Some first.pack root.placed.pack
        (sym (was.packs.each first (among first (Contains-first first rest))) ∙ ap (pack_at bug_kind objects) first_is_root ∙ pack_of_node bug_kind objects root begins.is.is.is)

    ops_are : first.pack.ops ≡ begins.opens.first ∷ begins.opens.rest
    ops_are = ap (λ p. p.ops) pack_is ∙ begins.opens.begins

    rest_other : (placed : Placed BugOp) → Contains rest placed → placed.commit ≡ root.placed.commit → ⊥
    rest_other placed has is_root =
        let commits : first.commit ≡ placed.commit = first_is_root ∙ sym is_root in
        let both = was.packs.each placed (among placed (Contains-later first rest placed has)) in
        let same_packs : first.pack ≡ placed.pack =
        same_Some first.pack placed.pack (sym (was.packs.each first (among first (Contains-first first rest))) ∙ ap (pack_at bug_kind objects) commits ∙ both) in
        let same : first ≡ placed = λ i. record { commit = commits i; pack = same_packs i } in
        never_before_itself first (subst (λ (p : Placed BugOp). placed_cmp first p ≡ Less) (sym same) (first_before first rest rise placed has))

    first_rules : AllByRecursion bug_kind.KeepsRules (begins.opens.first ∷ begins.opens.rest)
    first_rules = subst (AllByRecursion bug_kind.KeepsRules) ops_are (All-contains (λ (p : Placed BugOp). AllByRecursion bug_kind.KeepsRules p.pack.ops) entity.packs first rules (among first (Contains-first first rest)))

    are_of_bug : IsBugList (ops_in bug_kind (first ∷ rest))
    are_of_bug = subst (λ (ops : List BugOp). IsBugList (ops ++ ops_in bug_kind rest)) (sym ops_are) (record {
      first = begins.opens.opening;
      metadata = first_rules.0.within.order;
      rest = all_both IsLater begins.opens.rest (ops_in bug_kind rest)
          (all_at IsLater begins.opens.rest (λ i op at.
          follows_at root begins.is.is (suc i) op (ap (λ (ops : List BugOp). slice_get ops (suc i)) begins.opens.begins ∙ at) (λ none zero. omega (arith, zero))))
          (all_flat IsLater (λ (p : Placed BugOp). p.pack.ops) rest (λ placed has. all_follow placed (among placed (Contains-later first rest placed has)) (rest_other placed has)));
    })

  -- the operations of an entity of a bug are those of a bug
  pub entity_is_bug_list : KeepsRules bug_kind entity.packs → IsBugList (ops_in bug_kind entity.packs)
  entity_is_bug_list rules = each entity.packs refl
    where
      each : (packs : List (Placed BugOp)) → entity.packs ≡ packs → IsBugList (ops_in bug_kind packs)
      each [] none = absurd (let found = root_among in omega (arith, (subst (λ (l : List (Placed BugOp)). Contains l found.0) none found.1).1))
      each (first ∷ rest) packs = are_of_bug first rest packs rules
