-- The order of packs: by edit clock, as in git-bug, then by pack id, then by the name of the commit.
use Rattle.std.specs.Prelude.{◌≡◌, ◌≢◌, ◌≤◌, ◌<◌, ℕ, List, map, slice_get, Some}
use Rattle.std.specs.Cmp.Lexicographic.{slice_cmp}
use Rattle.std.specs.List.Sorted.{IsStrictlySortedBy}
use Rattle.std.specs.Ordering.{nat_cmp, on, then_cmp}
use Rattle.std.specs.declared.cmp.Ordering.{Ordering}
use Rattle.std.specs.declared.cmp.Ordering.TheVariants.{Less, Greater}
use Rattle.gb_text.specs.declared.id.Name.{Name}
use Rattle.object_store.specs.Held.{Objects}
use Rattle.commit_walk.specs.Below.{IsParent}
use Rattle.dag_entity.specs.declared.entity.Placed.{Placed}
use Rattle.dag_entity.specs.declared.order.Rank.{Rank}

-- byte order
abbrev pub compared : List ℕ → List ℕ → Ordering
compared one other = slice_cmp nat_cmp one other

-- by edit clock, then by pack id, then by name
abbrev pub rank_cmp : Rank → Rank → Ordering
rank_cmp = then_cmp (on (λ r. r.edit) nat_cmp) (then_cmp (on (λ r. r.pack.bytes) compared) (on (λ r. r.name.bytes) compared))

-- where a pack stands: by its edit clock, its id, and the name of its commit
abbrev pub rank_of : {Op : Type 0} → Placed Op → Rank
rank_of placed = record { edit = placed.pack.edit; pack = placed.pack.id; name = placed.commit }

abbrev pub placed_cmp : {Op : Type 0} → Placed Op → Placed Op → Ordering
placed_cmp = on rank_of rank_cmp

-- each pack stands before all that come after it
abbrev pub Rise : {Op : Type 0} → List (Placed Op) → Type 0
Rise packs = IsStrictlySortedBy placed_cmp packs

abbrev pub commits_of : {Op : Type 0} → List (Placed Op) → List Name
commits_of packs = map (λ p. p.commit) packs

-- Without the comparison that sorts them: a pack may stand before another. No clock is greater than a later one, no id than a later one of the same clock, and packs of one clock and one id stand in the order of their commits' names.
pub record StandsBefore {Op : Type 0} (one other : Placed Op) : Type 0 where
  pub clocks : one.pack.edit ≤ other.pack.edit
  pub ids : one.pack.edit ≡ other.pack.edit → compared one.pack.id.bytes other.pack.id.bytes ≢ Greater
  pub names : one.pack.edit ≡ other.pack.edit → one.pack.id ≡ other.pack.id → compared one.commit.bytes other.commit.bytes ≡ Less

-- the packs of parents stand before those of their children
abbrev pub ParentsComeFirst : {Op : Type 0} → Objects → List (Placed Op) → Type 0
ParentsComeFirst {Op = Op} objects packs = (i j : ℕ) (child low : Placed Op) → slice_get packs i ≡ Some child → slice_get packs j ≡ Some low
    → IsParent objects child.commit low.commit → j < i
