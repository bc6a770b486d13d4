-- The queue of a walk: names in their order, and the set of them.
use Rattle.std.specs.Prelude.{◌≡◌, ◌⊎◌, ◌++◌, true, List, Contains}
use Rattle.std.specs.BTreeSet.{contains}
use Rattle.std.specs.Cmp.Lexicographic.{slice_cmp}
use Rattle.std.specs.Ordering.{nat_cmp}
use Rattle.std.specs.declared.cmp.Ordering.{Ordering}
use Rattle.gb_text.specs.declared.id.Name.{Name}
use Rattle.commit_walk.specs.Distinct.{AreDistinct}
use Rattle.commit_walk.specs.declared.queue.Queue.{Queue}

-- names are in the order of their bytes
abbrev pub by_bytes : Name → Name → Ordering
by_bytes one two = slice_cmp nat_cmp one.bytes two.bytes

-- no name comes twice, and the set has the names and no other
pub record IsQueue (queue : Queue) : Type 0 where
  pub once : AreDistinct queue.names.items
  pub known : (name : Name) → Contains queue.names.items name → contains by_bytes queue.known name ≡ true
  pub only : (name : Name) → contains by_bytes queue.known name ≡ true → Contains queue.names.items name

-- the new names are the old ones, followed by those of some more that were not there yet
pub record Adds (old more new : List Name) : Type 0 where
  pub rest : List Name
  pub kept : new ≡ old ++ rest
  pub has : (name : Name) → Contains more name → Contains new name
  pub only : (name : Name) → Contains new name → Contains old name ⊎ Contains more name
