-- Refs that stand as they were listed.
use Rattle.std.specs.Prelude.{◌≡◌, ℕ, List, map, Contains}
use Rattle.std.specs.Cmp.Lexicographic.{slice_cmp}
use Rattle.std.specs.List.Sorted.{IsStrictlySortedBy}
use Rattle.std.specs.Ordering.{nat_cmp}
use Rattle.gb_text.specs.Digits.{IsId}
use Rattle.gb_text.specs.declared.id.Id.{Id}
use Rattle.gb_store.specs.Files.{Files}
use Rattle.repo_state.specs.Listed.{AreRefs}
use Rattle.repo_state.specs.Sides.{head_at}
use Rattle.repo_state.specs.declared.refs.EntityRef.{EntityRef}
use Rattle.listed_refs.specs.declared.listed.ListedSide.{ListedSide}

-- the ref of an id stands in a folder as in the files of which its side was listed
pub record IsAsListed (files : Files) (folder : List ℕ) (listed : ListedSide) (id : Id) : Type 0 where
  pub before : Files
  pub are : AreRefs before folder listed.side listed.refs
  pub is_id : IsId id
  pub same : head_at files folder listed.side id ≡ head_at before folder listed.side id

-- and so does that of each of these, which are of different ids
pub record AreAsListed (files : Files) (folder : List ℕ) (listed : ListedSide) (refs : List EntityRef) : Type 0 where
  pub rising : IsStrictlySortedBy (slice_cmp nat_cmp) (map (λ (e : EntityRef). e.id.bytes) refs)
  pub each : (e : EntityRef) → Contains refs e → IsAsListed files folder listed e.id
