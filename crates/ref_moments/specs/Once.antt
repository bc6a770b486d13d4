-- When a ref changes: at no moment, or by one write, the put of its own file.
use Rattle.std.specs.Prelude.{◌≡◌, ◌≢◌, ◌⊎◌, ℕ, List, ◌∷◌}
use Rattle.gb_text.specs.declared.id.Id.{Id}
use Rattle.gb_text.specs.declared.id.Name.{Name}
use Rattle.gb_store.specs.Files.{Files, History, files_of, written}
use Rattle.gb_store.specs.Moments.{AllMoments, IsMoment}
use Rattle.gb_store.specs.declared.store.Change.{Change}
use Rattle.ref_store.specs.Refs.{Head}
use Rattle.ref_store.specs.Setting.{ref_write}
use Rattle.repo_state.specs.Sides.{head_at, ref_place}
use Rattle.repo_state.specs.declared.side.Side.{Side}

-- ---- one write

-- a write leaves the ref of an id, or it puts the ref's own file, and the ref has that head then
abbrev pub LeavesOrPuts : List ℕ → Side → Id → Files → Change → Type 0
LeavesOrPuts folder of id files change =
    (head_at (written files change) folder of id ≡ head_at files folder of id)
    ⊎ ((head : Name) × (change ≡ ref_write folder (ref_place of id) head) × (head_at (written files change) folder of id ≡ Head head))

-- ---- the writes of a call

-- at each moment the ref of an id is as it was at first
abbrev pub StaysSame : List ℕ → Side → Id → History → History → Type 0
StaysSame folder of id old new = AllMoments (λ files. head_at files folder of id ≡ head_at (files_of old) folder of id) old new

-- one write, the put of the ref's own file, sets it to this head: the ref is as it was at each moment before that write, and has this head at each
-- moment from then on
pub record IsSetOnce (folder : List ℕ) (of : Side) (id : Id) (head : Name) (old new : History) : Type 0 where
  pub early : History
  pub before : StaysSame folder of id old early
  pub after : AllMoments (λ files. head_at files folder of id ≡ Head head) (ref_write folder (ref_place of id) head ∷ early) new

-- the ref of an id changes by one write at most
abbrev pub ChangesOnce : List ℕ → Side → Id → History → History → Type 0
ChangesOnce folder of id old new = StaysSame folder of id old new ⊎ ((head : Name) × IsSetOnce folder of id head old new)

-- ---- what follows of each moment

-- the ref of an id is as it was at first, or as it is at last
abbrev pub IsOldOrNew : List ℕ → Side → Id → History → History → Files → Type 0
IsOldOrNew folder of id old new files =
    (head_at files folder of id ≡ head_at (files_of old) folder of id) ⊎ (head_at files folder of id ≡ head_at (files_of new) folder of id)

-- at this moment of a call comes a write that changes the ref of an id
pub record ChangesAt (folder : List ℕ) (of : Side) (id : Id) (old new moment : History) : Type 0 where
  pub change : Change
  pub is_moment : IsMoment old new moment
  pub then : IsMoment old new (change ∷ moment)
  pub differs : head_at (files_of (change ∷ moment)) folder of id ≢ head_at (files_of moment) folder of id
