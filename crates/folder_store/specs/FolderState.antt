-- What contracts see of a store over real folders: its two counts.
use Rattle.std.specs.Prelude.{ℕ}

-- how often it has failed, and how often a path of an object was read
pub record FolderState : Type 0 where
  pub faults : ℕ
  pub reads : ℕ

-- how often it has failed
abbrev pub fault_count : FolderState → ℕ
fault_count s = s.faults
