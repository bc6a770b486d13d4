-- The writes of one command: each is the next of those that the command computes from the files at entry, and of a kind at its moment.
use Rattle.std.specs.Prelude.{◌≡◌, ◌⊎◌, List, ◌∷◌, ◌++◌, Contains, reverse}
use Rattle.gb_text.specs.declared.id.Id.{Id}
use Rattle.gb_text.specs.declared.id.Name.{Name}
use Rattle.gb_store.specs.Files.{Files, History, files_of}
use Rattle.gb_store.specs.declared.store.Change.{Change}
use Rattle.ref_store.specs.Refs.{Head}
use Rattle.ref_store.specs.Setting.{ref_write}
use Rattle.repo_state.specs.Sides.{head_at, ref_place}
use Rattle.repo_steps.specs.declared.env.Env.{Env}
use Rattle.repo_state.specs.declared.side.Side.{Side}
use Rattle.repo_writes.specs.Kinds.{IsWrite}
use Rattle.repo_steps.specs.Checks.{AllPass}
use Rattle.repo_steps.specs.Doings.{doing_of}
use Rattle.repo_steps.specs.Picked.{Picked}
use Rattle.words.specs.declared.edit.Edit.{Edit}

-- these are the first of some writes, the newest first, and this change comes next
pub record IsNext (writes earlier : List Change) (change : Change) : Type 0 where
  pub later : List Change
  pub are : writes ≡ reverse earlier ++ change ∷ later

-- A write of a command, by the history at entry and the writes of the call so far, the newest first: every check of the
-- command passes at entry, the change is the next of its writes, and it is of a kind by the files at its moment.
pub record IsWriteOf (env : Env) (command : Edit) (entry : History) (earlier : List Change) (change : Change) : Type 0 where
  pub picked : Picked
  pub may : AllPass (doing_of env command picked entry).checks
  pub next : IsNext (doing_of env command picked entry).writes earlier change
  pub kind : IsWrite env.folder (files_of (earlier ++ entry)) change

-- a command, every check of which passes at entry, sets the ref of an id to this head
pub record SetsHead (env : Env) (command : Edit) (entry : History) (of : Side) (id : Id) (head : Name) : Type 0 where
  pub picked : Picked
  pub may : AllPass (doing_of env command picked entry).checks
  pub sets : Contains (doing_of env command picked entry).writes (ref_write env.folder (ref_place of id) head)

-- a ref has the head that it had at entry, or the one that the command sets
abbrev pub IsOldOrSet : Env → Edit → History → Side → Id → Files → Type 0
IsOldOrSet env command entry of id files =
    (head_at files env.folder of id ≡ head_at (files_of entry) env.folder of id)
    ⊎ ((head : Name) × SetsHead env command entry of id head × (head_at files env.folder of id ≡ Head head))
