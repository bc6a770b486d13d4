-- Full exchanges among folders: one folder pulls from each other one, and then each other one pulls from it.
use Rattle.std.specs.Prelude.{◌≡◌, ◌≢◌, ℕ, List, ◌++◌, Contains, map}
use Rattle.gb_text.specs.Digits.{IsId}
use Rattle.gb_text.specs.Overlap.{Overlap}
use Rattle.gb_text.specs.declared.id.Id.{Id}
use Rattle.gb_store.specs.Files.{Files}
use Rattle.remote_name.specs.declared.remote.RemoteName.{RemoteName}
use Rattle.repo_state.specs.Sound.{IsSound}
use Rattle.repo_state.specs.declared.side.Side.TheVariants as side
use Rattle.full_exchanges.specs.Having.{Has, OneHas, Piece}
use Rattle.full_exchanges.specs.Pulls.{Pull}

-- a folder, and the name of the remote by which the others know it
pub record Member : Type 0 where
  pub folder : List ℕ
  pub name : RemoteName

abbrev pub folders_of : List Member → List (List ℕ)
folders_of members = map (λ (member : Member). member.folder) members

-- one pulls from the other
abbrev pub pull_of : Member → Member → ℕ → Pull
pull_of one other now = record { own = one.folder; peer = other.folder; remote = other.name; now = now }

-- the first pulls from each of the others
abbrev pub gathering : Member → List Member → ℕ → List Pull
gathering first others now = map (λ (other : Member). pull_of first other now) others

-- each of the others pulls from the first
abbrev pub spreading : Member → List Member → ℕ → List Pull
spreading first others now = map (λ (other : Member). pull_of other first now) others

abbrev pub exchange_among : Member → List Member → ℕ → List Pull
exchange_among first others now = gathering first others now ++ spreading first others now

-- a pull of one of these from another one
pub record IsAmong (members : List Member) (pull : Pull) : Type 0 where
  pub one : Member
  pub is_one : Contains members one
  pub other : Member
  pub is_other : Contains members other
  pub differ : one.folder ≢ other.folder
  pub now : ℕ
  pub is : pull ≡ pull_of one other now

-- folders that may exchange: no two of them overlap, each is sound, and what one has last seen of a bug at another, some of them has
pub record AreReady (members : List Member) (files : Files) : Type 0 where
  pub apart : (one two : List ℕ) → Contains (folders_of members) one → Contains (folders_of members) two → Overlap one two → one ≡ two
  pub sound : (folder : List ℕ) → Contains (folders_of members) folder → IsSound folder files
  pub seen : (one other : Member) (id : Id) (piece : Piece) → Contains members one → Contains members other → IsId id
      → Has files one.folder (side.RemoteBugs other.name) id piece → OneHas files (folders_of members) id piece
