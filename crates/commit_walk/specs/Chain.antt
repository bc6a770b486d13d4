-- The walk from a head by the single parent, and what may be wrong with its commits.
use Rattle.std.specs.Prelude.{◌≡◌, ◌≤◌, List, [], ◌∷◌, length, Contains, Some}
use Rattle.gb_text.specs.declared.id.Name.{Name}
use Rattle.git_object.specs.declared.commit.Commit.{Commit}
use Rattle.object_store.specs.Held.{Objects}
use Rattle.object_store.specs.Typed.{commit_at}
use Rattle.commit_walk.specs.Below.{IsCommit}
use Rattle.commit_walk.specs.Faults.{WalkFaultHolds}
use Rattle.commit_walk.specs.declared.below.TheConstants.{MOST_COMMITS}
use Rattle.commit_walk.specs.declared.chain.Link.{Link}
use Rattle.commit_walk.specs.declared.fault.WalkFault.{WalkFault}

-- the name of the link holds a commit with its tree and these parents
abbrev pub IsLink : Objects → Link → List Name → Type 0
IsLink objects link parents = IsCommit objects (record { name = link.name; tree = link.tree; parents = parents })

-- from the head, steps by the single parent through these commits lead to a name; the lowest of them stands first
abbrev pub Chain : Objects → Name → List Link → Name → Type 0
Chain objects head [] name = name ≡ head
Chain objects head (link ∷ above) name = Chain objects head above link.name × IsLink objects link (name ∷ [])

-- the whole walk from the head is these commits, the lowest first, which has no parent
abbrev pub Walked : Objects → Name → List Link → Type 0
Walked objects head [] = ⊥
Walked objects head (root ∷ above) = Chain objects head above root.name × IsLink objects root []

-- the walk meets a name among the first 65,537
pub record Meets (objects : Objects) (head name : Name) : Type 0 where
  pub above : List Link
  pub chain : Chain objects head above name
  pub near : length above ≤ MOST_COMMITS

-- the walk meets a commit with two parents or more, at which it ends
pub record MeetsMerge (objects : Objects) (head name : Name) : Type 0 where
  pub meets : Meets objects head name
  pub commit : Commit
  pub held : commit_at objects name ≡ Some commit
  pub many : 2 ≤ length commit.parents

-- the walk meets more than 65,536 commits
pub record IsTooLong (objects : Objects) (head : Name) : Type 0 where
  pub above : List Link
  pub name : Name
  pub commit : Commit
  pub chain : Chain objects head above name
  pub far : length above ≡ MOST_COMMITS
  pub held : commit_at objects name ≡ Some commit

-- the walk meets this commit under this name
pub record MeetsCommit (objects : Objects) (head name : Name) (commit : Commit) : Type 0 where
  pub meets : Meets objects head name
  pub held : commit_at objects name ≡ Some commit

-- what is wrong with the commits of a chain from a head
abbrev pub ChainFaultHolds : Objects → Name → WalkFault → Type 0
ChainFaultHolds objects head f = WalkFaultHolds objects (Meets objects head) (IsTooLong objects head) f

-- some commit of a list has this name
pub record Passes (walk : List Link) (name : Name) : Type 0 where
  pub link : Link
  pub at : Contains walk link
  pub is : link.name ≡ name
