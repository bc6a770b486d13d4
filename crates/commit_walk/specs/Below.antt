-- The commits below some heads (Git's object format), and what may be wrong with them.
use Rattle.std.specs.Prelude.{◌≡◌, ◌<◌, List, map, length, Contains, Some}
use Rattle.gb_text.specs.declared.id.Name.{Name}
use Rattle.git_object.specs.declared.commit.Commit.{Commit}
use Rattle.object_store.specs.Held.{Objects}
use Rattle.object_store.specs.Typed.{commit_at}
use Rattle.commit_walk.specs.Distinct.{AreDistinct}
use Rattle.commit_walk.specs.Faults.{WalkFaultHolds}
use Rattle.commit_walk.specs.declared.below.TheConstants.{MOST_COMMITS}
use Rattle.commit_walk.specs.declared.below.Met.{Met}
use Rattle.commit_walk.specs.declared.fault.WalkFault.{WalkFault}

-- the commit that the one name holds names the other as a parent
pub record IsParent (objects : Objects) (high low : Name) : Type 0 where
  pub commit : Commit
  pub held : commit_at objects high ≡ Some commit
  pub names : Contains commit.parents low

-- the heads are below, and a parent of what is below is below; a name that holds no commit leads nowhere
pub data IsBelow (objects : Objects) (heads : List Name) : Name → Type 0 where
  head : {name : Name} → Contains heads name → IsBelow objects heads name
  parent : {high low : Name} → IsBelow objects heads high → IsParent objects high low → IsBelow objects heads low

-- the name holds a commit with this tree and these parents
pub record IsCommit (objects : Objects) (met : Met) : Type 0 where
  pub commit : Commit
  pub held : commit_at objects met.name ≡ Some commit
  pub tree : met.tree ≡ commit.tree
  pub parents : met.parents ≡ commit.parents

abbrev pub names_of : List Met → List Name
names_of walk = map (λ (met : Met). met.name) walk

-- exactly the commits below the heads, each once
pub record AreBelow (objects : Objects) (heads : List Name) (walk : List Met) : Type 0 where
  pub all : (name : Name) → IsBelow objects heads name → Contains (names_of walk) name
  pub only : (name : Name) → Contains (names_of walk) name → IsBelow objects heads name
  pub each : (met : Met) → Contains walk met → IsCommit objects met
  pub once : AreDistinct (names_of walk)

-- the heads were met, and so were the parents of all that was met, each name once; this is so of any store
pub record IsClosed (heads : List Name) (walk : List Met) : Type 0 where
  pub heads_met : (name : Name) → Contains heads name → Contains (names_of walk) name
  pub parents_met : (met : Met) (name : Name) → Contains walk met → Contains met.parents name → Contains (names_of walk) name
  pub once : AreDistinct (names_of walk)

-- a name below the heads holds a commit
pub record HasCommit (objects : Objects) (heads : List Name) (name : Name) : Type 0 where
  pub below : IsBelow objects heads name
  pub commit : Commit
  pub held : commit_at objects name ≡ Some commit

-- more than 65,536 commits lie below the heads
pub record AreTooMany (objects : Objects) (heads : List Name) : Type 0 where
  pub names : List Name
  pub once : AreDistinct names
  pub many : MOST_COMMITS < length names
  pub each : (name : Name) → Contains names name → HasCommit objects heads name

-- what is wrong with the commits below the heads
abbrev pub FaultHolds : Objects → List Name → WalkFault → Type 0
FaultHolds objects heads f = WalkFaultHolds objects (IsBelow objects heads) (AreTooMany objects heads) f
