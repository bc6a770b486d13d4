-- Why a copy is refused, by cases and with no order among them.
use Rattle.std.specs.Prelude.{◌≡◌, ◌≢◌, ◌⊎◌, ◌<◌, ◌+◌, Bool, ℕ, List, ◌∷◌, All, Contains, length, Some, None}
use Rattle.gb_text.specs.declared.id.Name.{Name}
use Rattle.git_object.specs.declared.frame.Kind.{Kind}
use Rattle.git_object.specs.declared.frame.Kind.TheVariants as kinds
use Rattle.git_object.specs.declared.object.Object.{Object}
use Rattle.git_object.specs.Grammar.{kind_of}
use Rattle.object_store.specs.Held.{IsDamaged, IsLarge, Objects, object_at, text_at}
use Rattle.object_store.specs.declared.read.TheConstants.{MOST_BYTES}
use Rattle.object_batch.specs.Needs.{IsHeldAs, Leads, NamesNext, Reference}
use Rattle.commit_walk.specs.Distinct.{AreDistinct}
use Rattle.remote_copy.specs.Closure.{IsFollowed, IsLeft, commit_named}
use Rattle.remote_copy.specs.declared.fault.CopyFault.{CopyFault}
use Rattle.remote_copy.specs.declared.fault.CopyFault.TheVariants as fault
use Rattle.remote_copy.specs.declared.open.TheConstants.{MOST_TREES}
use Rattle.commit_walk.specs.declared.below.TheConstants.{MOST_COMMITS}
use Rattle.remote_copy.specs.declared.work.TheConstants.{MOST_OTHERS}

-- the name holds an object that is not of the kind by which it is named
pub record IsOfOtherKind (source : Objects) (one : Reference) : Type 0 where
  pub object : Object
  pub held : object_at source one.name ≡ Some object
  pub differs : kind_of object ≢ one.kind

-- the source holds an object, and other bytes stand under its name in the target
pub record IsTaken (source target : Objects) (name : Name) : Type 0 where
  pub text : List ℕ
  pub other : List ℕ
  pub held : text_at source name ≡ Some text
  pub stands : target name ≡ Some other
  pub differs : other ≢ text

-- one leads to another, in one step or more and through no commit that is left
pub record LeadsOn (closed : Bool) (source target : Objects) (one two : Reference) : Type 0 where
  pub next : Reference
  pub names : NamesNext source one next
  pub path : List Reference
  pub leads : Leads source next path two
  pub unleft : All (λ (on : Reference). IsLeft closed target on → ⊥) (next ∷ path)

-- more than so many different objects of the part are held as of such kinds; a name holds one object, so they have as
-- many names
pub record AreTooMany (closed : Bool) (source target : Objects) (head : Name) (IsOne : Kind → Type 0) (most : ℕ) : Type 0 where
  pub them : List Reference
  pub once : AreDistinct them
  pub many : most < length them
  pub each : (one : Reference) → Contains them one → IsFollowed closed source target head one × IsHeldAs source one.name one.kind × IsOne one.kind

-- the kinds that are counted as commits, and as other objects
abbrev pub IsCommit : Kind → Type 0
IsCommit kind = kind ≡ kinds.Commit

abbrev pub IsOther : Kind → Type 0
IsOther kind = kind ≢ kinds.Commit

-- more than 16 trees lie below the tree of a commit of the part, one below the other
pub record IsTooDeep (closed : Bool) (source target : Objects) (head : Name) : Type 0 where
  pub commit : Name
  pub followed : IsFollowed closed source target head (commit_named commit)
  pub tree : Reference
  pub is_tree : tree.kind ≡ kinds.Tree
  pub names : NamesNext source (commit_named commit) tree
  pub path : List Reference
  pub last : Reference
  pub leads : Leads source tree path last
  pub trees : All (λ (one : Reference). one.kind ≡ kinds.Tree) path
  pub deep : MOST_TREES < length path

-- an object of the part whose file in the source has more than 4,194,304 bytes
pub record HasLarge (closed : Bool) (source target : Objects) (head : Name) : Type 0 where
  pub one : Reference
  pub followed : IsFollowed closed source target head one
  pub large : IsLarge (source one.name)

-- a file, a number of objects or a depth above its limit
abbrev pub IsTooLarge : Bool → Objects → Objects → Name → ℕ → Type 0
IsTooLarge closed source target head count =
    ((count ≡ MOST_BYTES + 1) × HasLarge closed source target head)
    ⊎ (((count ≡ MOST_COMMITS + 1) × AreTooMany closed source target head IsCommit MOST_COMMITS)
    ⊎ (((count ≡ MOST_OTHERS + 1) × AreTooMany closed source target head IsOther MOST_OTHERS)
    ⊎ ((count ≡ MOST_TREES + 1) × IsTooDeep closed source target head)))

-- a name of the part, and what is so of it
pub record HasFollowed (closed : Bool) (source target : Objects) (head : Name) (name : Name) (Is : Reference → Type 0) : Type 0 where
  pub one : Reference
  pub is_named : one.name ≡ name
  pub followed : IsFollowed closed source target head one
  pub is : Is one

-- what keeps the part that is followed from being copied, one case a refusal
abbrev pub CauseHolds : Bool → Objects → Objects → Name → CopyFault → Type 0
CauseHolds closed source target head fault.Memory = ⊥
CauseHolds closed source target head fault.Disk = ⊥
CauseHolds closed source target head (fault.Missing name) = HasFollowed closed source target head name (λ one. source one.name ≡ None)
CauseHolds closed source target head (fault.Damaged name) = HasFollowed closed source target head name (λ one. IsDamaged source one.name)
CauseHolds closed source target head (fault.WrongKind name) = HasFollowed closed source target head name (IsOfOtherKind source)
CauseHolds closed source target head (fault.TooLarge count) = IsTooLarge closed source target head count
CauseHolds closed source target head (fault.Ring name) = HasFollowed closed source target head name (λ one. (one.kind ≡ kinds.Commit) × LeadsOn closed source target one one)
CauseHolds closed source target head (fault.Taken name) = HasFollowed closed source target head name (λ one. IsTaken source target one.name)
