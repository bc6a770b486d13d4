-- The pack of a commit, by the name of its tree, and what keeps a commit from having one.
use Rattle.std.specs.Prelude.{◌≡◌, ◌⊎◌, ℕ, List, Option, Some, None, option_and_then}
use Rattle.gb_text.specs.declared.id.Name.{Name}
use Rattle.git_object.specs.declared.tree.Tree.{Tree}
use Rattle.object_store.specs.Held.{Objects, IsDamaged, IsLarge}
use Rattle.object_store.specs.Typed.{IsOtherKind, as_blob, as_tree, blob_at, tree_at}
use Rattle.op_kind.specs.Meaning.{Meaning}
use Rattle.op_kind.specs.declared.place.TheConstants.{VERSION}
use Rattle.op_pack.specs.Heads.{HeadFault, head_of, ops_of}
use Rattle.op_pack.specs.Packs.{IsPackOf, PackTextFault, pack_at}
use Rattle.op_pack.specs.declared.fault.PackFault.{PackFault}
use Rattle.op_pack.specs.declared.fault.PackFault.TheVariants as pack
use Rattle.op_pack.specs.declared.head.TreeHead.{TreeHead}
use Rattle.op_pack.specs.declared.pack.Pack.{Pack}
use Rattle.commit_pack.specs.declared.fault.CommitPackFault.{CommitPackFault}
use Rattle.commit_pack.specs.declared.fault.CommitPackFault.TheVariants as fault

-- the file `ops` of the tree under a name names this object
pub record NamesOps (objects : Objects) (name ops : Name) : Type 0 where
  pub tree : Tree
  pub held : tree_at objects name ≡ Some tree
  pub named : ops_of tree ≡ Some ops

-- an object that the pack of a commit with this tree needs: the tree, and what its file `ops` names
abbrev pub PackNeeds : Objects → Name → Name → Type 0
PackNeeds objects tree name = (name ≡ tree) ⊎ NamesOps objects tree name

-- the tree under a name has this fault
pub record TreeFails (objects : Objects) (name : Name) (f : PackFault) : Type 0 where
  pub tree : Tree
  pub held : tree_at objects name ≡ Some tree
  pub fails : HeadFault tree f

-- its file `ops` names an object that is no blob
pub record OpsIsNoBlob (objects : Objects) (name : Name) : Type 0 where
  pub ops : Name
  pub names : NamesOps objects name ops
  pub is_other : IsOtherKind as_blob objects ops

module _ {Op State Row : Type 0} (k : Meaning Op State Row) where
  -- the pack whose text is the blob that a tree's head names
  abbrev pub pack_of_head : Objects → TreeHead → Option (Pack Op)
  pack_of_head objects head = option_and_then (pack_at k head) (blob_at objects head.ops)

  -- the pack of a tree
  abbrev pub pack_in : Objects → Tree → Option (Pack Op)
  pack_in objects tree = option_and_then (pack_of_head objects) (head_of tree)

  -- The pack of a commit that names this tree.
  abbrev pub pack_under : Objects → Name → Option (Pack Op)
  pack_under objects name = option_and_then (pack_in objects) (tree_at objects name)

  -- The tree under a name says a head, whose `ops` holds a blob with the text of the pack, of these texts of operations.
  pub record IsPackUnder (objects : Objects) (name : Name) (pack : Pack Op) : Type 0 where
    pub tree : Tree
    pub held : tree_at objects name ≡ Some tree
    pub head : TreeHead
    pub says : head_of tree ≡ Some head
    pub text : List ℕ
    pub holds : blob_at objects head.ops ≡ Some text
    pub slices : List (List ℕ)
    pub is : IsPackOf k head text slices pack

  -- its file `ops` names a blob whose text has this fault
  pub record TextFails (objects : Objects) (name : Name) (f : PackFault) : Type 0 where
    pub ops : Name
    pub names : NamesOps objects name ops
    pub text : List ℕ
    pub held : blob_at objects ops ≡ Some text
    pub fails : PackTextFault k VERSION text f

  -- What keeps a commit with this tree from having a pack, one case a fault and with no order among them.
  abbrev pub CommitPackFaultHolds : Objects → Name → CommitPackFault → Type 0
  CommitPackFaultHolds objects tree fault.Memory = ⊥
  CommitPackFaultHolds objects tree fault.Disk = ⊥
  CommitPackFaultHolds objects tree (fault.Missing n) = PackNeeds objects tree n × (objects n ≡ None)
  CommitPackFaultHolds objects tree (fault.Damaged n) = PackNeeds objects tree n × IsDamaged objects n
  CommitPackFaultHolds objects tree (fault.Large n) = PackNeeds objects tree n × IsLarge (objects n)
  CommitPackFaultHolds objects tree fault.BadTree = IsOtherKind as_tree objects tree
  CommitPackFaultHolds objects tree (fault.UnknownVersion n) = TreeFails objects tree (pack.UnknownVersion n)
  CommitPackFaultHolds objects tree fault.NoOps = TreeFails objects tree pack.NoOps ⊎ OpsIsNoBlob objects tree
  CommitPackFaultHolds objects tree fault.BadClock = TreeFails objects tree pack.BadClock
  CommitPackFaultHolds objects tree fault.BadPack = TextFails objects tree pack.BadPack
  CommitPackFaultHolds objects tree (fault.BadOperation i f) = TextFails objects tree (pack.BadOperation i f)
  CommitPackFaultHolds objects tree (fault.TooLarge n) = TextFails objects tree (pack.TooLarge n)
