-- The answers to reads of packs, each with what is so of the objects.
use Rattle.std.specs.Prelude.{◌≡◌, ⊤, Some, None, Result, Ok, Err}
use Rattle.gb_text.specs.declared.id.Name.{Name}
use Rattle.git_object.specs.declared.tree.Tree.{Tree}
use Rattle.object_store.specs.Held.{Objects, IsDamaged, IsLarge}
use Rattle.object_store.specs.Typed.{IsOtherKind, as_tree, tree_at}
use Rattle.op_kind.specs.Meaning.{Meaning}
use Rattle.op_pack.specs.Heads.{head_of}
use Rattle.op_pack.specs.declared.fault.PackFault.TheVariants as pack
use Rattle.op_pack.specs.declared.head.TreeHead.{TreeHead}
use Rattle.op_pack.specs.declared.pack.Pack.{Pack}
use Rattle.commit_pack.specs.Packs.{CommitPackFaultHolds, TreeFails, pack_under}
use Rattle.commit_pack.specs.declared.fault.CommitPackFault.{CommitPackFault}
use Rattle.commit_pack.specs.declared.fault.CommitPackFault.TheVariants as fault

-- a refusal for a fault that holds; want of memory and faults of the disk have no cause here
abbrev pub Refused : (CommitPackFault → Type 0) → CommitPackFault → Type 0
Refused Holds fault.Memory = ⊤
Refused Holds fault.Disk = ⊤
Refused Holds f = Holds f

-- the answer to a read of the pack of a commit with this tree
abbrev pub PackAnswers : {Op State Row : Type 0} → Meaning Op State Row → Objects → Name → Result (Pack Op) CommitPackFault → Type 0
PackAnswers k objects tree (Ok pack) = pack_under k objects tree ≡ Some pack
PackAnswers k objects tree (Err f) = Refused (CommitPackFaultHolds k objects tree) f

-- the tree under a name says this head
pub record SaysHead (objects : Objects) (name : Name) (head : TreeHead) : Type 0 where
  pub tree : Tree
  pub held : tree_at objects name ≡ Some tree
  pub says : head_of tree ≡ Some head

-- what keeps the tree under a name from saying one
abbrev pub HeadFails : Objects → Name → CommitPackFault → Type 0
HeadFails objects name (fault.Missing n) = (n ≡ name) × (objects name ≡ None)
HeadFails objects name (fault.Damaged n) = (n ≡ name) × IsDamaged objects name
HeadFails objects name (fault.Large n) = (n ≡ name) × IsLarge (objects name)
HeadFails objects name fault.BadTree = IsOtherKind as_tree objects name
HeadFails objects name (fault.UnknownVersion n) = TreeFails objects name (pack.UnknownVersion n)
HeadFails objects name fault.NoOps = TreeFails objects name pack.NoOps
HeadFails objects name fault.BadClock = TreeFails objects name pack.BadClock
HeadFails objects name _ = ⊥

-- the answer to a read of it
abbrev pub HeadAnswers : Objects → Name → Result TreeHead CommitPackFault → Type 0
HeadAnswers objects name (Ok head) = SaysHead objects name head
HeadAnswers objects name (Err f) = Refused (HeadFails objects name) f
