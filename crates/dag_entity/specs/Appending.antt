-- A commit that is added to an entity: the four objects that are written of it, and the node that it is.
use Rattle.std.specs.Prelude.{◌≡◌, ◌≤◌, ◌+◌, ⊤, ℕ, List, [], ◌∷◌, ◌++◌, All, Contains, codes, length, reverse, Option, Result, Ok, Err}
use Rattle.std.specs.List.{AllByRecursion, flat_map}
use Rattle.std.specs.Option.{ForSome}
use Rattle.gb_text.specs.declared.id.Name.{Name}
use Rattle.gb_store.specs.Files.{History, files_of}
use Rattle.git_object.specs.declared.frame.Kind.TheVariants as kinds
use Rattle.git_object.specs.declared.tree.Tree.{Tree}
use Rattle.git_object.specs.Grammar.{commit_text, entry_text, framed, object_name}
use Rattle.object_store.specs.Held.{Objects}
use Rattle.object_store.specs.Texts.{IsShort}
use Rattle.object_store.specs.Typed.{HoldsAs, as_commit}
use Rattle.object_store.specs.declared.read.TheConstants.{MOST_BYTES}
use Rattle.object_store.specs.declared.fault.PutFault.{PutFault}
use Rattle.object_store.specs.declared.fault.PutFault.TheVariants as fault
use Rattle.object_batch.specs.Batches.{BatchAnswers, HasLong, missing_writes}
use Rattle.object_batch.specs.Commits.{written_commit}
use Rattle.op_kind.specs.Meaning.{Meaning}
use Rattle.op_kind.specs.declared.place.TheConstants.{VERSION}
use Rattle.op_pack.specs.Heads.{IsClock, create_entries, number_entry, plain_entry}
use Rattle.op_pack.specs.Packs.{MayStand, pack_text, written_ids, written_pack}
use Rattle.op_pack.specs.declared.head.TreeHead.{TreeHead}
use Rattle.op_pack.specs.declared.pack.Pack.{Pack}
use Rattle.op_pack.specs.declared.pack.TheConstants.{MOST_OPERATIONS}
use Rattle.dag_entity.specs.declared.appending.CommitPlan.{CommitPlan}
use Rattle.dag_entity.specs.declared.entity.Loaded.{Loaded}

-- ---- the objects

-- the text of the blob of no bytes, which the entries of the version and of the clocks name
abbrev pub empty_object : List ℕ
empty_object = framed kinds.Blob []

-- the tree that says these clocks and names this object, its entries in the order of their names
abbrev pub appended_tree : ℕ → Option ℕ → Name → Tree
appended_tree edit create ops = record {
  entries = create_entries create ++ number_entry (codes "edit-clock-") edit ∷ plain_entry (codes "ops") ops ∷ number_entry (codes "version-") VERSION ∷ [];
}

-- its content
abbrev pub tree_content : ℕ → Option ℕ → Name → List ℕ
tree_content edit create ops = flat_map entry_text (appended_tree edit create ops).entries

-- the content of the commit of a tree with these parents
abbrev pub commit_content : Name → List Name → ℕ → List ℕ
commit_content tree parents now = commit_text (written_commit tree parents now)

-- the parents are commits that are held
abbrev pub AreHeld : Objects → List Name → Type 0
AreHeld objects parents = (parent : Name) → Contains parents parent → HoldsAs as_commit objects parent

module _ {Op State Row : Type 0} (k : Meaning Op State Row) where
  -- the condition of an append: the pack is of the version that is written, and each operation keeps the rules of its kind
  pub record MayBeWritten (pack : Pack Op) : Type 0 where
    pub version : pack.version ≡ VERSION
    pub rules : AllByRecursion k.KeepsRules pack.ops

  -- the same of any numbers as clocks: each of them is a clock too
  pub record MayBeAppended (pack : Pack Op) : Type 0 where
    pub version : pack.version ≡ VERSION
    pub edit : IsClock pack.edit
    pub create : ForSome pack.create (λ clock. IsClock clock)
    pub rules : AllByRecursion k.KeepsRules pack.ops

  -- the text of the blob that holds the pack's text
  abbrev pub pack_object : Pack Op → List ℕ
  pack_object pack = framed kinds.Blob (pack_text k pack.author pack.ops)

  -- the text of the tree that says the pack's clocks and names the blob
  abbrev pub tree_object : Pack Op → List ℕ
  tree_object pack = framed kinds.Tree (tree_content pack.edit pack.create (object_name (pack_object pack)))

  -- the commit's tree
  abbrev pub tree_name : Pack Op → Name
  tree_name pack = object_name (tree_object pack)

  -- the text of the commit that names the tree and the parents
  abbrev pub commit_object : List Name → Pack Op → ℕ → List ℕ
  commit_object parents pack now = framed kinds.Commit (commit_content (tree_name pack) parents now)

  -- the texts of the four objects, in the order in which they are put
  abbrev pub appended_objects : List Name → Pack Op → ℕ → List (List ℕ)
  appended_objects parents pack now = empty_object ∷ pack_object pack ∷ tree_object pack ∷ commit_object parents pack now ∷ []

  -- the commit
  abbrev pub appended_name : List Name → Pack Op → ℕ → Name
  appended_name parents pack now = object_name (commit_object parents pack now)

  -- what stands after the objects of a commit, none of which is refused, are put
  abbrev pub after_append : List ℕ → List Name → Pack Op → ℕ → History → History
  after_append folder parents pack now old = reverse (missing_writes folder (appended_objects parents pack now) (files_of old)) ++ old

  -- ---- what is answered

  -- what is to be made of these
  abbrev pub append_plan : List Name → Pack Op → ℕ → CommitPlan
  append_plan parents pack now = record { head = appended_name parents pack now; objects = appended_objects parents pack now; ids = written_ids k pack.ops }

  -- what is to be made of these, and that its objects are short enough, or that one of them is not
  abbrev pub AppendPlanAnswers : List Name → Pack Op → ℕ → Result CommitPlan PutFault → Type 0
  AppendPlanAnswers parents pack now (Ok plan) = (plan ≡ append_plan parents pack now) × All IsShort (appended_objects parents pack now)
  AppendPlanAnswers parents pack now (Err (fault.Large count)) = (count ≡ MOST_BYTES + 1) × HasLong (appended_objects parents pack now)
  AppendPlanAnswers parents pack now (Err fault.Memory) = ⊤
  AppendPlanAnswers parents pack now (Err _) = ⊥

  -- ---- the node

  -- what the tree says
  abbrev pub appended_head : Pack Op → TreeHead
  appended_head pack = record { version = VERSION; edit = pack.edit; create = pack.create; ops = object_name (pack_object pack) }

  -- the commit with its parents, and the pack that is read of it: each operation stands at the place of its written text
  abbrev pub appended_node : List Name → Pack Op → ℕ → Loaded Op
  appended_node parents pack now = record {
    parents = parents;
    placed = record { commit = appended_name parents pack now; pack = written_pack k (appended_head pack) pack.author pack.ops };
  }

  -- a pack that can be read again: it has not too many operations, and each keeps the rules of its kind and may stand where its written text puts it
  pub record CanBeRead (pack : Pack Op) : Type 0 where
    pub few : length pack.ops ≤ MOST_OPERATIONS
    pub stand : MayStand k (appended_head pack) pack.author pack.ops

-- the answer is that of a put of the objects
abbrev pub AppendAnswers : List ℕ → List (List ℕ) → History → History → Result Name PutFault → Type 0
AppendAnswers folder objects old new (Ok name) = BatchAnswers folder objects old new (Ok tt)
AppendAnswers folder objects old new (Err e) = BatchAnswers folder objects old new (Err e)
