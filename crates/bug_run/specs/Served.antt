-- Why a command is refused in a sound folder, and what is printed of a bug in the words of its operations.
use Rattle.std.specs.Prelude.{◌≡◌, ◌⊎◌, ⊤, ℕ, false, List, ◌∷◌, []}
use Rattle.gb_text.specs.Folder.{joined}
use Rattle.gb_store.specs.Files.{Files, History, files_of}
use Rattle.object_store.specs.Held.{objects_in}
use Rattle.ref_packing.specs.Answers.{IsTooLong}
use Rattle.bug_ops.specs.Kind.{bug_kind}
use Rattle.bug_ops.specs.declared.op.BugOp.{BugOp}
use Rattle.dag_entity.specs.Entities.{IsOperationList}
use Rattle.identity.specs.declared.chain.Person.{Person}
use Rattle.ref_store.specs.Refs.{packed_place, packed_reads}
use Rattle.render.specs.Show.{show_text_of}
use Rattle.repo_state.specs.Bugs.{FindsBug}
use Rattle.repo_state.specs.Finds.{FindsNoId}
use Rattle.repo_state.specs.People.{ArePeople}
use Rattle.repo_steps.specs.declared.env.Env.{Env}
use Rattle.repo_state.specs.Users.{NoUser, user_at}
use Rattle.repo_steps.specs.declared.refusal.Refusal.{Refusal}
use Rattle.repo_steps.specs.declared.refusal.Refusal.TheVariants as refusal
use Rattle.repo_state.specs.declared.side.HeadEntry.{HeadEntry}
use Rattle.repo_state.specs.declared.side.Side.TheVariants as side
use Rattle.repo_state.specs.declared.stop.Missed.{Missed}
use Rattle.repo_steps.specs.Doings.{Refused}
use Rattle.snapshot.specs.LastMention.{snapshot_of}
use Rattle.bug_run.specs.Printed.{HasLines}
use Rattle.bug_run.specs.declared.status.Refused.TheVariants.{ByCommand}
use Rattle.bug_run.specs.declared.status.Status.{Status}
use Rattle.bug_run.specs.declared.status.Status.TheVariants as status
use Rattle.words.specs.declared.pair.FolderPair.{FolderPair}
use Rattle.words.specs.declared.words.Command.{Command}
use Rattle.words.specs.declared.words.Command.TheVariants.{Edit, Log, PackRefs, Show, Users}
use Rattle.words.specs.declared.words.PeerCommand.{PeerCommand}
use Rattle.words.specs.declared.words.PeerCommand.TheVariants.{Fetch, Pull, Push}

-- a command has a cause to be refused: a check of an edit fails, or the word of a command that reads a bug finds none, or several, or the
-- packed refs would be too long
abbrev pub HasCause : Env → Command → History → Type 0
HasCause env Users old = ⊥
HasCause env (Show word) old = (why : Missed) × FindsNoId (files_of old) env.folder side.Bugs word why
HasCause env (Log word) old = (why : Missed) × FindsNoId (files_of old) env.folder side.Bugs word why
HasCause env (Edit edit) old = (r : Refusal) × Refused env edit old r
HasCause env PackRefs old = IsTooLong env.folder (files_of old)

-- a text shows the bug that a word finds: by what the operations of the operation commits below its head say, in order of edit
-- clock, pack id and name, with the names of the folder's people
pub record ShowsOperations (files : Files) (folder word text : List ℕ) : Type 0 where
  pub bug : HeadEntry
  pub finds : FindsBug files folder word bug
  pub ops : List BugOp
  pub in_order : IsOperationList bug_kind (objects_in files folder) (bug.name ∷ []) ops
  pub people : List Person
  pub are_people : ArePeople files folder people
  pub shows : text ≡ show_text_of (snapshot_of ops) people

-- ---- exchanges and merges

-- lines were answered, unless a fault or want of memory kept them from being
abbrev pub IsAnswered : Status → Type 0
IsAnswered answer = HasLines answer ⊎ ((answer ≡ status.Memory) ⊎ ((answer ≡ status.DiskFault) ⊎ (answer ≡ status.OutFault)))

-- why a merge may be refused in a sound folder: there is no user, or an object of a merge commit cannot have its name
abbrev pub MayRefuse : List ℕ → History → Refusal → Type 0
MayRefuse folder old refusal.NoUser = user_at (files_of old) folder ≡ NoUser
MayRefuse folder old (refusal.NameTaken name) = ⊤
MayRefuse folder old _ = ⊥

-- the packed refs of the peer do not read, and that is the refusal
abbrev pub IsPeerUnread : FolderPair → History → Refusal → Type 0
IsPeerUnread pair old r = (packed_reads (files_of old) pair.peer ≡ false) × (r ≡ refusal.Damaged (joined pair.peer packed_place))

-- and why a command with a peer may be: for that, and one that merges as a merge is
abbrev pub MayRefusePeer : PeerCommand → FolderPair → History → Refusal → Type 0
MayRefusePeer (Fetch remote) pair old r = IsPeerUnread pair old r
MayRefusePeer (Pull remote) pair old r = MayRefuse pair.own old r ⊎ IsPeerUnread pair old r
MayRefusePeer Push pair old r = IsPeerUnread pair old r

-- lines were answered, or the command was refused for one of these reasons
abbrev pub IsAnsweredBut : (Refusal → Type 0) → Status → Type 0
IsAnsweredBut Refuses answer = IsAnswered answer ⊎ ((r : Refusal) × (answer ≡ status.Refused (ByCommand r)) × Refuses r)
