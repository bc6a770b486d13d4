-- The bug that an edit adds to, and what bars it.
use Rattle.std.specs.Prelude.{◌≡◌, ◌≤◌, ◌<◌, ◌+◌, ◌⊎◌, ⊤, ℕ, Bool, List, [], ◌∷◌, ◌++◌, Contains, length, None, Result, Ok, Err}
use Rattle.std.specs.Str.{bytes_eq}
use Rattle.gb_text.specs.Folder.{joined}
use Rattle.gb_text.specs.declared.decimal.TheConstants.{GREATEST_TIME}
use Rattle.gb_text.specs.declared.id.Id.{Id}
use Rattle.gb_text.specs.declared.id.Name.{Name}
use Rattle.gb_store.specs.Files.{Files, History, files_of}
use Rattle.gb_store.specs.declared.store.Change.{Change}
use Rattle.object_batch.specs.Batches.{missing_writes}
use Rattle.ref_store.specs.Setting.{ref_write}
use Rattle.commit_walk.specs.declared.below.TheConstants.{MOST_COMMITS}
use Rattle.lamport.specs.Clock.{edit_time_of}
use Rattle.op_kind.specs.Meaning.{Meaning}
use Rattle.bug_edits.specs.NewOps.{op_id}
use Rattle.bug_ops.specs.Kind.{bug_kind}
use Rattle.bug_ops.specs.declared.op.BugOp.{BugOp}
use Rattle.snapshot.specs.LastMention.{IsBugList}
use Rattle.dag_entity.specs.Appending.{appended_name, appended_objects}
use Rattle.dag_entity.specs.Entities.{ops_in}
use Rattle.dag_entity.specs.declared.entity.Entity.{Entity}
use Rattle.repo_state.specs.Bugs.{FindsBug, ReadsBelow}
use Rattle.repo_state.specs.Clocks.{clock_at, see_writes}
use Rattle.repo_state.specs.Comments.{FindsComment, ReadsSought}
use Rattle.repo_state.specs.Finds.{Finder, person_finder}
use Rattle.repo_state.specs.Sides.{ref_place}
use Rattle.repo_state.specs.Users.{BadUser, NoUser, User, user_at, user_place}
use Rattle.repo_state.specs.declared.clocks.ClockFile.TheVariants as file
use Rattle.repo_steps.specs.declared.env.Env.{Env}
use Rattle.repo_steps.specs.declared.refusal.Refusal.TheVariants as refusal
use Rattle.repo_steps.specs.declared.refusal.Stop.{Stop}
use Rattle.repo_steps.specs.declared.refusal.Stop.TheVariants as stop
use Rattle.repo_state.specs.declared.side.HeadEntry.{HeadEntry}
use Rattle.repo_state.specs.declared.side.Side.TheVariants as side
use Rattle.repo_state.specs.declared.stop.Missed.{Missed}
use Rattle.repo_steps.specs.Answers.{Plans}
use Rattle.repo_steps.specs.BugDoings.{HasFound, bug_of_comment, bug_reads, one_op_pack, op_ids}
use Rattle.repo_steps.specs.Checks.{AllPass, Check, FirstFails}
use Rattle.repo_steps.specs.Doing.{found, names, sizes, some_user, user_file}
use Rattle.repo_steps.specs.Stops.{of_missed}
use Rattle.repo_steps.specs.PeopleDoings.{set_user}
use Rattle.repo_steps.specs.Picked.{Picked}
use Rattle.repo_steps.specs.Doings.{doing_of}
use Rattle.words.specs.declared.edit.Edit.{Edit}
use Rattle.repo_steps.specs.declared.plan.Plan.{Plan}
use Rattle.repo_edit.specs.declared.growing.Beginning.{Beginning}
use Rattle.repo_edit.specs.declared.growing.Growing.{Growing}
use Rattle.repo_edit.specs.declared.growing.GrowingComment.{GrowingComment}

-- the user, or why there is none
abbrev pub AuthorAnswers : Files → List ℕ → Result Id Stop → Type 0
AuthorAnswers files folder (Ok id) = user_at files folder ≡ User id
AuthorAnswers files folder (Err stop.Memory) = ⊤
AuthorAnswers files folder (Err stop.Disk) = ⊤
AuthorAnswers files folder (Err (stop.Refused refusal.NoUser)) = user_at files folder ≡ NoUser
AuthorAnswers files folder (Err (stop.Refused (refusal.Damaged path))) = (path ≡ joined folder user_place) × (user_at files folder ≡ BadUser)
AuthorAnswers files folder (Err (stop.Refused _)) = ⊥

-- the user and the clocks of the folder
pub record Begins (files : Files) (folder : List ℕ) (root : Beginning) : Type 0 where
  pub is_user : user_at files folder ≡ User root.author
  pub is_create : root.create ≡ clock_at files folder file.BugsCreate
  pub is_edit : root.edit ≡ clock_at files folder file.BugsEdit

-- these, or why there is no user
abbrev pub BeginningAnswers : Files → List ℕ → Result Beginning Stop → Type 0
BeginningAnswers files folder (Ok root) = Begins files folder root
BeginningAnswers files folder (Err s) = AuthorAnswers files folder (Err s)

-- the edit clock of what is added to a bug whose head has an edit clock and that has so many commits
abbrev pub RoomAnswers : ℕ → Name → ℕ → ℕ → Result ℕ Stop → Type 0
RoomAnswers seen name edit commits (Ok later) = (edit < GREATEST_TIME) × (commits < MOST_COMMITS) × (later ≡ edit_time_of seen edit)
RoomAnswers seen name edit commits (Err (stop.Refused (refusal.ClockFull full))) = (GREATEST_TIME ≤ edit) × (full ≡ name)
RoomAnswers seen name edit commits (Err (stop.Refused (refusal.TooLarge count))) = (edit < GREATEST_TIME) × (MOST_COMMITS ≤ commits) × (count ≡ MOST_COMMITS + 1)
RoomAnswers seen name edit commits (Err _) = ⊥

-- what is checked before anything is made
abbrev pub growing_checks : Files → List ℕ → Finder HeadEntry → HeadEntry → List Check
growing_checks files folder finder bug =
    user_file folder files ∷
    some_user folder files ∷
    found finder bug ∷
    bug_reads folder files bug ∷ []

-- the bug that is found, and the user, who adds to it
pub record Grows (files : Files) (folder : List ℕ) (finder : Finder HeadEntry) (g : Growing) : Type 0 where
  pub is_user : user_at files folder ≡ User g.author
  pub bug : HasFound folder files finder
  pub is_head : bug.bug ≡ g.head
  pub are_ops : ops_in bug_kind bug.entity.packs ≡ g.ops
  pub begins : IsBugList g.ops
  pub is_seen : g.seen ≡ clock_at files folder file.BugsEdit
  pub is_edit : bug.entity.edit ≡ g.edit
  pub within : bug.entity.edit ≤ GREATEST_TIME
  pub is_count : length bug.entity.packs ≡ g.commits

-- a bug at its head with this entity, that an author adds to where the clock of the folder is this
abbrev pub growing_from : Id → HeadEntry → Entity BugOp → ℕ → Growing
growing_from author head entity seen = record { author = author; head = head; ops = ops_in bug_kind entity.packs; seen = seen; edit = entity.edit; commits = entity.commits }

-- these, or why there is no user or no bug
abbrev pub GrowingAnswers : Files → List ℕ → Finder HeadEntry → Result Growing Stop → Type 0
GrowingAnswers files folder finder (Ok g) = Grows files folder finder g
GrowingAnswers files folder finder (Err stop.Memory) = ⊤
GrowingAnswers files folder finder (Err stop.Disk) = ⊤
GrowingAnswers files folder finder (Err (stop.Refused r)) = (bug : HeadEntry) × FirstFails (growing_checks files folder finder bug) r

-- the comment that a word finds, with its bug and the user, or why there is none
abbrev pub CommentAnswers : Files → List ℕ → List ℕ → Result GrowingComment Stop → Type 0
CommentAnswers files folder word (Ok g) = Grows files folder (bug_of_comment files folder word g.comment) g.bug
CommentAnswers files folder word (Err s) = (comment : Id) × GrowingAnswers files folder (bug_of_comment files folder word comment) (Err s)

-- the objects that were read: those of the bug, or none where it wasn't read
abbrev pub ReadsGrowing : Files → List ℕ → List ℕ → ℕ → ℕ → Result Growing Stop → Type 0
ReadsGrowing files folder word before after (Ok g) = FindsBug files folder word g.head × ReadsBelow files folder g.head before after
ReadsGrowing files folder word before after (Err s) =
    (after ≡ before) ⊎ ((bug : HeadEntry) × FindsBug files folder word bug × ReadsBelow files folder bug before after)

-- those of the bugs that were read to find a comment
abbrev pub ReadsCommented : Files → List ℕ → List ℕ → ℕ → ℕ → Result GrowingComment Stop → Type 0
ReadsCommented files folder word before after (Ok g) = FindsComment files folder word (record { bug = g.bug.head; comment = g.comment }) × ReadsSought files folder word before after
ReadsCommented files folder word before after (Err s) = ReadsSought files folder word before after

-- the objects of the commit that adds an operation to a bug, with an edit clock
abbrev pub grown_objects : Env → Growing → ℕ → BugOp → List (List ℕ)
grown_objects env g edit op = appended_objects bug_kind (g.head.name ∷ []) (one_op_pack g.author edit None op) env.moment.now

-- the operation is new
abbrev pub is_new : Growing → BugOp → Check
is_new g op = record {
  Fails = λ r. Contains (op_ids g.ops) (op_id op) × (r ≡ refusal.RepeatedOperation (op_id op));
  Passes = Contains (op_ids g.ops) (op_id op) → ⊥;
}

-- what is checked of the commit
abbrev pub grown_checks : Env → Growing → ℕ → BugOp → History → List Check
grown_checks env g edit op old = sizes (grown_objects env g edit op) ∷ is_new g op ∷ names env.folder (grown_objects env g edit op) old ∷ []

-- what is written of it
abbrev pub grown_writes : Env → Growing → ℕ → BugOp → Files → List Change
grown_writes env g edit op files =
    missing_writes env.folder (grown_objects env g edit op) files
    ++ ref_write env.folder (ref_place side.Bugs g.head.id) (appended_name bug_kind (g.head.name ∷ []) (one_op_pack g.author edit None op) env.moment.now)
    ∷ see_writes env.folder file.BugsEdit g.seen edit

-- the plan that adds an operation to a bug, or why there is none
abbrev pub GrownPlans : Env → Growing → ℕ → BugOp → History → Result Plan Stop → Type 0
GrownPlans env g edit op old (Ok plan) = AllPass (grown_checks env g edit op old) × (plan.writes ≡ grown_writes env g edit op (files_of old)) × (op_id op ≡ plan.id)
GrownPlans env g edit op old (Err stop.Memory) = ⊤
GrownPlans env g edit op old (Err stop.Disk) = ⊤
GrownPlans env g edit op old (Err (stop.Refused r)) = FirstFails (grown_checks env g edit op old) r

-- the plan of a command, or why there is none
abbrev pub EditPlans : Env → Edit → History → Result Plan Stop → Type 0
EditPlans env command old result = (picked : Picked) × Plans (doing_of env command picked old) result

-- the plan that makes the person whom a word finds the user, or why there is none
abbrev pub SetPlans : Env → List ℕ → History → Result Plan Stop → Type 0
SetPlans env word old (Ok plan) = Plans (set_user env word plan.id old) (Ok plan)
SetPlans env word old (Err stop.Memory) = ⊤
SetPlans env word old (Err stop.Disk) = ⊤
SetPlans env word old (Err (stop.Refused r)) = (why : Missed) × (person_finder (files_of old) env.folder word).Fails why × (r ≡ of_missed why)

-- an operation of a kind has this id
abbrev pub has_id : {Op State Row : Type 0} → Meaning Op State Row → Id → Op → Bool
has_id kind id op = bytes_eq (kind.common_of op).place.id.bytes id.bytes
