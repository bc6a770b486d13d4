-- What each command on bugs does: when it is refused, what it writes, and the id that it returns.
use Rattle.std.specs.Prelude.{◌≡◌, ◌≤◌, ◌+◌, ℕ, List, [], ◌∷◌, ◌++◌, length, map, Contains, Option, Some, None, option_and_then, Result, Ok, Err}
use Rattle.std.specs.Option.{option_map}
use Rattle.gb_text.specs.Folder.{joined}
use Rattle.gb_text.specs.declared.decimal.TheConstants.{GREATEST_TIME}
use Rattle.gb_text.specs.declared.id.Id.{Id}
use Rattle.gb_text.specs.declared.id.Name.{Name}
use Rattle.gb_text.specs.declared.ruled.Message.{Message}
use Rattle.gb_text.specs.declared.ruled.Title.{Title}
use Rattle.gb_store.specs.Files.{Files, History, files_of}
use Rattle.gb_store.specs.declared.store.Change.{Change}
use Rattle.object_store.specs.Held.{objects_in}
use Rattle.object_batch.specs.Batches.{missing_writes}
use Rattle.ref_store.specs.Setting.{ref_write}
use Rattle.lamport.specs.Clock.{edit_time_of, root_time_of}
use Rattle.bug_edits.specs.EditTable.{edit_op}
use Rattle.bug_edits.specs.NewOps.{create_op, edited_comment_op, op_id}
use Rattle.bug_ops.specs.Snapshots.{zero_id}
use Rattle.bug_edits.specs.declared.edit.NoChange.{NoChange}
use Rattle.bug_ops.specs.Kind.{bug_kind}
use Rattle.bug_ops.specs.declared.op.BugOp.{BugOp}
use Rattle.bug_ops.specs.declared.snapshot.Snapshot.{Snapshot}
use Rattle.snapshot.specs.LastMention.{snapshot_of}
use Rattle.op_kind.specs.declared.place.TheConstants.{VERSION}
use Rattle.op_pack.specs.declared.pack.Pack.{Pack}
use Rattle.commit_walk.specs.declared.below.TheConstants.{MOST_COMMITS}
use Rattle.dag_entity.specs.Appending.{appended_name, appended_objects}
use Rattle.dag_entity.specs.Entities.{ops_in}
use Rattle.dag_entity.specs.Nodes.{edit_at}
use Rattle.dag_entity.specs.declared.entity.Entity.{Entity}
use Rattle.repo_state.specs.Bugs.{HasBugFault, IsBug}
use Rattle.repo_state.specs.Clocks.{clock_at, see_writes}
use Rattle.repo_state.specs.Comments.{FindsComment, FindsNoComment}
use Rattle.repo_state.specs.Finds.{Finder, bug_finder}
use Rattle.repo_state.specs.Sides.{ref_place}
use Rattle.repo_state.specs.Users.{UserFound, BadUser, NoUser, User, user_at}
use Rattle.repo_state.specs.declared.clocks.ClockFile.TheVariants as file
use Rattle.repo_steps.specs.declared.env.Env.{Env}
use Rattle.repo_steps.specs.declared.refusal.Refusal.{Refusal}
use Rattle.repo_steps.specs.declared.refusal.Refusal.TheVariants as refusal
use Rattle.repo_state.specs.declared.side.HeadEntry.{HeadEntry}
use Rattle.repo_state.specs.declared.side.Side.TheVariants as side
use Rattle.repo_steps.specs.Checks.{Check}
use Rattle.repo_steps.specs.Doing.{Doing, HeadSet, Shown, user_file, some_user, sizes, fresh, names, found}
use Rattle.repo_steps.specs.Stops.{of_no_change}
use Rattle.repo_steps.specs.declared.plan.Addition.{Addition}
use Rattle.bug_edits.specs.declared.edit.BugEdit.{BugEdit}

-- ---- what is added to a bug

-- a pack of one operation by an author, with these clocks
abbrev pub one_op_pack : Id → ℕ → Option ℕ → BugOp → Pack BugOp
one_op_pack author edit create op = record { id = zero_id; version = VERSION; edit = edit; create = create; author = author; ops = op ∷ [] }

-- the texts of the objects of a commit that is added, if there is one
abbrev pub addition_objects : ℕ → Option Addition → List (List ℕ)
addition_objects now None = []
addition_objects now (Some a) = appended_objects bug_kind a.parents a.pack now

-- the commit's name
abbrev pub addition_head : ℕ → Addition → Name
addition_head now a = appended_name bug_kind a.parents a.pack now

-- the writes of clocks that see those of a pack: `bugs-create` where the pack has a create clock, then `bugs-edit`
abbrev pub create_writes : List ℕ → Files → Option ℕ → List Change
create_writes folder files None = []
create_writes folder files (Some create) = see_writes folder file.BugsCreate (clock_at files folder file.BugsCreate) create

abbrev pub clock_writes : List ℕ → Files → Pack BugOp → List Change
clock_writes folder files pack = create_writes folder files pack.create ++ see_writes folder file.BugsEdit (clock_at files folder file.BugsEdit) pack.edit

-- the objects that don't stand yet, the head, and the clocks
abbrev pub addition_writes : Env → Files → Option Addition → List Change
addition_writes env files None = []
addition_writes env files (Some a) =
    missing_writes env.folder (addition_objects env.moment.now (Some a)) files
    ++ ref_write env.folder (ref_place side.Bugs a.bug) (addition_head env.moment.now a) ∷ clock_writes env.folder files a.pack

-- the head of a bug, a commit over the parents that the addition has: none for a new bug, the present head for another
abbrev pub bug_set : ℕ → Addition → HeadSet
bug_set now a = record { of = side.Bugs; id = a.bug; head = addition_head now a; parents = a.parents }

-- the clocks of a pack, by the files to which they are shown
abbrev pub shown_create : Option ℕ → List Shown
shown_create None = []
shown_create (Some create) = record { which = file.BugsCreate; number = create } ∷ []

abbrev pub addition_shows : Option Addition → List Shown
addition_shows None = []
addition_shows (Some a) = shown_create a.pack.create ++ record { which = file.BugsEdit; number = a.pack.edit } ∷ []

-- the user, if there is one
abbrev pub some_id : UserFound → Option Id
some_id NoUser = None
some_id (User id) = Some id
some_id BadUser = None

-- a bug's root, by an author, with the clocks of a new root
abbrev pub root_addition : List ℕ → Files → BugOp → Id → Addition
root_addition folder files op author = record {
  bug = op_id op;
  parents = [];
  pack = one_op_pack author (root_time_of (clock_at files folder file.BugsEdit)) (Some (root_time_of (clock_at files folder file.BugsCreate))) op;
}

-- a commit on a bug's head with this edit clock, by an author, with the clock of an edit
abbrev pub later_addition : List ℕ → Files → BugOp → Id → HeadEntry → ℕ → Addition
later_addition folder files op author bug edit = record {
  bug = bug.id;
  parents = bug.name ∷ [];
  pack = one_op_pack author (edit_time_of (clock_at files folder file.BugsEdit) edit) None op;
}

-- what the user adds to a bug at a head that has an edit clock
abbrev pub later_by : List ℕ → Files → HeadEntry → BugOp → Id → Option Addition
later_by folder files bug op author = option_map (later_addition folder files op author bug) (edit_at (objects_in files folder) bug.name)

-- ---- checks of a bug

-- the bug that is found, with its entity, in which nothing is wrong
pub record HasFound (folder : List ℕ) (files : Files) (finder : Finder HeadEntry) : Type 0 where
  pub bug : HeadEntry
  pub finds : finder.Found bug
  pub entity : Entity BugOp
  pub is : IsBug files folder bug entity

-- the bug that a word finds
abbrev pub HasBug : List ℕ → Files → List ℕ → Type 0
HasBug folder files word = HasFound folder files (bug_finder files folder word)

-- the bug of a comment that a word finds
abbrev pub bug_of_comment : Files → List ℕ → List ℕ → Id → Finder HeadEntry
bug_of_comment files folder word comment = record {
  Found = λ bug. FindsComment files folder word (record { bug = bug; comment = comment });
  Fails = FindsNoComment files folder word;
}

-- and that bug, with its entity
abbrev pub HasCommented : List ℕ → Files → List ℕ → Id → Type 0
HasCommented folder files word comment = HasFound folder files (bug_of_comment files folder word comment)

-- What adds an operation to a bug: how the bug is found, and what is added by what the bug says, or why nothing is.
pub record Growth : Type 1 where
  pub finder : Files → Finder HeadEntry
  pub adds : Snapshot → Result BugOp NoChange

-- an edit of the bug that a word finds
abbrev pub edit_growth : Env → BugEdit → List ℕ → Growth
edit_growth env edit word = record { finder = λ files. bug_finder files env.folder word; adds = edit_op env.moment edit }

-- another message of the comment that a word finds, which is this one
abbrev pub comment_growth : Env → Message → List ℕ → Id → Growth
comment_growth env message word comment = record {
  finder = λ files. bug_of_comment files env.folder word comment;
  adds = λ bug. Ok (edited_comment_op env.moment comment message);
}

-- nothing is wrong with the entity of the bug at this head
abbrev pub bug_reads : List ℕ → Files → HeadEntry → Check
bug_reads folder files bug = record {
  Fails = λ r. HasBugFault files folder bug × (r ≡ refusal.Damaged (joined folder (ref_place side.Bugs bug.id)));
  Passes = (entity : Entity BugOp) × IsBug files folder bug entity;
}

-- nothing of this kind bars the bug that is found
abbrev pub bug_check : (folder : List ℕ) (files : Files) (finder : Finder HeadEntry) → (HasFound folder files finder → Type 0) → (HasFound folder files finder → Refusal) → Check
bug_check folder files finder Bars refusal = record {
  Fails = λ r. (bug : HasFound folder files finder) × Bars bug × (r ≡ refusal bug);
  Passes = (bug : HasFound folder files finder) × (Bars bug → ⊥);
}

-- what a bug says, by its operations in order
abbrev pub bug_says : Entity BugOp → Snapshot
bug_says entity = snapshot_of (ops_in bug_kind entity.packs)

-- this operation is added to the bug that is found, by what it says
abbrev pub adds_op : List ℕ → Files → Growth → BugOp → Check
adds_op folder files growth op = record {
  Fails = λ r. (bug : HasFound folder files (growth.finder files)) × (why : NoChange) × (growth.adds (bug_says bug.entity) ≡ Err why) × (r ≡ of_no_change why);
  Passes = (bug : HasFound folder files (growth.finder files)) × (growth.adds (bug_says bug.entity) ≡ Ok op);
}

-- an edit clock is left above that of its head
abbrev pub clock_room : List ℕ → Files → Finder HeadEntry → Check
clock_room folder files finder = bug_check folder files finder (λ bug. bug.entity.edit ≡ GREATEST_TIME) (λ bug. refusal.ClockFull bug.bug.name)

-- it has room for one commit more
abbrev pub commit_room : List ℕ → Files → Finder HeadEntry → Check
commit_room folder files finder = bug_check folder files finder (λ bug. MOST_COMMITS ≤ length bug.entity.packs) (λ bug. refusal.TooLarge (MOST_COMMITS + 1))

-- the ids of operations
abbrev pub op_ids : List BugOp → List Id
op_ids ops = map (λ op. (bug_kind.common_of op).place.id) ops

-- it does not have the operation yet
abbrev pub new_operation : List ℕ → Files → Finder HeadEntry → BugOp → Check
new_operation folder files finder op =
    bug_check folder files finder (λ bug. Contains (op_ids (ops_in bug_kind bug.entity.packs)) (op_id op)) (λ bug. refusal.RepeatedOperation (op_id op))

-- ---- the commands

-- a bug that begins with this operation, by the user
abbrev pub begun_bug : Env → BugOp → History → Doing
begun_bug env op old =
    let files = files_of old in
    let addition = option_map (root_addition env.folder files op) (some_id (user_at files env.folder)) in
    let objects = addition_objects env.moment.now addition in
    record {
      checks =
          user_file env.folder files ∷
          some_user env.folder files ∷
          sizes objects ∷
          fresh env.folder files side.Bugs (op_id op) ∷
          names env.folder objects old ∷ [];
      objects = objects;
      sets = option_map (bug_set env.moment.now) addition;
      shows = addition_shows addition;
      writes = addition_writes env files addition;
      told = Some (op_id op);
    }

-- an operation that is added to the bug that is found, at its head, by the user
abbrev pub longer_bug : Env → Growth → HeadEntry → BugOp → History → Doing
longer_bug env growth bug op old =
    let files = files_of old in
    let finder = growth.finder files in
    let addition = option_and_then (later_by env.folder files bug op) (some_id (user_at files env.folder)) in
    let objects = addition_objects env.moment.now addition in
    record {
      checks =
          user_file env.folder files ∷
          some_user env.folder files ∷
          found finder bug ∷
          bug_reads env.folder files bug ∷
          adds_op env.folder files growth op ∷
          clock_room env.folder files finder ∷
          commit_room env.folder files finder ∷
          sizes objects ∷
          new_operation env.folder files finder op ∷
          names env.folder objects old ∷ [];
      objects = objects;
      sets = option_map (bug_set env.moment.now) addition;
      shows = addition_shows addition;
      writes = addition_writes env files addition;
      told = Some (op_id op);
    }

-- a new bug with a title and a message, which is its first comment
abbrev pub new_bug : Env → Title → Message → History → Doing
new_bug env title message old = begun_bug env (create_op env.moment title message) old
