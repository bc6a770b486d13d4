-- How a comment is looked for: what fits of the comments so far, and what one bug more adds.
use Rattle.std.specs.Prelude.{◌≡◌, ◌⊎◌, ⊤, ℕ, List, [], ◌∷◌, map, filter, false, if◌then◌else◌, Contains, Option, Some, None, Result, Ok, Err}
use Rattle.gb_text.specs.Folder.{joined}
use Rattle.gb_text.specs.Prefix.{begins_with}
use Rattle.gb_text.specs.declared.id.Id.{Id}
use Rattle.gb_store.specs.Files.{Files}
use Rattle.ref_store.specs.Refs.{Head}
use Rattle.combined_id.specs.Lookup.{is_below}
use Rattle.bug_ops.specs.Kind.{bug_kind}
use Rattle.bug_ops.specs.declared.op.BugOp.{BugOp}
use Rattle.bug_ops.specs.declared.op.BugOp.TheVariants.{Create, AddComment}
use Rattle.dag_entity.specs.Entities.{KeepsRules, ops_in}
use Rattle.dag_entity.specs.declared.entity.Entity.{Entity}
use Rattle.repo_state.specs.Bugs.{HasBugFault, IsBug, IsDamagedBug, ReadsBelow}
use Rattle.repo_state.specs.Comments.{FitsComment, HasDamagedBug, IsIdOf, IsSought, IsWholeBug, comment_digits, comment_ids}
use Rattle.repo_state.specs.Sides.{head_at, ref_place}
use Rattle.repo_state.specs.declared.comments.CommentEntry.{CommentEntry}
use Rattle.repo_state.specs.declared.comments.FoundComment.{FoundComment}
use Rattle.repo_state.specs.declared.fitting.Fitting.{Fitting}
use Rattle.repo_state.specs.declared.fitting.Fitting.TheVariants.{Nothing, One, Several}
use Rattle.repo_state.specs.declared.seeking.Sought.{Sought}
use Rattle.repo_state.specs.declared.side.HeadEntry.{HeadEntry}
use Rattle.repo_state.specs.declared.side.Side.TheVariants as side
use Rattle.repo_state.specs.declared.stop.FindStop.{FindStop}
use Rattle.repo_state.specs.declared.stop.FindStop.TheVariants as find
use Rattle.repo_state.specs.declared.stop.Missed.TheVariants as missed
use Rattle.repo_state.specs.declared.stop.ReadStop.{ReadStop}
use Rattle.repo_state.specs.declared.stop.ReadStop.TheVariants as stop

-- ---- the comments of one bug

-- the id of the comment that an operation makes, if it makes one
abbrev pub made_by : BugOp → List Id
made_by (Create c title message files) = c.place.id ∷ []
made_by (AddComment c message files) = c.place.id ∷ []
made_by _ = []

-- the comments of a bug with these ids
abbrev pub entries_of : HeadEntry → List Id → List CommentEntry
entries_of bug ids = map (λ (id : Id). record { bug = bug; comment = id }) ids

-- those whose ids begin with an argument
abbrev pub fitting_of : List ℕ → List CommentEntry → List CommentEntry
fitting_of word entries = filter (λ (c : CommentEntry). begins_with word (comment_digits c)) entries

-- ---- one comment more

-- what fits once a comment with this id fits too
abbrev pub more : Fitting → CommentEntry → Id → Fitting
more Nothing c id = One c id
more (One other first) c id = if is_below id first then Several id first else Several first id
more (Several least next) c id =
    if is_below id least then Several id least
    else (if is_below id next then Several least id else Several least next)

-- what fits once these comments fit too, each by its id
abbrev pub FitsAfter : Fitting → List CommentEntry → Fitting → Type 0
FitsAfter before [] after = after ≡ before
FitsAfter before (c ∷ cs) after = (id : Id) × IsIdOf c id × FitsAfter (more before c id) cs after

-- ---- what fits, said of all comments of which something is so

-- of several such comments the ids of two, which are the least
pub record AreLeastOf (IsSo : CommentEntry → Type 0) (first second : Id) : Type 0 where
  pub one : CommentEntry
  pub two : CommentEntry
  pub differ : one ≡ two → ⊥
  pub so_one : IsSo one
  pub so_two : IsSo two
  pub is_first : IsIdOf one first
  pub is_second : IsIdOf two second
  pub ordered : is_below second first ≡ false
  pub above : (other : CommentEntry) (id : Id) → IsSo other → IsIdOf other id → (other ≡ one) ⊎ (is_below id second ≡ false)

-- no such comment, the only one, or the two least
abbrev pub Tells : (CommentEntry → Type 0) → Fitting → Type 0
Tells IsSo Nothing = (c : CommentEntry) → IsSo c → ⊥
Tells IsSo (One c id) = IsSo c × IsIdOf c id × ((other : CommentEntry) → IsSo other → other ≡ c)
Tells IsSo (Several first second) = AreLeastOf IsSo first second

-- ---- one bug more

-- the entity that is kept: that of the first bug of which a comment may be the only one
abbrev pub kept_entity : Fitting → Option (Entity BugOp) → Entity BugOp → Option (Entity BugOp)
kept_entity Nothing old entity = Some entity
kept_entity (One c id) old entity = old
kept_entity (Several first second) old entity = old

-- what was found, once a bug with this entity was read
abbrev pub with_entity : Sought → Fitting → Entity BugOp → Sought
with_entity before fitting entity = record { fitting = fitting; entity = kept_entity before.fitting before.entity entity }

-- the operations of an entity that is kept keep their rules
abbrev pub HasRules : Option (Entity BugOp) → Type 0
HasRules None = ⊤
HasRules (Some entity) = KeepsRules bug_kind entity.packs

-- a bug was read, and its comments were counted too
pub record AddsBug (files : Files) (folder word : List ℕ) (bug : HeadEntry) (before after : Sought) : Type 0 where
  pub entity : Entity BugOp
  pub is : IsBug files folder bug entity
  pub fitting : Fitting
  pub fits : FitsAfter before.fitting (fitting_of word (entries_of bug (comment_ids (ops_in bug_kind entity.packs)))) fitting
  pub kept : after ≡ with_entity before fitting entity

-- what was found once a bug at this head was read too, or why it was not read
abbrev pub BugAdded : Files → List ℕ → List ℕ → HeadEntry → Sought → Result Sought ReadStop → Type 0
BugAdded files folder word bug before (Ok after) = AddsBug files folder word bug before after
BugAdded files folder word bug before (Err stop.Memory) = ⊤
BugAdded files folder word bug before (Err stop.Disk) = ⊤
BugAdded files folder word bug before (Err (stop.Damaged path)) = (path ≡ joined folder (ref_place side.Bugs bug.id)) × HasBugFault files folder bug

-- a bug that is not read adds nothing
abbrev pub PassesBug : Files → List ℕ → List ℕ → Id → Sought → Sought → Type 0
PassesBug files folder word id before after = (IsSought files folder word id → ⊥) × (after ≡ before)

-- and one that is read adds its comments
abbrev pub ReadsSoughtBug : Files → List ℕ → List ℕ → Id → Sought → Sought → Type 0
ReadsSoughtBug files folder word id before after =
    (bug : HeadEntry) × (bug.id ≡ id) × IsSought files folder word id × (head_at files folder side.Bugs id ≡ Head bug.name) × AddsBug files folder word bug before after

-- what was found once the bug with this id was read too, if it is to be read
abbrev pub IdAdded : Files → List ℕ → List ℕ → Id → Sought → Result Sought ReadStop → Type 0
IdAdded files folder word id before (Ok after) = PassesBug files folder word id before after ⊎ ReadsSoughtBug files folder word id before after
IdAdded files folder word id before (Err stop.Memory) = ⊤
IdAdded files folder word id before (Err stop.Disk) = ⊤
IdAdded files folder word id before (Err (stop.Damaged path)) =
    (path ≡ joined folder (ref_place side.Bugs id)) × IsSought files folder word id × IsDamagedBug files folder id

-- ---- all bugs

-- an argument fits a comment of one of these bugs
abbrev pub FitsAmong : Files → List ℕ → List ℕ → List Id → CommentEntry → Type 0
FitsAmong files folder word ids c = FitsComment files folder word c × Contains ids c.bug.id

-- nothing is wrong with a bug, if it is read
abbrev pub IsWholeIfSought : Files → List ℕ → List ℕ → Id → Type 0
IsWholeIfSought files folder word id = IsSought files folder word id → (bug : HeadEntry) × (bug.id ≡ id) × (entity : Entity BugOp) × IsWholeBug files folder bug entity

-- the entity of the bug whose comment is the only one
abbrev pub HasEntity : Files → List ℕ → Fitting → Option (Entity BugOp) → Type 0
HasEntity files folder Nothing entity = ⊤
HasEntity files folder (One c id) entity = (one : Entity BugOp) × (entity ≡ Some one) × IsBug files folder c.bug one
HasEntity files folder (Several first second) entity = ⊤

-- what was found when these bugs were read, with none of which anything is wrong
pub record IsSoughtAmong (files : Files) (folder word : List ℕ) (ids : List Id) (sought : Sought) : Type 0 where
  pub whole : (id : Id) → Contains ids id → IsWholeIfSought files folder word id
  pub tells : Tells (FitsAmong files folder word ids) sought.fitting
  pub has : HasEntity files folder sought.fitting sought.entity

-- what was found among the bugs with these ids, which are all of the folder, or why they were not read
abbrev pub SeekAnswers : Files → List ℕ → List ℕ → List Id → Result Sought ReadStop → Type 0
SeekAnswers files folder word ids (Ok sought) = IsSoughtAmong files folder word ids sought
SeekAnswers files folder word ids (Err stop.Memory) = ⊤
SeekAnswers files folder word ids (Err stop.Disk) = ⊤
SeekAnswers files folder word ids (Err (stop.Damaged path)) = HasDamagedBug files folder word path

-- the comment that was found with its bug's entity, or why there is none
abbrev pub answer_of : Fitting → Option (Entity BugOp) → Result FoundComment FindStop
answer_of (One c id) (Some entity) = Ok (record { entry = c; entity = entity })
answer_of (One c id) None = Err (find.Missed missed.NotFound)
answer_of (Several first second) entity = Err (find.Missed (missed.Ambiguous first second))
answer_of Nothing entity = Err (find.Missed missed.NotFound)

-- ---- the reads

-- no object was read, or so many below the head of the bug with this id, which is read
abbrev pub ReadsIfSought : Files → List ℕ → List ℕ → Id → ℕ → ℕ → Type 0
ReadsIfSought files folder word id before after =
    (after ≡ before)
    ⊎ ((bug : HeadEntry) × (bug.id ≡ id) × IsSought files folder word id × (head_at files folder side.Bugs id ≡ Head bug.name) × ReadsBelow files folder bug before after)

-- so many objects were read for each of these bugs, one after the other
abbrev pub ReadsAmong : Files → List ℕ → List ℕ → List Id → ℕ → ℕ → Type 0
ReadsAmong files folder word [] before after = after ≡ before
ReadsAmong files folder word (id ∷ ids) before after = (mid : ℕ) × ReadsIfSought files folder word id before mid × ReadsAmong files folder word ids mid after
