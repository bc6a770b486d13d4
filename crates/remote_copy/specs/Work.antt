-- A copy on its way: what its steps do to what was met and to the objects that are open.
use Rattle.std.specs.Prelude.{◌≡◌, ◌≤◌, ◌<◌, ◌+◌, ◌-◌, ◌*◌, ◌^◌, Bool, true, false, ℕ, List, [], ◌∷◌, ◌++◌, length, sum_by, Option, Some, None, Result, Ok, Err, ⊤}
use Rattle.gb_text.specs.declared.id.Name.{Name}
use Rattle.gb_store.specs.Counts.{raised}
use Rattle.gb_text.specs.Folder.{joined}
use Rattle.gb_store.specs.Files.{History, Put}
use Rattle.gb_store.specs.Moments.{MaybeWrote}
use Rattle.gb_store.specs.ObjectPath.{object_place}
use Rattle.gb_store.specs.declared.store.Change.{Change}
use Rattle.git_object.specs.declared.frame.Kind.{Kind}
use Rattle.git_object.specs.declared.frame.Kind.TheVariants as kinds
use Rattle.remote_copy.specs.Index.{IsHeight, Sets, WasOpened, mark_of}
use Rattle.remote_copy.specs.declared.fault.CopyFault.{CopyFault}
use Rattle.remote_copy.specs.declared.fault.CopyFault.TheVariants as fault
use Rattle.remote_copy.specs.declared.index.Mark.TheVariants as mark
use Rattle.remote_copy.specs.declared.need.Need.{Need}
use Rattle.remote_copy.specs.declared.open.Open.{Open}
use Rattle.remote_copy.specs.declared.open.TheConstants.{MOST_TREES}
use Rattle.commit_walk.specs.declared.below.TheConstants.{MOST_COMMITS}
use Rattle.remote_copy.specs.declared.work.TheConstants.{MOST_OTHERS}
use Rattle.remote_copy.specs.declared.work.Work.{Work}

-- ---- how much is left

-- an open object, and those of its needs that are not done
abbrev pub left_of : Open → ℕ
left_of item = 1 + (length item.needs.items - item.next)

-- what may still be opened counts more than all that can be left of one object
abbrev pub weight_with : ℕ → ℕ → List Open → ℕ
weight_with commits others stack = ((MOST_COMMITS - commits) + (MOST_OTHERS - others)) * 2 ^ 65 + sum_by left_of stack

abbrev pub weight_of : Work → ℕ
weight_of work = weight_with work.commits work.others work.stack.items

-- ---- what steps do

pub record IsNew (work : Work) : Type 0 where
  pub none : (kind : Kind) (name : Name) → mark_of work.index kind name ≡ None
  pub names : (name : Name) → WasOpened work.index name → ⊥
  pub empty : work.stack.items ≡ []
  pub commits : work.commits ≡ 0
  pub others : work.others ≡ 0
  pub put : work.put ≡ 0

-- nothing more was opened
pub record SameCounts (old new : Work) : Type 0 where
  pub commits : new.commits ≡ old.commits
  pub others : new.others ≡ old.others

-- only memory ran out
abbrev pub IsShortOfMemory : {T : Type 0} → Result T CopyFault → Type 0
IsShortOfMemory (Ok value) = ⊤
IsShortOfMemory (Err fault.Memory) = ⊤
IsShortOfMemory (Err _) = ⊥

-- an object has one more need that is done
abbrev pub one_more : Open → Open
one_more item = record item { next = item.next + 1 }

-- an object came back to the stack with one more need done
pub record Advances (old : Work) (item : Open) (new : Work) : Type 0 where
  pub index : new.index ≡ old.index
  pub stack : new.stack.items ≡ old.stack.items ++ one_more item ∷ []
  pub counts : SameCounts old new
  pub put : new.put ≡ old.put

-- an object more of a kind was opened, of which there were not too many
abbrev pub CountsOne : Kind → Work → Work → Type 0
CountsOne kinds.Commit old new = (old.commits < MOST_COMMITS) × (new.commits ≡ old.commits + 1) × (new.others ≡ old.others)
CountsOne _ old new = (old.others < MOST_OTHERS) × (new.others ≡ old.others + 1) × (new.commits ≡ old.commits)

-- there are too many of a kind for one more
abbrev pub IsFull : Kind → Work → ℕ → Type 0
IsFull kinds.Commit work count = (count ≡ MOST_COMMITS + 1) × (MOST_COMMITS ≤ work.commits)
IsFull _ work count = (count ≡ MOST_OTHERS + 1) × (MOST_OTHERS ≤ work.others)

-- an object was put on the stack
pub record Adds (old : Work) (item : Open) (new : Work) : Type 0 where
  pub index : Sets old.index new.index item.need mark.Open
  pub stack : new.stack.items ≡ old.stack.items ++ item ∷ []
  pub counts : CountsOne item.need.kind old new
  pub put : new.put ≡ old.put

abbrev pub AddAnswers : Work → Open → Work → Result Unit CopyFault → Type 0
AddAnswers old item new (Ok _) = Adds old item new
AddAnswers old item new (Err fault.Memory) = ⊤
AddAnswers old item new (Err (fault.TooLarge count)) = IsFull item.need.kind old count
AddAnswers old item new (Err _) = ⊥

-- a head that is left is done
pub record Enters (old : Work) (head : Need) (new : Work) : Type 0 where
  pub index : Sets old.index new.index head (mark.Done 0)
  pub stack : new.stack.items ≡ old.stack.items
  pub counts : SameCounts old new
  pub put : new.put ≡ old.put

abbrev pub EnterAnswers : Work → Need → Option Open → Work → Result Unit CopyFault → Type 0
EnterAnswers old head (Some item) new (Ok _) = Adds old item new
EnterAnswers old head None new (Ok _) = Enters old head new
EnterAnswers old head found new (Err fault.Memory) = ⊤
EnterAnswers old head (Some item) new (Err (fault.TooLarge count)) = IsFull item.need.kind old count
EnterAnswers old head found new (Err _) = ⊥

-- an object came back to the stack, and one that it names was put above it
pub record Pushes (old : Work) (top item : Open) (new : Work) : Type 0 where
  pub index : Sets old.index new.index item.need mark.Open
  pub stack : new.stack.items ≡ (old.stack.items ++ top ∷ []) ++ item ∷ []
  pub counts : CountsOne item.need.kind old new
  pub put : new.put ≡ old.put

-- an object came back to the stack, and one that it names is left
pub record Leaves (old : Work) (top : Open) (need : Need) (new : Work) : Type 0 where
  pub index : Sets old.index new.index need (mark.Done 0)
  pub stack : new.stack.items ≡ old.stack.items ++ one_more top ∷ []
  pub counts : SameCounts old new
  pub put : new.put ≡ old.put

abbrev pub DescendAnswers : Work → Open → Need → Option Open → Work → Result Unit CopyFault → Type 0
DescendAnswers old top need (Some item) new (Ok _) = Pushes old top item new
DescendAnswers old top need None new (Ok _) = Leaves old top need new
DescendAnswers old top need found new (Err fault.Memory) = ⊤
DescendAnswers old top need (Some item) new (Err (fault.TooLarge count)) = IsFull item.need.kind old count
DescendAnswers old top need found new (Err _) = ⊥

-- an object that names one that is open: a commit lies below itself, and a tree too
abbrev pub ring_fault : Need → CopyFault
ring_fault need = at need.kind
  where
    at : Kind → CopyFault
    at kinds.Commit = fault.Ring need.name
    at _ = fault.TooLarge (MOST_TREES + 1)

-- ---- putting an object

-- how many trees lie below an open object: as its needs say, if it is a tree
abbrev pub HasHeight : Work → Open → ℕ → Type 0
HasHeight work top height = at top.need.kind
  where
    at : Kind → Type 0
    at kinds.Tree = IsHeight work.index top.needs.items height
    at _ = height ≡ 0

-- the write of an open object's text under its name
abbrev pub write_of : List ℕ → Open → Change
write_of folder item = Put (joined folder (object_place item.need.name)) item.text

-- an open object was put where it does not stand
abbrev pub Written : Bool → Change → History → History → Type 0
Written true change old new = new ≡ old
Written false change old new = new ≡ change ∷ old

-- the same, or nothing was written
abbrev pub MaybeWritten : Bool → Change → History → History → Type 0
MaybeWritten true change old new = new ≡ old
MaybeWritten false change old new = MaybeWrote change old new

-- one more where a put was made
abbrev pub put_after : Bool → ℕ → ℕ
put_after true put = put
put_after false put = raised put

-- an object was put that did not stand, and is done
pub record Finished (folder : List ℕ) (old new : History) (before : Work) (top : Open) (after : Work) : Type 0 where
  pub height : ℕ
  pub is_height : HasHeight before top height
  pub few : height ≤ MOST_TREES
  pub index : Sets before.index after.index top.need (mark.Done height)
  pub written : Written top.stands (write_of folder top) old new
  pub put : after.put ≡ put_after top.stands before.put

-- too many trees lie below a tree
pub record IsTooHigh (work : Work) (top : Open) (count : ℕ) : Type 0 where
  pub is_count : count ≡ MOST_TREES + 1
  pub is_tree : top.need.kind ≡ kinds.Tree
  pub height : ℕ
  pub is_height : IsHeight work.index top.needs.items height
  pub many : MOST_TREES < height

abbrev pub Finishes : List ℕ → History → History → Work → Open → Work → Result Unit CopyFault → Type 0
Finishes folder old new before top after (Ok _) = Finished folder old new before top after
Finishes folder old new before top after (Err fault.Memory) = MaybeWritten top.stands (write_of folder top) old new
Finishes folder old new before top after (Err fault.Disk) = MaybeWritten top.stands (write_of folder top) old new
Finishes folder old new before top after (Err (fault.TooLarge count)) = IsTooHigh before top count × (new ≡ old)
Finishes folder old new before top after (Err _) = ⊥
