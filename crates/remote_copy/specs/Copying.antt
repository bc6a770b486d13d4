-- What is so of a copy on its way, whatever its next step: what is open and what is done.
use Rattle.std.specs.Prelude.{◌≡◌, ◌≢◌, ◌⊎◌, ◌≤◌, ◌<◌, ◌+◌, Bool, ℕ, List, [], ◌∷◌, All, Contains, length, take, Some, Result, Ok, Err, ⊤}
use Rattle.std.specs.List.{AllPairs}
use Rattle.gb_text.specs.declared.id.Name.{Name}
use Rattle.gb_text.specs.Digits.{IsName}
use Rattle.gb_store.specs.Files.{History}
use Rattle.gb_store.specs.Moments.{Wrote}
use Rattle.git_object.specs.declared.frame.Kind.{Kind}
use Rattle.git_object.specs.declared.frame.Kind.TheVariants as kinds
use Rattle.git_object.specs.declared.object.Object.{Object}
use Rattle.git_object.specs.Grammar.{kind_of}
use Rattle.git_object.specs.Reading.{object_of}
use Rattle.object_store.specs.Growth.{OnlyGrew}
use Rattle.object_store.specs.Held.{Objects, objects_after, text_at}
use Rattle.object_batch.specs.Needs.{Leads, NamesNext, Reference}
use Rattle.commit_walk.specs.Distinct.{AreDistinct}
use Rattle.remote_copy.specs.Answers.{standing}
use Rattle.remote_copy.specs.Causes.{CauseHolds, IsCommit, IsOther, LeadsOn}
use Rattle.remote_copy.specs.Closure.{IsFollowed, IsLeft}
use Rattle.remote_copy.specs.Index.{IsDone, IsDoneAt, IsMet, WasOpened, mark_of}
use Rattle.remote_copy.specs.Needs.{as_kind, needs_of}
use Rattle.remote_copy.specs.Opens.{IsSource, ref_of}
use Rattle.remote_copy.specs.Writes.{PutsCopy}
use Rattle.remote_copy.specs.declared.fault.CopyFault.{CopyFault}
use Rattle.remote_copy.specs.declared.fault.CopyFault.TheVariants as fault
use Rattle.remote_copy.specs.declared.index.Index.{Index}
use Rattle.remote_copy.specs.declared.index.Mark.TheVariants as mark
use Rattle.remote_copy.specs.declared.need.Need.{Need}
use Rattle.remote_copy.specs.declared.open.Open.{Open}
use Rattle.remote_copy.specs.declared.open.TheConstants.{MOST_TREES}
use Rattle.commit_walk.specs.declared.below.TheConstants.{MOST_COMMITS}
use Rattle.remote_copy.specs.declared.work.TheConstants.{MOST_OTHERS}
use Rattle.remote_copy.specs.declared.work.Work.{Work}

-- so many trees lie below an object, one below the other
pub record HasTrees (source : Objects) (need : Need) (height : ℕ) : Type 0 where
  pub path : List Reference
  pub last : Reference
  pub leads : Leads source (ref_of need) path last
  pub trees : All (λ (one : Reference). one.kind ≡ kinds.Tree) path
  pub long : length path ≡ height

-- the one object names the other, perhaps through more
abbrev pub IsAbove : Bool → Objects → Objects → Open → Open → Type 0
IsAbove closed source entry low high = (low.need ≢ high.need) × LeadsOn closed source entry (ref_of low.need) (ref_of high.need)

-- what a reference of a definition is to the code
abbrev pub need_of : Reference → Need
need_of one = as_kind one.kind one.name

-- objects, each behind all that it names but for commits that are left; the last of them first
abbrev pub InOrder : Bool → Objects → Objects → List Need → Type 0
InOrder closed source entry [] = ⊤
InOrder closed source entry (need ∷ earlier) =
    ((low : Reference) → NamesNext source (ref_of need) low → IsLeft closed entry low ⊎ Contains earlier (need_of low)) × InOrder closed source entry earlier

-- an object that was opened: it is followed, and the source holds it
pub record IsOpened (closed : Bool) (source entry : Objects) (head : Name) (need : Need) (text : List ℕ) (object : Object) : Type 0 where
  pub followed : IsFollowed closed source entry head (ref_of need)
  pub is : IsSource source need text object

-- an open object: its first needs are done, and its text stands in the target or nothing does
pub record IsOpen (closed : Bool) (source entry target : Objects) (head : Name) (index : Index) (item : Open) : Type 0 where
  pub object : Object
  pub opened : IsOpened closed source entry head item.need item.text object
  pub needs : item.needs.items ≡ needs_of object
  pub done : (need : Need) → Contains (take item.next item.needs.items) need → IsDone index need
  pub there : target item.need.name ≡ standing item.stands item.text
  pub is_marked : mark_of index item.need.kind item.need.name ≡ Some mark.Open

-- an object that is done: it stands in the target as in the source, all its needs are done, and so many trees lie below it
pub record IsFinished (closed : Bool) (source entry target : Objects) (head : Name) (index : Index) (need : Need) (height : ℕ) : Type 0 where
  pub text : List ℕ
  pub object : Object
  pub opened : IsOpened closed source entry head need text object
  pub there : target need.name ≡ Some text
  pub done : (low : Need) → Contains (needs_of object) low → IsDone index low
  pub few : height ≤ MOST_TREES
  pub trees : HasTrees source need height
  pub above : need.kind ≡ kinds.Tree → (low : Need) (below : ℕ) → Contains (needs_of object) low → low.kind ≡ kinds.Tree → IsDoneAt index low below → below < height

-- what the target has more than at entry: an object of the source, which is done
pub record IsAdded (source : Objects) (index : Index) (name : Name) (text : List ℕ) : Type 0 where
  pub object : Object
  pub held : text_at source name ≡ Some text
  pub is : object_of text ≡ Some object
  pub done : IsDone index (as_kind (kind_of object) name)

-- the objects of such kinds that were opened, as many as were counted
pub record AreCounted (closed : Bool) (source entry : Objects) (head : Name) (index : Index) (IsOne : Kind → Type 0) (count : ℕ) : Type 0 where
  pub them : List Need
  pub once : AreDistinct them
  pub long : length them ≡ count
  pub each : (need : Need) → Contains them need → IsOne need.kind × ((text : List ℕ) × (object : Object) × IsOpened closed source entry head need text object) × IsMet index need
  pub all : (need : Need) → IsMet index need → IsOne need.kind → IsLeft closed entry (ref_of need) ⊎ Contains them need

-- a name was met as that of one of some kind, which is not left
pub record IsMetAs (closed : Bool) (entry : Objects) (index : Index) (name : Name) : Type 0 where
  pub need : Need
  pub is_named : need.name ≡ name
  pub met : IsMet index need
  pub unleft : IsLeft closed entry (ref_of need) → ⊥

-- a copy on its way, with these objects open
pub record IsCopyingWith (closed : Bool) (source entry target : Objects) (head : Name) (index : Index) (commits others put : ℕ) (stack : List Open) : Type 0 where
  pub grew : OnlyGrew entry target
  pub added : (name : Name) (text : List ℕ) → IsName name → target name ≡ Some text → (entry name ≡ Some text) ⊎ IsAdded source index name text
  pub opens : (item : Open) → Contains stack item → IsOpen closed source entry target head index item
  pub path : AllPairs (IsAbove closed source entry) stack
  pub is_open : (need : Need) → mark_of index need.kind need.name ≡ Some mark.Open → (item : Open) × Contains stack item × (item.need ≡ need)
  pub finished : (need : Need) (height : ℕ) → IsDoneAt index need height → IsLeft closed entry (ref_of need) ⊎ IsFinished closed source entry target head index need height
  pub order : List Need
  pub in_order : InOrder closed source entry order
  pub ordered : (need : Need) (height : ℕ) → IsDoneAt index need height → IsLeft closed entry (ref_of need) ⊎ Contains order need
  pub are_commits : AreCounted closed source entry head index IsCommit commits
  pub are_others : AreCounted closed source entry head index IsOther others
  pub first : IsMet index (as_kind kinds.Commit head)
  pub names : (name : Name) → WasOpened index name → IsMetAs closed entry index name
  pub few_commits : commits ≤ MOST_COMMITS
  pub few_others : others ≤ MOST_OTHERS
  pub few_put : put + length stack ≤ commits + others

abbrev pub IsCopying : Bool → Objects → Objects → Objects → Name → Work → List Open → Type 0
IsCopying closed source entry target head work stack = IsCopyingWith closed source entry target head work.index work.commits work.others work.put stack

-- the answer to a step, and whether the copy goes on
abbrev pub StepAnswers : Bool → Objects → Objects → Objects → Name → Work → Result Unit CopyFault → Type 0
StepAnswers closed source entry target head work (Ok _) = IsCopying closed source entry target head work work.stack.items
StepAnswers closed source entry target head work (Err fault.Memory) = ⊤
StepAnswers closed source entry target head work (Err fault.Disk) = ⊤
StepAnswers closed source entry target head work (Err e) = CauseHolds closed source entry head e

-- as many writes as objects were put
abbrev pub CountsPut : History → History → Work → Work → Result Unit CopyFault → Type 0
CountsPut old new before after (Ok _) = length new + before.put ≡ length old + after.put
CountsPut old new before after (Err _) = ⊤

-- what a step of a copy on its way does
pub record Steps (closed : Bool) (source target : List ℕ) (entry : Objects) (head : Name) (old new : History) (before after : Work) (result : Result Unit CopyFault) : Type 0 where
  pub wrote : Wrote (PutsCopy closed source target entry head) old new
  pub kept : objects_after new source ≡ objects_after old source
  pub counted : CountsPut old new before after result
  pub answers : StepAnswers closed (objects_after old source) entry (objects_after new target) head after result
