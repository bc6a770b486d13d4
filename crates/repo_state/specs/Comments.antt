-- What an argument finds that is the first digits of the id of a comment: the only comment of the folder with them, or why there is none.
use Rattle.std.specs.Prelude.{◌≡◌, ◌⊎◌, ℕ, List, [], ◌∷◌, map, not, Contains, IsTrue, false}
use Rattle.std.specs.Cmp.Lexicographic.{slice_cmp}
use Rattle.std.specs.List.Sorted.{IsStrictlySortedBy}
use Rattle.std.specs.Ordering.{nat_cmp}
use Rattle.hex.specs.Hex.{encode_lower}
use Rattle.gb_text.specs.Digits.{IsId}
use Rattle.gb_text.specs.Folder.{joined}
use Rattle.gb_text.specs.Prefix.{begins_with}
use Rattle.gb_text.specs.PrefixText.{is_prefix_text}
use Rattle.gb_text.specs.declared.id.Id.{Id}
use Rattle.gb_store.specs.Files.{Files}
use Rattle.ref_store.specs.Refs.{Head}
use Rattle.combined_id.specs.Combined.{combined_of, digits_at, is_second}
use Rattle.combined_id.specs.Lookup.{is_below}
use Rattle.bug_ops.specs.Kind.{bug_kind}
use Rattle.bug_ops.specs.declared.op.BugOp.{BugOp}
use Rattle.bug_ops.specs.declared.snapshot.Comment.{Comment}
use Rattle.snapshot.specs.LastMention.{snapshot_of}
use Rattle.dag_entity.specs.Entities.{ops_in}
use Rattle.dag_entity.specs.declared.entity.Entity.{Entity}
use Rattle.repo_state.specs.Bugs.{IsBug, IsDamagedBug, ReadsBelow}
use Rattle.repo_state.specs.Finds.{Finder}
use Rattle.repo_state.specs.Sides.{IsFirst, has_ref, head_at, ref_place}
use Rattle.repo_state.specs.declared.comments.CommentEntry.{CommentEntry}
use Rattle.repo_state.specs.declared.comments.FoundComment.{FoundComment}
use Rattle.repo_state.specs.declared.side.HeadEntry.{HeadEntry}
use Rattle.repo_state.specs.declared.side.Side.TheVariants as side
use Rattle.repo_state.specs.declared.stop.Missed.{Missed}
use Rattle.repo_state.specs.declared.stop.Missed.TheVariants as missed

-- ---- the bugs that are read

-- the digits of an argument at the places of a bug's id in the id of a comment
abbrev pub bug_digits : List ℕ → List ℕ
bug_digits word = digits_at (λ place. not (is_second place)) 0 word

-- a bug that is read for an argument of 1 to 64 digits: those of them at the places of a bug's id are the first of its id, and it has a ref
pub record IsSought (files : Files) (folder word : List ℕ) (id : Id) : Type 0 where
  pub is_id : IsId id
  pub is_prefix : IsTrue (is_prefix_text word)
  pub begins : IsTrue (begins_with (bug_digits word) (encode_lower id.bytes))
  pub stands : IsTrue (has_ref files folder side.Bugs id)

-- a bug with a ref, and its entity, in which nothing is wrong
pub record IsWholeBug (files : Files) (folder : List ℕ) (bug : HeadEntry) (entity : Entity BugOp) : Type 0 where
  pub head : head_at files folder side.Bugs bug.id ≡ Head bug.name
  pub is : IsBug files folder bug entity

-- nothing is wrong with any bug that is read
abbrev pub AllSoughtAreWhole : Files → List ℕ → List ℕ → Type 0
AllSoughtAreWhole files folder word =
    (id : Id) → IsSought files folder word id → (bug : HeadEntry) × (bug.id ≡ id) × (entity : Entity BugOp) × IsWholeBug files folder bug entity

-- ---- comments

-- the ids of the comments of a bug that has these operations, each that of the operation that made it
abbrev pub comment_ids : List BugOp → List Id
comment_ids ops = map (λ (c : Comment). c.id) (snapshot_of ops).list

-- the 64 digits of a comment's id: those of the bug's id and of the operation's, by places
abbrev pub comment_digits : CommentEntry → List ℕ
comment_digits c = combined_of (encode_lower c.bug.id.bytes) (encode_lower c.comment.bytes)

-- an id has the digits of a comment's
pub record IsIdOf (c : CommentEntry) (id : Id) : Type 0 where
  pub is_id : IsId id
  pub digits : encode_lower id.bytes ≡ comment_digits c

-- an argument fits a comment: it is the first digits of the comment's id, and the comment is one of a bug that is read
pub record FitsComment (files : Files) (folder word : List ℕ) (c : CommentEntry) : Type 0 where
  pub is_sought : IsSought files folder word c.bug.id
  pub begins : IsTrue (begins_with word (comment_digits c))
  pub entity : Entity BugOp
  pub is : IsWholeBug files folder c.bug entity
  pub has : Contains (comment_ids (ops_in bug_kind entity.packs)) c.comment

-- ---- what is found

-- the only comment that an argument fits, where nothing is wrong with any bug that is read
pub record FindsComment (files : Files) (folder word : List ℕ) (c : CommentEntry) : Type 0 where
  pub all : AllSoughtAreWhole files folder word
  pub fits : FitsComment files folder word c
  pub no_other : (other : CommentEntry) → FitsComment files folder word other → other ≡ c

-- of several comments that an argument fits the ids of two, which are the least: no other is less than the second
pub record AreLeastIds (files : Files) (folder word : List ℕ) (first second : Id) : Type 0 where
  pub one : CommentEntry
  pub two : CommentEntry
  pub differ : one ≡ two → ⊥
  pub fits_one : FitsComment files folder word one
  pub fits_two : FitsComment files folder word two
  pub is_first : IsIdOf one first
  pub is_second : IsIdOf two second
  pub ordered : is_below second first ≡ false
  pub above : (other : CommentEntry) (id : Id) → FitsComment files folder word other → IsIdOf other id → (other ≡ one) ⊎ (is_below id second ≡ false)

-- the ref of the first bug that is read and damaged stands at this path
abbrev pub HasDamagedBug : Files → List ℕ → List ℕ → List ℕ → Type 0
HasDamagedBug files folder word path =
    (id : Id) × IsFirst (λ one. IsSought files folder word one × IsDamagedBug files folder one) id × (path ≡ joined folder (ref_place side.Bugs id))

-- why no comment is found: the argument fits none, or several, or a bug that is read is damaged
abbrev pub FindsNoComment : Files → List ℕ → List ℕ → Missed → Type 0
FindsNoComment files folder word missed.NotFound = AllSoughtAreWhole files folder word × ((c : CommentEntry) → FitsComment files folder word c → ⊥)
FindsNoComment files folder word (missed.Ambiguous first second) = AllSoughtAreWhole files folder word × AreLeastIds files folder word first second
FindsNoComment files folder word (missed.Damaged path) = HasDamagedBug files folder word path

-- a comment, with its bug's head
abbrev pub comment_finder : Files → List ℕ → List ℕ → Finder CommentEntry
comment_finder files folder word = record { Found = FindsComment files folder word; Fails = FindsNoComment files folder word }

-- a comment, with its bug's head and entity
abbrev pub whole_comment_finder : Files → List ℕ → List ℕ → Finder FoundComment
whole_comment_finder files folder word = record {
  Found = λ found. FindsComment files folder word found.entry × IsBug files folder found.entry.bug found.entity;
  Fails = FindsNoComment files folder word;
}

-- ---- the reads

-- so many objects were read: at most three for each of some commits below the head of each of these bugs, one bug after the other
abbrev pub ReadsEachBug : Files → List ℕ → List HeadEntry → ℕ → ℕ → Type 0
ReadsEachBug files folder [] before after = after ≡ before
ReadsEachBug files folder (bug ∷ bugs) before after = (mid : ℕ) × ReadsBelow files folder bug before mid × ReadsEachBug files folder bugs mid after

-- the bugs that are read, each once, in the order of their ids
pub record AreSought (files : Files) (folder word : List ℕ) (bugs : List HeadEntry) : Type 0 where
  pub rising : IsStrictlySortedBy (slice_cmp nat_cmp) (map (λ (bug : HeadEntry). bug.id.bytes) bugs)
  pub each : (bug : HeadEntry) → Contains bugs bug → IsSought files folder word bug.id × (head_at files folder side.Bugs bug.id ≡ Head bug.name)

-- what was read to find a comment: some of the bugs that an argument fits, each once
abbrev pub ReadsSought : Files → List ℕ → List ℕ → ℕ → ℕ → Type 0
ReadsSought files folder word before after = (bugs : List HeadEntry) × AreSought files folder word bugs × ReadsEachBug files folder bugs before after
