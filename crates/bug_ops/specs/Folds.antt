-- What a fold keeps of a bug, so that no operation searches a list: the labels and the metadata in order, which persons were met, and the last edit of each id.
use Rattle.std.specs.Prelude.{◌≡◌, ⊤, ℕ, suc, ◌≤◌, nat_lt, not, length, List, [], ◌∷◌, map, filter, Option, Some, None, if◌then◌else◌}
use Rattle.std.specs.BTreeMap.{get, Updates}
use Rattle.std.specs.BTreeSet.{contains, IsOrdered}
use Rattle.std.specs.BTreeMap.{BTreeMap}
use Rattle.std.specs.BTreeSet.{BTreeSet}
use Rattle.std.specs.Str.{bytes_eq}
use Rattle.gb_text.specs.declared.id.Id.{Id}
use Rattle.op_kind.specs.Metadata.{pair_of}
use Rattle.op_kind.specs.Pairs.{AreInKeyOrder}
use Rattle.op_kind.specs.declared.place.Pair.{Pair}
use Rattle.bug_ops.specs.Snapshots.{by_bytes, Marks, is_seen, joined_pairs}
use Rattle.bug_ops.specs.declared.comments.Edit.{Edit}
use Rattle.bug_ops.specs.declared.snapshot.Comment.{Comment}
use Rattle.bug_ops.specs.declared.snapshot.Excerpt.{Excerpt}
use Rattle.bug_ops.specs.declared.fold.Index.{Index}
use Rattle.bug_ops.specs.declared.metadata.Metadata.{Metadata}
use Rattle.bug_ops.specs.declared.metadata.Metadata.TheVariants.{Created, Joined}

-- a comment at a place with the message of an edit, if it stood there before the edit
abbrev pub by_edit : Option Edit → ℕ → Comment → Comment
by_edit None n c = c
by_edit (Some e) n c = if nat_lt n e.before then record c { message = e.message } else c

-- the comments, whose places are counted from a number on, each with the last edit of its id
abbrev pub comments_from : BTreeMap (List ℕ) Edit → ℕ → List Comment → List Comment
comments_from edits n [] = []
comments_from edits n (c ∷ cs) = by_edit (get by_bytes edits c.id.bytes) n c ∷ comments_from edits (suc n) cs

-- the comments with their edits
abbrev pub comments_in : BTreeMap (List ℕ) Edit → List Comment → List Comment
comments_in edits list = comments_from edits 0 list

-- how many comments there were before an edit
abbrev pub before_of : Option Edit → ℕ
before_of None = 0
before_of (Some e) = e.before

-- no edit is of comments that are still to come
abbrev pub ArePast : BTreeMap (List ℕ) Edit → List Comment → Type 0
ArePast edits list = (bytes : List ℕ) → before_of (get by_bytes edits bytes) ≤ length list

-- the edits with one more: of a target, with a message, of so many comments
abbrev pub KeepsEdit : BTreeMap (List ℕ) Edit → BTreeMap (List ℕ) Edit → Id → List ℕ → ℕ → Type 0
KeepsEdit old new target message before = Updates by_bytes old new target.bytes (Some (record { message = message; before = before }))

-- those that were met are the persons of a list
abbrev pub AreMet : BTreeSet (List ℕ) → List Id → Type 0
AreMet met ids = (id : Id) → contains by_bytes met id.bytes ≡ is_seen ids id

-- a row with the labels, the persons and the metadata of another
abbrev pub with_lists : Excerpt → Excerpt → Excerpt
with_lists old r = record r { labels = old.labels; actors = old.actors; participants = old.participants; metadata = old.metadata }

-- texts as marks
abbrev pub marks_of : List (List ℕ) → Marks
marks_of ts = map (λ t. (t, tt)) ts

-- texts without some others, one after the other
abbrev pub without_each : List (List ℕ) → List (List ℕ) → List (List ℕ)
without_each ts [] = ts
without_each ts (r ∷ rs) = without_each (filter (λ t. not (bytes_eq t r)) ts) rs

-- the pairs that are kept
abbrev pub pairs_in : Metadata → List Pair
pairs_in (Created pairs) = pairs
pairs_in (Joined entries) = map pair_of entries.entries

-- the pairs that are kept with further ones
abbrev pub joined_to : Metadata → List Pair → List Pair
joined_to metadata pairs = joined_pairs (pairs_in metadata) pairs

-- once keys were set, the pairs are in byte order of their keys
abbrev pub AreJoined : Metadata → Type 0
AreJoined (Created pairs) = ⊤
AreJoined (Joined entries) = AreInKeyOrder (map pair_of entries.entries)

-- a row with the labels and the metadata that are kept beside it
abbrev pub row_in : Excerpt → Index → Excerpt
row_in r index = record r { labels = index.labels.keys; metadata = pairs_in index.metadata }

-- The index is that of a bug: its labels ascend, its actors and its participants were met, its edits are of comments that are there, and its metadata are in order once keys were set.
pub record IsIndexOf (row : Excerpt) (list : List Comment) (index : Index) : Type 0 where
  pub labels : IsOrdered by_bytes index.labels
  pub actors : AreMet index.actors row.actors
  pub participants : AreMet index.participants row.participants
  pub edits : ArePast index.edits list
  pub metadata : AreJoined index.metadata
