-- Each state that can be reached is in order.
use Rattle.std.proofs.Common.{◌≡◌, ◌∙◌, ◌||◌, ◌++◌, ◌+◌, ◌-◌, ◌^◌, min, refl, sym, ap, Bool, true, false, List, [], ◌∷◌, ℕ, map, length, Option, Some, None, length-append, arith}
use Rattle.std.specs.Prelude.{is_some, if◌then◌else◌}
use Rattle.std.specs.BTreeMap.{insert_entry, is_at}
use Rattle.std.specs.Map.{lookup}
use Rattle.std.specs.List.{AllByRecursion}
use Rattle.std.specs.List.Sorted.{IsStrictlySortedBy}
use Rattle.std.specs.Cmp.Lexicographic.{nat_list_cmp_total}
use Rattle.std.proofs.lemmas.Bool.{or_parts}
use Rattle.std.proofs.lemmas.List.{length-map}
use Rattle.std.proofs.lemmas.List.Folds.{list_any-append}
use Rattle.std.proofs.lemmas.Map.{none_passes_from_lookup}
use Rattle.std.proofs.lemmas.Slice.Eq.{bytes_eq-Decides}
use Rattle.gb_text.specs.declared.id.Id.{Id}
use Rattle.op_kind.specs.Fold.{state_from}
use Rattle.op_kind.specs.Metadata.{Entries}
use Rattle.op_kind.specs.Pairs.{AreInKeyOrder}
use Rattle.op_kind.specs.Tables.{KeepsOp}
use Rattle.op_kind.specs.declared.place.Pair.{Pair}
use Rattle.op_kind.proofs.PairLemmas.{Ascends, empty_ascends, none_in_order, pairs_ascend}
use Rattle.op_kind.proofs.SortedLemmas.{put_sorted}
use Rattle.bug_ops.specs.BugTable.{bug_table}
use Rattle.bug_ops.specs.Kind.{bug_kind}
use Rattle.bug_ops.specs.Mentions.{StandOnce, IsInOrder}
use Rattle.bug_ops.specs.Snapshots.{by_bytes, same_id, is_seen, with_person, one_more, with_pair, with_pairs, joined_pairs, edited, labels_after, metadata_after, participants_after, comments_after, list_after, row_after, snapshot_after, empty_snapshot}
use Rattle.bug_ops.specs.declared.op.BugOp.{BugOp}
use Rattle.bug_ops.specs.declared.op.BugOp.TheVariants.{Create, SetTitle, AddComment, SetStatus, LabelChange, EditComment, NoOp, SetMetadata}
use Rattle.bug_ops.specs.declared.snapshot.Comment.{Comment}
use Rattle.bug_ops.specs.declared.snapshot.Snapshot.{Snapshot}
use Rattle.bug_ops.proofs.LabelLaws.{changed_ascend}

-- ---- metadata

-- Entries ascend with a further pair.
pair_ascends : (es : Entries) (p : Pair) → Ascends es → Ascends (with_pair es p)
pair_ascends es p s = by (lookup (is_at (by_bytes p.key)) es) refl
  where
    by : (o : Option (List ℕ)) → lookup (is_at (by_bytes p.key)) es ≡ o → Ascends (if is_some o then es else insert_entry by_bytes es p.key p.value)
    by (Some v) is = s
    by None is = put_sorted nat_list_cmp_total es p.key p.value (none_passes_from_lookup (is_at (by_bytes p.key)) es is) s

pairs_put_ascend : (es : Entries) (ps : List Pair) → Ascends es → Ascends (with_pairs es ps)
pairs_put_ascend es [] s = s
pairs_put_ascend es (p ∷ ps) s = pairs_put_ascend (with_pair es p) ps (pair_ascends es p s)

-- Joined pairs are in byte order of their keys, whatever they were before.
pub joined_ascend : (pairs others : List Pair) → AreInKeyOrder (joined_pairs pairs others)
joined_ascend pairs others = pairs_ascend (with_pairs (with_pairs [] pairs) others) (pairs_put_ascend (with_pairs [] pairs) others (pairs_put_ascend [] pairs empty_ascends))

-- ---- persons

same_back : (a b : Id) (t : Bool) → same_id b a ≡ t → same_id a b ≡ false → t ≡ false
same_back a b true is h = let e = (bytes_eq-Decides b.bytes a.bytes).0 is in let back = (bytes_eq-Decides a.bytes b.bytes).1 (sym e) in absurd (cc (h, back))
same_back a b false is h = refl

seen_behind : (ids : List Id) (id other : Id) → is_seen ids other ≡ false → same_id id other ≡ false → is_seen (ids ++ id ∷ []) other ≡ false
seen_behind ids id other h k =
    list_any-append (λ x. same_id x other) ids (id ∷ [])
    ∙ ap (λ b. b || (same_id id other || false)) h ∙ ap (λ b. b || false) k

once_behind : (ids : List Id) (id : Id) → is_seen ids id ≡ false → StandOnce ids → StandOnce (ids ++ id ∷ [])
once_behind [] id h once = (refl, tt)
once_behind (x ∷ xs) id h once =
    let parts = or_parts (same_id x id) (is_seen xs id) h in
    (seen_behind xs id x once.0 (same_back x id (same_id id x) refl parts.0), once_behind xs id parts.1 once.1)

person_once : (ids : List Id) (id : Id) → StandOnce ids → StandOnce (with_person ids id)
person_once ids id once = by (is_seen ids id) refl
  where
    by : (b : Bool) → is_seen ids id ≡ b → StandOnce (if b then ids else ids ++ id ∷ [])
    by true is = once
    by false is = once_behind ids id is once

-- ---- comments

counted : (n : ℕ) (list : List Comment) (c : Comment) → n ≡ min (length list) (2 ^ 64 - 1) → one_more n ≡ min (length (list ++ c ∷ [])) (2 ^ 64 - 1)
counted n list c h = let more : length (list ++ c ∷ []) ≡ length list + 1 = length-append list (c ∷ []) in omega (arith, h, more)

same_count : (n : ℕ) (list : List Comment) (f : Comment → Comment) → n ≡ min (length list) (2 ^ 64 - 1) → n ≡ min (length (map f list)) (2 ^ 64 - 1)
same_count n list f h = h ∙ ap (λ (m : ℕ). min m (2 ^ 64 - 1)) (sym (length-map list f))

-- ---- one step

labels_ok : (s : Snapshot) (o : BugOp) → IsInOrder s → IsStrictlySortedBy by_bytes (labels_after s.row.labels o)
labels_ok s (LabelChange c added removed) ok = changed_ascend s.row.labels added removed
labels_ok s (Create c title message files) ok = ok.labels
labels_ok s (SetTitle c title was) ok = ok.labels
labels_ok s (AddComment c message files) ok = ok.labels
labels_ok s (SetStatus c status) ok = ok.labels
labels_ok s (EditComment c target message files) ok = ok.labels
labels_ok s (NoOp c) ok = ok.labels
labels_ok s (SetMetadata c target pairs) ok = ok.labels

metadata_ok : (s : Snapshot) (o : BugOp) → KeepsOp bug_table o → IsInOrder s → AreInKeyOrder (metadata_after s.row.id s.row.metadata o)
metadata_ok s (Create c title message files) keeps ok = keeps.within.order
metadata_ok s (SetMetadata c target pairs) keeps ok = by (same_id target s.row.id)
  where
    by : (b : Bool) → AreInKeyOrder (if b then joined_pairs s.row.metadata pairs else s.row.metadata)
    by true = joined_ascend s.row.metadata pairs
    by false = ok.metadata
metadata_ok s (SetTitle c title was) keeps ok = ok.metadata
metadata_ok s (AddComment c message files) keeps ok = ok.metadata
metadata_ok s (SetStatus c status) keeps ok = ok.metadata
metadata_ok s (LabelChange c added removed) keeps ok = ok.metadata
metadata_ok s (EditComment c target message files) keeps ok = ok.metadata
metadata_ok s (NoOp c) keeps ok = ok.metadata

participants_ok : (s : Snapshot) (o : BugOp) → IsInOrder s → StandOnce (participants_after s.row.participants o)
participants_ok s (Create c title message files) ok = person_once s.row.participants c.place.author ok.participants
participants_ok s (AddComment c message files) ok = person_once s.row.participants c.place.author ok.participants
participants_ok s (SetTitle c title was) ok = ok.participants
participants_ok s (SetStatus c status) ok = ok.participants
participants_ok s (LabelChange c added removed) ok = ok.participants
participants_ok s (EditComment c target message files) ok = ok.participants
participants_ok s (NoOp c) ok = ok.participants
participants_ok s (SetMetadata c target pairs) ok = ok.participants

comments_ok : (s : Snapshot) (o : BugOp) → IsInOrder s → comments_after s.row.comments o ≡ min (length (list_after s.list o)) (2 ^ 64 - 1)
comments_ok s (Create c title message files) ok = counted s.row.comments s.list _ ok.comments
comments_ok s (AddComment c message files) ok = counted s.row.comments s.list _ ok.comments
comments_ok s (EditComment c target message files) ok = same_count s.row.comments s.list (edited target message) ok.comments
comments_ok s (SetTitle c title was) ok = ok.comments
comments_ok s (SetStatus c status) ok = ok.comments
comments_ok s (LabelChange c added removed) ok = ok.comments
comments_ok s (NoOp c) ok = ok.comments
comments_ok s (SetMetadata c target pairs) ok = ok.comments

-- A step leaves a snapshot in order.
pub step_in_order : (s : Snapshot) (o : BugOp) → KeepsOp bug_table o → IsInOrder s → IsInOrder (snapshot_after s o)
unfolding row_after
step_in_order s o keeps ok = record {
  labels = labels_ok s o ok;
  metadata = metadata_ok s o keeps ok;
  actors = person_once s.row.actors _ ok.actors;
  participants = participants_ok s o ok;
  comments = comments_ok s o ok;
}

-- The snapshot before any operation is in order.
pub start_in_order : IsInOrder empty_snapshot
unfolding IsStrictlySortedBy
start_in_order = record { labels = tt; metadata = none_in_order; actors = tt; participants = tt; comments = refl }

from_in_order : (s : Snapshot) (os : List BugOp) → AllByRecursion (KeepsOp bug_table) os → IsInOrder s → IsInOrder (state_from bug_kind s os)
from_in_order s [] all ok = ok
from_in_order s (o ∷ os) all ok = from_in_order (snapshot_after s o) os all.1 (step_in_order s o all.0 ok)

-- The snapshot of operations that keep the rules is in order.
pub reached_in_order : (os : List BugOp) → AllByRecursion (KeepsOp bug_table) os → IsInOrder (state_from bug_kind empty_snapshot os)
reached_in_order os all = from_in_order empty_snapshot os all start_in_order
