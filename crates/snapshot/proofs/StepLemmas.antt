-- One operation more is one step of the fold, and so the fold gives what the whole list says.
use Rattle.std.proofs.Common.{◌≡◌, ◌∙◌, ◌++◌, ◌<◌, ◌^◌, length, refl, sym, ap, subst, List, [], ◌∷◌, ℕ, Option, None, Some, append_assoc, append-nil}
use Rattle.std.specs.Prelude.{true}
use Rattle.std.specs.List.{AllByRecursion}
use Rattle.std.specs.Option.{unwrap_or}
use Rattle.gb_text.specs.declared.id.Id.{Id}
use Rattle.op_kind.specs.Fold.{row_from, state_from}
use Rattle.op_kind.specs.declared.place.Common.{Common}
use Rattle.bug_ops.specs.BugTable.{common_of_op}
use Rattle.bug_ops.specs.Kind.{bug_kind}
use Rattle.bug_ops.specs.Snapshots.{clock_or_zero, id_after, author_after, create_after, first_after, row_after, snapshot_after, empty_snapshot}
use Rattle.bug_ops.specs.declared.op.BugOp.{BugOp}
use Rattle.bug_ops.specs.declared.op.BugOp.TheVariants.{Create, SetTitle, AddComment, SetStatus, LabelChange, EditComment, NoOp, SetMetadata}
use Rattle.bug_ops.specs.declared.snapshot.Snapshot.{Snapshot}
use Rattle.snapshot.specs.LastMention.{last_item, first_of_each, comments_of, snapshot_of, IsLater, IsBug, IsBugList}
use Rattle.snapshot.proofs.FoundLemmas.{title_more, status_more, last_more}
use Rattle.snapshot.proofs.PersonLemmas.{actors_more, participants_more}
use Rattle.snapshot.proofs.LabelLemmas.{labels_more}
use Rattle.snapshot.proofs.CommentLemmas.{list_more, count_more, exact_count}
use Rattle.snapshot.proofs.MetadataLemmas.{metadata_more, ordered_are_first}

-- what the first operation alone says stays behind it
id_stays : (id : Id) (o : BugOp) → IsLater o → id_after id o ≡ id
id_stays id (Create c title message files) later = absurd (cc (later))
id_stays id (SetTitle c title was) later = refl
id_stays id (AddComment c message files) later = refl
id_stays id (SetStatus c status) later = refl
id_stays id (LabelChange c added removed) later = refl
id_stays id (EditComment c target message files) later = refl
id_stays id (NoOp c) later = refl
id_stays id (SetMetadata c target pairs) later = refl

author_stays : (id : Id) (o : BugOp) → IsLater o → author_after id o ≡ id
author_stays id (Create c title message files) later = absurd (cc (later))
author_stays id (SetTitle c title was) later = refl
author_stays id (AddComment c message files) later = refl
author_stays id (SetStatus c status) later = refl
author_stays id (LabelChange c added removed) later = refl
author_stays id (EditComment c target message files) later = refl
author_stays id (NoOp c) later = refl
author_stays id (SetMetadata c target pairs) later = refl

create_stays : (n : ℕ) (o : BugOp) → IsLater o → create_after n o ≡ n
create_stays n (Create c title message files) later = absurd (cc (later))
create_stays n (SetTitle c title was) later = refl
create_stays n (AddComment c message files) later = refl
create_stays n (SetStatus c status) later = refl
create_stays n (LabelChange c added removed) later = refl
create_stays n (EditComment c target message files) later = refl
create_stays n (NoOp c) later = refl
create_stays n (SetMetadata c target pairs) later = refl

first_stays : (n : ℕ) (o : BugOp) → IsLater o → first_after n o ≡ n
first_stays n (Create c title message files) later = absurd (cc (later))
first_stays n (SetTitle c title was) later = refl
first_stays n (AddComment c message files) later = refl
first_stays n (SetStatus c status) later = refl
first_stays n (LabelChange c added removed) later = refl
first_stays n (EditComment c target message files) later = refl
first_stays n (NoOp c) later = refl
first_stays n (SetMetadata c target pairs) later = refl

-- One operation more is one step.
pub step_is : (o : BugOp) (ops : List BugOp) (p : BugOp) → IsLater p → snapshot_after (snapshot_of (o ∷ ops)) p ≡ snapshot_of (o ∷ ops ++ p ∷ [])
unfolding row_after
step_is o ops p later =
    let last : p ≡ last_item o (ops ++ p ∷ []) = sym (last_more o ops p) in
    λ i. record {
      row = record {
        id = id_stays (common_of_op o).place.id p later i;
        title = title_more (o ∷ ops) p i;
        status = status_more (o ∷ ops) p i;
        labels = labels_more (o ∷ ops) p i;
        author = author_stays (common_of_op o).place.author p later i;
        actors = actors_more (o ∷ ops) p i;
        participants = participants_more (o ∷ ops) p i;
        create = create_stays (unwrap_or (common_of_op o).place.create 0) p later i;
        edit = (common_of_op (last i)).place.edit;
        first = first_stays (common_of_op o).time p later i;
        last = (common_of_op (last i)).time;
        comments = count_more (o ∷ ops) p i;
        metadata = metadata_more (common_of_op o) ops p later i;
      };
      list = list_more (o ∷ ops) p i;
    }

-- the clock of a creation, and 0 where it has none
clock_is : (clock : Option ℕ) → clock_or_zero clock ≡ unwrap_or clock 0
clock_is None = refl
clock_is (Some n) = refl

-- the first operation's step
first_is : (o : BugOp) (later : List BugOp) → IsBug o later → snapshot_after empty_snapshot o ≡ snapshot_of (o ∷ [])
unfolding row_after
first_is (Create c title message files) later bug =
    let pairs = ordered_are_first c.metadata bug.metadata in
    let all = ap (λ ps. first_of_each ps) (append-nil c.metadata) ∙ pairs in
    let made = snapshot_of (Create c title message files ∷ []) in
    λ i. record { row = record made.row { create = clock_is c.place.create i; metadata = sym all i }; list = comments_of (Create c title message files ∷ []) }
first_is (SetTitle c title was) later bug = let h = bug.first in absurd (cc (h))
first_is (AddComment c message files) later bug = let h = bug.first in absurd (cc (h))
first_is (SetStatus c status) later bug = let h = bug.first in absurd (cc (h))
first_is (LabelChange c added removed) later bug = let h = bug.first in absurd (cc (h))
first_is (EditComment c target message files) later bug = let h = bug.first in absurd (cc (h))
first_is (NoOp c) later bug = let h = bug.first in absurd (cc (h))
first_is (SetMetadata c target pairs) later bug = let h = bug.first in absurd (cc (h))

from_is : (o : BugOp) (front ops : List BugOp) → AllByRecursion IsLater ops → state_from bug_kind (snapshot_of (o ∷ front)) ops ≡ snapshot_of (o ∷ front ++ ops)
from_is o front [] all = ap (λ ops. snapshot_of (o ∷ ops)) (sym (append-nil front))
from_is o front (p ∷ ps) all =
    ap (λ s. state_from bug_kind s ps) (step_is o front p all.0)
    ∙ from_is o (front ++ p ∷ []) ps all.1
    ∙ ap (λ ops. snapshot_of (o ∷ ops)) (append_assoc front (p ∷ []) ps)

-- The fold of a bug's operations is what they say by their last mentions.
pub fold_is : (ops : List BugOp) → IsBugList ops → state_from bug_kind bug_kind.initial ops ≡ snapshot_of ops
fold_is [] bug = absurd bug
fold_is (o ∷ ops) bug = ap (λ s. state_from bug_kind s ops) (first_is o ops bug) ∙ from_is o [] ops bug.rest

-- One operation more of a bug is one step.
pub more_is_step : (ops : List BugOp) (p : BugOp) → IsBugList ops → IsLater p → bug_kind.state_after (snapshot_of ops) p ≡ snapshot_of (ops ++ p ∷ [])
more_is_step [] p bug later = absurd bug
more_is_step (o ∷ ops) p bug later = step_is o ops p later

-- The row of one operation more is one step further.
pub row_step : (ops : List BugOp) (p : BugOp) → IsBugList ops → IsLater p → bug_kind.row_after (snapshot_of ops).row p ≡ (snapshot_of (ops ++ p ∷ [])).row
row_step ops p bug later = ap (λ (s : Snapshot). s.row) (more_is_step ops p bug later)

-- the snapshot is an old one but for its actors, and for the clock and the time of its last operation
abbrev pub IsActedOn : Snapshot → Snapshot → Type 0
IsActedOn old new = new ≡ record old { row = record old.row { actors = new.row.actors; edit = new.row.edit; last = new.row.last } }

no_op_step : (old : Snapshot) (c : Common) → IsActedOn old (snapshot_after old (NoOp c))
unfolding row_after
no_op_step old c = refl

-- A no-op changes nothing but who acted, and the clock and the time of the last operation.
pub no_op_is : (ops : List BugOp) (c : Common) → IsBugList ops → IsActedOn (snapshot_of ops) (snapshot_of (ops ++ NoOp c ∷ []))
no_op_is ops c bug = subst (IsActedOn (snapshot_of ops)) (more_is_step ops (NoOp c) bug refl) (no_op_step (snapshot_of ops) c)

-- ---- which operations are those of a bug

-- Operations of which the first keeps the rules are those of a bug.
pub read_are_bug : (o : BugOp) (later : List BugOp) → bug_kind.is_opening o ≡ true → bug_kind.KeepsRules o → AllByRecursion IsLater later → IsBugList (o ∷ later)
read_are_bug o later first keeps all = record { first = first; metadata = keeps.within.order; rest = all }

all_later : (ops : List BugOp) (p : BugOp) → AllByRecursion IsLater ops → IsLater p → AllByRecursion IsLater (ops ++ p ∷ [])
all_later [] p all later = (later, tt)
all_later (o ∷ ops) p all later = (all.0, all_later ops p all.1 later)

-- One that may follow can be added.
pub more_are_bug : (ops : List BugOp) (p : BugOp) → IsBugList ops → IsLater p → IsBugList (ops ++ p ∷ [])
more_are_bug [] p bug later = absurd bug
more_are_bug (o ∷ ops) p bug later = record { first = bug.first; metadata = bug.metadata; rest = all_later ops p bug.rest later }

-- So is that of several more, one step for each.
pub row_steps : (ops more : List BugOp) → IsBugList ops → AllByRecursion IsLater more → row_from bug_kind (snapshot_of ops).row more ≡ (snapshot_of (ops ++ more)).row
row_steps ops [] bug all = ap (λ (l : List BugOp). (snapshot_of l).row) (sym (append-nil ops))
row_steps ops (p ∷ ps) bug all =
    ap (λ r. row_from bug_kind r ps) (row_step ops p bug all.0)
    ∙ row_steps (ops ++ p ∷ []) ps (more_are_bug ops p bug all.0) all.1
    ∙ ap (λ (l : List BugOp). (snapshot_of l).row) (append_assoc ops (p ∷ []) ps)

-- Several that may follow can be added.
pub several_are_bug : (ops more : List BugOp) → IsBugList ops → AllByRecursion IsLater more → IsBugList (ops ++ more)
several_are_bug ops [] bug all = subst IsBugList (sym (append-nil ops)) bug
several_are_bug ops (p ∷ ps) bug all = subst IsBugList (append_assoc ops (p ∷ []) ps) (several_are_bug (ops ++ p ∷ []) ps (more_are_bug ops p bug all.0) all.1)

-- The number of comments of fewer than 2^64 operations is exact.
pub count_is : (ops : List BugOp) → length ops < 2 ^ 64 → (snapshot_of ops).row.comments ≡ length (snapshot_of ops).list
count_is [] few = refl
count_is (o ∷ later) few = exact_count (o ∷ later) few
