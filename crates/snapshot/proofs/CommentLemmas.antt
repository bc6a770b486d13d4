-- Comments with their last edits, where one operation more comes.
use Rattle.std.proofs.Common.{◌≡◌, ◌∙◌, ◌++◌, ◌+◌, ◌-◌, ◌^◌, ◌<◌, ◌≤◌, min, refl, sym, ap, Bool, true, false, List, [], ◌∷◌, ℕ, Option, None, Some, map, length, append_assoc, append-nil, length-append, arith}
use Rattle.std.specs.Prelude.{if◌then◌else◌}
use Rattle.std.specs.Option.{option_or, unwrap_or}
use Rattle.std.proofs.lemmas.List.{map-append, length-map}
use Rattle.gb_text.specs.declared.id.Id.{Id}
use Rattle.op_kind.specs.declared.place.Common.{Common}
use Rattle.bug_ops.specs.Snapshots.{same_id, comment_of, edited, one_more, comments_after, list_after}
use Rattle.bug_ops.specs.declared.op.BugOp.{BugOp}
use Rattle.bug_ops.specs.declared.op.BugOp.TheVariants.{Create, SetTitle, AddComment, SetStatus, LabelChange, EditComment, NoOp, SetMetadata}
use Rattle.bug_ops.specs.declared.snapshot.Comment.{Comment}
use Rattle.snapshot.specs.LastMention.{last_found, message_in, comment_by_now, comment_in, comments_of}
use Rattle.snapshot.proofs.FoundLemmas.{found_more}

-- ---- an operation that edits nothing

-- no comment gets a message of the operation
abbrev EditsNothing : BugOp → Type 0
EditsNothing o = (id : Id) → message_in id o ≡ None

stays : (o : BugOp) → EditsNothing o → (c : Common) (message : List ℕ) (later : List BugOp) → comment_by_now c message (later ++ o ∷ []) ≡ comment_by_now c message later
stays o none c message later = ap (λ m. comment_of c (unwrap_or m message)) (found_more (message_in c.place.id) later o ∙ ap (λ m. option_or m (last_found (message_in c.place.id) later)) (none c.place.id))

one_stays : (o : BugOp) → EditsNothing o → (p : BugOp) (later : List BugOp) → comment_in p (later ++ o ∷ []) ≡ comment_in p later
one_stays o none (Create c title message files) later = ap (λ x. x ∷ []) (stays o none c message later)
one_stays o none (AddComment c message files) later = ap (λ x. x ∷ []) (stays o none c message later)
one_stays o none (SetTitle c title was) later = refl
one_stays o none (SetStatus c status) later = refl
one_stays o none (LabelChange c added removed) later = refl
one_stays o none (EditComment c target message files) later = refl
one_stays o none (NoOp c) later = refl
one_stays o none (SetMetadata c target pairs) later = refl

-- the comments with one operation more that edits nothing
all_stay : (o : BugOp) → EditsNothing o → (ops : List BugOp) → comments_of (ops ++ o ∷ []) ≡ comments_of ops ++ comment_in o []
all_stay o none [] = append-nil (comment_in o [])
all_stay o none (p ∷ later) =
    ap (λ cs. cs ++ comments_of (later ++ o ∷ [])) (one_stays o none p later)
    ∙ ap (λ cs. comment_in p later ++ cs) (all_stay o none later)
    ∙ sym (append_assoc (comment_in p later) (comments_of later) (comment_in o []))

-- ---- an edit

edited_by : (c : Common) (target : Id) (new message : List ℕ) (old : Option (List ℕ)) (b : Bool)
    → comment_of c (unwrap_or (option_or (if b then Some new else None) old) message) ≡ (if b then comment_of c new else comment_of c (unwrap_or old message))
edited_by c target new message old true = refl
edited_by c target new message old false = refl

module _ (e : Common) (target : Id) (new : List ℕ) (files : _) where
  one_edited : (c : Common) (message : List ℕ) (later : List BugOp) → comment_by_now c message (later ++ EditComment e target new files ∷ []) ≡ edited target new (comment_by_now c message later)
  one_edited c message later =
      ap (λ m. comment_of c (unwrap_or m message)) (found_more (message_in c.place.id) later (EditComment e target new files))
      ∙ edited_by c target new message (last_found (message_in c.place.id) later) (same_id c.place.id target)

  in_edited : (p : BugOp) (later : List BugOp) → comment_in p (later ++ EditComment e target new files ∷ []) ≡ map (edited target new) (comment_in p later)
  in_edited (Create c title message fs) later = ap (λ x. x ∷ []) (one_edited c message later)
  in_edited (AddComment c message fs) later = ap (λ x. x ∷ []) (one_edited c message later)
  in_edited (SetTitle c title was) later = refl
  in_edited (SetStatus c status) later = refl
  in_edited (LabelChange c added removed) later = refl
  in_edited (EditComment c t message fs) later = refl
  in_edited (NoOp c) later = refl
  in_edited (SetMetadata c t pairs) later = refl

  -- The comments with an edit behind all others.
  pub all_edited : (ops : List BugOp) → comments_of (ops ++ EditComment e target new files ∷ []) ≡ map (edited target new) (comments_of ops)
  all_edited [] = refl
  all_edited (p ∷ later) =
      ap (λ cs. cs ++ comments_of (later ++ EditComment e target new files ∷ [])) (in_edited p later)
      ∙ ap (λ cs. map (edited target new) (comment_in p later) ++ cs) (all_edited later)
      ∙ sym (map-append (edited target new) (comment_in p later) (comments_of later))

-- ---- one operation further

none_more : (o : BugOp) → EditsNothing o → comment_in o [] ≡ [] → (ops : List BugOp) → comments_of ops ≡ comments_of (ops ++ o ∷ [])
none_more o none is ops = sym (all_stay o none ops ∙ ap (λ cs. comments_of ops ++ cs) is ∙ append-nil (comments_of ops))

-- The comments one operation further.
pub list_more : (ops : List BugOp) (o : BugOp) → list_after (comments_of ops) o ≡ comments_of (ops ++ o ∷ [])
list_more ops (Create c title message files) = sym (all_stay (Create c title message files) (λ id. refl) ops)
list_more ops (AddComment c message files) = sym (all_stay (AddComment c message files) (λ id. refl) ops)
list_more ops (EditComment c target message files) = sym (all_edited c target message files ops)
list_more ops (SetTitle c title was) = none_more (SetTitle c title was) (λ id. refl) refl ops
list_more ops (SetStatus c status) = none_more (SetStatus c status) (λ id. refl) refl ops
list_more ops (LabelChange c added removed) = none_more (LabelChange c added removed) (λ id. refl) refl ops
list_more ops (NoOp c) = none_more (NoOp c) (λ id. refl) refl ops
list_more ops (SetMetadata c target pairs) = none_more (SetMetadata c target pairs) (λ id. refl) refl ops

-- a number, up to the greatest of 64 bits
abbrev up_to : ℕ → ℕ
up_to n = min n (2 ^ 64 - 1)

count_one : (list : List Comment) (c : Comment) → one_more (up_to (length list)) ≡ up_to (length (list ++ c ∷ []))
count_one list c = let more : length (list ++ c ∷ []) ≡ length list + 1 = length-append list (c ∷ []) in omega (arith, more)

counts : (list : List Comment) (o : BugOp) → comments_after (up_to (length list)) o ≡ up_to (length (list_after list o))
counts list (Create c title message files) = count_one list (comment_of c message)
counts list (AddComment c message files) = count_one list (comment_of c message)
counts list (EditComment c target message files) = ap up_to (sym (length-map list (edited target message)))
counts list (SetTitle c title was) = refl
counts list (SetStatus c status) = refl
counts list (LabelChange c added removed) = refl
counts list (NoOp c) = refl
counts list (SetMetadata c target pairs) = refl

-- Their number one operation further.
pub count_more : (ops : List BugOp) (o : BugOp) → comments_after (min (length (comments_of ops)) (2 ^ 64 - 1)) o ≡ min (length (comments_of (ops ++ o ∷ []))) (2 ^ 64 - 1)
count_more ops o = counts (comments_of ops) o ∙ ap (λ cs. up_to (length cs)) (list_more ops o)

-- ---- how many there are

at_most_one : (o : BugOp) (later : List BugOp) → length (comment_in o later) ≤ 1
at_most_one (Create c title message files) later = omega arith
at_most_one (AddComment c message files) later = omega arith
at_most_one (SetTitle c title was) later = omega arith
at_most_one (SetStatus c status) later = omega arith
at_most_one (LabelChange c added removed) later = omega arith
at_most_one (EditComment c target message files) later = omega arith
at_most_one (NoOp c) later = omega arith
at_most_one (SetMetadata c target pairs) later = omega arith

at_most_all : (ops : List BugOp) → length (comments_of ops) ≤ length ops
at_most_all [] = omega arith
at_most_all (o ∷ later) =
    let one = at_most_one o later in
    let rest = at_most_all later in
    let both : length (comment_in o later ++ comments_of later) ≡ length (comment_in o later) + length (comments_of later) = length-append (comment_in o later) (comments_of later) in
    omega (arith, one, rest, both)

-- The number of comments of fewer than 2^64 operations is exact.
pub exact_count : (ops : List BugOp) → length ops < 2 ^ 64 → min (length (comments_of ops)) (2 ^ 64 - 1) ≡ length (comments_of ops)
exact_count ops few = let most = at_most_all ops in omega (arith, few, most)
