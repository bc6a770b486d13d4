-- What follows of the operation that an edit adds, by the laws of its row.
use Rattle.std.proofs.Common.{◌≡◌, ◌≢◌, ◌++◌, ℕ, arith, true, List, [], ◌∷◌, Ok, Err, Option, Some, None, IsUtf8, refl, sym, ◌∙◌, ap, subst}
use Rattle.std.specs.Prelude.{⊤}
use Rattle.std.specs.List.{AllByRecursion}
use Rattle.std.specs.Option.{option_or, unwrap_or}
use Rattle.std.proofs.lemmas.List.{append_cancel_right}
use Rattle.sha2.specs.Sha256.{sha256}
use Rattle.gb_text.specs.Digits.{IsId}
use Rattle.gb_text.specs.declared.ruled.Message.{Message}
use Rattle.gb_text.specs.declared.ruled.Title.{Title}
use Rattle.op_kind.specs.declared.place.Common.{Common}
use Rattle.op_kind.specs.declared.place.Place.{Place}
use Rattle.bug_ops.specs.Kind.{bug_kind}
use Rattle.bug_ops.specs.Laws.{bug_keeps_laws}
use Rattle.bug_ops.specs.Snapshots.{with_person}
use Rattle.bug_ops.specs.declared.op.BugOp.{BugOp}
use Rattle.bug_ops.specs.declared.op.BugOp.TheVariants.{AddComment, Create, EditComment, LabelChange, NoOp, SetMetadata, SetStatus, SetTitle}
use Rattle.bug_ops.specs.declared.snapshot.Snapshot.{Snapshot}
use Rattle.snapshot.specs.LastMention.{IsBugList, last_found, snapshot_of, title_in}
use Rattle.snapshot.proofs.ActLemmas.{who_acted}
use Rattle.snapshot.proofs.FieldLemmas.{has_title}
use Rattle.snapshot.proofs.StepLemmas.{more_is_step}
use Rattle.bug_edits.specs.EditLaws.{with_op}
use Rattle.bug_edits.specs.EditTable.{KeepsAllElse, edit_op, row_of, unless}
use Rattle.bug_edits.specs.NewOps.{IsOfTheMoment, create_op, new_common, nonce_from}
use Rattle.bug_edits.specs.declared.edit.BugEdit.{BugEdit}
use Rattle.bug_edits.specs.declared.edit.NoChange.{NoChange}
use Rattle.bug_edits.specs.declared.moment.Moment.{Moment}
use Rattle.bug_edits.proofs.RowLemmas.{keeps_laws}
use Rattle.bug_edits.proofs.RuleLemmas.{create_rules, is_within}

made_is : (barred : Option NoChange) (made op : BugOp) → unless barred made ≡ Ok op → made ≡ op
made_is None made op is = cc is
made_is (Some why) made op is = absurd (cc is)

barred_is : (barred : Option NoChange) (made : BugOp) (why : NoChange) → unless barred made ≡ Err why → barred ≡ Some why
barred_is None made why is = absurd (cc is)
barred_is (Some other) made why is = let same : other ≡ why = cc is in ap Some same

-- where an edit would change nothing it adds none, and only there
pub nothing_is_refused : (moment : Moment) (e : BugEdit) (bug : Snapshot) (why : NoChange) → (row_of e).ChangesNothing why bug → edit_op moment e bug ≡ Err why
nothing_is_refused moment e bug why nothing = ap (λ (barred : Option NoChange). unless barred ((row_of e).made moment bug)) ((keeps_laws e).bars bug why nothing)

pub refused_as : (moment : Moment) (e : BugEdit) (bug : Snapshot) (why : NoChange) → edit_op moment e bug ≡ Err why → (row_of e).ChangesNothing why bug
refused_as moment e bug why is = (keeps_laws e).only bug why (barred_is ((row_of e).barred bug) ((row_of e).made moment bug) why is)

module _ (moment : Moment) (e : BugEdit) (bug : Snapshot) (op : BugOp) (is : edit_op moment e bug ≡ Ok op) where
  -- the operation is the one of the row
  pub made_by_row : (row_of e).made moment bug ≡ op
  made_by_row = made_is ((row_of e).barred bug) ((row_of e).made moment bug) op is

  -- it has the time and the seed of the command
  pub of_the_moment : IsOfTheMoment moment op
  of_the_moment = subst (IsOfTheMoment moment) made_by_row ((keeps_laws e).anew moment bug)

  -- it may follow others
  pub may_follow : bug_kind.is_following op ≡ true
  may_follow = subst (λ (o : BugOp). bug_kind.is_following o ≡ true) made_by_row ((keeps_laws e).follows moment bug)

module _ (moment : Moment) (ops : List BugOp) (op : BugOp) (bug : IsBugList ops) (place : Place) (e : BugEdit) (is : edit_op moment e (snapshot_of ops) ≡ Ok op) where
  follows : bug_kind.is_following (bug_kind.placed place op) ≡ true
  follows = bug_keeps_laws.follows_anywhere place op ∙ may_follow moment e (snapshot_of ops) op is

  -- what is so of the step of the row's operation is so of what the bug says with it
  stepped : (P : Snapshot → Type 0) → P (bug_kind.state_after (snapshot_of ops) (bug_kind.placed place ((row_of e).made moment (snapshot_of ops)))) → P (with_op ops place op)
  stepped P holds =
      subst P (more_is_step ops (bug_kind.placed place op) bug follows)
      (subst (λ (o : BugOp). P (bug_kind.state_after (snapshot_of ops) (bug_kind.placed place o))) (made_by_row moment e (snapshot_of ops) op is) holds)

  -- what the bug says with it
  pub said : (row_of e).Says moment place (snapshot_of ops) (with_op ops place op)
  said = stepped ((row_of e).Says moment place (snapshot_of ops)) ((keeps_laws e).says moment place (snapshot_of ops))

  -- all else is as it was
  pub else_kept : KeepsAllElse (row_of e) (snapshot_of ops) (with_op ops place op)
  else_kept = stepped (KeepsAllElse (row_of e) (snapshot_of ops)) ((keeps_laws e).keeps moment place (snapshot_of ops))

  -- who acted, the clock and the time of the last operation are the edit's
  pub who_and_when : ((with_op ops place op).row.actors ≡ with_person (snapshot_of ops).row.actors place.author) × ((with_op ops place op).row.edit ≡ place.edit) × ((with_op ops place op).row.last ≡ moment.now)
  who_and_when =
      let acted = who_acted ops (bug_kind.placed place op) bug follows in
      let moved = bug_keeps_laws.moves place op in (
        acted.0 ∙ ap (λ (c : Common). with_person (snapshot_of ops).row.actors c.place.author) moved,
        acted.1 ∙ ap (λ (c : Common). c.place.edit) moved,
        acted.2 ∙ ap (λ (c : Common). c.time) moved ∙ (of_the_moment moment e (snapshot_of ops) op is).time,
      )

-- ---- the rules

abbrev TitleOk : Option (List ℕ) → Type 0
TitleOk None = ⊤
TitleOk (Some title) = IsUtf8 title

title_ok : (o : BugOp) → bug_kind.KeepsRules o → TitleOk (title_in o)
title_ok (Create c title message files) keeps = keeps.values.0.utf8
title_ok (SetTitle c title was) keeps = keeps.values.0.utf8
title_ok (AddComment c message files) keeps = tt
title_ok (SetStatus c status) keeps = tt
title_ok (LabelChange c added removed) keeps = tt
title_ok (EditComment c target message files) keeps = tt
title_ok (NoOp c) keeps = tt
title_ok (SetMetadata c target pairs) keeps = tt

either_ok : (one other : Option (List ℕ)) → TitleOk one → TitleOk other → TitleOk (option_or one other)
either_ok None other one_ok other_ok = other_ok
either_ok (Some title) other one_ok other_ok = one_ok

last_ok : (ops : List BugOp) → AllByRecursion (λ (o : BugOp). bug_kind.KeepsRules o) ops → TitleOk (last_found title_in ops)
last_ok [] all = tt
last_ok (o ∷ later) all = either_ok (last_found title_in later) (title_in o) (last_ok later all.1) (title_ok o all.0)

is_text : (title : Option (List ℕ)) → TitleOk title → IsUtf8 (unwrap_or title [])
is_text None ok = ([], (refl, refl))
is_text (Some title) ok = ok

-- an operation that is added keeps the rules, as those of the bug do
pub added_keeps : (moment : Moment) (e : BugEdit) (ops : List BugOp) (op : BugOp) → AllByRecursion (λ (o : BugOp). bug_kind.KeepsRules o) ops → IsId (snapshot_of ops).row.id
    → edit_op moment e (snapshot_of ops) ≡ Ok op → bug_kind.KeepsRules op
added_keeps moment e ops op all id is =
    subst bug_kind.KeepsRules (made_by_row moment e (snapshot_of ops) op is)
    ((keeps_laws e).rules moment (snapshot_of ops) (record { title = subst IsUtf8 (sym (has_title ops)) (is_text (last_found title_in ops) (last_ok ops all)); id = id }))

-- one that begins a bug does
pub begun_keeps : (moment : Moment) (title : Title) (message : Message) → bug_kind.KeepsRules (create_op moment title message)
begun_keeps moment title message = create_rules (new_common moment 1) (is_within moment 1 (omega arith)) title.text message.text [] refl title.utf8 title.is_title message.utf8 message.is_message refl

-- ---- seeds

pub seeds_differ : (one other : List ℕ) → one ≢ other → nonce_from one ≡ nonce_from other → (text : List ℕ) × (second : List ℕ) × (text ≢ second) × (sha256 text ≡ sha256 second)
seeds_differ one other differ same = (one ++ 0 ∷ [], other ++ 0 ∷ [], (λ is. differ (append_cancel_right one other (0 ∷ []) is)), same)
