-- The rules of the operation of each edit, and the laws of its row.
use Rattle.std.proofs.Common.{◌≡◌, ◌||◌, ◌&&◌, Bool, true, false, not, IsUtf8, ℕ, List, [], ◌∷◌, Option, Some, None, refl, sym, ◌∙◌, ap, arith}
use Rattle.std.specs.Prelude.{if◌then◌else◌}
use Rattle.std.specs.List.Sorted.{IsStrictlySortedBy}
use Rattle.std.specs.Str.{is_utf8}
use Rattle.std.proofs.lemmas.Slice.Eq.{bytes_eq-Decides}
use Rattle.std.proofs.lemmas.Str.{IsUtf8-from_is_utf8}
use Rattle.gb_text.specs.Digits.{IsId}
use Rattle.gb_text.specs.Rules.{is_message_text, is_title_text}
use Rattle.gb_text.specs.declared.id.Id.{Id}
use Rattle.gb_text.specs.declared.id.Name.{Name}
use Rattle.op_kind.specs.Bounds.{IsWithinBounds}
use Rattle.op_kind.specs.Pairs.{AreInKeyOrder}
use Rattle.op_kind.specs.declared.place.Common.{Common}
use Rattle.op_kind.specs.declared.place.Pair.{Pair}
use Rattle.bug_ops.specs.BugForms.{AreLabels}
use Rattle.bug_ops.specs.Kind.{bug_kind}
use Rattle.bug_ops.specs.Mentions.{is_among}
use Rattle.bug_ops.specs.Snapshots.{joined_pairs, row_after}
use Rattle.bug_ops.specs.declared.op.BugOp.TheVariants.{AddComment, LabelChange, NoOp, SetMetadata, SetStatus, SetTitle}
use Rattle.bug_ops.specs.declared.op.BugStatus.{BugStatus}
use Rattle.bug_ops.specs.declared.op.BugStatus.TheVariants.{Opened, Closed}
use Rattle.bug_ops.proofs.LabelLaws.{label_change}
use Rattle.snapshot.specs.LastMention.{first_value}
use Rattle.snapshot.proofs.MetadataLemmas.{joined_have, own_id}
use Rattle.bug_edits.specs.EditLaws.{KeepsLaws}
use Rattle.bug_edits.specs.EditTable.{named_off, named_on, row_of, same_status, unless_some}
use Rattle.bug_edits.specs.NewOps.{new_common, texts_of}
use Rattle.bug_edits.specs.declared.edit.BugEdit.{BugEdit}
use Rattle.bug_edits.specs.declared.edit.BugEdit.TheVariants as edit
use Rattle.bug_edits.specs.declared.edit.NoChange.{NoChange}
use Rattle.bug_edits.specs.declared.edit.NoChange.TheVariants as no_change
use Rattle.bug_edits.proofs.LabelLemmas.{where_are_labels, where_has}
use Rattle.bug_edits.proofs.RuleLemmas.{is_within, no_names}

-- ---- a status

status_same : (a b : BugStatus) → same_status a b ≡ true → a ≡ b
status_same Opened Opened h = refl
status_same Closed Closed h = refl
status_same Opened Closed h = absurd (cc h)
status_same Closed Opened h = absurd (cc h)

same_itself : (a : BugStatus) → same_status a a ≡ true
same_itself Opened = refl
same_itself Closed = refl

abbrev barred_if : Bool → Option NoChange
barred_if same = if same then Some no_change.SameStatus else None

is_barred : (same : Bool) (why : NoChange) → barred_if same ≡ Some why → (why ≡ no_change.SameStatus) × (same ≡ true)
is_barred true why is = (let so : no_change.SameStatus ≡ why = cc is in sym so, refl)
is_barred false why is = absurd (cc is)

-- ---- labels

-- a list of texts of which none is among it has none
none_among : (texts : List (List ℕ)) → ((text : List ℕ) → is_among texts text ≡ false) → texts ≡ []
none_among [] none = refl
none_among (text ∷ texts) none =
    let first : is_among (text ∷ texts) text ≡ true = ap (λ (b : Bool). b || is_among texts text) ((bytes_eq-Decides text text).1 refl) in
    let both : true ≡ false = sym first ∙ none text in
    absurd (cc both)

is_none : (texts : List (List ℕ)) (why : NoChange) → why ≡ no_change.NoLabelChange → ((text : List ℕ) → is_among texts text ≡ false) → unless_some texts ≡ Some why
is_none texts why is none = ap unless_some (none_among texts none) ∙ ap Some (sym is)

no_label : (texts : List (List ℕ)) (why : NoChange) → unless_some texts ≡ Some why → (why ≡ no_change.NoLabelChange) × ((text : List ℕ) → is_among texts text ≡ false)
no_label [] why is = (let so : no_change.NoLabelChange ≡ why = cc is in sym so, λ text. refl)
no_label (text ∷ texts) why is = absurd (cc is)

is_on : (on named : Bool) → (not on && named) ≡ false → named ≡ true → on ≡ true
is_on true named none has = refl
is_on false true none has = absurd (cc none)
is_on false false none has = absurd (cc has)

none_off : (on named : Bool) → (named ≡ true → on ≡ true) → (not on && named) ≡ false
none_off true named all = refl
none_off false false all = refl
none_off false true all = let is = all refl in absurd (cc is)

is_off : (on named : Bool) → (on && named) ≡ false → named ≡ true → on ≡ false
is_off false named none has = refl
is_off true true none has = absurd (cc none)
is_off true false none has = absurd (cc has)

none_on : (on named : Bool) → (named ≡ true → on ≡ false) → (on && named) ≡ false
none_on false named all = refl
none_on true false all = refl
none_on true true all = all refl

no_labels : AreLabels []
no_labels = record { utf8 = tt; labels = refl }

put_on : (was named : Bool) → (((not was && named) || was) && not false) ≡ (named || was)
put_on true true = refl
put_on true false = refl
put_on false true = refl
put_on false false = refl

taken_off : (was named : Bool) → ((false || was) && not (was && named)) ≡ (was && not named)
taken_off true true = refl
taken_off true false = refl
taken_off false true = refl
taken_off false false = refl

-- ---- the rules of their operations

module _ (common : Common) (within : IsWithinBounds common) where
  pub comment_rules : (message : List ℕ) (files : List Name) → common.kind ≡ 3 → is_utf8 message ≡ true → is_message_text message ≡ true → files ≡ []
      → bug_kind.KeepsRules (AddComment common message files)
  comment_rules message files kind utf8 is_message none = record { within = within; kind = kind; values = (record { utf8 = IsUtf8-from_is_utf8 message utf8; message = is_message }, (no_names files none, tt)) }

  pub noop_rules : common.kind ≡ 7 → bug_kind.KeepsRules (NoOp common)
  noop_rules kind = record { within = within; kind = kind; values = tt }

  pub title_rules : (title was : List ℕ) → common.kind ≡ 2 → is_utf8 title ≡ true → is_title_text title ≡ true → IsUtf8 was → bug_kind.KeepsRules (SetTitle common title was)
  title_rules title was kind utf8 is_title was_utf8 = record { within = within; kind = kind; values = (record { utf8 = IsUtf8-from_is_utf8 title utf8; title = is_title }, (was_utf8, tt)) }

  pub status_rules : (status : BugStatus) → common.kind ≡ 4 → bug_kind.KeepsRules (SetStatus common status)
  status_rules status kind = record { within = within; kind = kind; values = (tt, tt) }

  pub labels_rules : (added removed : List (List ℕ)) → common.kind ≡ 5 → AreLabels added → AreLabels removed → bug_kind.KeepsRules (LabelChange common added removed)
  labels_rules added removed kind are_added are_removed = record { within = within; kind = kind; values = (are_added, (are_removed, tt)) }

  -- one pair is in order
  one_in_order : (pair : Pair) → AreInKeyOrder (pair ∷ [])
  unfolding IsStrictlySortedBy
  one_in_order pair = (tt, tt)

  pub metadata_rules : (target : Id) (key value : List ℕ) → common.kind ≡ 8 → IsId target → is_utf8 key ≡ true → is_utf8 value ≡ true
      → bug_kind.KeepsRules (SetMetadata common target (record { key = key; value = value } ∷ []))
  metadata_rules target key value kind is_id key_utf8 value_utf8 = record {
    within = within;
    kind = kind;
    values = (is_id, (record { order = one_in_order (record { key = key; value = value }); texts = (IsUtf8-from_is_utf8 key key_utf8, IsUtf8-from_is_utf8 value value_utf8, tt) }, tt));
  }

-- ---- the rows

pub keeps_laws : (e : BugEdit) → KeepsLaws (row_of e)
unfolding row_after
keeps_laws (edit.Comment message) = record {
  bars = λ bug why nothing. absurd nothing;
  only = λ bug why is. absurd (cc is);
  anew = λ moment bug. record { time = refl; nonce = refl; bare = refl; no_files = refl };
  follows = λ moment bug. refl;
  rules = λ moment bug can. comment_rules (new_common moment 3) (is_within moment 3 (omega arith)) message.text [] refl message.utf8 message.is_message refl;
  says = λ moment place bug. (refl, refl, refl);
  keeps = λ moment place bug. refl;
}
keeps_laws edit.Noop = record {
  bars = λ bug why nothing. absurd nothing;
  only = λ bug why is. absurd (cc is);
  anew = λ moment bug. record { time = refl; nonce = refl; bare = refl; no_files = refl };
  follows = λ moment bug. refl;
  rules = λ moment bug can. noop_rules (new_common moment 7) (is_within moment 7 (omega arith)) refl;
  says = λ moment place bug. tt;
  keeps = λ moment place bug. refl;
}
keeps_laws (edit.Title title) = record {
  bars = λ bug why nothing. absurd nothing;
  only = λ bug why is. absurd (cc is);
  anew = λ moment bug. record { time = refl; nonce = refl; bare = refl; no_files = refl };
  follows = λ moment bug. refl;
  rules = λ moment bug can. title_rules (new_common moment 2) (is_within moment 2 (omega arith)) title.text bug.row.title refl title.utf8 title.is_title can.title;
  says = λ moment place bug. refl;
  keeps = λ moment place bug. refl;
}
keeps_laws (edit.Status status) = record {
  bars = λ bug why nothing. ap barred_if (ap (λ (s : BugStatus). same_status s status) nothing.1 ∙ same_itself status) ∙ ap Some (sym nothing.0);
  only = λ bug why is. let so = is_barred (same_status bug.row.status status) why is in (so.0, status_same bug.row.status status so.1);
  anew = λ moment bug. record { time = refl; nonce = refl; bare = refl; no_files = refl };
  follows = λ moment bug. refl;
  rules = λ moment bug can. status_rules (new_common moment 4) (is_within moment 4 (omega arith)) status refl;
  says = λ moment place bug. refl;
  keeps = λ moment place bug. refl;
}
keeps_laws (edit.AddLabels labels) =
    let named = texts_of labels in
    record {
      bars = λ bug why nothing. let on = bug.row.labels in is_none (named_off on named) why nothing.0 (λ label. where_has false on named label ∙ none_off (is_among on label) (is_among named label) (nothing.1 label));
      only = λ bug why is.
          let on = bug.row.labels in
          let no = no_label (named_off on named) why is in
          (no.0, λ label. is_on (is_among on label) (is_among named label) (sym (where_has false on named label) ∙ no.1 label));
      anew = λ moment bug. record { time = refl; nonce = refl; bare = refl; no_files = refl };
      follows = λ moment bug. refl;
      rules = λ moment bug can. labels_rules (new_common moment 5) (is_within moment 5 (omega arith)) (named_off bug.row.labels named) [] refl (where_are_labels false bug.row.labels labels) no_labels;
      says = λ moment place bug label.
          let on = bug.row.labels in
          label_change on (named_off on named) [] label ∙ ap (λ (b : Bool). (b || is_among on label) && not false) (where_has false on named label) ∙ put_on (is_among on label) (is_among named label);
      keeps = λ moment place bug. refl;
    }
keeps_laws (edit.RemoveLabels labels) =
    let named = texts_of labels in
    record {
      bars = λ bug why nothing. let on = bug.row.labels in is_none (named_on on named) why nothing.0 (λ label. where_has true on named label ∙ none_on (is_among on label) (is_among named label) (nothing.1 label));
      only = λ bug why is.
          let on = bug.row.labels in
          let no = no_label (named_on on named) why is in
          (no.0, λ label. is_off (is_among on label) (is_among named label) (sym (where_has true on named label) ∙ no.1 label));
      anew = λ moment bug. record { time = refl; nonce = refl; bare = refl; no_files = refl };
      follows = λ moment bug. refl;
      rules = λ moment bug can. labels_rules (new_common moment 5) (is_within moment 5 (omega arith)) [] (named_on bug.row.labels named) refl no_labels (where_are_labels true bug.row.labels labels);
      says = λ moment place bug label.
          let on = bug.row.labels in
          label_change on [] (named_on on named) label ∙ ap (λ (b : Bool). (false || is_among on label) && not b) (where_has true on named label) ∙ taken_off (is_among on label) (is_among named label);
      keeps = λ moment place bug. refl;
    }
keeps_laws (edit.Metadata key value) = record {
  bars = λ bug why nothing. absurd nothing;
  only = λ bug why is. absurd (cc is);
  anew = λ moment bug. record { time = refl; nonce = refl; bare = refl; no_files = refl };
  follows = λ moment bug. refl;
  rules = λ moment bug can. metadata_rules (new_common moment 8) (is_within moment 8 (omega arith)) bug.row.id key.text value.text refl can.id key.utf8 value.utf8;
  says = λ moment place bug other.
      let old = bug.row.metadata in
      let pairs : List Pair = record { key = key.text; value = value.text } ∷ [] in
      ap (λ (b : Bool). first_value (if b then joined_pairs old pairs else old) other) (own_id bug.row.id) ∙ joined_have old pairs other;
  keeps = λ moment place bug. refl;
}
