-- Labels by their last mention, where one operation more comes.
use Rattle.std.proofs.Common.{◌≡◌, ◌∙◌, ◌||◌, ◌&&◌, ◌++◌, refl, sym, ap, subst, Bool, true, false, not, List, [], ◌∷◌, ℕ, Option, None, Some}
use Rattle.std.specs.Prelude.{filter, flat_map, is_some, if◌then◌else◌}
use Rattle.std.specs.Option.{option_or, unwrap_or}
use Rattle.std.specs.List.Sorted.{IsStrictlySortedBy}
use Rattle.std.specs.Str.{bytes_eq}
use Rattle.std.proofs.Math.Bool.{or_comm}
use Rattle.std.proofs.lemmas.List.Folds.{list_any-append}
use Rattle.std.proofs.lemmas.List.Kept.{IsStrictlySortedBy-filter}
use Rattle.std.proofs.lemmas.Map.Views.{any-filter_same}
use Rattle.bug_ops.specs.Mentions.{is_among}
use Rattle.bug_ops.specs.Snapshots.{by_bytes, labels_after, changed}
use Rattle.bug_ops.specs.declared.op.BugOp.{BugOp}
use Rattle.bug_ops.specs.declared.op.BugOp.TheVariants.{Create, SetTitle, AddComment, SetStatus, LabelChange, EditComment, NoOp, SetMetadata}
use Rattle.bug_ops.proofs.LabelLaws.{label_change, changed_ascend}
use Rattle.snapshot.specs.LastMention.{last_found, in_order, labels_in, mention_in, label_is_on, labels_of}
use Rattle.snapshot.proofs.FoundLemmas.{found_more, same_text, same_texts}

-- ---- texts in byte order

filter_all : (ts : List (List ℕ)) → filter (λ t. true) ts ≡ ts
filter_all [] = refl
filter_all (t ∷ ts) = ap (λ us. t ∷ us) (filter_all ts)

changed_is_order : (ts : List (List ℕ)) → changed [] ts [] ≡ in_order ts
changed_is_order ts = filter_all (in_order ts)

-- Texts in byte order ascend.
pub order_ascends : (ts : List (List ℕ)) → IsStrictlySortedBy by_bytes (in_order ts)
order_ascends ts = subst (IsStrictlySortedBy by_bytes) (changed_is_order ts) (changed_ascend [] ts [])

and_yes : (b : Bool) → ((b || false) && true) ≡ b
and_yes true = refl
and_yes false = refl

-- Texts in byte order are the same texts.
pub order_has : (ts : List (List ℕ)) (x : List ℕ) → is_among (in_order ts) x ≡ is_among ts x
order_has ts x = ap (λ us. is_among us x) (sym (changed_is_order ts)) ∙ label_change [] ts [] x ∙ and_yes (is_among ts x)

-- ---- labels

some_or : {B : Type 0} (a b : Option B) → is_some (option_or a b) ≡ (is_some a || is_some b)
some_or None b = refl
some_or (Some x) b = refl

some_if : {B : Type 0} (b : Bool) (x : B) → is_some (if b then Some x else None) ≡ b
some_if true x = refl
some_if false x = refl

mentioned : (x : List ℕ) (o : BugOp) → is_some (mention_in x o) ≡ is_among (labels_in o) x
mentioned x (LabelChange c added removed) = some_if (is_among added x || is_among removed x) _ ∙ sym (list_any-append (λ u. bytes_eq u x) added removed)
mentioned x (Create c title message files) = refl
mentioned x (SetTitle c title was) = refl
mentioned x (AddComment c message files) = refl
mentioned x (SetStatus c status) = refl
mentioned x (EditComment c target message files) = refl
mentioned x (NoOp c) = refl
mentioned x (SetMetadata c target pairs) = refl

-- a label has a last mention where it is named
named : (x : List ℕ) (ops : List BugOp) → is_among (flat_map labels_in ops) x ≡ is_some (last_found (mention_in x) ops)
named x [] = refl
named x (o ∷ ops) =
    list_any-append (λ u. bytes_eq u x) (labels_in o) (flat_map labels_in ops)
    ∙ or_comm (is_among (labels_in o) x) (is_among (flat_map labels_in ops) x)
    ∙ ap (λ b. b || is_among (labels_in o) x) (named x ops)
    ∙ ap (λ b. is_some (last_found (mention_in x) ops) || b) (sym (mentioned x o))
    ∙ sym (some_or (last_found (mention_in x) ops) (mention_in x o))

on_is_named : (v : Option Bool) → (unwrap_or v false && is_some v) ≡ unwrap_or v false
on_is_named None = refl
on_is_named (Some true) = refl
on_is_named (Some false) = refl

-- The labels are those that are on.
pub labels_have : (ops : List BugOp) (x : List ℕ) → is_among (labels_of ops) x ≡ label_is_on ops x
labels_have ops x =
    any-filter_same (λ u. bytes_eq u x) (label_is_on ops) (label_is_on ops x) (λ k same. ap (label_is_on ops) (same_text k x same)) (in_order (flat_map labels_in ops))
    ∙ ap (λ b. label_is_on ops x && b) (order_has (flat_map labels_in ops) x ∙ named x ops)
    ∙ on_is_named (last_found (mention_in x) ops)

-- The labels ascend.
pub labels_ascend : (ops : List BugOp) → IsStrictlySortedBy by_bytes (labels_of ops)
labels_ascend ops = IsStrictlySortedBy-filter by_bytes (label_is_on ops) (in_order (flat_map labels_in ops)) (order_ascends (flat_map labels_in ops))

-- No other ascending list has just the labels that are on.
pub labels_only : (ops : List BugOp) (labels : List (List ℕ)) → IsStrictlySortedBy by_bytes labels → ((x : List ℕ) → is_among labels x ≡ label_is_on ops x) → labels ≡ labels_of ops
labels_only ops labels s h = same_texts labels (labels_of ops) s (labels_ascend ops) (λ x. h x ∙ sym (labels_have ops x))

-- ---- one operation further

on_by : (a r : Bool) (v : Option Bool) → ((a || unwrap_or v false) && not r) ≡ unwrap_or (option_or (if a || r then Some (a && not r) else None) v) false
on_by true true v = refl
on_by true false v = refl
on_by false true None = refl
on_by false true (Some true) = refl
on_by false true (Some false) = refl
on_by false false None = refl
on_by false false (Some true) = refl
on_by false false (Some false) = refl

on_more : (ops : List BugOp) (o : BugOp) (x : List ℕ) → is_among (labels_after (labels_of ops) o) x ≡ unwrap_or (option_or (mention_in x o) (last_found (mention_in x) ops)) false
on_more ops (LabelChange c added removed) x =
    label_change (labels_of ops) added removed x
    ∙ ap (λ b. (is_among added x || b) && not (is_among removed x)) (labels_have ops x)
    ∙ on_by (is_among added x) (is_among removed x) (last_found (mention_in x) ops)
on_more ops (Create c title message files) x = labels_have ops x
on_more ops (SetTitle c title was) x = labels_have ops x
on_more ops (AddComment c message files) x = labels_have ops x
on_more ops (SetStatus c status) x = labels_have ops x
on_more ops (EditComment c target message files) x = labels_have ops x
on_more ops (NoOp c) x = labels_have ops x
on_more ops (SetMetadata c target pairs) x = labels_have ops x

after_ascends : (ops : List BugOp) (o : BugOp) → IsStrictlySortedBy by_bytes (labels_after (labels_of ops) o)
after_ascends ops (LabelChange c added removed) = changed_ascend (labels_of ops) added removed
after_ascends ops (Create c title message files) = labels_ascend ops
after_ascends ops (SetTitle c title was) = labels_ascend ops
after_ascends ops (AddComment c message files) = labels_ascend ops
after_ascends ops (SetStatus c status) = labels_ascend ops
after_ascends ops (EditComment c target message files) = labels_ascend ops
after_ascends ops (NoOp c) = labels_ascend ops
after_ascends ops (SetMetadata c target pairs) = labels_ascend ops

-- The labels one operation further.
pub labels_more : (ops : List BugOp) (o : BugOp) → labels_after (labels_of ops) o ≡ labels_of (ops ++ o ∷ [])
labels_more ops o = same_texts (labels_after (labels_of ops) o) (labels_of (ops ++ o ∷ [])) (after_ascends ops o) (labels_ascend (ops ++ o ∷ []))
    (λ x. on_more ops o x ∙ ap (λ v. unwrap_or v false) (sym (found_more (mention_in x) ops o)) ∙ sym (labels_have (ops ++ o ∷ []) x))
