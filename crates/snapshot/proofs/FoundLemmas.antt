-- What is found last where a list has one item more, and which ascending lists are the same.
use Rattle.std.proofs.Common.{◌≡◌, ◌∙◌, ◌++◌, refl, sym, ap, Bool, true, List, [], ◌∷◌, ℕ, Option, None, Some}
use Rattle.std.specs.Option.{option_or, unwrap_or}
use Rattle.std.specs.List.{Contains}
use Rattle.std.specs.List.Sorted.{IsStrictlySortedBy}
use Rattle.std.specs.Str.{bytes_eq}
use Rattle.std.specs.Cmp.{IsEquivalence}
use Rattle.std.specs.Cmp.Lexicographic.{nat_list_cmp_total}
use Rattle.std.proofs.lemmas.Map.Views.{Contains-from_any, list_any-from_Contains}
use Rattle.std.proofs.lemmas.Slice.Eq.{bytes_eq-Decides}
use Rattle.gb_text.proofs.SortedLemmas.{same_elements}
use Rattle.bug_ops.specs.Mentions.{is_among}
use Rattle.bug_ops.specs.Snapshots.{by_bytes, title_after, status_after}
use Rattle.bug_ops.specs.declared.op.BugOp.{BugOp}
use Rattle.bug_ops.specs.declared.op.BugOp.TheVariants.{Create, SetTitle, AddComment, SetStatus, LabelChange, EditComment, NoOp, SetMetadata}
use Rattle.bug_ops.specs.declared.op.BugStatus.{BugStatus}
use Rattle.bug_ops.specs.declared.op.BugStatus.TheVariants.{Opened}
use Rattle.bug_ops.proofs.LabelLaws.{eq_turned}
use Rattle.snapshot.specs.LastMention.{last_found, last_item, title_in, title_of, status_in, status_of}

-- ---- what is found last

-- nothing behind a value, or before it, changes it
pub or_none : {B : Type 0} (o : Option B) → option_or None o ≡ option_or o None
or_none None = refl
or_none (Some b) = refl

-- of three, the first that is there, however they are grouped
pub or_or : {B : Type 0} (a b c : Option B) → option_or (option_or a b) c ≡ option_or a (option_or b c)
or_or None b c = refl
or_or (Some a) b c = refl

-- What is found last with one item more is what is found in it, or else what was found before.
pub found_more : {A B : Type 0} (f : A → Option B) (xs : List A) (y : A) → last_found f (xs ++ y ∷ []) ≡ option_or (f y) (last_found f xs)
found_more f [] y = or_none (f y)
found_more f (x ∷ xs) y = ap (λ o. option_or o (f x)) (found_more f xs y) ∙ or_or (f y) (last_found f xs) (f x)

-- The last item of a list with one item more.
pub last_more : {A : Type 0} (x : A) (xs : List A) (y : A) → last_item x (xs ++ y ∷ []) ≡ y
last_more x [] y = refl
last_more x (z ∷ zs) y = last_more z zs y

-- ---- title and status

title_by : (old : Option (List ℕ)) (o : BugOp) → title_after (unwrap_or old []) o ≡ unwrap_or (option_or (title_in o) old) []
title_by old (Create c title message files) = refl
title_by old (SetTitle c title was) = refl
title_by old (AddComment c message files) = refl
title_by old (SetStatus c status) = refl
title_by old (LabelChange c added removed) = refl
title_by old (EditComment c target message files) = refl
title_by old (NoOp c) = refl
title_by old (SetMetadata c target pairs) = refl

-- The title one operation further.
pub title_more : (ops : List BugOp) (o : BugOp) → title_after (title_of ops) o ≡ title_of (ops ++ o ∷ [])
title_more ops o = title_by (last_found title_in ops) o ∙ ap (λ t. unwrap_or t []) (sym (found_more title_in ops o))

status_by : (old : Option BugStatus) (o : BugOp) → status_after (unwrap_or old Opened) o ≡ unwrap_or (option_or (status_in o) old) Opened
status_by old (Create c title message files) = refl
status_by old (SetTitle c title was) = refl
status_by old (AddComment c message files) = refl
status_by old (SetStatus c status) = refl
status_by old (LabelChange c added removed) = refl
status_by old (EditComment c target message files) = refl
status_by old (NoOp c) = refl
status_by old (SetMetadata c target pairs) = refl

-- The status one operation further.
pub status_more : (ops : List BugOp) (o : BugOp) → status_after (status_of ops) o ≡ status_of (ops ++ o ∷ [])
status_more ops o = status_by (last_found status_in ops) o ∙ ap (λ s. unwrap_or s Opened) (sym (found_more status_in ops o))

-- ---- ascending lists

-- Equal texts are one.
pub same_text : (a b : List ℕ) → bytes_eq a b ≡ true → a ≡ b
same_text a b h = (bytes_eq-Decides a b).0 h

-- equality of texts, the second first
abbrev eq_back : List ℕ → List ℕ → Bool
eq_back a b = bytes_eq b a

eq_back_equiv : IsEquivalence eq_back
eq_back_equiv = record {
  refl = λ x. (bytes_eq-Decides x x).1 refl;
  symm = λ x y. eq_turned y x;
  congr = λ x y z h. ap (λ t. bytes_eq z t) (sym (same_text y x h));
}

has_from : (xs ys : List (List ℕ)) → ((z : List ℕ) → is_among xs z ≡ is_among ys z) → (z : List ℕ) → Contains xs z → Contains ys z
has_from xs ys h z c = Contains-from_any {eq = eq_back} (λ x y e. sym (same_text y x e)) z ys (sym (h z) ∙ list_any-from_Contains eq_back_equiv z xs c)

-- Two ascending lists with the same texts are the same.
pub same_texts : (xs ys : List (List ℕ)) → IsStrictlySortedBy by_bytes xs → IsStrictlySortedBy by_bytes ys → ((z : List ℕ) → is_among xs z ≡ is_among ys z) → xs ≡ ys
same_texts xs ys s t h = same_elements nat_list_cmp_total xs ys s t (has_from xs ys h) (has_from ys xs (λ z. sym (h z)))
