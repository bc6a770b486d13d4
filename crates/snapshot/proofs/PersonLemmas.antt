-- Persons by first appearance, where one operation more comes.
use Rattle.std.proofs.Common.{◌≡◌, ◌∙◌, ◌||◌, ◌&&◌, ◌++◌, refl, sym, ap, cond, Bool, true, false, not, List, [], ◌∷◌, map, append-nil}
use Rattle.std.specs.Prelude.{filter, filter_map, if◌then◌else◌}
use Rattle.std.proofs.lemmas.List.{map-append}
use Rattle.std.proofs.lemmas.List.Elements.{filter-append, filter_map-append}
use Rattle.std.proofs.lemmas.Map.Views.{any-filter_same}
use Rattle.std.proofs.lemmas.Slice.Eq.{bytes_eq-Decides}
use Rattle.gb_text.specs.declared.id.Id.{Id}
use Rattle.bug_ops.specs.Mentions.{StandOnce}
use Rattle.bug_ops.specs.Snapshots.{same_id, is_seen, with_person, participants_after}
use Rattle.bug_ops.specs.declared.op.BugOp.{BugOp}
use Rattle.bug_ops.specs.declared.op.BugOp.TheVariants.{Create, SetTitle, AddComment, SetStatus, LabelChange, EditComment, NoOp, SetMetadata}
use Rattle.snapshot.specs.LastMention.{each_once, author_of, commenter_in, actors_of, participants_of}
use Rattle.snapshot.proofs.FoundLemmas.{same_text}

-- ---- what stands there once

-- the person is another
abbrev is_other : Id → Id → Bool
is_other x z = not (same_id x z)

-- a person among others that are not another is among them, unless it is that one
seen_others : (x : Id) (ids : List Id) (y : Id) → is_seen (filter (is_other x) ids) y ≡ (is_other x y && is_seen ids y)
seen_others x ids y = any-filter_same (λ k. same_id k y) (is_other x) (is_other x y) (λ k same. ap (λ b. not (same_id x (record { bytes = b }))) (same_text k.bytes y.bytes same)) ids

-- a person is no other than itself
no_other : (x : Id) → is_other x x ≡ false
no_other x = ap not ((bytes_eq-Decides x.bytes x.bytes).1 refl)

-- without a person, the person is not there
without_it : (x : Id) (ids : List Id) → is_seen (filter (is_other x) ids) x ≡ false
without_it x ids = seen_others x ids x ∙ ap (λ b. b && is_seen ids x) (no_other x)

kept_once : (x : Id) (ids : List Id) → StandOnce ids → StandOnce (filter (is_other x) ids)
kept_once x [] once = tt
kept_once x (y ∷ ids) once = by (is_other x y) (kept_once x ids once.1) (seen_others x ids y ∙ ap (λ b. is_other x y && b) once.0 ∙ and_no (is_other x y))
  where
    and_no : (b : Bool) → (b && false) ≡ false
    and_no true = refl
    and_no false = refl

    by : (b : Bool) → StandOnce (filter (is_other x) ids) → is_seen (filter (is_other x) ids) y ≡ false → StandOnce (cond b (y ∷ filter (is_other x) ids) (filter (is_other x) ids))
    by true rest new = (new, rest)
    by false rest new = rest

-- Each person stands once.
pub stand_once : (ids : List Id) → StandOnce (each_once ids)
stand_once [] = tt
stand_once (x ∷ ids) = (without_it x (each_once ids), kept_once x (each_once ids) (stand_once ids))

or_and_not : (b c : Bool) → (b || (not b && c)) ≡ (b || c)
or_and_not true c = refl
or_and_not false c = refl

-- The same persons stand there.
pub same_persons : (ids : List Id) (y : Id) → is_seen (each_once ids) y ≡ is_seen ids y
same_persons [] y = refl
same_persons (x ∷ ids) y =
    ap (λ b. same_id x y || b) (seen_others x (each_once ids) y ∙ ap (λ b. is_other x y && b) (same_persons ids y))
    ∙ or_and_not (same_id x y) (is_seen ids y)

-- ---- one operation further

others_more : (x : Id) (ids : List Id) (y : Id) (seen : Bool) → filter (is_other x) (if seen then ids else ids ++ y ∷ []) ≡ (if seen then filter (is_other x) ids else filter (is_other x) ids ++ cond (is_other x y) (y ∷ []) [])
others_more x ids y true = refl
others_more x ids y false = filter-append (is_other x) ids (y ∷ [])

by_both : (x y : Id) (ids : List Id) (same seen : Bool) → x ∷ (if seen then ids else ids ++ cond (not same) (y ∷ []) []) ≡ (if same || (not same && seen) then x ∷ ids else (x ∷ ids) ++ y ∷ [])
by_both x y ids true true = refl
by_both x y ids true false = ap (λ zs. x ∷ zs) (append-nil ids)
by_both x y ids false true = refl
by_both x y ids false false = refl

in_front : (x : Id) (ids : List Id) (y : Id) → x ∷ filter (is_other x) (with_person ids y) ≡ with_person (x ∷ filter (is_other x) ids) y
in_front x ids y =
    ap (λ zs. x ∷ zs) (others_more x ids y (is_seen ids y))
    ∙ by_both x y (filter (is_other x) ids) (same_id x y) (is_seen ids y)
    ∙ ap (λ b. if same_id x y || b then x ∷ filter (is_other x) ids else (x ∷ filter (is_other x) ids) ++ y ∷ []) (sym (seen_others x ids y))

-- One person more, once.
pub once_more : (ids : List Id) (y : Id) → each_once (ids ++ y ∷ []) ≡ with_person (each_once ids) y
once_more [] y = refl
once_more (x ∷ ids) y = ap (λ zs. x ∷ filter (is_other x) zs) (once_more ids y) ∙ in_front x (each_once ids) y

-- A person who was not seen comes last.
pub new_comes_last : (ids : List Id) (y : Id) → is_seen ids y ≡ false → each_once (ids ++ y ∷ []) ≡ each_once ids ++ y ∷ []
new_comes_last ids y new = once_more ids y ∙ ap (λ b. if b then each_once ids else each_once ids ++ y ∷ []) (same_persons ids y ∙ new)

-- One who was seen is not added.
pub seen_stays : (ids : List Id) (y : Id) → is_seen ids y ≡ true → each_once (ids ++ y ∷ []) ≡ each_once ids
seen_stays ids y seen = once_more ids y ∙ ap (λ b. if b then each_once ids else each_once ids ++ y ∷ []) (same_persons ids y ∙ seen)

-- The actors one operation further.
pub actors_more : (ops : List BugOp) (o : BugOp) → with_person (actors_of ops) (author_of o) ≡ actors_of (ops ++ o ∷ [])
actors_more ops o = sym (ap each_once (map-append author_of ops (o ∷ [])) ∙ once_more (map author_of ops) (author_of o))

nobody_more : (ids : List Id) → each_once ids ≡ each_once (ids ++ [])
nobody_more ids = ap each_once (sym (append-nil ids))

participants_by : (ids : List Id) (o : BugOp) → participants_after (each_once ids) o ≡ each_once (ids ++ filter_map commenter_in (o ∷ []))
participants_by ids (Create c title message files) = sym (once_more ids c.place.author)
participants_by ids (AddComment c message files) = sym (once_more ids c.place.author)
participants_by ids (SetTitle c title was) = nobody_more ids
participants_by ids (SetStatus c status) = nobody_more ids
participants_by ids (LabelChange c added removed) = nobody_more ids
participants_by ids (EditComment c target message files) = nobody_more ids
participants_by ids (NoOp c) = nobody_more ids
participants_by ids (SetMetadata c target pairs) = nobody_more ids

-- The participants one operation further.
pub participants_more : (ops : List BugOp) (o : BugOp) → participants_after (participants_of ops) o ≡ participants_of (ops ++ o ∷ [])
participants_more ops o = participants_by (filter_map commenter_in ops) o ∙ ap each_once (sym (filter_map-append commenter_in ops (o ∷ [])))
