-- Comments with the last edits of their ids, and persons that are found among those that were met.
use Rattle.std.proofs.Common.{◌≡◌, ◌∙◌, ◌||◌, ◌++◌, ◌+◌, ◌<◌, ◌≤◌, refl, sym, ap, subst, cond, Bool, true, false, ℕ, suc, List, [], ◌∷◌, map, length, Option, Some, None, length-append, arith}
use Rattle.std.specs.Prelude.{nat_lt, if◌then◌else◌, Result, Ok, Err, OnOk}
use Rattle.std.specs.BTreeMap.{get, Updates}
use Rattle.std.specs.BTreeSet as set
use Rattle.std.specs.BTreeMap.{BTreeMap}
use Rattle.std.specs.BTreeSet.{BTreeSet}
use Rattle.std.specs.Str.{bytes_eq}
use Rattle.std.proofs.lemmas.Bool.{lt-ltb, ltb-true}
use Rattle.std.proofs.lemmas.List.Folds.{list_any-append}
use Rattle.std.proofs.lemmas.Map.Text.{is_eq-slice_cmp}
use Rattle.gb_text.specs.declared.id.Id.{Id}
use Rattle.bug_ops.specs.Folds.{by_edit, comments_from, comments_in, before_of, ArePast, AreMet}
use Rattle.bug_ops.specs.Snapshots.{by_bytes, same_id, is_seen, edited}
use Rattle.bug_ops.specs.declared.comments.Edit.{Edit}
use Rattle.bug_ops.specs.declared.snapshot.Comment.{Comment}
use Rattle.bug_ops.proofs.LabelLaws.{eq_turned}

-- What follows from what holds on success holds on success.
pub on_ok : {A E P Q : Type 0} (r : Result A E) → (P → Q) → OnOk r P → OnOk r Q
on_ok (Ok a) f p = f p
on_ok (Err e) f p = tt

-- ---- a comment more

not_before : (n b : ℕ) → b ≤ n → nat_lt n b ≡ false
not_before n b le = by (nat_lt n b) refl
  where
    by : (t : Bool) → nat_lt n b ≡ t → t ≡ false
    by true is = let lt = ltb-true n b is in absurd (omega (arith, lt, le))
    by false is = refl

-- an edit changes no comment behind it
stays_behind : (o : Option Edit) (n : ℕ) (c : Comment) → before_of o ≤ n → by_edit o n c ≡ c
stays_behind None n c le = refl
stays_behind (Some e) n c le = ap (λ b. if b then record c { message = e.message } else c) (not_before n e.before le)

pushed : (edits : BTreeMap (List ℕ) Edit) (n : ℕ) (xs : List Comment) (c : Comment) → before_of (get by_bytes edits c.id.bytes) ≤ n + length xs
    → comments_from edits n (xs ++ c ∷ []) ≡ comments_from edits n xs ++ c ∷ []
pushed edits n [] c le = ap (λ x. x ∷ []) (stays_behind (get by_bytes edits c.id.bytes) n c (omega (arith, le)))
pushed edits n (x ∷ xs) c le = ap (λ ys. by_edit (get by_bytes edits x.id.bytes) n x ∷ ys) (pushed edits (suc n) xs c (omega (arith, le)))

-- No edit changes a comment that comes after it.
pub one_more_comment : (edits : BTreeMap (List ℕ) Edit) (list new : List Comment) (c : Comment) → ArePast edits list → new ≡ list ++ c ∷ []
    → comments_in edits new ≡ comments_in edits list ++ c ∷ []
one_more_comment edits list new c past is = ap (comments_in edits) is ∙ pushed edits 0 list c (let le = past c.id.bytes in omega (arith, le))

-- Edits stay past with a comment more.
pub past_with_more : (edits : BTreeMap (List ℕ) Edit) (list new : List Comment) (c : Comment) → ArePast edits list → new ≡ list ++ c ∷ [] → ArePast edits new
past_with_more edits list new c past is =
    subst (ArePast edits) (sym is) (λ bytes. let le = past bytes in let more = length-append list (c ∷ []) in omega (arith, le, more))

-- ---- an edit more

-- an edit of a comment that was edited, or was not
edited_again : (o : Option Edit) (n : ℕ) (c : Comment) (target : Id) (message : List ℕ) (b : Bool) → bytes_eq c.id.bytes target.bytes ≡ b
    → edited target message (by_edit o n c) ≡ (if b then record c { message = message } else by_edit o n c)
edited_again None n c target message b is = ap (λ b. if b then record c { message = message } else c) is
edited_again (Some e) n c target message b is = by (nat_lt n e.before)
  where
    by : (t : Bool) → edited target message (if t then record c { message = e.message } else c) ≡ (if b then record c { message = message } else (if t then record c { message = e.message } else c))
    by true = ap (λ b. if b then record c { message = message } else record c { message = e.message }) is
    by false = ap (λ b. if b then record c { message = message } else c) is

module _ (old new : BTreeMap (List ℕ) Edit) (target : Id) (edit : Edit) (put : Updates by_bytes old new target.bytes (Some edit)) where
  -- what is found after the edit was kept
  found : (q : List ℕ) → get by_bytes new q ≡ cond (bytes_eq q target.bytes) (Some edit) (get by_bytes old q)
  found q = put.0 q ∙ ap (λ b. cond b (Some edit) (get by_bytes old q)) (is_eq-slice_cmp target.bytes q ∙ eq_turned target.bytes q)

  at_place : (n : ℕ) (c : Comment) → n < edit.before → by_edit (get by_bytes new c.id.bytes) n c ≡ edited target edit.message (by_edit (get by_bytes old c.id.bytes) n c)
  at_place n c lt =
      ap (λ o. by_edit o n c) (found c.id.bytes)
      ∙ by (bytes_eq c.id.bytes target.bytes)
      ∙ sym (edited_again (get by_bytes old c.id.bytes) n c target edit.message (bytes_eq c.id.bytes target.bytes) refl)
    where
      by : (b : Bool) → by_edit (cond b (Some edit) (get by_bytes old c.id.bytes)) n c ≡ (if b then record c { message = edit.message } else by_edit (get by_bytes old c.id.bytes) n c)
      by true = ap (λ t. if t then record c { message = edit.message } else c) (lt-ltb n edit.before lt)
      by false = refl

  at_places : (n : ℕ) (list : List Comment) → n + length list ≤ edit.before → comments_from new n list ≡ map (edited target edit.message) (comments_from old n list)
  at_places n [] le = refl
  at_places n (c ∷ cs) le =
      ap (λ x. x ∷ comments_from new (suc n) cs) (at_place n c (omega (arith, le)))
      ∙ ap (λ xs. edited target edit.message (by_edit (get by_bytes old c.id.bytes) n c) ∷ xs) (at_places (suc n) cs (omega (arith, le)))

  -- An edit that is kept changes each comment of its target.
  pub edit_kept : (list : List Comment) → edit.before ≡ length list → comments_in new list ≡ map (edited target edit.message) (comments_in old list)
  edit_kept list is = at_places 0 list (omega (arith, is))

-- ---- persons

met_once : (k q : List ℕ) (seen : Bool) → cond (bytes_eq k q) true seen ≡ (seen || (bytes_eq k q || false))
met_once k q seen = by (bytes_eq k q) seen
  where
    by : (b s : Bool) → cond b true s ≡ (s || (b || false))
    by true true = refl
    by true false = refl
    by false true = refl
    by false false = refl

-- One more person was met.
pub one_more_met : (old new : BTreeSet (List ℕ)) (ids : List Id) (id : Id) → AreMet old ids → set.Updates by_bytes old new id.bytes true → AreMet new (ids ++ id ∷ [])
one_more_met old new ids id met put = λ other.
    put.0 other.bytes
    ∙ ap (λ b. cond b true (set.contains by_bytes old other.bytes)) (is_eq-slice_cmp id.bytes other.bytes)
    ∙ ap (λ s. cond (bytes_eq id.bytes other.bytes) true s) (met other)
    ∙ met_once id.bytes other.bytes (is_seen ids other)
    ∙ sym (list_any-append (λ x. same_id x other) ids (id ∷ []))
