-- Entries by the fronts of their names, one entry more.
use Rattle.std.proofs.Common.{◌≡◌, ℕ, ◌+◌, ◌<◌, Bool, true, false, cond, List, [], ◌∷◌, length, drop, get_or, Bor, Option, Some, None, option_copied, inl, inr, refl, sym, ◌∙◌, ap}
use Rattle.std.proofs.lemmas.List.{drop_more, get_or_default}
use Rattle.std.specs.List.{cons_option, find, AllByRecursion}
use Rattle.git_object.specs.declared.tree_view.EntryView.{EntryView}
use Rattle.git_object.specs.Views.{entry_seen}
use Rattle.gb_text.specs.Decimal.{decimal_of}
use Rattle.op_pack.specs.Heads.{rest_after, rests_seen, IsTold}

-- what follows the front in the names from an entry on
pub rests_drop : (front : List ℕ) (entries : List EntryView) (i : ℕ) (e : EntryView) → i < length entries → e ≡ get_or entries i e
    → rests_seen front (drop i entries) ≡ cons_option (rest_after front (entry_seen e)) (rests_seen front (drop (i + 1) entries))
rests_drop front entries i e lt is =
    ap (rests_seen front) (drop_more entries i e lt)
    ∙ ap (λ (x : EntryView). cons_option (rest_after front (entry_seen x)) (rests_seen front (drop (i + 1) entries))) (sym is)

module _ (front : List ℕ) (entries : List EntryView) (i : ℕ) (d : EntryView) (r : Option (Bor (List ℕ))) (lt : i < length entries)
    (read : option_copied r ≡ rest_after front (entry_seen (get_or entries i d))) where
  here : rests_seen front (drop i entries) ≡ cons_option (option_copied r) (rests_seen front (drop (i + 1) entries))
  here =
      rests_drop front entries i (get_or entries i d) lt (get_or_default entries i d (get_or entries i d) lt)
      ∙ ap (λ (o : Option (List ℕ)). cons_option o (rests_seen front (drop (i + 1) entries))) (sym read)

  -- an entry whose name begins otherwise adds nothing
  pub rests_skip : r ≡ None → rests_seen front (drop i entries) ≡ rests_seen front (drop (i + 1) entries)
  rests_skip none = here ∙ ap (λ (o : Option (Bor (List ℕ))). cons_option (option_copied o) (rests_seen front (drop (i + 1) entries))) none

  -- one whose name begins so adds what follows
  pub rests_next : (rest : Bor (List ℕ)) → r ≡ Some rest → rests_seen front (drop i entries) ≡ rest.now ∷ rests_seen front (drop (i + 1) entries)
  rests_next rest some = here ∙ ap (λ (o : Option (Bor (List ℕ))). cons_option (option_copied o) (rests_seen front (drop (i + 1) entries))) some

-- what is told of further texts is told where a text that is no decimal stands before them
pub told_more : (n : ℕ) (text : List ℕ) (texts : List (List ℕ)) → decimal_of text ≡ None → IsTold n texts → IsTold n (text ∷ texts)
told_more n text texts none told = elim told [ inl some ↦ inl (inr some) | inr all ↦ inr (all.0, (none, all.1)) ]

none_more : {X : Type 0} (p : X → Bool) (x : X) (xs : List X) (b : Bool) → p x ≡ b → cond b (Some x) (find p xs) ≡ None
    → (find p xs ≡ None → AllByRecursion (λ x. p x ≡ false) xs) → AllByRecursion (λ x. p x ≡ false) (x ∷ xs)
none_more p x xs true is e rest = absurd (cc)
none_more p x xs false is e rest = (is, rest e)

-- where none passes each fails
pub find_none : {X : Type 0} (p : X → Bool) (xs : List X) → find p xs ≡ None → AllByRecursion (λ x. p x ≡ false) xs
find_none p [] e = tt
find_none p (x ∷ xs) e = none_more p x xs (p x) refl e (λ h. find_none p xs h)
