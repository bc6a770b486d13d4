-- Queues that grow by a name.
use Rattle.std.proofs.Common.{◌≡◌, ◌⊎◌, inl, inr, ⊎_elim, Bool, true, false, cond, List, [], ◌∷◌, ◌++◌, ℕ, Contains, refl, sym, ◌∙◌, ap, subst, append_assoc}
use Rattle.std.specs.BTreeMap.{is_at}
use Rattle.std.specs.BTreeSet.{contains}
use Rattle.std.proofs.lemmas.Map.Text.{is_eq-slice_cmp}
use Rattle.std.proofs.lemmas.Slice.Eq.{bytes_eq-Decides}
use Rattle.std.proofs.lemmas.List.Elements.{Contains-append_left, Contains-append_right, Contains-append_cases, Contains-push, Contains-push_cases}
use Rattle.gb_text.specs.declared.id.Name.{Name}
use Rattle.commit_walk.specs.Distinct.{AreDistinct}
use Rattle.commit_walk.specs.Queues.{by_bytes, Adds, IsQueue}
use Rattle.commit_walk.specs.declared.queue.Queue.{Queue}
use Rattle.commit_walk.proofs.DistinctLemmas.{Contains-nil, AreDistinct-nil, AreDistinct-push}

-- names that compare as equal are the same
same_name : (one two : Name) → is_at (by_bytes one) two ≡ true → one ≡ two
same_name one two tied =
    let bytes : one.bytes ≡ two.bytes = (bytes_eq-Decides one.bytes two.bytes).0 (sym (is_eq-slice_cmp one.bytes two.bytes) ∙ tied) in
    ap (λ (bytes : List ℕ). record { bytes = bytes }) bytes

pub is_at-itself : (name : Name) → is_at (by_bytes name) name ≡ true
is_at-itself name = is_eq-slice_cmp name.bytes name.bytes ∙ (bytes_eq-Decides name.bytes name.bytes).1 refl

-- some names, and then some more
pub Adds-then : (old more mid others new : List Name) → Adds old more mid → Adds mid others new → Adds old (more ++ others) new
Adds-then old more mid others new first then = record {
  rest = first.rest ++ then.rest;
  kept = then.kept ∙ ap (λ (l : List Name). l ++ then.rest) first.kept ∙ append_assoc old first.rest then.rest;
  has = λ n c. each n (cases n c);
  only = λ n c. ⊎_elim
      (λ (h : Contains mid n). ⊎_elim (λ (o : Contains old n). inl o) (λ (m : Contains more n). inr (Contains-append_left more others n m)) (first.only n h))
      (λ (m : Contains others n). inr (Contains-append_right more others n m))
      (then.only n c);
}
  where
    cases : (n : Name) → Contains (more ++ others) n → Contains more n ⊎ Contains others n
    cases n c = Contains-append_cases more others n c

    each : (n : Name) → Contains more n ⊎ Contains others n → Contains new n
    each n (inl m) = subst (λ (l : List Name). Contains l n) (sym then.kept) (Contains-append_left mid then.rest n (first.has n m))
    each n (inr m) = then.has n m

-- a queue without names
pub IsQueue-none : (queue : Queue) → queue.names.items ≡ [] → ((name : Name) → contains by_bytes queue.known name ≡ false) → IsQueue queue
IsQueue-none queue empty none = record {
  once = subst AreDistinct (sym empty) AreDistinct-nil;
  known = λ name c. absurd (Contains-nil name (subst (λ (l : List Name). Contains l name) empty c));
  only = λ name is. let no = none name in absurd (cc (sym no ∙ is));
}

-- the set has one name more, and the list too
pub IsQueue-push : (old new : Queue) (name : Name) → IsQueue old → contains by_bytes old.known name ≡ false
    → new.names.items ≡ old.names.items ++ name ∷ []
    → ((q : Name) → contains by_bytes new.known q ≡ cond (is_at (by_bytes name) q) true (contains by_bytes old.known q))
    → IsQueue new
IsQueue-push old new name queue absent longer has = record {
  once = subst AreDistinct (sym longer) (AreDistinct-push old.names.items name queue.once (λ c. let there = queue.known name c in cc (sym absent ∙ there)));
  known = λ n c. ⊎_elim
      (λ (h : Contains old.names.items n). has n ∙ ap (cond (is_at (by_bytes name) n) true) (queue.known n h) ∙ either (is_at (by_bytes name) n))
      (λ (e : name ≡ n). subst (λ (m : Name). contains by_bytes new.known m ≡ true) e (has name ∙ ap (λ (b : Bool). cond b true (contains by_bytes old.known name)) (is_at-itself name)))
      (Contains-push_cases old.names.items name n (subst (λ (l : List Name). Contains l n) longer c));
  only = λ n is. subst (λ (l : List Name). Contains l n) (sym longer) (by n (is_at (by_bytes name) n) refl (sym (has n) ∙ is));
}
  where
    either : (b : Bool) → cond b true true ≡ true
    either true = refl
    either false = refl

    by : (n : Name) (b : Bool) → is_at (by_bytes name) n ≡ b → cond b true (contains by_bytes old.known n) ≡ true → Contains (old.names.items ++ name ∷ []) n
    by n true at is = subst (Contains (old.names.items ++ name ∷ [])) (same_name name n at) (Contains-push old.names.items name)
    by n false at is = Contains-append_left old.names.items (name ∷ []) n (queue.only n is)
