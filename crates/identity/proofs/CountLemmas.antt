-- How many names are not known, before and after one more is.
use Rattle.std.proofs.Common.{◌≡◌, ◌≤◌, ◌+◌, ◌-◌, ◌⊎◌, inl, inr, Bool, true, false, cond, not, List, [], ◌∷◌, ◌++◌, ℕ, length, take, drop, Contains, refl, sym, ◌∙◌, ap, subst, ⊎_elim, arith}
use Rattle.std.specs.BTreeMap.{is_at}
use Rattle.std.specs.BTreeSet.{BTreeSet, IsEmpty, Updates}
use Rattle.std.specs.List.{count_by, list_any}
use Rattle.std.proofs.lemmas.List.{take_all}
use Rattle.std.proofs.lemmas.List.Elements.{Contains-append_cases, Contains-append_left, Contains-append_right, Contains-push, Contains-push_cases}
use Rattle.std.proofs.lemmas.List.Sums.{count_by-le-length, sum_by-cons}
use Rattle.gb_text.specs.declared.id.Name.{Name}
use Rattle.object_store.specs.Held.{Objects}
use Rattle.commit_walk.specs.declared.chain.Link.{Link}
use Rattle.identity.specs.Knowing.{AreFrom, IsFrom, by_bytes, knows, unknown}
use Rattle.identity.proofs.KnownLemmas.{same_name}

-- ---- how many pass

one_counted : (b d : Bool) → (b ≡ true → d ≡ true) → cond b 1 0 ≤ cond d 1 0
one_counted false d within = omega arith
one_counted true d within = subst (λ (d : Bool). 1 ≤ cond d 1 0) (sym (within refl)) (omega arith)

module _ {X : Type 0} where
  counted : (p : X → Bool) (x : X) (xs : List X) → count_by p (x ∷ xs) ≡ cond (p x) 1 0 + count_by p xs
  counted p x xs = sum_by-cons (λ x. cond (p x) 1 0) x xs

  -- a test that passes less counts no more
  no_more : (p q : X → Bool) → ((x : X) → p x ≡ true → q x ≡ true) → (xs : List X) → count_by p xs ≤ count_by q xs
  no_more p q within [] = omega arith
  no_more p q within (x ∷ xs) = omega (arith, one_counted (p x) (q x) (within x), no_more p q within xs, counted p x xs, counted q x xs)

  nothing_in : (x : X) → Contains [] x → ⊥
  nothing_in x at = omega (arith, at.1)

  the_one : (y x : X) → Contains (y ∷ []) x → y ≡ x
  the_one y x at = ⊎_elim (λ (none : Contains [] x). absurd (nothing_in x none)) (λ (e : y ≡ x). e) (Contains-push_cases [] y x at)

  -- and one fewer where it leaves out an element that the other passes
  one_fewer : (p q : X → Bool) → ((x : X) → p x ≡ true → q x ≡ true) → (y : X) → p y ≡ false → q y ≡ true → (xs : List X) → Contains xs y → count_by p xs + 1 ≤ count_by q xs
  one_fewer p q within y fails passes [] at = absurd (nothing_in y at)
  one_fewer p q within y fails passes (x ∷ xs) at =
      ⊎_elim (λ (here : Contains (x ∷ []) y). first (the_one x y here))
      (λ (later : Contains xs y). omega (arith, one_counted (p x) (q x) (within x), one_fewer p q within y fails passes xs later, counted p x xs, counted q x xs))
      (Contains-append_cases (x ∷ []) xs y at)
    where
      first : x ≡ y → count_by p (x ∷ xs) + 1 ≤ count_by q (x ∷ xs)
      first is =
          let out : cond (p x) 1 0 ≤ 0 = subst (λ (b : Bool). cond b 1 0 ≤ 0) (sym (ap p is ∙ fails)) (omega arith) in
          let counts : 1 ≤ cond (q x) 1 0 = subst (λ (b : Bool). 1 ≤ cond b 1 0) (sym (ap q is ∙ passes)) (omega arith) in
          omega (arith, out, counts, no_more p q within xs, counted p x xs, counted q x xs)

-- ---- names

-- a name that was known stays known
pub stays : (old new : BTreeSet Name) (name : Name) → Updates by_bytes old new name true → (other : Name) → knows old other ≡ true → knows new other ≡ true
stays old new name more other was = more.0 other ∙ by (is_at (by_bytes name) other)
  where
    by : (b : Bool) → cond b true (knows old other) ≡ true
    by true = refl
    by false = was

still_unknown : (old new : BTreeSet Name) (name : Name) → Updates by_bytes old new name true → (other : Name) → not (knows new other) ≡ true → not (knows old other) ≡ true
still_unknown old new name more other unknown = by (knows old other) refl
  where
    by : (b : Bool) → knows old other ≡ b → not b ≡ true
    by false at = refl
    by true at = absurd (cc (sym (ap not (stays old new name more other at)) ∙ unknown))

-- no more names are unknown
pub unknown-added : (names : List Name) (old new : BTreeSet Name) (name : Name) → Updates by_bytes old new name true → unknown names new ≤ unknown names old
unknown-added names old new name more =
    no_more (λ (other : Name). not (knows new other)) (λ (other : Name). not (knows old other)) (still_unknown old new name more) names

-- and one fewer where the name is new
pub unknown-new : (names : List Name) (old new : BTreeSet Name) (name : Name) → Updates by_bytes old new name true → Contains names name → knows old name ≡ false → unknown names new + 1 ≤ unknown names old
unknown-new names old new name more at was =
    one_fewer (λ (other : Name). not (knows new other)) (λ (other : Name). not (knows old other)) (still_unknown old new name more) name
    (ap not more.1) (ap not was) names at

-- a read that is made only of a name that is not known pays for itself
pub unknown-read : (names : List Name) (old new : BTreeSet Name) (name : Name) (before after : ℕ) → Updates by_bytes old new name true → Contains names name
    → (knows old name ≡ true → after ≡ before) → after ≤ before + 1 → after + unknown names new ≤ before + unknown names old
unknown-read names old new name before after more at unread most = by (knows old name) refl
  where
    by : (b : Bool) → knows old name ≡ b → after + unknown names new ≤ before + unknown names old
    by true was = omega (arith, unread was, unknown-added names old new name more)
    by false was = omega (arith, most, unknown-new names old new name more at was)

none_known : (none : BTreeSet Name) (name : Name) → IsEmpty none → knows none name ≡ false
none_known none name empty = ap (list_any (is_at (by_bytes name))) empty

-- after the first name one is known
pub unknown-first : (names : List Name) (none one : BTreeSet Name) (first : Name) → IsEmpty none → Updates by_bytes none one first true → Contains names first → unknown names one + 1 ≤ length names
unknown-first names none one first empty more at =
    omega (arith, unknown-new names none one first more at (none_known none first empty), count_by-le-length (λ (other : Name). not (knows none other)) names)

-- a second name is the first, or one fewer is unknown
pub unknown-second : (names : List Name) (none one two : BTreeSet Name) (first last : Name) → IsEmpty none → Updates by_bytes none one first true → Updates by_bytes one two last true → Contains names last
    → (first ≡ last) ⊎ (unknown names two + 1 ≤ unknown names one)
unknown-second names none one two first last empty more further at = by (is_at (by_bytes first) last) refl
  where
    by : (b : Bool) → is_at (by_bytes first) last ≡ b → (first ≡ last) ⊎ (unknown names two + 1 ≤ unknown names one)
    by true tied = inl (same_name first last tied)
    by false apart = inr (unknown-new names one two last further at (more.0 last ∙ ap (λ (b : Bool). cond b true (knows none last)) apart ∙ none_known none last empty))

-- ---- commits

-- some commits and one more are from these trees and versions, so the one is
pub IsFrom-last : (objects : Objects) (trees versions : List Name) (links : List Link) (link : Link) → AreFrom objects trees versions (links ++ link ∷ []) → IsFrom objects trees versions link
IsFrom-last objects trees versions links link from = from link (Contains-push links link)

-- and so are those in front
pub AreFrom-front : (objects : Objects) (trees versions : List Name) (links : List Link) (link : Link) → AreFrom objects trees versions (links ++ link ∷ []) → AreFrom objects trees versions links
AreFrom-front objects trees versions links link from = λ other at. from other (Contains-append_left links (link ∷ []) other at)

-- and those behind the first
pub AreFrom-later : (objects : Objects) (trees versions : List Name) (walk : List Link) → 1 ≤ length walk → AreFrom objects trees versions walk → AreFrom objects trees versions (take (length walk - 1) (drop 1 walk))
AreFrom-later objects trees versions [] some from = absurd (omega (arith, some))
AreFrom-later objects trees versions (root ∷ later) some from =
    subst (AreFrom objects trees versions) (sym (take_all (length (root ∷ later) - 1) later (omega arith)))
    (λ link at. from link (Contains-append_right (root ∷ []) later link at))
