-- Texts that differ and have one name.
use Rattle.std.proofs.Common.{◌≡◌, ◌≢◌, ℕ, zero, suc, Bool, true, false, cond, List, [], ◌∷◌, Contains, Option, Some, None, ◌⊎◌, inl, inr, refl, sym, ◌∙◌, ap, arith}
use Rattle.std.specs.Prelude.{find}
use Rattle.std.specs.List.{list_any}
use Rattle.std.specs.Option.{option_map}
use Rattle.std.specs.Str.{bytes_eq}
use Rattle.std.proofs.lemmas.Grind.{common_steps}
use Rattle.std.proofs.lemmas.List.Folds.{Any-from_list_any}
use Rattle.std.proofs.lemmas.Slice.Eq.{bytes_eq-Decides}
use Rattle.gb_text.specs.declared.id.Name.{Name}
use Rattle.git_object.specs.Grammar.{object_name}
use Rattle.object_batch.specs.Batches.{HasClash, clash_in, do_clash}

-- the first of some elements, or a later one
pub Contains-cons_cases : {X : Type 0} (y : X) (xs : List X) (x : X) → Contains (y ∷ xs) x → (y ≡ x) ⊎ Contains xs x
Contains-cons_cases y xs x (zero, below, is) = inl is
Contains-cons_cases y xs x (suc k, below, is) = inr (k, omega arith, is)

-- a list has its first item
pub Contains-first : {X : Type 0} (y : X) (xs : List X) → Contains (y ∷ xs) y
Contains-first y xs = (0, omega arith, refl)

-- and those of the rest
pub Contains-later : {X : Type 0} (y : X) (xs : List X) (x : X) → Contains xs x → Contains (y ∷ xs) x
Contains-later y xs x member = (suc member.0, omega (arith, member.1), member.2)

-- what a search finds is an element that it seeks
pub find-some : {X : Type 0} (p : X → Bool) (xs : List X) (x : X) → find p xs ≡ Some x → Contains xs x × (p x ≡ true)
find-some p [] x e = absurd (cc)
find-some p (y ∷ ys) x e = each (find-some p ys x) (p y) refl
  where
    each : (find p ys ≡ Some x → Contains ys x × (p x ≡ true)) → (b : Bool) → p y ≡ b → Contains (y ∷ ys) x × (p x ≡ true)
    each rest true h =
        let same : Some y ≡ Some x = sym (ap (λ (c : Bool). cond c (Some y) (find p ys)) h) ∙ e in
        let is : y ≡ x = cc in
        ((0, omega arith, is), ap p (sym is) ∙ h)
    each rest false h =
        let later = rest (sym (ap (λ (c : Bool). cond c (Some y) (find p ys)) h) ∙ e) in
        (Contains-later y ys x later.0, later.1)

find-none : {X : Type 0} (p : X → Bool) (xs : List X) → find p xs ≡ None → (x : X) → Contains xs x → p x ≡ false
find-none p [] e x member = absurd (omega (arith, member.1))
find-none p (y ∷ ys) e x member = each (λ none later. find-none p ys none x later) (Contains-cons_cases y ys x member) (p y) refl
  where
    each : (find p ys ≡ None → Contains ys x → p x ≡ false) → (y ≡ x) ⊎ Contains ys x → (b : Bool) → p y ≡ b → p x ≡ false
    each rest cases true h = absurd (cc (sym (ap (λ (c : Bool). cond c (Some y) (find p ys)) h) ∙ e))
    each rest (inl is) false h = ap p (sym is) ∙ h
    each rest (inr later) false h = rest (sym (ap (λ (c : Bool). cond c (Some y) (find p ys)) h) ∙ e) later

-- where no item passes a test, none does
pub any-none : {X : Type 0} (p : X → Bool) (xs : List X) → list_any p xs ≡ false → (x : X) → Contains xs x → p x ≡ false
any-none p [] e x member = absurd (omega (arith, member.1))
any-none p (y ∷ ys) e x member =
    let parts : (p y ≡ false) × (list_any p ys ≡ false) = grind (arith, common_steps) in
    at parts (any-none p ys parts.1 x) (Contains-cons_cases y ys x member)
  where
    at : (p y ≡ false) × (list_any p ys ≡ false) → (Contains ys x → p x ≡ false) → (y ≡ x) ⊎ Contains ys x → p x ≡ false
    at parts rest (inl is) = ap p (sym is) ∙ parts.0
    at parts rest (inr later) = rest later

clash-is : (one two : List ℕ) → do_clash one two ≡ true → (object_name one ≡ object_name two) × (one ≢ two)
clash-is one two e = grind (arith, common_steps, bytes_eq-Decides (object_name one).bytes (object_name two).bytes, bytes_eq-Decides one two)

clash-none : (one two : List ℕ) → do_clash one two ≡ false → object_name one ≡ object_name two → one ≡ two
clash-none one two e same =
    let names : bytes_eq (object_name one).bytes (object_name two).bytes ≡ true = (bytes_eq-Decides (object_name one).bytes (object_name two).bytes).1 (ap (λ (n : Name). n.bytes) same) in
    grind (arith, common_steps, names, bytes_eq-Decides one two)

-- what is found is a clash
pub clash_in-some : (texts : List (List ℕ)) (name : Name) → clash_in texts ≡ Some name → HasClash texts name
clash_in-some texts name e = at (find (λ one. list_any (do_clash one) texts) texts) refl
  where
    at : (o : Option (List ℕ)) → find (λ one. list_any (do_clash one) texts) texts ≡ o → HasClash texts name
    at None h = absurd (cc (sym (ap (option_map object_name) h) ∙ e))
    at (Some one) h =
        let named : Some (object_name one) ≡ Some name = sym (ap (option_map object_name) h) ∙ e in
        let is : object_name one ≡ name = cc in
        let first = find-some (λ t. list_any (do_clash t) texts) texts one h in
        let other = Any-from_list_any (do_clash one) texts first.1 in
        let clash = clash-is one other.1 other.4 in
        record {
          one = one;
          two = other.1;
          member_one = first.0;
          member_two = (other.0, other.2, other.3);
          differ = clash.1;
          named_one = is;
          named_two = sym clash.0 ∙ is;
        }

-- where none is found, texts of one name are one text
pub clash_in-none : (texts : List (List ℕ)) → clash_in texts ≡ None → (one two : List ℕ) → Contains texts one → Contains texts two → object_name one ≡ object_name two → one ≡ two
clash_in-none texts e one two first second same = at (find (λ t. list_any (do_clash t) texts) texts) refl
  where
    at : (o : Option (List ℕ)) → find (λ t. list_any (do_clash t) texts) texts ≡ o → one ≡ two
    at (Some t) h = absurd (cc (sym (ap (option_map object_name) h) ∙ e))
    at None h =
        let none = find-none (λ t. list_any (do_clash t) texts) texts h one first in
        clash-none one two (any-none (do_clash one) texts none two second) same
