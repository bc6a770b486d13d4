-- What is reported of the version of a tree, and between which bounds its clocks are.
use Rattle.std.proofs.Common.{◌≡◌, ◌≢◌, ◌≤◌, ◌⊎◌, inl, inr, ◌↔◌, ◌∙◌, ◌++◌, refl, sym, ap, subst, ℕ, Bool, true, false, cond, List, [], ◌∷◌, length, take, drop, codes, Contains, Option, Some, None, ◌==◌, arith}
use Rattle.std.specs.List.{filter_map, cons_option, AllByRecursion}
use Rattle.std.proofs.lemmas.Bool.{eqb-true}
use Rattle.std.proofs.Math.Seq.{take-append_seam, drop-append_seam}
use Rattle.std.proofs.lemmas.List.{take-append-drop}
use Rattle.std.proofs.lemmas.List.Elements.{Contains-append_left, Contains-append_right, Contains-append_cases, Contains-push, Contains-push_cases}
use Rattle.std.proofs.lemmas.Option.{cond_some, same_Some}
use Rattle.std.proofs.lemmas.Slice.Eq.{bytes_eq-Decides}
use Rattle.std.specs.Str.{bytes_eq}
use Rattle.gb_text.specs.Decimal.{decimal_of}
use Rattle.git_object.specs.declared.entry.Entry.{Entry}
use Rattle.git_object.specs.declared.tree.Tree.{Tree}
use Rattle.op_kind.specs.Members.{IsRepeated, Lacks}
use Rattle.op_pack.specs.Heads.{head_of, known_version, rest_after, version_at, versions, SomeReads, IsTold, HeadFault}
use Rattle.op_pack.specs.declared.fault.PackFault.TheVariants.{UnknownVersion}
use Rattle.op_pack.specs.declared.head.TreeHead.{TreeHead}
use Rattle.op_pack.proofs.HeadLaws.{head_in_range}

-- ---- what a list has

module _ {X : Type 0} where
  has_nothing : (x : X) → Contains [] x → ⊥
  has_nothing x c = omega (arith, c.1)

  has_first : (x : X) (xs : List X) → Contains (x ∷ xs) x
  has_first x xs = Contains-append_left (x ∷ []) xs x (Contains-push [] x)

  has_later : (y : X) (xs : List X) (x : X) → Contains xs x → Contains (y ∷ xs) x
  has_later y xs x c = Contains-append_right (y ∷ []) xs x c

  first_or_later : (y : X) (xs : List X) (x : X) → Contains (y ∷ xs) x → (y ≡ x) ⊎ Contains xs x
  first_or_later y xs x c = elim (Contains-append_cases (y ∷ []) xs x c) [
    | inl one ↦ elim (Contains-push_cases [] y x one) [ inl none ↦ absurd (has_nothing x none) | inr same ↦ inl same ]
    | inr later ↦ inr later
  ]

module _ {X Y : Type 0} (f : X → Option Y) where
  -- where it is made of a later item, or of the first
  comes_later : (x : X) (xs : List X) (y : Y) → (z : X) × Contains xs z × (f z ≡ Some y) → (z : X) × Contains (x ∷ xs) z × (f z ≡ Some y)
  comes_later x xs y one = (one.0, has_later x xs one.0 one.1, one.2)

  comes_here : (x : X) (xs : List X) (y : Y) (o : Option Y) → f x ≡ o → (Contains (filter_map f xs) y → (z : X) × Contains xs z × (f z ≡ Some y))
      → Contains (cons_option o (filter_map f xs)) y → (z : X) × Contains (x ∷ xs) z × (f z ≡ Some y)
  comes_here x xs y None is later c = comes_later x xs y (later c)
  comes_here x xs y (Some z) is later c = elim (first_or_later z (filter_map f xs) y c) [
    | inl same ↦ (x, has_first x xs, is ∙ ap Some same)
    | inr rest ↦ comes_later x xs y (later rest)
  ]

  -- what is made of the items comes of one of them
  pub comes_of : (xs : List X) (y : Y) → Contains (filter_map f xs) y → (x : X) × Contains xs x × (f x ≡ Some y)
  comes_of [] y c = absurd (has_nothing y c)
  comes_of (x ∷ xs) y c = comes_here x xs y (f x) refl (comes_of xs y) c

  -- what is made of an item is among what is made of all
  pub made_of : (xs : List X) (x : X) (y : Y) → Contains xs x → f x ≡ Some y → Contains (filter_map f xs) y
  made_of [] x y c is = absurd (has_nothing x c)
  made_of (z ∷ zs) x y c is = elim (first_or_later z zs x c) [
    | inl same ↦ let made : f z ≡ Some y = ap f same ∙ is in subst (λ (o : Option Y). Contains (cons_option o (filter_map f zs)) y) (sym made) (has_first y (filter_map f zs))
    | inr later ↦ past (f z) (made_of zs x y later is)
  ]
    where
      past : (o : Option Y) → Contains (filter_map f zs) y → Contains (cons_option o (filter_map f zs)) y
      past None c = c
      past (Some w) c = has_later w (filter_map f zs) y c

-- ---- names of entries

rest_is : (front rest : List ℕ) (e : Entry) → rest_after front e ≡ Some rest → e.name ≡ front ++ rest
rest_is front rest e h =
    let is = cond_some (bytes_eq (take (length front) e.name) front) (drop (length front) e.name) rest h in
    let begins : take (length front) e.name ≡ front = (bytes_eq-Decides (take (length front) e.name) front).0 is.0 in
    sym (take-append-drop (length front) e.name) ∙ ap (λ t. t ++ drop (length front) e.name) begins ∙ ap (λ r. front ++ r) is.1

rest_found : (front rest : List ℕ) (e : Entry) → e.name ≡ front ++ rest → rest_after front e ≡ Some rest
rest_found front rest e named =
    let begins : take (length front) (front ++ rest) ≡ front = take-append_seam front rest in
    let ends : drop (length front) (front ++ rest) ≡ rest = drop-append_seam front rest in
    ap (λ name. cond (bytes_eq (take (length front) name) front) (Some (drop (length front) name)) None) named
    ∙ ap (λ t. cond (bytes_eq t front) (Some (drop (length front) (front ++ rest))) None) begins
    ∙ ap (λ b. cond b (Some (drop (length front) (front ++ rest))) None) ((bytes_eq-Decides front front).1 refl)
    ∙ ap Some ends

-- The versions are what follows `version-` in the names of entries.
pub versions_found : (t : Tree) (text : List ℕ) → Contains (versions t) text ↔ ((e : Entry) × Contains t.entries e × (e.name ≡ codes "version-" ++ text))
versions_found t text = (
  λ c. let one = comes_of (rest_after (codes "version-")) t.entries text c in (one.0, one.1, rest_is (codes "version-") text one.0 one.2),
  λ h. made_of (rest_after (codes "version-")) t.entries h.0 text h.1 (rest_found (codes "version-") text h.0 h.2),
)

-- ---- the number that is reported

some_read : (n : ℕ) (texts : List (List ℕ)) → SomeReads n texts → (text : List ℕ) × Contains texts text × (decimal_of text ≡ Some n)
some_read n [] h = absurd h
some_read n (text ∷ texts) (inl is) = (text, has_first text texts, is)
some_read n (text ∷ texts) (inr later) = let one = some_read n texts later in (one.0, has_later text texts one.0 one.1, one.2)

none_reads : (texts : List (List ℕ)) → AllByRecursion (λ text. decimal_of text ≡ None) texts → (text : List ℕ) → Contains texts text → decimal_of text ≡ None
none_reads [] all text c = absurd (has_nothing text c)
none_reads (one ∷ texts) all text c = elim (first_or_later one texts text c) [ inl same ↦ ap decimal_of (sym same) ∙ all.0 | inr later ↦ none_reads texts all.1 text later ]

-- What is reported follows `version-` in the name of an entry, or is 0 where no number does.
pub number_reported : (t : Tree) (n : ℕ) → HeadFault t (UnknownVersion n)
    → ((text : List ℕ) × Contains (versions t) text × (decimal_of text ≡ Some n)) ⊎ ((n ≡ 0) × ((text : List ℕ) → Contains (versions t) text → decimal_of text ≡ None))
number_reported t n h = elim h.1 [ inl some ↦ inl (some_read n (versions t) some) | inr none ↦ inr (none.0, none_reads (versions t) none.1) ]

-- the fault of versions with these texts
abbrev IsUnknown : ℕ → List (List ℕ) → Type 0
IsUnknown n texts = (IsRepeated texts ⊎ Lacks version_at texts) × IsTold n texts

not_four : (text : List ℕ) (n : ℕ) → decimal_of text ≡ Some n → version_at text ≡ None → n ≢ 4
not_four text n reads none four = let some : version_at text ≡ Some 4 = ap known_version (reads ∙ ap Some four) in absurd (cc (sym none ∙ some))

lacking : (text : List ℕ) → IsRepeated (text ∷ []) ⊎ Lacks version_at (text ∷ []) → version_at text ≡ None
lacking text (inl many) = absurd (omega (arith, many))
lacking text (inr (inl empty)) = absurd (cc (empty))
lacking text (inr (inr (inl none))) = none
lacking text (inr (inr (inr h))) = absurd h

told_one : (text : List ℕ) (n m : ℕ) → decimal_of text ≡ Some n → IsTold m (text ∷ []) → m ≡ n
told_one text n m reads (inl (inl is)) = same_Some m n (sym is ∙ reads)
told_one text n m reads (inl (inr h)) = absurd h
told_one text n m reads (inr none) = absurd (cc (sym none.1.0 ∙ reads))

other_version : (n : ℕ) (b : Bool) → (n == 4) ≡ b → n ≢ 4 → cond b (Some n) None ≡ None
other_version n true is other = absurd (other (eqb-true n 4 is))
other_version n false is other = refl

-- Where one number follows, the fault is that it is not 4, and reports it.
pub one_reported : (t : Tree) (text : List ℕ) (n m : ℕ) → versions t ≡ text ∷ [] → decimal_of text ≡ Some n → HeadFault t (UnknownVersion m) ↔ ((n ≢ 4) × (m ≡ n))
one_reported t text n m one reads = (
  λ h. let is : IsUnknown m (text ∷ []) = subst (IsUnknown m) one h in (not_four text n reads (lacking text is.0), told_one text n m reads is.1),
  λ h. let none : version_at text ≡ None = ap known_version reads ∙ other_version n (n == 4) refl h.0 in
      let is : IsUnknown m (text ∷ []) = (inr (inr (inl none)), inl (inl (reads ∙ ap Some (sym h.1)))) in
      subst (IsUnknown m) (sym one) is,
)

-- ---- clocks

-- The edit clock has its bounds.
pub edit_bounded : (t : Tree) (head : TreeHead) → head_of t ≡ Some head → (1 ≤ head.edit) × (head.edit ≤ 9223372036854775807)
edit_bounded t head says = let range = head_in_range t head says in (range.edit.low, range.edit.high)

-- So has the create clock, where there is one.
pub create_bounded : (t : Tree) (head : TreeHead) (clock : ℕ) → head_of t ≡ Some head → head.create ≡ Some clock → (1 ≤ clock) × (clock ≤ 9223372036854775807)
create_bounded t head clock says is = let range = (head_in_range t head says).create clock is in (range.low, range.high)
