-- What fits among comments, as one comment after another is looked at.
use Rattle.std.proofs.Common.{◌≡◌, ◌<◌, ◌+◌, ◌⊎◌, inl, inr, ℕ, Bool, true, false, cond, not, None, if◌then◌else◌, List, [], ◌∷◌, ◌++◌, length, map, take, get_or, Contains, refl, sym, ◌∙◌, ap, subst, arith}
use Rattle.std.proofs.lemmas.List.{map-append, take_more}
use Rattle.std.proofs.lemmas.List.Elements.{filter-append}
use Rattle.hex.specs.Hex.{encode_lower}
use Rattle.gb_text.specs.Digits.{IsId}
use Rattle.gb_text.specs.Prefix.{begins_with}
use Rattle.gb_text.specs.PrefixText.{is_prefix_text}
use Rattle.gb_text.specs.declared.id.Id.{Id}
use Rattle.gb_text.proofs.DigitLemmas.{id_digits-same}
use Rattle.object_batch.proofs.ClashLemmas.{Contains-cons_cases, Contains-first, Contains-later}
use Rattle.combined_id.specs.Combined.{digits_at, is_second}
use Rattle.combined_id.specs.Lookup.{is_below}
use Rattle.combined_id.specs.Split.{some_digits}
use Rattle.combined_id.proofs.OrderLemmas.{below-one_way, below-trans}
use Rattle.repo_state.specs.Comments.{IsIdOf, comment_digits}
use Rattle.repo_state.specs.Seeking.{AreLeastOf, FitsAfter, Tells, entries_of, fitting_of, more}
use Rattle.repo_state.specs.declared.comments.CommentEntry.{CommentEntry}
use Rattle.repo_state.specs.declared.fitting.Fitting.{Fitting}
use Rattle.repo_state.specs.declared.fitting.Fitting.TheVariants.{Nothing, One, Several}
use Rattle.repo_state.specs.declared.side.HeadEntry.{HeadEntry}

-- ---- lists

-- each item differs from all later ones
abbrev pub StandApart : {X : Type 0} → List X → Type 0
StandApart [] = Unit {0}
StandApart (x ∷ xs) = (Contains xs x → ⊥) × StandApart xs

-- ---- ids of comments

-- a comment has one id
pub one_id : (c : CommentEntry) (one two : Id) → IsIdOf c one → IsIdOf c two → one ≡ two
one_id c one two first second = id_digits-same one two first.is_id second.is_id (first.digits ∙ sym second.digits)

-- no id is less than itself
pub below_itself : (id : Id) → is_below id id ≡ false
below_itself id = decide (is_below id id) refl
  where
    decide : (b : Bool) → is_below id id ≡ b → is_below id id ≡ false
    decide true e = below-one_way id id e
    decide false e = e

-- the ids of one comment are not less than each other
pub not_below : (one other : CommentEntry) (a b : Id) → other ≡ one → IsIdOf one a → IsIdOf other b → is_below b a ≡ false
not_below one other a b same first second =
    let ids : b ≡ a = one_id one b a (subst (λ (c : CommentEntry). IsIdOf c b) same second) first in
    ap (λ (x : Id). is_below x a) ids ∙ below_itself a

-- ---- one comment more

-- what fits of some comments fits of the same comments, said in another way
pub tells_same : (P Q : CommentEntry → Type 0) → ((c : CommentEntry) → P c → Q c) → ((c : CommentEntry) → Q c → P c) → (f : Fitting) → Tells P f → Tells Q f
tells_same P Q to from Nothing none = λ c q. none c (from c q)
tells_same P Q to from (One c id) (so, is, only) = (to c so, is, λ other q. only other (from other q))
tells_same P Q to from (Several first second) l = record {
  one = l.one;
  two = l.two;
  differ = l.differ;
  so_one = to l.one l.so_one;
  so_two = to l.two l.so_two;
  is_first = l.is_first;
  is_second = l.is_second;
  ordered = l.ordered;
  above = λ other id q is. l.above other id (from other q) is;
}

module _ (P : CommentEntry → Type 0) (c : CommentEntry) (id : Id) (is : IsIdOf c id) (new : P c → ⊥) where
  abbrev OrThis : CommentEntry → Type 0
  OrThis x = P x ⊎ (x ≡ c)

  -- beside an only one
  with_one : (d : CommentEntry) (first : Id) → P d → IsIdOf d first → ((other : CommentEntry) → P other → other ≡ d) → (b : Bool) → is_below id first ≡ b
      → Tells OrThis (if b then Several id first else Several first id)
  with_one d first so is_first only true lt = record {
    one = c;
    two = d;
    differ = λ same. new (subst P (sym same) so);
    so_one = inr refl;
    so_two = inl so;
    is_first = is;
    is_second = is_first;
    ordered = below-one_way id first lt;
    above = λ other i q is_other. elim q [
      | inl p ↦ inr (not_below d other first i (only other p) is_first is_other)
      | inr same ↦ inl same
    ];
  }
  with_one d first so is_first only false le = record {
    one = d;
    two = c;
    differ = λ same. new (subst P same so);
    so_one = inl so;
    so_two = inr refl;
    is_first = is_first;
    is_second = is;
    ordered = le;
    above = λ other i q is_other. elim q [
      | inl p ↦ inl (only other p)
      | inr same ↦ inr (not_below c other id i same is is_other)
    ];
  }

  module _ (least next : Id) (l : AreLeastOf P least next) where
    -- no other is below the first
    above_first : (other : CommentEntry) (i : Id) → P other → IsIdOf other i → is_below i least ≡ false
    above_first other i p is_other = elim (l.above other i p is_other) [
      | inl same ↦ not_below l.one other least i same l.is_first is_other
      | inr not ↦ below-trans least next i l.ordered not
    ]

    -- beside several
    with_several : (p : Bool) → is_below id least ≡ p → (q : Bool) → is_below id next ≡ q
        → Tells OrThis (if p then Several id least else (if q then Several least id else Several least next))
    with_several true lt q e = record {
      one = c;
      two = l.one;
      differ = λ same. new (subst P (sym same) l.so_one);
      so_one = inr refl;
      so_two = inl l.so_one;
      is_first = is;
      is_second = l.is_first;
      ordered = below-one_way id least lt;
      above = λ other i q is_other. elim q [
        | inl p ↦ inr (above_first other i p is_other)
        | inr same ↦ inl same
      ];
    }
    with_several false le true lt = record {
      one = l.one;
      two = c;
      differ = λ same. new (subst P same l.so_one);
      so_one = inl l.so_one;
      so_two = inr refl;
      is_first = l.is_first;
      is_second = is;
      ordered = le;
      above = λ other i q is_other. elim q [
        | inl p ↦ elim (l.above other i p is_other) [
          | inl same ↦ inl same
          | inr not ↦ inr (below-trans id next i (below-one_way id next lt) not)
        ]
        | inr same ↦ inr (not_below c other id i same is is_other)
      ];
    }
    with_several false le false ge = record {
      one = l.one;
      two = l.two;
      differ = l.differ;
      so_one = inl l.so_one;
      so_two = inl l.so_two;
      is_first = l.is_first;
      is_second = l.is_second;
      ordered = l.ordered;
      above = λ other i q is_other. elim q [
        | inl p ↦ l.above other i p is_other
        | inr same ↦ (
            let ids : i ≡ id = one_id c i id (subst (λ (x : CommentEntry). IsIdOf x i) same is_other) is in
            inr (ap (λ (x : Id). is_below x next) ids ∙ ge))
      ];
    }

  -- one that was not among them
  pub tells_more : (f : Fitting) → Tells P f → Tells OrThis (more f c id)
  tells_more Nothing none = (inr refl, is, λ other q. elim q [ inl p ↦ absurd (none other p) | inr same ↦ same ])
  tells_more (One d first) (so, is_first, only) = with_one d first so is_first only (is_below id first) refl
  tells_more (Several least next) l = with_several least next l (is_below id least) refl (is_below id next) refl

-- several, one after the other
pub tells_after : (P : CommentEntry → Type 0) (f g : Fitting) (cs : List CommentEntry) → Tells P f → FitsAfter f cs g → StandApart cs → ((c : CommentEntry) → Contains cs c → P c → ⊥)
    → Tells (λ (x : CommentEntry). P x ⊎ Contains cs x) g
tells_after P f g [] tells after apart new =
    tells_same P (λ (x : CommentEntry). P x ⊎ Contains [] x) (λ x p. inl p) (λ x q. elim q [ inl p ↦ p | inr none ↦ absurd (omega (arith, none.1)) ]) g
    (subst (Tells P) (sym after) tells)
tells_after P f g (c ∷ cs) tells (id, is, after) (apart, rest) new =
    let Later : CommentEntry → Type 0 = λ x. P x ⊎ (x ≡ c) in
    let step : Tells Later (more f c id) = tells_more P c id is (new c (Contains-first c cs)) f tells in
    let fresh : (x : CommentEntry) → Contains cs x → Later x → ⊥ = λ x has q. elim q [
      | inl p ↦ new x (Contains-later c cs x has) p
      | inr same ↦ apart (subst (Contains cs) same has)
    ] in
    tells_same (λ (x : CommentEntry). Later x ⊎ Contains cs x) (λ (x : CommentEntry). P x ⊎ Contains (c ∷ cs) x)
    (λ x q. elim q [
      | inl either ↦ elim either [ inl p ↦ inl p | inr same ↦ inr (subst (Contains (c ∷ cs)) (sym same) (Contains-first c cs)) ]
      | inr has ↦ inr (Contains-later c cs x has)
    ])
    (λ x q. elim q [
      | inl p ↦ inl (inl p)
      | inr has ↦ elim (Contains-cons_cases c cs x has) [ inl same ↦ inl (inr (sym same)) | inr later ↦ inr later ]
    ])
    g (tells_after Later (more f c id) g cs step after rest fresh)

-- ---- the comments of a bug, one after the other

pub after_both : (f g h : Fitting) (xs ys : List CommentEntry) → FitsAfter f xs g → FitsAfter g ys h → FitsAfter f (xs ++ ys) h
after_both f g h [] ys first second = subst (λ (x : Fitting). FitsAfter x ys h) first second
after_both f g h (x ∷ xs) ys (id, is, first) second = (id, is, after_both (more f x id) g h xs ys first second)

-- the comments up to the next
pub fitting_more : (word : List ℕ) (bug : HeadEntry) (ids : List Id) (k : ℕ) (d : Id) → k < length ids
    → fitting_of word (entries_of bug (take (k + 1) ids)) ≡ fitting_of word (entries_of bug (take k ids)) ++ fitting_of word (entries_of bug (get_or ids k d ∷ []))
fitting_more word bug ids k d lt =
    let entry : Id → CommentEntry = λ id. record { bug = bug; comment = id } in
    ap (fitting_of word) (ap (map entry) (take_more ids k d lt) ∙ map-append entry (take k ids) (get_or ids k d ∷ []))
    ∙ filter-append (λ (c : CommentEntry). begins_with word (comment_digits c)) (entries_of bug (take k ids)) (entries_of bug (get_or ids k d ∷ []))

module _ (word : List ℕ) (c : CommentEntry) (id : Id) (is : IsId id) (digits : encode_lower id.bytes ≡ comment_digits c) where
  -- one that the argument fits is added
  pub fits_after_one : (f : Fitting) → begins_with word (encode_lower id.bytes) ≡ true → FitsAfter f (fitting_of word (c ∷ [])) (more f c id)
  fits_after_one f begins =
      let fits : begins_with word (comment_digits c) ≡ true = ap (begins_with word) (sym digits) ∙ begins in
      subst (λ (b : Bool). FitsAfter f (cond b (c ∷ []) []) (more f c id)) (sym fits) (id, record { is_id = is; digits = digits }, refl)

  -- and another is not
  pub passes_one : (f : Fitting) → begins_with word (encode_lower id.bytes) ≡ false → FitsAfter f (fitting_of word (c ∷ [])) f
  passes_one f begins =
      let fits : begins_with word (comment_digits c) ≡ false = ap (begins_with word) (sym digits) ∙ begins in
      subst (λ (b : Bool). FitsAfter f (cond b (c ∷ []) []) f) (sym fits) refl

-- an argument has a digit at a bug's places
pub some_bug_digit : (word : List ℕ) → is_prefix_text word ≡ true → some_digits (digits_at (λ place. not (is_second place)) 0 word) ≡ None → ⊥
some_bug_digit [] is none = cc (is)
some_bug_digit (digit ∷ digits) is none = cc (none)
