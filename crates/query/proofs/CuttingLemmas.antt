-- Words, and the parts of a pair, stand between the cuts.
use Rattle.std.proofs.Common.{◌≡◌, ◌≢◌, ◌↔◌, ◌⊎◌, inl, inr, ℕ, ◌+◌, Bool, true, false, not, ◌&&◌, ◌==◌, if◌then◌else◌, List, [], ◌∷◌, ◌++◌, length, Option, Some, None, MatchOption, refl, sym, ap, ◌∙◌, subst, arith, append-nil, append_assoc}
use Rattle.std.specs.Option.{option_map}
use Rattle.std.specs.List.{list_all}
use Rattle.std.proofs.lemmas.Bool.{and_parts, eqb-true}
use Rattle.query.specs.Cutting.{BeginsBlank, HasWord, HasWords, IsCutAtColon, is_unbroken, is_whole}
use Rattle.query.specs.Words.{Word, cut_outside, cuts, is_blank, turned, with_front, word_at, words_of, words_on}

both : (x y : Bool) → x ≡ true → y ≡ true → (x && y) ≡ true
both x y h k = rw (h, k) refl

flip : (b : Bool) → b ≡ false → not b ≡ true
flip b h = ap not h

-- whether the place after these bytes is inside quotes
abbrev after : Bool → List ℕ → Bool
after inside [] = inside
after inside (b ∷ bs) = after (turned inside b) bs

after_more : (inside : Bool) (begun : List ℕ) (b : ℕ) → after inside (begun ++ b ∷ []) ≡ turned (after inside begun) b
after_more inside [] b = refl
after_more inside (x ∷ xs) b = after_more (turned inside x) xs b

unbroken_more : (inside : Bool) (begun : List ℕ) (b : ℕ) → is_unbroken inside begun ≡ true → cuts (after inside begun) b ≡ false → is_unbroken inside (begun ++ b ∷ []) ≡ true
unbroken_more inside [] b h k = both (not (cuts inside b)) true (flip (cuts inside b) k) refl
unbroken_more inside (x ∷ xs) b h k =
    let parts = and_parts (not (cuts inside x)) (is_unbroken (turned inside x) xs) h in
    both (not (cuts inside x)) (is_unbroken (turned inside x) (xs ++ b ∷ [])) parts.0 (unbroken_more (turned inside x) xs b parts.1 k)

-- a blank before the words
blank_first : (at b : ℕ) (bs : List ℕ) (words : List Word) → is_blank b ≡ true → HasWords (at + 1) bs words → HasWords at (b ∷ bs) words
blank_first at b bs [] h has = both (is_blank b) (list_all is_blank bs) h has
blank_first at b bs (word ∷ words) h has =
    let first = has.1 in (
      has.0,
      record {
        blanks = b ∷ first.blanks;
        is = ap (λ x. b ∷ x) first.is;
        before = both (is_blank b) (list_all is_blank first.blanks) h first.before;
        unbroken = first.unbroken;
        after = first.after;
        place = omega (arith, first.place);
      },
      has.2,
    )

-- a word with nothing before it
word_first : (at : ℕ) (begun rest : List ℕ) (words : List Word) → is_unbroken false begun ≡ true → BeginsBlank rest → HasWords (at + length begun) rest words → HasWords at (begun ++ rest) (word_at at begun ++ words)
word_first at [] rest words unbroken blank has =
    let none : at + 0 ≡ at = omega arith in
    subst (λ n. HasWords n rest words) none has
word_first at (x ∷ xs) rest words unbroken blank has = (
  rest,
  record {
    blanks = [];
    is = refl;
    before = refl;
    unbroken = unbroken;
    after = blank;
    place = omega arith;
  },
  has,
)

cut_blank : (inside : Bool) (b : ℕ) → cuts inside b ≡ true → is_blank b ≡ true
cut_blank true b h = cc
cut_blank false b h = h

cut_outside_quotes : (inside : Bool) (b : ℕ) → cuts inside b ≡ true → inside ≡ false
cut_outside_quotes true b h = cc
cut_outside_quotes false b h = refl

-- one byte more, where what follows it is known
words_by : (at : ℕ) (begun : List ℕ) (inside : Bool) (b : ℕ) (bs : List ℕ) (t : Bool) → cuts inside b ≡ t → is_unbroken false begun ≡ true → after false begun ≡ inside
    → ((at : ℕ) (begun : List ℕ) (inside : Bool) → is_unbroken false begun ≡ true → after false begun ≡ inside → HasWords at (begun ++ bs) (words_on at begun inside bs))
    → HasWords at (begun ++ b ∷ bs) (if t then word_at at begun ++ words_on (at + length begun + 1) [] inside bs else words_on at (begun ++ b ∷ []) (turned inside b) bs)
words_by at begun inside b bs true e unbroken state rest =
    let blank = cut_blank inside b e in
    let out = cut_outside_quotes inside b e in
    let words = words_on (at + length begun + 1) [] inside bs in
    let has : HasWords (at + length begun + 1) bs words = rest (at + length begun + 1) [] inside refl (sym out) in
    word_first at begun (b ∷ bs) words unbroken (inr (b, bs, refl, blank)) (blank_first (at + length begun) b bs words blank has)
words_by at begun inside b bs false e unbroken state rest =
    let whole = ap (λ i. cuts i b) state ∙ e in
    let words = words_on at (begun ++ b ∷ []) (turned inside b) bs in
    let has = rest at (begun ++ b ∷ []) (turned inside b) (unbroken_more false begun b unbroken whole) (after_more false begun b ∙ ap (λ i. turned i b) state) in
    subst (λ text. HasWords at text words) (append_assoc begun (b ∷ []) bs) has

words_in : (at : ℕ) (begun : List ℕ) (inside : Bool) (bs : List ℕ) → is_unbroken false begun ≡ true → after false begun ≡ inside → HasWords at (begun ++ bs) (words_on at begun inside bs)
words_in at begun inside [] unbroken state =
    subst (HasWords at (begun ++ [])) (append-nil (word_at at begun)) (word_first at begun [] [] unbroken (inl refl) refl)
words_in at begun inside (b ∷ bs) unbroken state =
    words_by at begun inside b bs (cuts inside b) refl unbroken state (λ next more quoted. words_in next more quoted bs)

pub words_are_cut : (text : List ℕ) → HasWords 0 text (words_of text)
words_are_cut text = words_in 0 [] false text refl refl

-- ---- the first colon outside quotes

not_true : (b : Bool) → not b ≡ true → b ≡ false
not_true true h = cc
not_true false h = refl

abbrev IsColonCut : Bool → List ℕ → Option (List ℕ × List ℕ) → Type 0
IsColonCut inside value o = MatchOption o (Unit {0}) (λ p. (value ≡ p.0 ++ 58 ∷ p.1) × (is_whole inside p.0 ≡ true))

colon_step : (inside : Bool) (b : ℕ) (bs : List ℕ) (t : Bool) → (not inside && b == 58) ≡ t → (o : Option (List ℕ × List ℕ)) → IsColonCut (turned inside b) bs o → IsColonCut inside (b ∷ bs) (if t then Some ([], bs) else option_map (with_front b) o)
colon_step inside b bs true e o h =
    let parts = and_parts (not inside) (b == 58) e in
    (ap (λ x. x ∷ bs) (eqb-true b 58 parts.1), parts.0)
colon_step inside b bs false e None h = tt
colon_step inside b bs false e (Some p) h =
    (ap (λ x. b ∷ x) h.0, both (not (not inside && b == 58)) (is_whole (turned inside b) p.0) (flip (not inside && b == 58) e) h.1)

colon_in : (inside : Bool) (value : List ℕ) → IsColonCut inside value (cut_outside inside value)
colon_in inside [] = tt
colon_in inside (b ∷ bs) = colon_step inside b bs (not inside && b == 58) refl (cut_outside (turned inside b) bs) (colon_in (turned inside b) bs)

whole_cuts : (inside : Bool) (front back : List ℕ) → is_whole inside front ≡ true → cut_outside inside (front ++ 58 ∷ back) ≡ Some (front, back)
whole_cuts inside [] back h = rw h refl
whole_cuts inside (b ∷ bs) back h =
    let parts = and_parts (not (not inside && b == 58)) (is_whole (turned inside b) bs) h in
    let test = not_true (not inside && b == 58) parts.0 in
    let rest = whole_cuts (turned inside b) bs back parts.1 in
    rw (test, rest) refl

abbrev parts_in : Option (List ℕ × List ℕ) → List ℕ × List ℕ
parts_in None = ([], [])
parts_in (Some parts) = parts

cut_is : (value front back : List ℕ) (o : Option (List ℕ × List ℕ)) → IsColonCut false value o → o ≡ Some (front, back) → IsCutAtColon value front back
cut_is value front back None h e = cc
cut_is value front back (Some (x, y)) h e =
    let first : x ≡ front = ap (λ o. (parts_in o).0) e in
    let second : y ≡ back = ap (λ o. (parts_in o).1) e in
    record { is = subst (λ z. value ≡ z ++ 58 ∷ back) first (subst (λ z. value ≡ x ++ 58 ∷ z) second h.0); first = subst (λ z. is_whole false z ≡ true) first h.1 }

pub colon_decides : (value front back : List ℕ) → (cut_outside false value ≡ Some (front, back)) ↔ IsCutAtColon value front back
colon_decides value front back = (
  cut_is value front back (cut_outside false value) (colon_in false value),
  λ (h : IsCutAtColon value front back). ap (cut_outside false) h.is ∙ whole_cuts false front back h.first,
)
