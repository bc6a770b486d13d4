-- A value text that is a list splits again, into parts with one bracket fewer open.
use Rattle.std.proofs.Common.{◌≡◌, ℕ, suc, ◌<◌, ◌≤◌, true, false, eqb, List, [], ◌∷◌, ◌++◌, Some, refl, sym, ap, subst, ◌∙◌, arith, map, inl, inr}
use Rattle.std.specs.List.{AllByRecursion, All}
use Rattle.std.proofs.lemmas.List.Elements.{All-nil, All-cons}
use Rattle.std.proofs.lemmas.Bool.{eqb-true, cases_lt}
use Rattle.std.proofs.lemmas.Bool.Decides.{nat_tests}
use Rattle.json_span.specs.Grammar.{is_space, is_digit, Integer, Optional, Scalar, zero_digit, no_zero_first, absent, present, string_text, number_text, true_text, false_text, null_text, open_of, close_of, Piece, IsPiece, Inside, IsList, ValueWithin, IsValueText, IsPartText, Splits}
use Rattle.json_span.specs.Joined.{IsMemberOf}
use Rattle.json_span.specs.Parts.{members_of, elements_of, HasMembers, HasElements}
use Rattle.json_span.specs.declared.state.Kind.{Kind}
use Rattle.json_span.specs.declared.state.Kind.TheVariants.{Array, Object}
use Rattle.json_span.proofs.BasicLaws.{some_is}
use Rattle.json_span.proofs.CutLaws.{members_taken, members_found, elements_taken, elements_found}
use Rattle.json_span.proofs.ValueLaws.{deeper, inside_deeper}

-- ---- first bytes

-- a scalar begins with a byte of ASCII, and with no white space or bracket
pub record Begins (t : List ℕ) : Type 0 where
  pub b : ℕ
  pub bs : List ℕ
  pub at : t ≡ b ∷ bs
  pub ascii : b < 128
  pub no_space : is_space b ≡ false
  pub no_array : eqb b 91 ≡ false
  pub no_object : eqb b 123 ≡ false

digit_begins : (b : ℕ) (bs : List ℕ) → is_digit b ≡ true → Begins (b ∷ bs)
digit_begins b bs is = record { b = b; bs = bs; at = refl; ascii = grind (arith, nat_tests); no_space = grind (arith, nat_tests); no_array = grind (arith, nat_tests); no_object = grind (arith, nat_tests) }

number_begins : (s i r : List ℕ) → Optional (λ b. eqb b 45) s → Integer i → Begins (s ++ (i ++ r))
number_begins s i r absent zero_digit = record { b = 48; bs = r; at = refl; ascii = omega arith; no_space = refl; no_array = refl; no_object = refl }
number_begins s i r absent (no_zero_first {b} {t} is ne each) = digit_begins b (t ++ r) is
number_begins s i r (present {b} e) w = record { b = 45; bs = i ++ r; at = ap (λ (x : ℕ). x ∷ (i ++ r)) (eqb-true b 45 e); ascii = omega arith; no_space = refl; no_array = refl; no_object = refl }

-- A text with no bracket begins with an ASCII byte that is neither white space nor a bracket.
pub scalar_begins : (t : List ℕ) → Scalar t → Begins t
scalar_begins t (string_text is) = record { b = 34; bs = is.inner ++ 34 ∷ []; at = is.whole; ascii = omega arith; no_space = refl; no_array = refl; no_object = refl }
scalar_begins t (number_text is) = subst Begins (sym is.whole) (number_begins is.sign is.integer (is.fraction ++ is.exponent) is.is_sign is.is_integer)
scalar_begins t true_text = record { b = 116; bs = 114 ∷ 117 ∷ 101 ∷ []; at = refl; ascii = omega arith; no_space = refl; no_array = refl; no_object = refl }
scalar_begins t false_text = record { b = 102; bs = 97 ∷ 108 ∷ 115 ∷ 101 ∷ []; at = refl; ascii = omega arith; no_space = refl; no_array = refl; no_object = refl }
scalar_begins t null_text = record { b = 110; bs = 117 ∷ 108 ∷ 108 ∷ []; at = refl; ascii = omega arith; no_space = refl; no_array = refl; no_object = refl }

head_is : (a b : ℕ) (x y : List ℕ) → a ∷ x ≡ b ∷ y → a ≡ b
head_is a b x y e = cc

-- a list that begins with no white space begins with its bracket
split_begins : (k : Kind) (text front : List ℕ) (pieces : List Piece) (b : ℕ) (bs : List ℕ) → Splits k text front pieces → text ≡ b ∷ bs → is_space b ≡ false → b ≡ open_of k
split_begins k text [] pieces b bs s e clear = head_is b (open_of k) bs (s.inner ++ close_of k ∷ s.last) (sym e ∙ s.whole)
split_begins k text (c ∷ cs) pieces b bs s e clear =
    let same : b ≡ c = head_is b c bs ((cs ++ open_of k ∷ s.inner) ++ close_of k ∷ s.last) (sym e ∙ s.whole) in
    let yes : is_space b ≡ true = ap is_space same ∙ s.is_front.0 in
    absurd (let both : true ≡ false = sym yes ∙ clear in cc)

scalar_no_list : (k : Kind) (text front : List ℕ) (pieces : List Piece) → Scalar text → Splits k text front pieces → ⊥
scalar_no_list Array text front pieces is s = let f = scalar_begins text is in let e : f.b ≡ 91 = split_begins Array text front pieces f.b f.bs s f.at f.no_space in let n : eqb 91 91 ≡ false = ap (λ (x : ℕ). eqb x 91) (sym e) ∙ f.no_array in absurd cc
scalar_no_list Object text front pieces is s = let f = scalar_begins text is in let e : f.b ≡ 123 = split_begins Object text front pieces f.b f.bs s f.at f.no_space in let n : eqb 123 123 ≡ false = ap (λ (x : ℕ). eqb x 123) (sym e) ∙ f.no_object in absurd cc

-- ---- a list's own pieces

-- a list of value texts splits into its pieces
list_splits : (k : Kind) (d : ℕ) (text : List ℕ) → d ≤ 100 → (l : IsList k (ValueWithin d) text) → Splits k text [] l.pieces
list_splits k d text le l = record { inner = l.inner; last = []; is_front = tt; is_last = tt; inside = inside_deeper k (ValueWithin d) IsPartText (λ t is. deeper d 100 t le (record { within = is })) l.inner l.pieces l.inside; whole = l.whole }

all_pieces : (k : Kind) (V : List ℕ → Type 0) (inner : List ℕ) (ps : List Piece) → Inside k V inner ps → AllByRecursion (IsPiece k V) ps
all_pieces k V inner [] is = tt
all_pieces k V inner (p ∷ ps) is = (is.0, is.1)

member_values : (d : ℕ) (V : List ℕ → Type 0) → ((t : List ℕ) → V t → IsValueText d t) → (ps : List Piece) → AllByRecursion (IsPiece Object V) ps → All (IsMemberOf d) (map (λ (p : Piece). (p.name, p.value)) ps)
member_values d V f [] all = All-nil (IsMemberOf d)
member_values d V f (p ∷ ps) all = All-cons (IsMemberOf d) (p.name, p.value) (map (λ (q : Piece). (q.name, q.value)) ps) (all.0.named.0, f p.value all.0.value) (member_values d V f ps all.1)

element_values : (d : ℕ) (V : List ℕ → Type 0) → ((t : List ℕ) → V t → IsValueText d t) → (ps : List Piece) → AllByRecursion (IsPiece Array V) ps → All (IsValueText d) (map (λ (p : Piece). p.value) ps)
element_values d V f [] all = All-nil (IsValueText d)
element_values d V f (p ∷ ps) all = All-cons (IsValueText d) p.value (map (λ (q : Piece). q.value) ps) (f p.value all.0.value) (element_values d V f ps all.1)

below : (d : ℕ) (text : List ℕ) (parts : List (List ℕ × List ℕ)) → d ≤ 100 → ValueWithin (suc d) text → HasMembers text parts → All (IsMemberOf d) parts
below d text parts le (inl is) (front, pieces, s, e) = absurd (scalar_no_list Object text front pieces is s)
below d text parts le (inr (Array, l)) (front, pieces, s, e) = absurd (let f : 91 ≡ 123 = split_begins Object text front pieces 91 (l.inner ++ 93 ∷ []) s l.whole refl in omega arith)
below d text parts le (inr (Object, l)) has =
    let same : Some parts ≡ Some (map (λ (p : Piece). (p.name, p.value)) l.pieces) = sym (members_taken text parts has) ∙ members_taken text (map (λ (p : Piece). (p.name, p.value)) l.pieces) ([], l.pieces, list_splits Object d text le l, refl) in
    subst (λ (x : List (List ℕ × List ℕ)). All (IsMemberOf d) x) (sym (some_is parts (map (λ (p : Piece). (p.name, p.value)) l.pieces) same))
    (member_values d (ValueWithin d) (λ t is. record { within = is }) l.pieces (all_pieces Object (ValueWithin d) l.inner l.pieces l.inside))

below_elements : (d : ℕ) (text : List ℕ) (parts : List (List ℕ)) → d ≤ 100 → ValueWithin (suc d) text → HasElements text parts → All (IsValueText d) parts
below_elements d text parts le (inl is) (front, pieces, s, e) = absurd (scalar_no_list Array text front pieces is s)
below_elements d text parts le (inr (Object, l)) (front, pieces, s, e) = absurd (let f : 123 ≡ 91 = split_begins Array text front pieces 123 (l.inner ++ 125 ∷ []) s l.whole refl in omega arith)
below_elements d text parts le (inr (Array, l)) has =
    let same : Some parts ≡ Some (map (λ (p : Piece). p.value) l.pieces) = sym (elements_taken text parts has) ∙ elements_taken text (map (λ (p : Piece). p.value) l.pieces) ([], l.pieces, list_splits Array d text le l, refl) in
    subst (All (IsValueText d)) (sym (some_is parts (map (λ (p : Piece). p.value) l.pieces) same))
    (element_values d (ValueWithin d) (λ t is. record { within = is }) l.pieces (all_pieces Array (ValueWithin d) l.inner l.pieces l.inside))

-- parts of any list are value texts of depth 100, and so of each depth from there
above : (d : ℕ) (text : List ℕ) (parts : List (List ℕ × List ℕ)) → 100 ≤ d → HasMembers text parts → All (IsMemberOf d) parts
above d text parts le (front, pieces, s, e) = subst (λ (x : List (List ℕ × List ℕ)). All (IsMemberOf d) x) (sym e) (member_values d IsPartText (λ t is. deeper 100 d t le is) pieces (all_pieces Object IsPartText s.inner pieces s.inside))

above_elements : (d : ℕ) (text : List ℕ) (parts : List (List ℕ)) → 100 ≤ d → HasElements text parts → All (IsValueText d) parts
above_elements d text parts le (front, pieces, s, e) = subst (All (IsValueText d)) (sym e) (element_values d IsPartText (λ t is. deeper 100 d t le is) pieces (all_pieces Array IsPartText s.inner pieces s.inside))

-- The values of an object have not too many brackets open.
pub members_limit : (text : List ℕ) (parts : List (List ℕ × List ℕ)) → members_of text ≡ Some parts → All (IsMemberOf 100) parts
members_limit text parts e = above 100 text parts (omega arith) (members_found text parts e)

-- The elements of an array have not too many brackets open.
pub elements_limit : (text : List ℕ) (parts : List (List ℕ)) → elements_of text ≡ Some parts → All IsPartText parts
elements_limit text parts e = above_elements 100 text parts (omega arith) (elements_found text parts e)

-- The values of a value text's members have one bracket fewer open.
pub members_shallower : (d : ℕ) (text : List ℕ) (parts : List (List ℕ × List ℕ)) → IsValueText (suc d) text → members_of text ≡ Some parts → All (IsMemberOf d) parts
members_shallower d text parts is e = elim (cases_lt 100 d) [
  | inl lt ↦ above d text parts (omega arith) (members_found text parts e)
  | inr le ↦ below d text parts le is.within (members_found text parts e)
]

-- The elements of a value text have one bracket fewer open.
pub elements_shallower : (d : ℕ) (text : List ℕ) (parts : List (List ℕ)) → IsValueText (suc d) text → elements_of text ≡ Some parts → All (IsValueText d) parts
elements_shallower d text parts is e = elim (cases_lt 100 d) [
  | inl lt ↦ above_elements d text parts (omega arith) (elements_found text parts e)
  | inr le ↦ below_elements d text parts le is.within (elements_found text parts e)
]

-- ---- lists split again

object_again : (rest : List ℕ) → ValueWithin 101 (123 ∷ rest) → (parts : List (List ℕ × List ℕ)) × (members_of (123 ∷ rest) ≡ Some parts)
object_again rest (inl is) = let f = scalar_begins (123 ∷ rest) is in absurd (let e : 123 ≡ f.b = head_is 123 f.b rest f.bs f.at in let n : eqb 123 123 ≡ false = ap (λ (x : ℕ). eqb x 123) e ∙ f.no_object in cc)
object_again rest (inr (Array, l)) = absurd (let e : 123 ≡ 91 = head_is 123 91 rest (l.inner ++ 93 ∷ []) l.whole in omega arith)
object_again rest (inr (Object, l)) = let parts : List (List ℕ × List ℕ) = map (λ (p : Piece). (p.name, p.value)) l.pieces in (parts, members_taken (123 ∷ rest) parts ([], l.pieces, list_splits Object 100 (123 ∷ rest) (omega arith) l, refl))

array_again : (rest : List ℕ) → ValueWithin 101 (91 ∷ rest) → (parts : List (List ℕ)) × (elements_of (91 ∷ rest) ≡ Some parts)
array_again rest (inl is) = let f = scalar_begins (91 ∷ rest) is in absurd (let e : 91 ≡ f.b = head_is 91 f.b rest f.bs f.at in let n : eqb 91 91 ≡ false = ap (λ (x : ℕ). eqb x 91) e ∙ f.no_array in cc)
array_again rest (inr (Object, l)) = absurd (let e : 91 ≡ 123 = head_is 91 123 rest (l.inner ++ 125 ∷ []) l.whole in omega arith)
array_again rest (inr (Array, l)) = let parts : List (List ℕ) = map (λ (p : Piece). p.value) l.pieces in (parts, elements_taken (91 ∷ rest) parts ([], l.pieces, list_splits Array 100 (91 ∷ rest) (omega arith) l, refl))

-- A value text that begins as an object splits again.
pub objects_split : (d : ℕ) (rest : List ℕ) → d ≤ 101 → IsValueText d (123 ∷ rest) → (parts : List (List ℕ × List ℕ)) × (members_of (123 ∷ rest) ≡ Some parts)
objects_split d rest le is = object_again rest (deeper d 101 (123 ∷ rest) le is).within

-- A value text that begins as an array splits again.
pub arrays_split : (d : ℕ) (rest : List ℕ) → d ≤ 101 → IsValueText d (91 ∷ rest) → (parts : List (List ℕ)) × (elements_of (91 ∷ rest) ≡ Some parts)
arrays_split d rest le is = array_again rest (deeper d 101 (91 ∷ rest) le is).within
