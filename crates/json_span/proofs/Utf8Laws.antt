-- A part of a UTF-8 text is UTF-8.
use Rattle.std.proofs.Common.{◌≡◌, ℕ, zero, suc, ◌+◌, ◌-◌, ◌<◌, true, List, [], ◌∷◌, ◌++◌, length, take, drop, get_or, Some, refl, sym, ap, subst, ◌∙◌, append_assoc, arith, map, inl, inr}
use Rattle.std.specs.List.{AllByRecursion, All}
use Rattle.std.specs.Str.{IsUtf8, IsCharBoundary}
use Rattle.std.proofs.lemmas.List.{length-append}
use Rattle.std.proofs.lemmas.List.Elements.{All-nil, All-cons}
use Rattle.std.proofs.lemmas.Str.{IsUtf8-between, IsCharBoundary-before_ascii}
use Rattle.std.proofs.lemmas.Bool.Decides.{nat_tests}
use Rattle.std.proofs.Math.Seq.{take-append_seam, drop-append_seam, get_or-append_seam}
use Rattle.json_span.specs.Grammar.{Each, is_space, IsColon, IsPiece, IsPartText, ValueWithin, Piece, piece_text, commas, close_of, Splits}
use Rattle.json_span.specs.Parts.{members_of, elements_of}
use Rattle.json_span.specs.declared.state.Kind.{Kind}
use Rattle.json_span.specs.declared.state.Kind.TheVariants.{Array, Object}
use Rattle.json_span.proofs.AgainLaws.{scalar_begins}
use Rattle.json_span.proofs.CutLaws.{value_grouped, name_grouped, next_grouped, opened_grouped, members_found, elements_found}

-- ---- cuts at bytes of ASCII

-- a text begins with a byte of ASCII
record Head (t : List ℕ) : Type 0 where
  b : ℕ
  bs : List ℕ
  at : t ≡ b ∷ bs
  ascii : b < 128

boundary : (x y : List ℕ) → Head y → IsCharBoundary (x ++ y) (length x)
boundary x y h =
    let e : x ++ y ≡ x ++ h.b ∷ h.bs = ap (λ (z : List ℕ). x ++ z) h.at in
    let here : get_or (x ++ y) (length x) 0 ≡ h.b = ap (λ (z : List ℕ). get_or z (length x) 0) e ∙ get_or-append_seam x h.b h.bs 0 in
    let a = h.ascii in
    IsCharBoundary-before_ascii (x ++ y) (length x) (omega (arith, length-append x y, ap length h.at)) (omega arith)

middle_utf8 : (text x y z : List ℕ) → text ≡ x ++ (y ++ z) → IsUtf8 text → Head (y ++ z) → Head z → IsUtf8 y
middle_utf8 text x y z e u hy hz =
    let from : IsCharBoundary text (length x) = subst (λ (t : List ℕ). IsCharBoundary t (length x)) (sym e) (boundary x (y ++ z) hy) in
    let whole : text ≡ (x ++ y) ++ z = e ∙ sym (append_assoc x y z) in
    let len : length (x ++ y) ≡ length x + length y = length-append x y in
    let to : IsCharBoundary text (length x + length y) = subst (λ (n : ℕ). IsCharBoundary text n) len (subst (λ (t : List ℕ). IsCharBoundary t (length (x ++ y))) (sym whole) (boundary (x ++ y) z hz)) in
    let cut : IsUtf8 (take (length x + length y - length x) (drop (length x) text)) = IsUtf8-between text (length x) (length x + length y) u (omega arith) from to in
    let n : length x + length y - length x ≡ length y = omega arith in
    let same : take (length x + length y - length x) (drop (length x) text) ≡ y = ap (λ (k : ℕ). take k (drop (length x) text)) n ∙ ap (take (length y)) (ap (drop (length x)) e ∙ drop-append_seam x (y ++ z)) ∙ take-append_seam y z in
    subst IsUtf8 same cut

-- ---- the first bytes

more_head : (x y : List ℕ) → Head x → Head (x ++ y)
more_head x y h = record { b = h.b; bs = h.bs ++ y; at = ap (λ (z : List ℕ). z ++ y) h.at; ascii = h.ascii }

value_head : (d : ℕ) (t : List ℕ) → ValueWithin d t → Head t
value_head zero t is = let b = scalar_begins t is in record { b = b.b; bs = b.bs; at = b.at; ascii = b.ascii }
value_head (suc d) t (inl is) = let b = scalar_begins t is in record { b = b.b; bs = b.bs; at = b.at; ascii = b.ascii }
value_head (suc d) t (inr (Array, l)) = record { b = 91; bs = l.inner ++ 93 ∷ []; at = l.whole; ascii = omega arith }
value_head (suc d) t (inr (Object, l)) = record { b = 123; bs = l.inner ++ 125 ∷ []; at = l.whole; ascii = omega arith }

space_ascii : (b : ℕ) → is_space b ≡ true → b < 128
space_ascii b e = grind (arith, nat_tests)

spaced_head : (sp t : List ℕ) → Each is_space sp → Head t → Head (sp ++ t)
spaced_head [] t each h = h
spaced_head (b ∷ bs) t each h = record { b = b; bs = bs ++ t; at = refl; ascii = space_ascii b each.0 }

close_head : (k : Kind) (last : List ℕ) → Head (close_of k ∷ last)
close_head Array last = record { b = 93; bs = last; at = refl; ascii = omega arith }
close_head Object last = record { b = 125; bs = last; at = refl; ascii = omega arith }

commas_head : (ps : List Piece) (w : List ℕ) → Head w → Head (commas ps ++ w)
commas_head [] w h = h
commas_head (p ∷ ps) w h = record { b = 44; bs = (piece_text p ++ commas ps) ++ w; at = refl; ascii = omega arith }

colon_head : (m t : List ℕ) → IsColon m → Head (m ++ t)
colon_head m t c = more_head m t (subst Head (sym c.whole) (spaced_head c.before (58 ∷ c.after) c.is_before (record { b = 58; bs = c.after; at = refl; ascii = omega arith })))

-- ---- the parts

value_utf8 : (k : Kind) (text f w : List ℕ) (p : Piece) (ps : List Piece) → IsUtf8 text → Head w → IsPiece k IsPartText p → text ≡ f ++ ((piece_text p ++ commas ps) ++ w) → IsUtf8 p.value
value_utf8 k text f w p ps u h is e =
    middle_utf8 text (f ++ (p.before ++ (p.name ++ p.middle))) p.value (p.after ++ (commas ps ++ w)) (e ∙ value_grouped f p.before p.name p.middle p.value p.after (commas ps) w) u
    (more_head p.value (p.after ++ (commas ps ++ w)) (value_head 100 p.value is.value.within)) (spaced_head p.after (commas ps ++ w) is.after (commas_head ps w h))

name_utf8 : (text f w : List ℕ) (p : Piece) (ps : List Piece) → IsUtf8 text → IsPiece Object IsPartText p → text ≡ f ++ ((piece_text p ++ commas ps) ++ w) → IsUtf8 p.name
name_utf8 text f w p ps u is e =
    let s = is.named.0 in
    middle_utf8 text (f ++ p.before) p.name (p.middle ++ (p.value ++ (p.after ++ (commas ps ++ w)))) (e ∙ name_grouped f p.before p.name p.middle p.value p.after (commas ps) w) u
    (more_head p.name (p.middle ++ (p.value ++ (p.after ++ (commas ps ++ w)))) (record { b = 34; bs = s.inner ++ 34 ∷ []; at = s.whole; ascii = omega arith })) (colon_head p.middle (p.value ++ (p.after ++ (commas ps ++ w))) is.named.1)

-- both the name and the value are UTF-8
abbrev pub BothUtf8 : List ℕ × List ℕ → Type 0
BothUtf8 m = IsUtf8 m.0 × IsUtf8 m.1

members_walk : (text w : List ℕ) → IsUtf8 text → Head w → (ps : List Piece) (p : Piece) (f : List ℕ) → IsPiece Object IsPartText p → AllByRecursion (IsPiece Object IsPartText) ps → text ≡ f ++ ((piece_text p ++ commas ps) ++ w) → All BothUtf8 (map (λ (q : Piece). (q.name, q.value)) (p ∷ ps))
members_walk text w u h [] p f is all e = All-cons BothUtf8 (p.name, p.value) [] (name_utf8 text f w p [] u is e, value_utf8 Object text f w p [] u h is e) (All-nil BothUtf8)
members_walk text w u h (q ∷ qs) p f is all e =
    All-cons BothUtf8 (p.name, p.value) (map (λ (r : Piece). (r.name, r.value)) (q ∷ qs)) (name_utf8 text f w p (q ∷ qs) u is e, value_utf8 Object text f w p (q ∷ qs) u h is e)
    (members_walk text w u h qs q (f ++ (piece_text p ++ 44 ∷ [])) all.0 all.1 (e ∙ next_grouped f (piece_text p) (piece_text q ++ commas qs) w))

elements_walk : (text w : List ℕ) → IsUtf8 text → Head w → (ps : List Piece) (p : Piece) (f : List ℕ) → IsPiece Array IsPartText p → AllByRecursion (IsPiece Array IsPartText) ps → text ≡ f ++ ((piece_text p ++ commas ps) ++ w) → All IsUtf8 (map (λ (q : Piece). q.value) (p ∷ ps))
elements_walk text w u h [] p f is all e = All-cons IsUtf8 p.value [] (value_utf8 Array text f w p [] u h is e) (All-nil IsUtf8)
elements_walk text w u h (q ∷ qs) p f is all e =
    All-cons IsUtf8 p.value (map (λ (r : Piece). r.value) (q ∷ qs)) (value_utf8 Array text f w p (q ∷ qs) u h is e)
    (elements_walk text w u h qs q (f ++ (piece_text p ++ 44 ∷ [])) all.0 all.1 (e ∙ next_grouped f (piece_text p) (piece_text q ++ commas qs) w))

members_split : (text front : List ℕ) (pieces : List Piece) → IsUtf8 text → Splits Object text front pieces → All BothUtf8 (map (λ (q : Piece). (q.name, q.value)) pieces)
members_split text front [] u s = All-nil BothUtf8
members_split text front (p ∷ ps) u s = members_walk text (125 ∷ s.last) u (close_head Object s.last) ps p (front ++ 123 ∷ []) s.inside.0 s.inside.1
    (s.whole ∙ ap (λ (x : List ℕ). (front ++ 123 ∷ x) ++ 125 ∷ s.last) s.inside.2 ∙ opened_grouped front (piece_text p ++ commas ps) (125 ∷ s.last) 123)

elements_split : (text front : List ℕ) (pieces : List Piece) → IsUtf8 text → Splits Array text front pieces → All IsUtf8 (map (λ (q : Piece). q.value) pieces)
elements_split text front [] u s = All-nil IsUtf8
elements_split text front (p ∷ ps) u s = elements_walk text (93 ∷ s.last) u (close_head Array s.last) ps p (front ++ 91 ∷ []) s.inside.0 s.inside.1
    (s.whole ∙ ap (λ (x : List ℕ). (front ++ 91 ∷ x) ++ 93 ∷ s.last) s.inside.2 ∙ opened_grouped front (piece_text p ++ commas ps) (93 ∷ s.last) 91)

-- The members of a UTF-8 text are UTF-8.
pub members_utf8 : (text : List ℕ) (parts : List (List ℕ × List ℕ)) → IsUtf8 text → members_of text ≡ Some parts → All BothUtf8 parts
members_utf8 text parts u e = let h = members_found text parts e in subst (All BothUtf8) (sym h.3) (members_split text h.0 h.1 u h.2)

-- The elements of a UTF-8 text are UTF-8.
pub elements_utf8 : (text : List ℕ) (parts : List (List ℕ)) → IsUtf8 text → elements_of text ≡ Some parts → All IsUtf8 parts
elements_utf8 text parts u e = let h = elements_found text parts e in subst (All IsUtf8) (sym h.3) (elements_split text h.0 h.1 u h.2)
