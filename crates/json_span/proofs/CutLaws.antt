-- What the spans of a split cut.
use Rattle.std.proofs.Common.{◌≡◌, ℕ, ◌+◌, List, [], ◌∷◌, ◌++◌, length, take, drop, Some, refl, sym, ap, subst, ◌∙◌, append_assoc, arith, map}
use Rattle.std.specs.List.{AllByRecursion, All}
use Rattle.std.specs.Option.{option_map}
use Rattle.std.proofs.lemmas.List.{length-append}
use Rattle.std.proofs.lemmas.List.Elements.{All-nil, All-cons}
use Rattle.std.proofs.Math.Seq.{take-append_seam, drop-append_seam}
use Rattle.json_span.specs.Grammar.{IsString, IsPiece, IsPartText, Piece, piece_text, commas, open_of, close_of, Splits, name_place, value_place, places, IsSplit, LiesIn, cut_of, CutsValue, CutsMember}
use Rattle.json_span.specs.Machine.{split_of}
use Rattle.json_span.specs.Parts.{member_of, members_of, elements_of, HasMembers, HasElements}
use Rattle.json_span.specs.declared.Member.{Member}
use Rattle.json_span.specs.declared.Span.{Span}
use Rattle.json_span.specs.declared.state.Kind.{Kind}
use Rattle.json_span.specs.declared.state.Kind.TheVariants.{Array, Object}
use Rattle.json_span.proofs.BasicLaws.{map_some}
use Rattle.json_span.proofs.SplitLaws.{split_taken, split_found}

-- ---- one span

record IsCut (text y : List ℕ) (s : Span) : Type 0 where
  lies : LiesIn text s
  is : cut_of text s ≡ y

cut_is : (text x y z : List ℕ) (at : ℕ) → text ≡ x ++ (y ++ z) → at ≡ length x → IsCut text y (record { at = at; len = length y })
cut_is text x y z at e n =
    let d : drop at text ≡ y ++ z = ap (λ (k : ℕ). drop k text) n ∙ ap (drop (length x)) e ∙ drop-append_seam x (y ++ z) in
    record { lies = omega (arith, ap length e, length-append x (y ++ z), length-append y z); is = ap (take (length y)) d ∙ take-append_seam y z }

-- ---- a piece's spans

-- an element has no name to be cut
abbrev NameCut : Kind → List ℕ → Piece → Span → Type 0
NameCut Array text p s = Unit {0}
NameCut Object text p s = IsCut text p.name s × IsString p.name

record Cuts (k : Kind) (text : List ℕ) (m : Member) (p : Piece) : Type 0 where
  name : NameCut k text p m.name
  value : IsCut text p.value m.value
  is_value : IsPartText p.value

-- The bytes round a value, grouped so that the value can be cut.
pub value_grouped : (f b n m v a c w : List ℕ) → f ++ (((b ++ (n ++ (m ++ (v ++ a)))) ++ c) ++ w) ≡ (f ++ (b ++ (n ++ m))) ++ (v ++ (a ++ (c ++ w)))
value_grouped f b n m v a c w = simp append_assoc

-- The bytes round a name, grouped so that the name can be cut.
pub name_grouped : (f b n m v a c w : List ℕ) → f ++ (((b ++ (n ++ (m ++ (v ++ a)))) ++ c) ++ w) ≡ (f ++ b) ++ (n ++ (m ++ (v ++ (a ++ (c ++ w)))))
name_grouped f b n m v a c w = simp append_assoc

-- The bytes round a comma, grouped so that what follows can be cut.
pub next_grouped : (f p q w : List ℕ) → f ++ ((p ++ 44 ∷ q) ++ w) ≡ (f ++ (p ++ 44 ∷ [])) ++ (q ++ w)
next_grouped f p q w = simp append_assoc

name_cut : (k : Kind) (text f w : List ℕ) (p : Piece) (ps : List Piece) (at : ℕ) → at ≡ length f → IsPiece k IsPartText p → text ≡ f ++ ((piece_text p ++ commas ps) ++ w) → NameCut k text p (name_place k at p)
name_cut Array text f w p ps at n is e = tt
name_cut Object text f w p ps at n is e =
    (cut_is text (f ++ p.before) p.name (p.middle ++ (p.value ++ (p.after ++ (commas ps ++ w)))) (at + length p.before) (e ∙ name_grouped f p.before p.name p.middle p.value p.after (commas ps) w) (omega (arith, length-append f p.before)), is.named.0)

piece_cut : (k : Kind) (text f w : List ℕ) (p : Piece) (ps : List Piece) (at : ℕ) → at ≡ length f → IsPiece k IsPartText p → text ≡ f ++ ((piece_text p ++ commas ps) ++ w) → Cuts k text (record { name = name_place k at p; value = value_place at p }) p
piece_cut k text f w p ps at n is e = record {
  name = name_cut k text f w p ps at n is e;
  value =
      cut_is text (f ++ (p.before ++ (p.name ++ p.middle))) p.value (p.after ++ (commas ps ++ w)) (at + length p.before + length p.name + length p.middle) (e ∙ value_grouped f p.before p.name p.middle p.value p.after (commas ps) w)
      (omega (arith, length-append f (p.before ++ (p.name ++ p.middle)), length-append p.before (p.name ++ p.middle), length-append p.name p.middle));
  is_value = is.value;
}

-- ---- the spans of all pieces

-- each member cuts its piece
abbrev AllCut : Kind → List ℕ → List Member → List Piece → Type 0
AllCut k text [] [] = Unit {0}
AllCut k text (m ∷ ms) (p ∷ ps) = Cuts k text m p × AllCut k text ms ps
AllCut k text _ _ = ⊥

pieces_cut : (k : Kind) (text w : List ℕ) (ps : List Piece) (p : Piece) (f : List ℕ) (at : ℕ) → at ≡ length f → IsPiece k IsPartText p → AllByRecursion (IsPiece k IsPartText) ps → text ≡ f ++ ((piece_text p ++ commas ps) ++ w) → AllCut k text (places k at (p ∷ ps)) (p ∷ ps)
pieces_cut k text w [] p f at n is all e = (piece_cut k text f w p [] at n is e, tt)
pieces_cut k text w (q ∷ qs) p f at n is all e = (
  piece_cut k text f w p (q ∷ qs) at n is e,
  pieces_cut k text w qs q (f ++ (piece_text p ++ 44 ∷ [])) (at + length (piece_text p) + 1) (omega (arith, length-append f (piece_text p ++ 44 ∷ []), length-append (piece_text p) (44 ∷ []))) all.0 all.1 (e ∙ next_grouped f (piece_text p) (piece_text q ++ commas qs) w),
)

-- The bytes round an opening bracket, grouped so that what follows can be cut.
pub opened_grouped : (f x w : List ℕ) (o : ℕ) → (f ++ o ∷ x) ++ w ≡ (f ++ o ∷ []) ++ (x ++ w)
opened_grouped f x w o = simp append_assoc

split_cut : (k : Kind) (text front : List ℕ) (pieces : List Piece) → Splits k text front pieces → AllCut k text (places k (length front + 1) pieces) pieces
split_cut k text front [] s = tt
split_cut k text front (p ∷ ps) s =
    pieces_cut k text (close_of k ∷ s.last) ps p (front ++ open_of k ∷ []) (length front + 1) (omega (arith, length-append front (open_of k ∷ []))) s.inside.0 s.inside.1
    (s.whole ∙ ap (λ (x : List ℕ). (front ++ open_of k ∷ x) ++ close_of k ∷ s.last) s.inside.2 ∙ opened_grouped front (piece_text p ++ commas ps) (close_of k ∷ s.last) (open_of k))

-- ---- what calls say of it

member_cuts : (text : List ℕ) (ms : List Member) (ps : List Piece) → AllCut Object text ms ps → All (CutsMember text) ms
member_cuts text [] [] all = All-nil (CutsMember text)
member_cuts text [] (p ∷ ps) all = absurd all
member_cuts text (m ∷ ms) [] all = absurd all
member_cuts text (m ∷ ms) (p ∷ ps) all =
    let c = all.0 in
    All-cons (CutsMember text) m ms (c.name.0.lies, subst (λ (x : List ℕ). IsString x) (sym c.name.0.is) c.name.1, (c.value.lies, subst (λ (x : List ℕ). IsPartText x) (sym c.value.is) c.is_value)) (member_cuts text ms ps all.1)

value_cuts : (text : List ℕ) (ms : List Member) (ps : List Piece) → AllCut Array text ms ps → All (CutsValue text) (map (λ (m : Member). m.value) ms)
value_cuts text [] [] all = All-nil (CutsValue text)
value_cuts text [] (p ∷ ps) all = absurd all
value_cuts text (m ∷ ms) [] all = absurd all
value_cuts text (m ∷ ms) (p ∷ ps) all =
    let c = all.0 in
    All-cons (CutsValue text) m.value (map (λ (x : Member). x.value) ms) (c.value.lies, subst (λ (x : List ℕ). IsPartText x) (sym c.value.is) c.is_value) (value_cuts text ms ps all.1)

members_cut : (text : List ℕ) (ms : List Member) (ps : List Piece) → AllCut Object text ms ps → map (member_of text) ms ≡ map (λ (p : Piece). (p.name, p.value)) ps
members_cut text [] [] all = refl
members_cut text [] (p ∷ ps) all = absurd all
members_cut text (m ∷ ms) [] all = absurd all
members_cut text (m ∷ ms) (p ∷ ps) all =
    ap (λ (x : List ℕ). (x, cut_of text m.value) ∷ map (member_of text) ms) all.0.name.0.is ∙ ap (λ (x : List ℕ). (p.name, x) ∷ map (member_of text) ms) all.0.value.is ∙ ap (λ (x : List (List ℕ × List ℕ)). (p.name, p.value) ∷ x) (members_cut text ms ps all.1)

values_cut : (text : List ℕ) (ms : List Member) (ps : List Piece) → AllCut Array text ms ps → map (λ (m : Member). cut_of text m.value) ms ≡ map (λ (p : Piece). p.value) ps
values_cut text [] [] all = refl
values_cut text [] (p ∷ ps) all = absurd all
values_cut text (m ∷ ms) [] all = absurd all
values_cut text (m ∷ ms) (p ∷ ps) all = ap (λ (x : List ℕ). x ∷ map (λ (m : Member). cut_of text m.value) ms) all.0.value.is ∙ ap (λ (x : List (List ℕ)). p.value ∷ x) (values_cut text ms ps all.1)

-- The spans of an object cut strings and value texts.
pub object_cuts : (text : List ℕ) (ms : List Member) → IsSplit Object text ms → All (CutsMember text) ms
object_cuts text ms (front, pieces, s, e) = subst (λ (x : List Member). All (CutsMember text) x) (sym e) (member_cuts text (places Object (length front + 1) pieces) pieces (split_cut Object text front pieces s))

-- The spans of an array cut value texts.
pub array_cuts : (text : List ℕ) (ms : List Member) → IsSplit Array text ms → All (CutsValue text) (map (λ (m : Member). m.value) ms)
array_cuts text ms (front, pieces, s, e) = subst (λ (x : List Member). All (CutsValue text) (map (λ (m : Member). m.value) x)) (sym e) (value_cuts text (places Array (length front + 1) pieces) pieces (split_cut Array text front pieces s))

-- ---- the parts as functions of the text

-- The members by the grammar are those that are computed.
pub members_taken : (text : List ℕ) (parts : List (List ℕ × List ℕ)) → HasMembers text parts → members_of text ≡ Some parts
unfolding members_of
members_taken text parts (front, pieces, s, e) =
    ap (option_map (map (member_of text))) (split_taken Object text (places Object (length front + 1) pieces) (front, pieces, s, refl))
    ∙ ap (λ (x : List (List ℕ × List ℕ)). Some x) (members_cut text (places Object (length front + 1) pieces) pieces (split_cut Object text front pieces s) ∙ sym e)

-- The elements by the grammar are those that are computed.
pub elements_taken : (text : List ℕ) (parts : List (List ℕ)) → HasElements text parts → elements_of text ≡ Some parts
unfolding elements_of
elements_taken text parts (front, pieces, s, e) =
    ap (option_map (map (λ (m : Member). cut_of text m.value))) (split_taken Array text (places Array (length front + 1) pieces) (front, pieces, s, refl))
    ∙ ap (λ (x : List (List ℕ)). Some x) (values_cut text (places Array (length front + 1) pieces) pieces (split_cut Array text front pieces s) ∙ sym e)

-- The members that are computed are those by the grammar.
pub members_found : (text : List ℕ) (parts : List (List ℕ × List ℕ)) → members_of text ≡ Some parts → HasMembers text parts
unfolding members_of
members_found text parts e =
    let m = map_some (map (member_of text)) (split_of Object text) parts e in
    let s = split_found Object text m.0 m.1 in
    (s.0, s.1, s.2, sym m.2 ∙ ap (map (member_of text)) s.3 ∙ members_cut text (places Object (length s.0 + 1) s.1) s.1 (split_cut Object text s.0 s.1 s.2))

-- The elements that are computed are those by the grammar.
pub elements_found : (text : List ℕ) (parts : List (List ℕ)) → elements_of text ≡ Some parts → HasElements text parts
unfolding elements_of
elements_found text parts e =
    let m = map_some (map (λ (m : Member). cut_of text m.value)) (split_of Array text) parts e in
    let s = split_found Array text m.0 m.1 in
    (s.0, s.1, s.2, sym m.2 ∙ ap (map (λ (x : Member). cut_of text x.value)) s.3 ∙ values_cut text (places Array (length s.0 + 1) s.1) s.1 (split_cut Array text s.0 s.1 s.2))
