-- What is joined of value texts is an array or an object of exactly these parts.
use Rattle.std.proofs.Common.{◌≡◌, ℕ, suc, List, [], ◌∷◌, ◌++◌, Some, refl, sym, ap, ◌∙◌, map, inr}
use Rattle.std.specs.List.{AllByRecursion, All}
use Rattle.std.proofs.lemmas.List.{append-nil}
use Rattle.std.proofs.lemmas.List.Elements.{All-head, All-tail}
use Rattle.json_span.specs.Grammar.{IsPiece, IsValueText, ValueWithin, IsPartText, Piece, piece_text, commas, Inside}
use Rattle.json_span.specs.Joined.{behind_commas, joined, array_text, member_text, object_text, IsMemberOf}
use Rattle.json_span.specs.Parts.{members_of, elements_of, HasMembers, HasElements}
use Rattle.json_span.specs.declared.state.Kind.{Kind}
use Rattle.json_span.specs.declared.state.Kind.TheVariants.{Array, Object}
use Rattle.json_span.proofs.CutLaws.{members_taken, elements_taken}

-- ---- arrays

element_piece : List ℕ → Piece
element_piece x = record { before = []; name = []; middle = []; value = x; after = [] }

element_text : (x : List ℕ) → piece_text (element_piece x) ≡ x
unfolding element_piece
element_text x = append-nil x

element_commas : (xs : List (List ℕ)) → commas (map element_piece xs) ≡ behind_commas xs
element_commas [] = refl
element_commas (x ∷ xs) = ap (λ (y : List ℕ). 44 ∷ (y ++ commas (map element_piece xs))) (element_text x) ∙ ap (λ (y : List ℕ). 44 ∷ (x ++ y)) (element_commas xs)

element_is : (V : List ℕ → Type 0) (x : List ℕ) → V x → IsPiece Array V (element_piece x)
unfolding element_piece
element_is V x is = record { before = tt; named = (refl, refl); value = is; after = tt }

elements_are : (V : List ℕ → Type 0) (xs : List (List ℕ)) → All V xs → AllByRecursion (IsPiece Array V) (map element_piece xs)
elements_are V [] all = tt
elements_are V (x ∷ xs) all = (element_is V x (All-head V x xs all), elements_are V xs (All-tail V x xs all))

elements_inside : (V : List ℕ → Type 0) (xs : List (List ℕ)) → All V xs → Inside Array V (joined xs) (map element_piece xs)
elements_inside V [] all = tt
elements_inside V (x ∷ xs) all =
    (element_is V x (All-head V x xs all), elements_are V xs (All-tail V x xs all), ap (λ (y : List ℕ). y ++ behind_commas xs) (sym (element_text x)) ∙ ap (λ (y : List ℕ). piece_text (element_piece x) ++ y) (sym (element_commas xs)))

element_values : (xs : List (List ℕ)) → xs ≡ map (λ (p : Piece). p.value) (map element_piece xs)
unfolding element_piece
element_values [] = refl
element_values (x ∷ xs) = ap (λ (ys : List (List ℕ)). x ∷ ys) (element_values xs)

array_has : (xs : List (List ℕ)) → All IsPartText xs → HasElements (array_text xs) xs
array_has xs all = ([], map element_piece xs, record { inner = joined xs; last = []; is_front = tt; is_last = tt; inside = elements_inside IsPartText xs all; whole = refl }, element_values xs)

-- An array that is joined of parts has these elements.
pub elements_joined : (xs : List (List ℕ)) → All IsPartText xs → elements_of (array_text xs) ≡ Some xs
elements_joined xs all = elements_taken (array_text xs) xs (array_has xs all)

inside_values : (k : Kind) (d : ℕ) (ps : List Piece) → AllByRecursion (IsPiece k (IsValueText d)) ps → AllByRecursion (IsPiece k (ValueWithin d)) ps
inside_values k d [] all = tt
inside_values k d (p ∷ ps) all = (record { before = all.0.before; named = all.0.named; value = all.0.value.within; after = all.0.after }, inside_values k d ps all.1)

list_value : (k : Kind) (d : ℕ) (inner : List ℕ) (ps : List Piece) → Inside k (IsValueText d) inner ps → Inside k (ValueWithin d) inner ps
list_value k d inner [] is = is
list_value k d inner (p ∷ ps) is = let w = inside_values k d (p ∷ ps) (is.0, is.1) in (w.0, w.1, is.2)

-- An array of value texts is one with a bracket more.
pub array_value : (d : ℕ) (xs : List (List ℕ)) → All (IsValueText d) xs → IsValueText (suc d) (array_text xs)
array_value d xs all = record { within = inr (Array, record { inner = joined xs; pieces = map element_piece xs; inside = list_value Array d (joined xs) (map element_piece xs) (elements_inside (IsValueText d) xs all); whole = refl }) }

-- ---- objects

member_piece : List ℕ × List ℕ → Piece
member_piece m = record { before = []; name = m.0; middle = 58 ∷ []; value = m.1; after = [] }

piece_of_member : (m : List ℕ × List ℕ) → piece_text (member_piece m) ≡ member_text m
unfolding member_piece
piece_of_member m = ap (λ (y : List ℕ). m.0 ++ 58 ∷ y) (append-nil m.1)

member_commas : (ms : List (List ℕ × List ℕ)) → commas (map member_piece ms) ≡ behind_commas (map member_text ms)
member_commas [] = refl
member_commas (m ∷ ms) = ap (λ (y : List ℕ). 44 ∷ (y ++ commas (map member_piece ms))) (piece_of_member m) ∙ ap (λ (y : List ℕ). 44 ∷ (member_text m ++ y)) (member_commas ms)

member_is : (d : ℕ) (m : List ℕ × List ℕ) → IsMemberOf d m → IsPiece Object (IsValueText d) (member_piece m)
unfolding member_piece
member_is d m is = record { before = tt; named = (is.0, record { before = []; after = []; is_before = tt; is_after = tt; whole = refl }); value = is.1; after = tt }

members_are : (d : ℕ) (ms : List (List ℕ × List ℕ)) → All (IsMemberOf d) ms → AllByRecursion (IsPiece Object (IsValueText d)) (map member_piece ms)
members_are d [] all = tt
members_are d (m ∷ ms) all = (member_is d m (All-head (IsMemberOf d) m ms all), members_are d ms (All-tail (IsMemberOf d) m ms all))

members_inside : (d : ℕ) (ms : List (List ℕ × List ℕ)) → All (IsMemberOf d) ms → Inside Object (IsValueText d) (joined (map member_text ms)) (map member_piece ms)
members_inside d [] all = tt
members_inside d (m ∷ ms) all =
    (member_is d m (All-head (IsMemberOf d) m ms all), members_are d ms (All-tail (IsMemberOf d) m ms all), ap (λ (y : List ℕ). y ++ behind_commas (map member_text ms)) (sym (piece_of_member m)) ∙ ap (λ (y : List ℕ). piece_text (member_piece m) ++ y) (sym (member_commas ms)))

member_values : (ms : List (List ℕ × List ℕ)) → ms ≡ map (λ (p : Piece). (p.name, p.value)) (map member_piece ms)
unfolding member_piece
member_values [] = refl
member_values (m ∷ ms) = ap (λ (ys : List (List ℕ × List ℕ)). m ∷ ys) (member_values ms)

object_has : (ms : List (List ℕ × List ℕ)) → All (IsMemberOf 100) ms → HasMembers (object_text ms) ms
object_has ms all = ([], map member_piece ms, record { inner = joined (map member_text ms); last = []; is_front = tt; is_last = tt; inside = members_inside 100 ms all; whole = refl }, member_values ms)

-- An object that is joined of members has these.
pub members_joined : (ms : List (List ℕ × List ℕ)) → All (IsMemberOf 100) ms → members_of (object_text ms) ≡ Some ms
members_joined ms all = members_taken (object_text ms) ms (object_has ms all)

-- An object of value texts is one with a bracket more.
pub object_value : (d : ℕ) (ms : List (List ℕ × List ℕ)) → All (IsMemberOf d) ms → IsValueText (suc d) (object_text ms)
object_value d ms all = record { within = inr (Object, record { inner = joined (map member_text ms); pieces = map member_piece ms; inside = list_value Object d (joined (map member_text ms)) (map member_piece ms) (members_inside d ms all); whole = refl }) }
