-- The parts of a text lie in their order, and apart.
use Rattle.std.proofs.Common.{◌≡◌, ℕ, ◌+◌, ◌≤◌, List, [], ◌∷◌, ◌++◌, length, sym, subst, arith, map}
use Rattle.std.proofs.lemmas.List.{length-append}
use Rattle.json_span.specs.Grammar.{Piece, piece_text, places, IsObject, IsArray}
use Rattle.json_span.specs.Order.{AscendFrom, spans_of}
use Rattle.json_span.specs.declared.Member.{Member}
use Rattle.json_span.specs.declared.Span.{Span}
use Rattle.json_span.specs.declared.state.Kind.TheVariants.{Array, Object}

piece_length : (p : Piece) → length (piece_text p) ≡ length p.before + length p.name + length p.middle + length p.value + length p.after
piece_length p = omega (arith, length-append p.before (p.name ++ (p.middle ++ (p.value ++ p.after))), length-append p.name (p.middle ++ (p.value ++ p.after)), length-append p.middle (p.value ++ p.after), length-append p.value p.after)

members_from : (ps : List Piece) (place at : ℕ) → place ≤ at → AscendFrom place (spans_of (places Object at ps))
members_from [] place at le = tt
members_from (p ∷ ps) place at le =
    let n = piece_length p in
    (omega arith, (omega arith, members_from ps (at + length p.before + length p.name + length p.middle + length p.value) (at + length (piece_text p) + 1) (omega arith)))

values_from : (ps : List Piece) (place at : ℕ) → place ≤ at → AscendFrom place (map (λ (m : Member). m.value) (places Array at ps))
values_from [] place at le = tt
values_from (p ∷ ps) place at le =
    let n = piece_length p in
    (omega arith, values_from ps (at + length p.before + length p.name + length p.middle + length p.value) (at + length (piece_text p) + 1) (omega arith))

-- The spans of an object's members ascend.
pub members_ascend : (text : List ℕ) (ms : List Member) → IsObject text ms → AscendFrom 0 (spans_of ms)
members_ascend text ms (front, pieces, s, e) = subst (λ (x : List Member). AscendFrom 0 (spans_of x)) (sym e) (members_from pieces 0 (length front + 1) (omega arith))

-- The spans of an array's elements ascend.
pub elements_ascend : (text : List ℕ) (spans : List Span) → IsArray text spans → AscendFrom 0 spans
elements_ascend text spans (ms, (front, pieces, s, e), f) = subst (AscendFrom 0) (sym f) (subst (λ (x : List Member). AscendFrom 0 (map (λ (m : Member). m.value) x)) (sym e) (values_from pieces 0 (length front + 1) (omega arith)))
