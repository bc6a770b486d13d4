-- What the calls answer, from what the machine did.
use Rattle.std.proofs.Common.{◌≡◌, ℕ, List, [], ◌∷◌, Some, Result, Ok, Err, IfOk, IfErr, Vec, Global, refl, sym, ap, subst, ◌∙◌, map}
use Rattle.std.specs.List.{All}
use Rattle.std.specs.Option.{option_map}
use Rattle.std.specs.Result.{MatchResult}
use Rattle.json_span.specs.Grammar.{IsObject, IsArray, CutsMember, CutsValue, cut_of}
use Rattle.json_span.specs.Machine.{split_of}
use Rattle.json_span.specs.Parts.{member_of, members_of, elements_of, RefusesMembers, RefusesElements}
use Rattle.json_span.specs.Stops.{Stops}
use Rattle.json_span.specs.declared.Member.{Member}
use Rattle.json_span.specs.declared.Span.{Span}
use Rattle.json_span.specs.declared.SpanFault.{SpanFault}
use Rattle.json_span.specs.declared.SpanFault.TheVariants.{Memory, NotSplit}
use Rattle.json_span.specs.declared.state.Kind.TheVariants.{Array, Object}
use Rattle.json_span.proofs.SplitLaws.{split_found, split_one, refused}
use Rattle.json_span.proofs.BasicLaws.{map_some}
use Rattle.json_span.proofs.CutLaws.{object_cuts, array_cuts}

-- ---- objects

map_same : (ms : List Member) → map (λ (m : Member). m) ms ≡ ms
map_same [] = refl
map_same (m ∷ ms) = ap (λ (x : List Member). m ∷ x) (map_same ms)

-- the members are those of the text's split
split_is : (text : List ℕ) (ms : List Member) → option_map (map (λ (m : Member). m)) (split_of Object text) ≡ Some ms → split_of Object text ≡ Some ms
split_is text ms e = let s = map_some (map (λ (m : Member). m)) (split_of Object text) ms e in s.1 ∙ ap (λ (x : List Member). Some x) (sym (sym s.2 ∙ map_same s.0))

-- what an answer has of an object's split
abbrev pub FoundMembers : List ℕ → Result (Vec Member Global) SpanFault → Type 0
FoundMembers text r = IfOk r (λ v. option_map (map (λ (m : Member). m)) (split_of Object text) ≡ Some v.items)

-- What is found of an object lies there by the grammar.
pub members_lie : (text : List ℕ) (r : Result (Vec Member Global) SpanFault) → FoundMembers text r → IfOk r (λ v. IsObject text v.items)
members_lie text (Ok v) e = split_found Object text v.items (split_is text v.items e)
members_lie text (Err f) e = tt

-- What the grammar has for an object is found.
pub members_only : (text : List ℕ) (r : Result (Vec Member Global) SpanFault) → FoundMembers text r → IfErr r (Stops Object text) → (ms : List Member) → IsObject text ms → MatchResult r (λ v. v.items ≡ ms) (λ e. e ≡ Memory)
members_only text (Ok v) e f ms is = split_one Object text v.items ms (split_found Object text v.items (split_is text v.items e)) is
members_only text (Err Memory) e f ms is = refl
members_only text (Err (NotSplit place)) e f ms is = absurd ((refused Object text place f).no_split ms is)

-- What is found of an object cuts a string and a value text.
pub members_cuts : (text : List ℕ) (r : Result (Vec Member Global) SpanFault) → FoundMembers text r → IfOk r (λ v. All (CutsMember text) v.items)
members_cuts text (Ok v) e = object_cuts text v.items (split_found Object text v.items (split_is text v.items e))
members_cuts text (Err f) e = tt

-- What is found of an object gives its members.
pub members_parts : (text : List ℕ) (r : Result (Vec Member Global) SpanFault) → FoundMembers text r → IfOk r (λ v. members_of text ≡ Some (map (member_of text) v.items))
unfolding members_of
members_parts text (Ok v) e = ap (option_map (map (member_of text))) (split_is text v.items e)
members_parts text (Err f) e = tt

-- Where the machine stops no object goes on.
pub members_refused : (text : List ℕ) (r : Result (Vec Member Global) SpanFault) → IfErr r (Stops Object text) → IfErr r (RefusesMembers text)
unfolding members_of
members_refused text (Ok v) f = tt
members_refused text (Err Memory) f = tt
members_refused text (Err (NotSplit place)) f = (refused Object text place f, ap (option_map (map (member_of text))) f.no_split)

-- ---- arrays

-- what an answer has of an array's split
abbrev pub FoundElements : List ℕ → Result (Vec Span Global) SpanFault → Type 0
FoundElements text r = IfOk r (λ v. option_map (map (λ (m : Member). m.value)) (split_of Array text) ≡ Some v.items)

-- the elements are the values of the text's split
elements_are : (text : List ℕ) (spans : List Span) → option_map (map (λ (m : Member). m.value)) (split_of Array text) ≡ Some spans → (ms : List Member) × (split_of Array text ≡ Some ms) × (spans ≡ map (λ (m : Member). m.value) ms)
elements_are text spans e = let s = map_some (map (λ (m : Member). m.value)) (split_of Array text) spans e in (s.0, s.1, sym s.2)

array_is : (text : List ℕ) (spans : List Span) → option_map (map (λ (m : Member). m.value)) (split_of Array text) ≡ Some spans → IsArray text spans
array_is text spans e = let s = elements_are text spans e in (s.0, split_found Array text s.0 s.1, s.2)

-- What is found of an array lies there by the grammar.
pub elements_lie : (text : List ℕ) (r : Result (Vec Span Global) SpanFault) → FoundElements text r → IfOk r (λ v. IsArray text v.items)
elements_lie text (Ok v) e = array_is text v.items e
elements_lie text (Err f) e = tt

-- What the grammar has for an array is found.
pub elements_only : (text : List ℕ) (r : Result (Vec Span Global) SpanFault) → FoundElements text r → IfErr r (Stops Array text) → (spans : List Span) → IsArray text spans → MatchResult r (λ v. v.items ≡ spans) (λ e. e ≡ Memory)
elements_only text (Ok v) e f spans (ns, is, s) = let a = elements_are text v.items e in a.2 ∙ ap (map (λ (m : Member). m.value)) (split_one Array text a.0 ns (split_found Array text a.0 a.1) is) ∙ sym s
elements_only text (Err Memory) e f spans is = refl
elements_only text (Err (NotSplit place)) e f spans (ms, is, s) = absurd ((refused Array text place f).no_split ms is)

-- What is found of an array cuts value texts.
pub elements_cuts : (text : List ℕ) (r : Result (Vec Span Global) SpanFault) → FoundElements text r → IfOk r (λ v. All (CutsValue text) v.items)
elements_cuts text (Ok v) e = let a = elements_are text v.items e in subst (λ (x : List Span). All (CutsValue text) x) (sym a.2) (array_cuts text a.0 (split_found Array text a.0 a.1))
elements_cuts text (Err f) e = tt

map_cuts : (text : List ℕ) (ms : List Member) → map (λ (m : Member). cut_of text m.value) ms ≡ map (cut_of text) (map (λ (m : Member). m.value) ms)
map_cuts text [] = refl
map_cuts text (m ∷ ms) = ap (λ (x : List (List ℕ)). cut_of text m.value ∷ x) (map_cuts text ms)

-- What is found of an array gives its elements.
pub elements_parts : (text : List ℕ) (r : Result (Vec Span Global) SpanFault) → FoundElements text r → IfOk r (λ v. elements_of text ≡ Some (map (cut_of text) v.items))
unfolding elements_of
elements_parts text (Ok v) e = let a = elements_are text v.items e in ap (option_map (map (λ (m : Member). cut_of text m.value))) a.1 ∙ ap (λ (x : List (List ℕ)). Some x) (map_cuts text a.0 ∙ ap (map (cut_of text)) (sym a.2))
elements_parts text (Err f) e = tt

-- Where the machine stops no array goes on.
pub elements_refused : (text : List ℕ) (r : Result (Vec Span Global) SpanFault) → IfErr r (Stops Array text) → IfErr r (RefusesElements text)
unfolding elements_of
elements_refused text (Ok v) f = tt
elements_refused text (Err Memory) f = tt
elements_refused text (Err (NotSplit place)) f = (refused Array text place f, ap (option_map (map (λ (m : Member). cut_of text m.value))) f.no_split)
