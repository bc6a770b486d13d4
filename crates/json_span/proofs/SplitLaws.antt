-- The machine finds a text's split, and only that.
use Rattle.std.proofs.Common.{◌≡◌, ℕ, ◌+◌, ◌-◌, Bool, true, false, cond, List, [], ◌∷◌, ◌++◌, length, take, Option, Some, None, refl, sym, ap, subst, ◌∙◌, append_assoc, arith, map}
use Rattle.std.specs.List.{AllByRecursion}
use Rattle.std.specs.Option.{option_map}
use Rattle.std.proofs.lemmas.List.{append-nil, length-append}
use Rattle.json_span.specs.Grammar.{Each, is_space, open_of, close_of, Piece, piece_text, IsPiece, commas, Inside, ValueWithin, IsPartText, Splits, name_place, value_place, places, IsSplit, IsArray, IsFront, IsRefusedAt}
use Rattle.json_span.specs.Machine.{◌>>=◌, State, go_to, step, begin_step, push, start, run, is_done, read, split_of, within, marked, finished, also, no_marks, nowhere, span_to}
use Rattle.json_span.specs.Stops.{StopsAt}
use Rattle.json_span.specs.declared.Member.{Member}
use Rattle.json_span.specs.declared.Span.{Span}
use Rattle.json_span.specs.declared.marks.Marks.{Marks}
use Rattle.json_span.specs.declared.state.Kind.{Kind}
use Rattle.json_span.specs.declared.state.Kind.TheVariants.{Array, Object}
use Rattle.json_span.specs.declared.state.At.TheVariants.{Begin, Fresh, After}
use Rattle.json_span.proofs.BasicLaws.{bind_some, some_is, bind_twice, map_some}
use Rattle.json_span.proofs.TakenLaws.{Takes, S, place_of, takes_on, takes_spaces, after_self, begin_self}
use Rattle.json_span.proofs.TakenLists.{value_starts, piece_marks, placed, top_inside}
use Rattle.json_span.proofs.ViableLaws.{viable, run_split}

-- ---- the places of the parts

regrouped : (a b m x e c w : List ℕ) → ((a ++ (b ++ (m ++ (x ++ e)))) ++ c) ++ w ≡ a ++ (b ++ (m ++ (x ++ (e ++ (c ++ w)))))
regrouped a b m x e c w = simp append_assoc

five_lengths : (a b m x r : List ℕ) → length (a ++ (b ++ (m ++ (x ++ r)))) ≡ length a + length b + length m + length x + length r
five_lengths a b m x r = omega (arith, length-append a (b ++ (m ++ (x ++ r))), length-append b (m ++ (x ++ r)), length-append m (x ++ r), length-append x r)

-- the lengths of a piece's parts, and of what is behind its value
piece_lengths : (p : Piece) (c w : List ℕ) → length ((piece_text p ++ c) ++ w) ≡ length p.before + length p.name + length p.middle + length p.value + length (p.after ++ (c ++ w))
piece_lengths p c w = ap length (regrouped p.before p.name p.middle p.value p.after c w) ∙ five_lengths p.before p.name p.middle p.value (p.after ++ (c ++ w))

abbrev span_of : ℕ → ℕ → Span
span_of at len = record { at = at; len = len }

abbrev member : Span → Span → Member
member name value = record { name = name; value = value }

-- a span between two places
span_is : (from to at len : ℕ) → from ≡ at → to ≡ at + len → span_to from to ≡ record { at = at; len = len }
span_is from to at len e f = let l : to - from ≡ len = omega arith in ap (λ (x : ℕ). span_of x (to - from)) e ∙ ap (span_of at) l

-- where a piece's part lies, by what is behind its value
abbrev part_at : ℕ → Kind → Piece → List ℕ → Member
part_at n k p r = let m = piece_marks n (k ∷ []) k p r no_marks in record { name = m.name; value = span_to m.from (place_of n r) }

part_is : (n at : ℕ) (k : Kind) (p : Piece) (r : List ℕ) → n ≡ at + (length p.before + length p.name + length p.middle + length p.value + length r) → part_at n k p r ≡ record { name = name_place k at p; value = value_place at p }
part_is n at Array p r e =
    let lv = length-append p.value r in
    let v : span_to (place_of n (p.value ++ r)) (place_of n r) ≡ value_place at p = span_is (place_of n (p.value ++ r)) (place_of n r) (at + length p.before + length p.name + length p.middle) (length p.value) (omega arith) (omega arith) in
    ap (λ (x : Span). member nowhere x) v
part_is n at Object p r e =
    let lv = length-append p.value r in
    let lm = length-append p.middle (p.value ++ r) in
    let ln = length-append p.name (p.middle ++ (p.value ++ r)) in
    let v : span_to (place_of n (p.value ++ r)) (place_of n r) ≡ value_place at p = span_is (place_of n (p.value ++ r)) (place_of n r) (at + length p.before + length p.name + length p.middle) (length p.value) (omega arith) (omega arith) in
    let m : span_to (place_of n (p.name ++ (p.middle ++ (p.value ++ r)))) (place_of n (p.middle ++ (p.value ++ r))) ≡ name_place Object at p =
    span_is (place_of n (p.name ++ (p.middle ++ (p.value ++ r)))) (place_of n (p.middle ++ (p.value ++ r))) (at + length p.before) (length p.name) (omega arith) (omega arith) in
    ap (λ (x : Span). member x (span_to (place_of n (p.value ++ r)) (place_of n r))) m ∙ ap (λ (x : Span). member (name_place Object at p) x) v

placed_is : (n : ℕ) (k : Kind) (w : List ℕ) (ps : List Piece) (p : Piece) (at : ℕ) → n ≡ at + length ((piece_text p ++ commas ps) ++ w) → placed n k (p ∷ ps) w ≡ places k at (p ∷ ps)
placed_is n k w [] p at e = ap (λ (m : Member). m ∷ []) (part_is n at k p (p.after ++ (commas [] ++ w)) (omega (arith, piece_lengths p (commas []) w)))
placed_is n k w (q ∷ qs) p at e =
    let first = part_is n at k p (p.after ++ (commas (q ∷ qs) ++ w)) (omega (arith, piece_lengths p (commas (q ∷ qs)) w)) in
    let next : n ≡ at + length (piece_text p) + 1 + length ((piece_text q ++ commas qs) ++ w) = omega (arith, ap length (append_assoc (piece_text p) (commas (q ∷ qs)) w), length-append (piece_text p) (44 ∷ ((piece_text q ++ commas qs) ++ w))) in
    ap (λ (m : Member). m ∷ placed n k (q ∷ qs) w) first ∙ ap (λ (ms : List Member). record { name = name_place k at p; value = value_place at p } ∷ ms) (placed_is n k w qs q (at + length (piece_text p) + 1) next)

-- ---- the whole text

begin_opens : (k : Kind) → step (Begin k) [] 101 (open_of k) ≡ go_to Fresh (k ∷ []) 100
unfolding step begin_step push
begin_opens Array = refl
begin_opens Object = refl

ended : (n d : ℕ) (v : List ℕ) → Each is_space v → Takes n (S After [] d) no_marks v []
unfolding read
ended n d v each = subst (λ (x : List ℕ). Takes n (S After [] d) no_marks x []) (append-nil v) (takes_spaces n After [] d (after_self [] d) v [] no_marks [] each (record { is = refl }))

within_parts : (k : Kind) (ps : List Piece) → AllByRecursion (IsPiece k IsPartText) ps → AllByRecursion (IsPiece k (ValueWithin 100)) ps
within_parts k [] all = tt
within_parts k (p ∷ ps) all = (record { before = all.0.before; named = all.0.named; value = all.0.value.within; after = all.0.after }, within_parts k ps all.1)

inside_within : (k : Kind) (inner : List ℕ) (ps : List Piece) → Inside k IsPartText inner ps → Inside k (ValueWithin 100) inner ps
inside_within k inner [] is = is
inside_within k inner (p ∷ ps) is = let w = within_parts k (p ∷ ps) (is.0, is.1) in (w.0, w.1, is.2)

splits_taken : (k : Kind) (text front : List ℕ) (pieces : List Piece) → (s : Splits k text front pieces) → split_of k text ≡ Some (placed (length text) k pieces (close_of k ∷ s.last))
unfolding split_of
splits_taken k text front pieces s =
    let n = length text in
    let out = placed n k pieces (close_of k ∷ s.last) in
    let t : Takes n (start k) no_marks text out = subst (λ (x : List ℕ). Takes n (start k) no_marks x out) (sym (s.whole ∙ append_assoc front (open_of k ∷ s.inner) (close_of k ∷ s.last)))
    (takes_spaces n (Begin k) [] 101 (begin_self k 101) front (open_of k ∷ (s.inner ++ close_of k ∷ s.last)) no_marks out s.is_front
    (takes_on n (Begin k) [] 101 (open_of k) (S Fresh (k ∷ []) 100) no_marks (s.inner ++ close_of k ∷ s.last) out (begin_opens k) refl
    (top_inside n 100 (value_starts n 100) k s.last (ended n 101 s.last s.is_last) s.inner pieces (inside_within k s.inner pieces s.inside)))) in
    t.is

placed_all : (k : Kind) (text front : List ℕ) (pieces : List Piece) → (s : Splits k text front pieces) → placed (length text) k pieces (close_of k ∷ s.last) ≡ places k (length front + 1) pieces
placed_all k text front [] s = refl
placed_all k text front (p ∷ ps) s = placed_is (length text) k (close_of k ∷ s.last) ps p (length front + 1)
    (omega (arith, ap length (s.whole ∙ ap (λ (x : List ℕ). (front ++ open_of k ∷ x) ++ close_of k ∷ s.last) s.inside.2 ∙ append_assoc front (open_of k ∷ (piece_text p ++ commas ps)) (close_of k ∷ s.last)), length-append front (open_of k ∷ ((piece_text p ++ commas ps) ++ close_of k ∷ s.last))))

-- What has a split is read to its end, with these parts.
pub split_taken : (k : Kind) (text : List ℕ) (ms : List Member) → IsSplit k text ms → split_of k text ≡ Some ms
split_taken k text ms (front, pieces, s, e) = splits_taken k text front pieces s ∙ ap (λ (x : List Member). Some x) (placed_all k text front pieces s ∙ sym e)

-- ---- what is read to its end has a split

-- the first step of a reading to the end, and what the rest gives
record FirstStep (n : ℕ) (s : State) (b : ℕ) (bs : List ℕ) : Type 0 where
  t : State
  m : Marks
  rest : List Member
  is : step s.at s.kinds s.room b ≡ Some t
  reads : read n t m bs ≡ Some rest

first_step : (n b : ℕ) (bs : List ℕ) (s : State) (m : Marks) (out : List Member) → read n s m (b ∷ bs) ≡ Some out → FirstStep n s b bs
unfolding read
first_step n b bs s m out e =
    let p = n - length (b ∷ bs) in
    let q = n - length bs in
    let w = within s.at s.kinds in
    let t = bind_some (step s.at s.kinds s.room b) (λ x. option_map (also (finished p q w (within x.at x.kinds) m)) (read n x (marked p q w (within x.at x.kinds) m) bs)) out e in
    let v = within t.0.at t.0.kinds in
    let more = map_some (also (finished p q w v m)) (read n t.0 (marked p q w v m) bs) out t.2 in
    record { t = t.0; m = marked p q w v m; rest = more.0; is = t.1; reads = more.1 }

run_on : (s t u : State) (b : ℕ) (bs : List ℕ) → step s.at s.kinds s.room b ≡ Some t → run t bs ≡ Some u → run s (b ∷ bs) ≡ Some u
unfolding run
run_on s t u b bs e f = rw e f

read_run : (n : ℕ) (u : List ℕ) (s : State) (m : Marks) (out : List Member) → read n s m u ≡ Some out → (t : State) × (run s u ≡ Some t) × (is_done t.at t.kinds ≡ true)
unfolding read run
read_run n [] s m out e = (s, refl, done (is_done s.at s.kinds) e)
  where
    done : (b : Bool) → cond b (Some []) None ≡ Some out → b ≡ true
    done true e = refl
    done false e = absurd cc
read_run n (b ∷ bs) s m out e =
    let f = first_step n b bs s m out e in
    let r = read_run n bs f.t f.m f.rest f.reads in
    (r.0, run_on s f.t r.0 b bs f.is r.1, r.2)

-- The machine finds no other parts.
pub split_found : (k : Kind) (text : List ℕ) (ms : List Member) → split_of k text ≡ Some ms → IsSplit k text ms
unfolding split_of
split_found k text ms e =
    let r = read_run (length text) text (start k) no_marks ms e in
    let s = run_split k text r.0 r.1 r.2 in
    let same = some_is s.0 ms (sym (split_taken k text s.0 s.1) ∙ e) in
    subst (λ (x : List Member). IsSplit k text x) same s.1

-- A text has at most one split.
pub split_one : (k : Kind) (text : List ℕ) (a b : List Member) → IsSplit k text a → IsSplit k text b → a ≡ b
split_one k text a b sa sb = some_is a b (sym (split_taken k text a sa) ∙ split_taken k text b sb)

-- ---- refusals

run_append : (a b : List ℕ) (s : State) → run s (a ++ b) ≡ (run s a >>= λ t. run t b)
unfolding run
run_append [] b s = refl
run_append (x ∷ xs) b s = bind_twice (step s.at s.kinds s.room x) (λ t. run t (xs ++ b)) (λ t. run t xs) (λ t. run t b) (λ t. run_append xs b t)

-- what stops the machine begins no text with a split
no_front : (k : Kind) (front : List ℕ) → run (start k) front ≡ None → IsFront k front → ⊥
unfolding split_of
no_front k front e (more, ms, s) =
    let r = read_run (length (front ++ more)) (front ++ more) (start k) no_marks ms (split_taken k (front ++ more) ms s) in
    let stuck : run (start k) (front ++ more) ≡ None = run_append front more (start k) ∙ ap (λ (o : Option State). o >>= λ (t : State). run t more) e in
    let some : Some r.0 ≡ None = sym r.1 ∙ stuck in
    absurd cc

-- Where the machine stops, the text is refused.
pub refused : (k : Kind) (text : List ℕ) (place : ℕ) → StopsAt k text place → IsRefusedAt k text place
refused k text place s = record {
  no_split = λ ms is. (let some : Some ms ≡ None = sym (split_taken k text ms is) ∙ s.no_split in absurd cc);
  within = s.within;
  front = viable k (take place text) s.state s.taken;
  longest = λ lt front. no_front k (take (place + 1) text) (s.stuck lt) front;
}

-- An array has at most one split.
pub array_one : (text : List ℕ) (a b : List Span) → IsArray text a → IsArray text b → a ≡ b
array_one text a b (ma, sa, ea) (mb, sb, eb) = ea ∙ ap (map (λ (m : Member). m.value)) (split_one Array text ma mb sa sb) ∙ sym eb
