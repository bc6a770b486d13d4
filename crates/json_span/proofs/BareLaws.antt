-- Members that are read whole are read as byte by byte.
use Rattle.std.proofs.Common.{inl, inr, ◌≡◌, ℕ, ◌+◌, ◌<◌, ◌≤◌, true, false, List, [], ◌∷◌, ◌++◌, length, take, drop, Option, Some, None, refl, sym, ap, subst, ◌∙◌, arith, get_or}
use Rattle.json_span.specs.Bare.{awaits_name, is_whole, Stands, IsBareString, IsBareNumber, IsBareNull, IsBareValue, bare_string, bare_null, bare_number, Goes, stays, passes_comma, IsBareMember}
use Rattle.json_span.specs.Grammar.{Each, is_digit, is_plain}
use Rattle.json_span.specs.Machine.{State, step, begin_step, fresh_step, part_begin, value_begin, scalar_begin, after_step, number_step, within, within_part, marked, finished, no_marks, span_to}
use Rattle.json_span.specs.Nest.{is_deep}
use Rattle.json_span.specs.declared.Member.{Member}
use Rattle.json_span.specs.declared.Span.{Span}
use Rattle.json_span.specs.declared.bare.BareMember.{BareMember}
use Rattle.json_span.specs.declared.marks.Marks.{Marks}
use Rattle.json_span.specs.declared.marks.Within.{Within}
use Rattle.json_span.specs.declared.marks.Within.TheVariants.{Outside, InName, InValue}
use Rattle.json_span.specs.declared.state.At.{At}
use Rattle.json_span.specs.declared.state.At.TheVariants.{Begin, Fresh, Part, Colon, Value, After, Text, Number, Literal}
use Rattle.json_span.specs.declared.state.Kind.{Kind}
use Rattle.json_span.specs.declared.state.Kind.TheVariants.{Array, Object}
use Rattle.json_span.specs.declared.state.LiteralAt.TheVariants.{Ull, Ll, L}
use Rattle.json_span.specs.declared.state.NumberAt.TheVariants.{InInteger}
use Rattle.json_span.specs.declared.state.Role.{Role}
use Rattle.json_span.specs.declared.state.Role.TheVariants.{Key, Item}
use Rattle.json_span.specs.declared.state.StringAt.TheVariants.{Plain}
use Rattle.json_span.proofs.PassLaws.{all_stay, has_passed, plain_stays, digit_stays, integer_takes}
use Rattle.json_span.proofs.ReadLaws.{HasRead, gained, has_gone_on}
use Rattle.json_span.proofs.TakenLaws.{S}
use Rattle.json_span.proofs.TakenLists.{value_digit}

-- ---- where a name may begin

-- a state in an object before a member
record Awaits (at : At) (ks : List Kind) : Type 0 where
  rest : List Kind
  is : ks ≡ Object ∷ rest
  on : (d : ℕ) → step at (Object ∷ rest) d 34 ≡ Some (S (Text Key Plain) (Object ∷ rest) d)
  outside : within_part at ≡ Outside

fresh_name : (ks : List Kind) (d : ℕ) → step Fresh (Object ∷ ks) d 34 ≡ Some (S (Text Key Plain) (Object ∷ ks) d)
unfolding step begin_step fresh_step part_begin
fresh_name ks d = refl

part_name : (ks : List Kind) (d : ℕ) → step Part (Object ∷ ks) d 34 ≡ Some (S (Text Key Plain) (Object ∷ ks) d)
unfolding step begin_step part_begin
part_name ks d = refl

awaits : (at : At) (ks : List Kind) → awaits_name at ks ≡ true → Awaits at ks
awaits Fresh (Object ∷ ks) e = record { rest = ks; is = refl; on = fresh_name ks; outside = refl }
awaits Part (Object ∷ ks) e = record { rest = ks; is = refl; on = part_name ks; outside = refl }
awaits Fresh [] e = absurd cc
awaits Fresh (Array ∷ ks) e = absurd cc
awaits Part [] e = absurd cc
awaits Part (Array ∷ ks) e = absurd cc
awaits (Begin k) ks e = absurd cc
awaits Colon ks e = absurd cc
awaits Value ks e = absurd cc
awaits After ks e = absurd cc
awaits (Text r c) ks e = absurd cc
awaits (Number n) ks e = absurd cc
awaits (Literal l) ks e = absurd cc

-- ---- steps at single bytes

key_quote : (ks : List Kind) (d : ℕ) → step (Text Key Plain) ks d 34 ≡ Some (S Colon ks d)
unfolding step
key_quote ks d = refl

item_quote : (ks : List Kind) (d : ℕ) → step (Text Item Plain) ks d 34 ≡ Some (S After ks d)
unfolding step
item_quote ks d = refl

colon : (ks : List Kind) (d : ℕ) → step Colon ks d 58 ≡ Some (S Value ks d)
unfolding step begin_step
colon ks d = refl

value_quote : (ks : List Kind) (d : ℕ) → step Value ks d 34 ≡ Some (S (Text Item Plain) ks d)
unfolding step begin_step value_begin scalar_begin
value_quote ks d = refl

value_null : (ks : List Kind) (d : ℕ) → step Value ks d 110 ≡ Some (S (Literal Ull) ks d)
unfolding step begin_step value_begin scalar_begin
value_null ks d = refl

null_u : (ks : List Kind) (d : ℕ) → step (Literal Ull) ks d 117 ≡ Some (S (Literal Ll) ks d)
unfolding step
null_u ks d = refl

null_l : (ks : List Kind) (d : ℕ) → step (Literal Ll) ks d 108 ≡ Some (S (Literal L) ks d)
unfolding step
null_l ks d = refl

null_last : (ks : List Kind) (d : ℕ) → step (Literal L) ks d 108 ≡ Some (S After ks d)
unfolding step
null_last ks d = refl

after_comma : (k : Kind) (ks : List Kind) (d : ℕ) → step After (k ∷ ks) d 44 ≡ Some (S Part (k ∷ ks) d)
unfolding step after_step
after_comma k ks d = refl

number_comma : (k : Kind) (ks : List Kind) (d : ℕ) → step (Number InInteger) (k ∷ ks) d 44 ≡ Some (S Part (k ∷ ks) d)
unfolding step number_step after_step
number_comma k ks d = refl

-- ---- a part of the outermost list

-- what is known of the reading, of which the text and the list stay the same
record Reading (P : Type 0) : Type 0 where
  f : Member → P
  k : Kind
  text : List ℕ

abbrev Reads : {P : Type 0} → Reading P → ℕ → List P → State → Marks → Type 0
Reads {P} r place met s m = HasRead P r.f r.k r.text place met s m

-- one byte further, where the step is known
goes : {P : Type 0} (r : Reading P) (place : ℕ) (met : List P) (s t : State) (m m2 : Marks) (o : Option Member) (b : ℕ) → Reads r place met s m → Stands r.text place b
    → step s.at s.kinds s.room b ≡ Some t
    → marked place (place + 1) (within s.at s.kinds) (within t.at t.kinds) m ≡ m2
    → finished place (place + 1) (within s.at s.kinds) (within t.at t.kinds) m ≡ o
    → m2.from ≤ place + 1 → Reads r (place + 1) (gained r.f met o) t m2
goes {P} r place met s t m m2 o b has at e em eo begun =
    has_gone_on P r.f r.k r.text place met (gained r.f met o) s t m m2 (within s.at s.kinds) (within t.at t.kinds) o at.0 has
    (sym (ap (λ (x : ℕ). step s.at s.kinds s.room x) at.1 ∙ e)) refl refl (sym eo) (sym em) begun refl

-- the plain bytes of a string
passes_plain : {P : Type 0} (r : Reading P) (place count : ℕ) (met : List P) (role : Role) (ks : List Kind) (d : ℕ) (m : Marks) → Reads r place met (S (Text role Plain) ks d) m
    → Each is_plain (take count (drop place r.text)) → Reads r (place + count) met (S (Text role Plain) ks d) m
passes_plain {P} r place count met role ks d m has each =
    has_passed P r.f r.k r.text place count met (S (Text role Plain) ks d) m has (all_stay (S (Text role Plain) ks d) is_plain (take count (drop place r.text)) (plain_stays role ks d) each)

-- the digits of a number
passes_digits : {P : Type 0} (r : Reading P) (place count : ℕ) (met : List P) (ks : List Kind) (d : ℕ) (m : Marks) → Reads r place met (S (Number InInteger) ks d) m
    → Each is_digit (take count (drop place r.text)) → Reads r (place + count) met (S (Number InInteger) ks d) m
passes_digits {P} r place count met ks d m has each =
    has_passed P r.f r.k r.text place count met (S (Number InInteger) ks d) m has
    (all_stay (S (Number InInteger) ks d) is_digit (take count (drop place r.text)) (λ b is. digit_stays InInteger ks d b integer_takes is) each)

abbrev marks_at : Span → ℕ → Marks
marks_at name from = record { name = name; from = from }

abbrev member_of : Span → Span → Member
member_of name value = record { name = name; value = value }

flat_name : {P : Type 0} (r : Reading P) (place to : ℕ) (met : List P) (at : At) (d : ℕ) (m : Marks) → Reads r place met (S at (Object ∷ []) d) m
    → step at (Object ∷ []) d 34 ≡ Some (S (Text Key Plain) (Object ∷ []) d) → within_part at ≡ Outside → IsBareString r.text place to
    → Reads r to met (S Colon (Object ∷ []) d) (marks_at (span_to place to) to)
flat_name r place to met at d m has e out s =
    let begun = goes r place met (S at (Object ∷ []) d) (S (Text Key Plain) (Object ∷ []) d) m (marks_at m.name place) None 34 has s.first e
    (ap (λ (w : Within). marked place (place + 1) w InName m) out) (ap (λ (w : Within). finished place (place + 1) w InName m) out) (omega arith) in
    let passed = passes_plain r (place + 1) s.count met Key (Object ∷ []) d (marks_at m.name place) begun s.plain in
    let q = place + 1 + s.count in
    let ended = goes r q met (S (Text Key Plain) (Object ∷ []) d) (S Colon (Object ∷ []) d) (marks_at m.name place) (marks_at (span_to place (q + 1)) (q + 1)) None 34 passed s.last (key_quote (Object ∷ []) d) refl refl (omega arith) in
    subst (λ (x : ℕ). Reads r x met (S Colon (Object ∷ []) d) (marks_at (span_to place x) x)) (sym s.ends) ended

flat_string : {P : Type 0} (r : Reading P) (from to : ℕ) (met : List P) (d : ℕ) (m : Marks) → Reads r from met (S Value (Object ∷ []) d) m → IsBareString r.text from to
    → Reads r to (met ++ r.f (member_of m.name (span_to from to)) ∷ []) (S After (Object ∷ []) d) no_marks
flat_string r from to met d m has s =
    let begun = goes r from met (S Value (Object ∷ []) d) (S (Text Item Plain) (Object ∷ []) d) m (marks_at m.name from) None 34 has s.first (value_quote (Object ∷ []) d) refl refl (omega arith) in
    let passed = passes_plain r (from + 1) s.count met Item (Object ∷ []) d (marks_at m.name from) begun s.plain in
    let q = from + 1 + s.count in
    let ended = goes r q met (S (Text Item Plain) (Object ∷ []) d) (S After (Object ∷ []) d) (marks_at m.name from) no_marks (Some (member_of m.name (span_to from (q + 1)))) 34 passed s.last (item_quote (Object ∷ []) d) refl refl (omega arith) in
    subst (λ (x : ℕ). Reads r x (met ++ r.f (member_of m.name (span_to from x)) ∷ []) (S After (Object ∷ []) d) no_marks) (sym s.ends) ended

flat_null : {P : Type 0} (r : Reading P) (from to : ℕ) (met : List P) (d : ℕ) (m : Marks) → Reads r from met (S Value (Object ∷ []) d) m → IsBareNull r.text from to
    → Reads r to (met ++ r.f (member_of m.name (span_to from to)) ∷ []) (S After (Object ∷ []) d) no_marks
flat_null r from to met d m has s =
    let one = goes r from met (S Value (Object ∷ []) d) (S (Literal Ull) (Object ∷ []) d) m (marks_at m.name from) None 110 has s.n (value_null (Object ∷ []) d) refl refl (omega arith) in
    let two = goes r (from + 1) met (S (Literal Ull) (Object ∷ []) d) (S (Literal Ll) (Object ∷ []) d) (marks_at m.name from) (marks_at m.name from) None 117 one s.u (null_u (Object ∷ []) d) refl refl (omega arith) in
    let three = goes r (from + 1 + 1) met (S (Literal Ll) (Object ∷ []) d) (S (Literal L) (Object ∷ []) d) (marks_at m.name from) (marks_at m.name from) None 108 two s.l (null_l (Object ∷ []) d) refl refl (omega arith) in
    let ended = goes r (from + 1 + 1 + 1) met (S (Literal L) (Object ∷ []) d) (S After (Object ∷ []) d) (marks_at m.name from) no_marks (Some (member_of m.name (span_to from (from + 1 + 1 + 1 + 1)))) 108 three s.last (null_last (Object ∷ []) d) refl refl (omega arith) in
    subst (λ (x : ℕ). Reads r x (met ++ r.f (member_of m.name (span_to from x)) ∷ []) (S After (Object ∷ []) d) no_marks) (sym s.ends) ended

flat_number : {P : Type 0} (r : Reading P) (from to : ℕ) (met : List P) (d : ℕ) (m : Marks) → Reads r from met (S Value (Object ∷ []) d) m → IsBareNumber r.text from to
    → Reads r to met (S (Number InInteger) (Object ∷ []) d) (marks_at m.name from)
flat_number r from to met d m has s =
    let b = get_or r.text from 0 in
    let begun = goes r from met (S Value (Object ∷ []) d) (S (Number InInteger) (Object ∷ []) d) m (marks_at m.name from) None b has (s.begins, refl) (value_digit (Object ∷ []) d b s.digit s.no_zero) refl refl (omega arith) in
    subst (λ (x : ℕ). Reads r x met (S (Number InInteger) (Object ∷ []) d) (marks_at m.name from)) (sym s.ends)
    (passes_digits r (from + 1) s.count met (Object ∷ []) d (marks_at m.name from) begun s.digits)

flat_closed : {P : Type 0} (r : Reading P) (from to : ℕ) (met : List P) (d : ℕ) (m : Marks) (at next : At) (end : ℕ) → Reads r from met (S Value (Object ∷ []) d) m → IsBareValue r.text from to at → Goes r.text to at next end → is_whole next ≡ true
    → Reads r end (met ++ r.f (member_of m.name (span_to from to)) ∷ []) (S next (Object ∷ []) d) no_marks
flat_closed r from to met d m at next end has (bare_string s) stays other = flat_string r from to met d m has s
flat_closed r from to met d m at next end has (bare_null s) stays other = flat_null r from to met d m has s
flat_closed r from to met d m at next end has (bare_number s) stays other = absurd (cc (other))
flat_closed r from to met d m at next end has (bare_string s) (passes_comma c) other =
    let more = met ++ r.f (member_of m.name (span_to from to)) ∷ [] in
    goes r to more (S After (Object ∷ []) d) (S Part (Object ∷ []) d) no_marks no_marks None 44 (flat_string r from to met d m has s) c (after_comma Object [] d) refl refl (omega arith)
flat_closed r from to met d m at next end has (bare_null s) (passes_comma c) other =
    let more = met ++ r.f (member_of m.name (span_to from to)) ∷ [] in
    goes r to more (S After (Object ∷ []) d) (S Part (Object ∷ []) d) no_marks no_marks None 44 (flat_null r from to met d m has s) c (after_comma Object [] d) refl refl (omega arith)
flat_closed r from to met d m at next end has (bare_number s) (passes_comma c) other =
    goes r to met (S (Number InInteger) (Object ∷ []) d) (S Part (Object ∷ []) d) (marks_at m.name from) no_marks (Some (member_of m.name (span_to from to))) 44 (flat_number r from to met d m has s) c (number_comma Object [] d) refl refl (omega arith)

flat_open : {P : Type 0} (r : Reading P) (from to : ℕ) (met : List P) (d : ℕ) (m : Marks) (at next : At) (end : ℕ) → Reads r from met (S Value (Object ∷ []) d) m → IsBareValue r.text from to at → Goes r.text to at next end → is_whole next ≡ false
    → Reads r end met (S next (Object ∷ []) d) (marks_at m.name from)
flat_open r from to met d m at next end has (bare_string s) stays is = absurd (cc (is))
flat_open r from to met d m at next end has (bare_null s) stays is = absurd (cc (is))
flat_open r from to met d m at next end has (bare_number s) stays is = flat_number r from to met d m has s
flat_open r from to met d m at next end has (bare_string s) (passes_comma c) is = absurd (cc (is))
flat_open r from to met d m at next end has (bare_null s) (passes_comma c) is = absurd (cc (is))
flat_open r from to met d m at next end has (bare_number s) (passes_comma c) is = absurd (cc (is))

flat_value : {P : Type 0} (r : Reading P) (place colon : ℕ) (met : List P) (at : At) (d : ℕ) (m : Marks) → Reads r place met (S at (Object ∷ []) d) m
    → step at (Object ∷ []) d 34 ≡ Some (S (Text Key Plain) (Object ∷ []) d) → within_part at ≡ Outside → IsBareString r.text place colon → Stands r.text colon 58
    → Reads r (colon + 1) met (S Value (Object ∷ []) d) (marks_at (span_to place colon) colon)
flat_value r place q met at d m has e out s c =
    goes r q met (S Colon (Object ∷ []) d) (S Value (Object ∷ []) d) (marks_at (span_to place q) q) (marks_at (span_to place q) q) None 58 (flat_name r place q met at d m has e out s) c (colon (Object ∷ []) d) refl refl (omega arith)

-- ---- a part of a list within a part

deep_goes : {P : Type 0} (r : Reading P) (place : ℕ) (met : List P) (s t : State) (m : Marks) (b : ℕ) → Reads r place met s m → Stands r.text place b
    → step s.at s.kinds s.room b ≡ Some t → within s.at s.kinds ≡ InValue → within t.at t.kinds ≡ InValue → Reads r (place + 1) met t m
deep_goes r place met s t m b has at e ws wt =
    goes r place met s t m m None b has at e
    (ap (λ (w : Within). marked place (place + 1) w (within t.at t.kinds) m) ws ∙ ap (λ (w : Within). marked place (place + 1) InValue w m) wt)
    (ap (λ (w : Within). finished place (place + 1) w (within t.at t.kinds) m) ws ∙ ap (λ (w : Within). finished place (place + 1) InValue w m) wt)
    (let low = has.begun in omega (arith, low))

deep_string : {P : Type 0} (r : Reading P) (from to : ℕ) (met : List P) (role : Role) (at next : At) (l : Kind) (ks : List Kind) (d : ℕ) (m : Marks) → Reads r from met (S at (Object ∷ l ∷ ks) d) m
    → step at (Object ∷ l ∷ ks) d 34 ≡ Some (S (Text role Plain) (Object ∷ l ∷ ks) d) → step (Text role Plain) (Object ∷ l ∷ ks) d 34 ≡ Some (S next (Object ∷ l ∷ ks) d) → IsBareString r.text from to
    → Reads r to met (S next (Object ∷ l ∷ ks) d) m
deep_string r from to met role at next l ks d m has e f s =
    let begun = deep_goes r from met (S at (Object ∷ l ∷ ks) d) (S (Text role Plain) (Object ∷ l ∷ ks) d) m 34 has s.first e refl refl in
    let passed = passes_plain r (from + 1) s.count met role (Object ∷ l ∷ ks) d m begun s.plain in
    subst (λ (x : ℕ). Reads r x met (S next (Object ∷ l ∷ ks) d) m) (sym s.ends)
    (deep_goes r (from + 1 + s.count) met (S (Text role Plain) (Object ∷ l ∷ ks) d) (S next (Object ∷ l ∷ ks) d) m 34 passed s.last f refl refl)

deep_value : {P : Type 0} (r : Reading P) (from to : ℕ) (met : List P) (at : At) (l : Kind) (ks : List Kind) (d : ℕ) (m : Marks) → Reads r from met (S Value (Object ∷ l ∷ ks) d) m → IsBareValue r.text from to at
    → Reads r to met (S at (Object ∷ l ∷ ks) d) m
deep_value r from to met at l ks d m has (bare_string s) = deep_string r from to met Item Value After l ks d m has (value_quote (Object ∷ l ∷ ks) d) (item_quote (Object ∷ l ∷ ks) d) s
deep_value r from to met at l ks d m has (bare_null s) =
    let one = deep_goes r from met (S Value (Object ∷ l ∷ ks) d) (S (Literal Ull) (Object ∷ l ∷ ks) d) m 110 has s.n (value_null (Object ∷ l ∷ ks) d) refl refl in
    let two = deep_goes r (from + 1) met (S (Literal Ull) (Object ∷ l ∷ ks) d) (S (Literal Ll) (Object ∷ l ∷ ks) d) m 117 one s.u (null_u (Object ∷ l ∷ ks) d) refl refl in
    let three = deep_goes r (from + 1 + 1) met (S (Literal Ll) (Object ∷ l ∷ ks) d) (S (Literal L) (Object ∷ l ∷ ks) d) m 108 two s.l (null_l (Object ∷ l ∷ ks) d) refl refl in
    subst (λ (x : ℕ). Reads r x met (S After (Object ∷ l ∷ ks) d) m) (sym s.ends)
    (deep_goes r (from + 1 + 1 + 1) met (S (Literal L) (Object ∷ l ∷ ks) d) (S After (Object ∷ l ∷ ks) d) m 108 three s.last (null_last (Object ∷ l ∷ ks) d) refl refl)
deep_value r from to met at l ks d m has (bare_number s) =
    let b = get_or r.text from 0 in
    let begun = deep_goes r from met (S Value (Object ∷ l ∷ ks) d) (S (Number InInteger) (Object ∷ l ∷ ks) d) m b has (s.begins, refl) (value_digit (Object ∷ l ∷ ks) d b s.digit s.no_zero) refl refl in
    subst (λ (x : ℕ). Reads r x met (S (Number InInteger) (Object ∷ l ∷ ks) d) m) (sym s.ends)
    (passes_digits r (from + 1) s.count met (Object ∷ l ∷ ks) d m begun s.digits)

deep_next : {P : Type 0} (r : Reading P) (from to : ℕ) (met : List P) (at next : At) (end : ℕ) (l : Kind) (ks : List Kind) (d : ℕ) (m : Marks) → Reads r from met (S Value (Object ∷ l ∷ ks) d) m → IsBareValue r.text from to at → Goes r.text to at next end
    → Reads r end met (S next (Object ∷ l ∷ ks) d) m
deep_next r from to met at next end l ks d m has v stays = deep_value r from to met at l ks d m has v
deep_next r from to met at next end l ks d m has v (passes_comma c) = deep_goes r to met (S at (Object ∷ l ∷ ks) d) (S Part (Object ∷ l ∷ ks) d) m 44 (deep_value r from to met at l ks d m has v) c (comma v) refl refl
  where
    comma : {from to : ℕ} {at : At} → IsBareValue r.text from to at → step at (Object ∷ l ∷ ks) d 44 ≡ Some (S Part (Object ∷ l ∷ ks) d)
    comma (bare_string s) = after_comma Object (l ∷ ks) d
    comma (bare_null s) = after_comma Object (l ∷ ks) d
    comma (bare_number s) = number_comma Object (l ∷ ks) d

-- ---- where they end

-- A value goes on behind its first byte, within the text.
pub value_grows : (text : List ℕ) (from to : ℕ) (at : At) → IsBareValue text from to at → from ≤ to
value_grows text from to at (bare_string s) = let e = s.ends in omega (arith, e)
value_grows text from to at (bare_null s) = let e = s.ends in omega (arith, e)
value_grows text from to at (bare_number s) = let e = s.ends in omega (arith, e)

value_within : (text : List ℕ) (from to : ℕ) (at : At) → IsBareValue text from to at → to ≤ length text
value_within text from to at (bare_string s) = let e = s.ends in let l = s.last.0 in omega (arith, e, l)
value_within text from to at (bare_null s) = let e = s.ends in let l = s.last.0 in omega (arith, e, l)
value_within text from to at (bare_number s) = let e = s.ends in let l = s.within in omega (arith, e, l)

goes_on : (text : List ℕ) (to : ℕ) (at next : At) (end : ℕ) → to ≤ length text → Goes text to at next end → (to ≤ end) × (end ≤ length text)
goes_on text to at next end low stays = (omega arith, low)
goes_on text to at next end low (passes_comma c) = let l = c.0 in (omega arith, omega (arith, l))

-- What is read whole ends behind the place at which it begins, within the text.
pub member_ends : (text : List ℕ) (place : ℕ) (b : BareMember) → IsBareMember text place b → (place < b.end) × (b.end ≤ length text)
member_ends text place b (inl is) =
    let e = is.is_name.ends in
    let v = value_grows text (is.colon + 1) is.to is.at is.is_value in
    let g = goes_on text is.to is.at b.at b.end (value_within text (is.colon + 1) is.to is.at is.is_value) is.goes in
    let low = g.0 in
    (omega (arith, e, v, low), g.1)
member_ends text place b (inr is) = let e = is.is_name.ends in let f = is.end in let c = is.is_colon.0 in (omega (arith, e, f), omega (arith, f, c))

-- ---- members

flat_kinds : (at : At) (ks : List Kind) → Awaits at ks → is_deep ks ≡ false → ks ≡ Object ∷ []
flat_kinds at ks a flat = go a.rest a.is
  where
    go : (rest : List Kind) → ks ≡ Object ∷ rest → ks ≡ Object ∷ []
    go [] is = is
    go (l ∷ more) is = let deep : is_deep ks ≡ true = ap is_deep is in absurd (cc (deep, flat))

abbrev reading : {P : Type 0} → (Member → P) → Kind → List ℕ → Reading P
reading f k text = record { f = f; k = k; text = text }

member_is : (b : BareMember) (name value : Span) → b.member.name ≡ name → b.member.value ≡ value → member_of name value ≡ b.member
member_is b name value e f = sym (ap (λ (x : Span). member_of x b.member.value) e ∙ ap (member_of name) f)

-- the step and the place of a state in which a name may begin, where only one list is open
flat_on : (at : At) (ks : List Kind) → Awaits at ks → (d : ℕ) → is_deep ks ≡ false → step at (Object ∷ []) d 34 ≡ Some (S (Text Key Plain) (Object ∷ []) d)
flat_on at ks a d flat = let e : a.rest ≡ [] = cc (a.is, flat_kinds at ks a flat) in subst (λ (x : List Kind). step at (Object ∷ x) d 34 ≡ Some (S (Text Key Plain) (Object ∷ x) d)) e (a.on d)

-- the reading behind the name of a part of the outermost list
behind_name : (P : Type 0) (f : Member → P) (k : Kind) (text : List ℕ) (place colon : ℕ) (met : List P) (s : State) (m : Marks)
    → HasRead P f k text place met s m → awaits_name s.at s.kinds ≡ true → is_deep s.kinds ≡ false → IsBareString text place colon → Stands text colon 58
    → (s.kinds ≡ Object ∷ []) × HasRead P f k text (colon + 1) met (S Value (Object ∷ []) s.room) (marks_at (span_to place colon) colon)
behind_name P f k text place q met s m has waits flat name c =
    let a = awaits s.at s.kinds waits in
    let ks = flat_kinds s.at s.kinds a flat in
    let here = subst (λ (x : List Kind). HasRead P f k text place met (S s.at x s.room) m) ks has in
    (ks, flat_value (reading f k text) place q met s.at s.room m here (flat_on s.at s.kinds a s.room flat) a.outside name c)

-- A member of the outermost list is met, where its value has ended.
pub has_member : (P : Type 0) (f : Member → P) (k : Kind) (text : List ℕ) (place : ℕ) (met : List P) (s : State) (m : Marks) (b : BareMember)
    → HasRead P f k text place met s m → awaits_name s.at s.kinds ≡ true → is_deep s.kinds ≡ false → IsBareMember text place b → is_whole b.at ≡ true
    → HasRead P f k text b.end (met ++ f b.member ∷ []) (S b.at s.kinds s.room) no_marks
has_member P f k text place met s m b has waits flat (inl is) whole =
    let value = behind_name P f k text place is.colon met s m has waits flat is.is_name is.is_colon in
    let closed = flat_closed (reading f k text) (is.colon + 1) is.to met s.room (marks_at (span_to place is.colon) is.colon) is.at b.at b.end value.1 is.is_value is.goes whole in
    subst (λ (x : List Kind). HasRead P f k text b.end (met ++ f b.member ∷ []) (S b.at x s.room) no_marks) (sym value.0)
    (subst (λ (x : Member). HasRead P f k text b.end (met ++ f x ∷ []) (S b.at (Object ∷ []) s.room) no_marks) (member_is b (span_to place is.colon) (span_to (is.colon + 1) is.to) is.name is.value) closed)
has_member P f k text place met s m b has waits flat (inr is) whole = let other : is_whole b.at ≡ false = ap is_whole is.at in absurd (cc (whole, other))

-- A member of the outermost list has begun, where its value has not ended.
pub has_begun_member : (P : Type 0) (f : Member → P) (k : Kind) (text : List ℕ) (place : ℕ) (met : List P) (s : State) (m : Marks) (b : BareMember)
    → HasRead P f k text place met s m → awaits_name s.at s.kinds ≡ true → is_deep s.kinds ≡ false → IsBareMember text place b → is_whole b.at ≡ false
    → HasRead P f k text b.end met (S b.at s.kinds s.room) (marks_at b.member.name b.member.value.at)
has_begun_member P f k text place met s m b has waits flat (inl is) open_value =
    let value = behind_name P f k text place is.colon met s m has waits flat is.is_name is.is_colon in
    let begun = flat_open (reading f k text) (is.colon + 1) is.to met s.room (marks_at (span_to place is.colon) is.colon) is.at b.at b.end value.1 is.is_value is.goes open_value in
    let marks : marks_at (span_to place is.colon) (is.colon + 1) ≡ marks_at b.member.name b.member.value.at = sym (ap (λ (x : Span). marks_at x b.member.value.at) is.name ∙ ap (λ (x : Span). marks_at (span_to place is.colon) x.at) is.value) in
    subst (λ (x : List Kind). HasRead P f k text b.end met (S b.at x s.room) (marks_at b.member.name b.member.value.at)) (sym value.0)
    (subst (λ (x : Marks). HasRead P f k text b.end met (S b.at (Object ∷ []) s.room) x) marks begun)
has_begun_member P f k text place met s m b has waits flat (inr is) open_value =
    let value = behind_name P f k text place is.colon met s m has waits flat is.is_name is.is_colon in
    let marks : marks_at (span_to place is.colon) is.colon ≡ marks_at b.member.name b.member.value.at = sym (ap (λ (x : Span). marks_at x b.member.value.at) is.name ∙ ap (marks_at (span_to place is.colon)) is.value) in
    subst (λ (x : List Kind). HasRead P f k text b.end met (S b.at x s.room) (marks_at b.member.name b.member.value.at)) (sym value.0)
    (subst (λ (x : Marks). HasRead P f k text b.end met (S b.at (Object ∷ []) s.room) x) marks
    (subst (λ (x : At). HasRead P f k text b.end met (S x (Object ∷ []) s.room) (marks_at (span_to place is.colon) is.colon)) (sym is.at)
    (subst (λ (x : ℕ). HasRead P f k text x met (S Value (Object ∷ []) s.room) (marks_at (span_to place is.colon) is.colon)) (sym is.end) value.1)))

deep_name : {P : Type 0} (r : Reading P) (place q : ℕ) (met : List P) (at : At) (l : Kind) (ks : List Kind) (d : ℕ) (m : Marks) → Reads r place met (S at (Object ∷ l ∷ ks) d) m
    → step at (Object ∷ l ∷ ks) d 34 ≡ Some (S (Text Key Plain) (Object ∷ l ∷ ks) d) → IsBareString r.text place q → Stands r.text q 58 → Reads r (q + 1) met (S Value (Object ∷ l ∷ ks) d) m
deep_name r place q met at l ks d m has e name c =
    deep_goes r q met (S Colon (Object ∷ l ∷ ks) d) (S Value (Object ∷ l ∷ ks) d) m 58 (deep_string r place q met Key at Colon l ks d m has e (key_quote (Object ∷ l ∷ ks) d) name) c (colon (Object ∷ l ∷ ks) d) refl refl

deep_member : {P : Type 0} (r : Reading P) (place : ℕ) (met : List P) (at : At) (l : Kind) (ks : List Kind) (d : ℕ) (m : Marks) (b : BareMember) → Reads r place met (S at (Object ∷ l ∷ ks) d) m
    → step at (Object ∷ l ∷ ks) d 34 ≡ Some (S (Text Key Plain) (Object ∷ l ∷ ks) d) → IsBareMember r.text place b → Reads r b.end met (S b.at (Object ∷ l ∷ ks) d) m
deep_member r place met at l ks d m b has e (inl is) = deep_next r (is.colon + 1) is.to met is.at b.at b.end l ks d m (deep_name r place is.colon met at l ks d m has e is.is_name is.is_colon) is.is_value is.goes
deep_member r place met at l ks d m b has e (inr is) =
    subst (λ (x : At). Reads r b.end met (S x (Object ∷ l ∷ ks) d) m) (sym is.at)
    (subst (λ (x : ℕ). Reads r x met (S Value (Object ∷ l ∷ ks) d) m) (sym is.end) (deep_name r place is.colon met at l ks d m has e is.is_name is.is_colon))

-- A member of a list within a part is passed.
pub has_deep_member : (P : Type 0) (f : Member → P) (k : Kind) (text : List ℕ) (place : ℕ) (met : List P) (s : State) (m : Marks) (b : BareMember)
    → HasRead P f k text place met s m → awaits_name s.at s.kinds ≡ true → is_deep s.kinds ≡ true → IsBareMember text place b → HasRead P f k text b.end met (S b.at s.kinds s.room) m
has_deep_member P f k text place met s m b has waits deep is = let a = awaits s.at s.kinds waits in go a.rest a.is a.on
  where
    go : (rest : List Kind) → s.kinds ≡ Object ∷ rest → ((d : ℕ) → step s.at (Object ∷ rest) d 34 ≡ Some (S (Text Key Plain) (Object ∷ rest) d)) → HasRead P f k text b.end met (S b.at s.kinds s.room) m
    go [] e on = let flat : is_deep s.kinds ≡ false = ap is_deep e in absurd (cc (deep, flat))
    go (l ∷ ks) e on =
        let here = subst (λ (x : List Kind). HasRead P f k text place met (S s.at x s.room) m) e has in
        subst (λ (x : List Kind). HasRead P f k text b.end met (S b.at x s.room) m) (sym e) (deep_member (reading f k text) place met s.at l ks s.room m b here (on s.room) is)
