-- What a text leads to, byte by byte: the parts that end in it.
use Rattle.std.proofs.Common.{◌≡◌, ℕ, Bool, true, false, cond, List, [], ◌∷◌, ◌++◌, length, Option, Some, None, refl, sym, ap, subst, ◌∙◌}
use Rattle.std.specs.Prelude.{◌-◌}
use Rattle.json_span.specs.Grammar.{Each, is_space}
use Rattle.json_span.specs.Machine.{State, go_to, after_step, spaced_step, step}
use Rattle.json_span.specs.Nest.{is_deep}
use Rattle.json_span.specs.Machine.{read, within, marked, finished, also, no_marks, span_to}
use Rattle.json_span.specs.declared.marks.Within.{Within}
use Rattle.json_span.specs.declared.marks.Within.TheVariants.{Outside, InName, InNumber, InValue}
use Rattle.json_span.specs.declared.marks.Marks.{Marks}
use Rattle.std.specs.Option.{option_map}
use Rattle.json_span.specs.declared.Member.{Member}
use Rattle.json_span.specs.declared.state.Kind.{Kind}
use Rattle.json_span.specs.declared.state.At.{At}
use Rattle.json_span.specs.declared.state.At.TheVariants.{Begin, Fresh, Part, Colon, Value, After}

-- From a state and its marks the whole rest of a text of a length is read, and these parts end in it.
pub record Takes (n : ℕ) (s : State) (m : Marks) (u : List ℕ) (out : List Member) : Type 0 where
  pub is : read n s m u ≡ Some out

-- a state by its parts
abbrev pub S : At → List Kind → ℕ → State
S at ks d = record { at = at; kinds = ks; room = d }

-- where the rest of a text of a length begins
abbrev pub place_of : ℕ → List ℕ → ℕ
place_of n u = n - length u

-- ---- one byte

-- What is read from a state is what is read behind one more byte.
pub step_read : (n : ℕ) (s t : State) (m : Marks) (b : ℕ) (u : List ℕ) → step s.at s.kinds s.room b ≡ Some t
    → read n s m (b ∷ u) ≡ option_map (also (finished (place_of n (b ∷ u)) (place_of n u) (within s.at s.kinds) (within t.at t.kinds) m)) (read n t (marked (place_of n (b ∷ u)) (place_of n u) (within s.at s.kinds) (within t.at t.kinds) m) u)
unfolding read
step_read n s t m b u e = rw e refl

-- a step at which the marks and the parts change
pub takes_event : (n : ℕ) (at : At) (ks : List Kind) (d b : ℕ) (t : State) (m m2 : Marks) (o : Option Member) (u : List ℕ) (out : List Member)
    → step at ks d b ≡ Some t
    → marked (place_of n (b ∷ u)) (place_of n u) (within at ks) (within t.at t.kinds) m ≡ m2
    → finished (place_of n (b ∷ u)) (place_of n u) (within at ks) (within t.at t.kinds) m ≡ o
    → Takes n t m2 u out → Takes n (S at ks d) m (b ∷ u) (also o out)
takes_event n at ks d b t m m2 o u out e em eo a = record { is = step_read n (S at ks d) t m b u e ∙ ap (λ (x : Marks). option_map (also (finished (place_of n (b ∷ u)) (place_of n u) (within at ks) (within t.at t.kinds) m)) (read n t x u)) em ∙ ap (λ (x : Option (List Member)). option_map (also (finished (place_of n (b ∷ u)) (place_of n u) (within at ks) (within t.at t.kinds) m)) x) a.is ∙ ap (λ (x : Option Member). Some (also x out)) eo }

same_marks : (p q : ℕ) (w : Within) (m : Marks) → marked p q w w m ≡ m
same_marks p q Outside m = refl
same_marks p q InName m = refl
same_marks p q InNumber m = refl
same_marks p q InValue m = refl

same_parts : (p q : ℕ) (w : Within) (m : Marks) → finished p q w w m ≡ None
same_parts p q Outside m = refl
same_parts p q InName m = refl
same_parts p q InNumber m = refl
same_parts p q InValue m = refl

-- a step within one part, or outside each
pub takes_on : (n : ℕ) (at : At) (ks : List Kind) (d b : ℕ) (t : State) (m : Marks) (u : List ℕ) (out : List Member) → step at ks d b ≡ Some t → within t.at t.kinds ≡ within at ks → Takes n t m u out → Takes n (S at ks d) m (b ∷ u) out
takes_on n at ks d b t m u out e w a =
    takes_event n at ks d b t m m None u out e
    (ap (λ (x : Within). marked (place_of n (b ∷ u)) (place_of n u) (within at ks) x m) w ∙ same_marks (place_of n (b ∷ u)) (place_of n u) (within at ks) m)
    (ap (λ (x : Within). finished (place_of n (b ∷ u)) (place_of n u) (within at ks) x m) w ∙ same_parts (place_of n (b ∷ u)) (place_of n u) (within at ks) m) a

-- ---- where values and names begin and end

-- the marks where a name or a value has begun at a place
abbrev pub begun : List Kind → ℕ → Marks → Marks
begun ks p m = cond (is_deep ks) m (record { name = m.name; from = p })

-- the marks where a name has ended at a place
abbrev pub named : List Kind → ℕ → Marks → Marks
named ks q m = cond (is_deep ks) m (record { name = span_to m.from q; from = q })

-- the marks where a value has ended
abbrev pub settled : List Kind → Marks → Marks
settled ks m = cond (is_deep ks) m no_marks

-- the parts where a value has ended at a place
abbrev pub ended : List Kind → Marks → ℕ → List Member → List Member
ended ks m q out = cond (is_deep ks) out (record { name = m.name; value = span_to m.from q } ∷ out)

-- a state is in a part, whose kind matters in the outermost list alone
pub data InPart (ks : List Kind) (w : Within) : Type 0 where
  in_value : w ≡ InValue → InPart ks w
  in_number : w ≡ cond (is_deep ks) InValue InNumber → InPart ks w
  in_name : w ≡ cond (is_deep ks) InValue InName → InPart ks w

-- what a step into a part changes
abbrev Begins : Bool → ℕ → ℕ → Marks → Within → Type 0
Begins deep p q m w = (marked p q (cond deep InValue Outside) w m ≡ cond deep m (record { name = m.name; from = p })) × (finished p q (cond deep InValue Outside) w m ≡ None)

begins_value : (deep : Bool) (p q : ℕ) (m : Marks) → Begins deep p q m InValue
begins_value true p q m = (refl, refl)
begins_value false p q m = (refl, refl)

begins_number : (deep : Bool) (p q : ℕ) (m : Marks) → Begins deep p q m (cond deep InValue InNumber)
begins_number true p q m = (refl, refl)
begins_number false p q m = (refl, refl)

begins_name : (deep : Bool) (p q : ℕ) (m : Marks) → Begins deep p q m (cond deep InValue InName)
begins_name true p q m = (refl, refl)
begins_name false p q m = (refl, refl)

begins : (ks : List Kind) (p q : ℕ) (m : Marks) (w : Within) → InPart ks w → Begins (is_deep ks) p q m w
begins ks p q m w (in_value e) = subst (λ (x : Within). Begins (is_deep ks) p q m x) (sym e) (begins_value (is_deep ks) p q m)
begins ks p q m w (in_number e) = subst (λ (x : Within). Begins (is_deep ks) p q m x) (sym e) (begins_number (is_deep ks) p q m)
begins ks p q m w (in_name e) = subst (λ (x : Within). Begins (is_deep ks) p q m x) (sym e) (begins_name (is_deep ks) p q m)

-- the first byte of a name or a value
pub takes_begin : (n : ℕ) (at : At) (ks : List Kind) (d b : ℕ) (t : State) (m : Marks) (u : List ℕ) (out : List Member)
    → step at ks d b ≡ Some t → within at ks ≡ cond (is_deep ks) InValue Outside → InPart ks (within t.at t.kinds) → Takes n t (begun ks (place_of n (b ∷ u)) m) u out → Takes n (S at ks d) m (b ∷ u) out
takes_begin n at ks d b t m u out e w i a =
    let p = place_of n (b ∷ u) in
    let q = place_of n u in
    let c = begins ks p q m (within t.at t.kinds) i in
    takes_event n at ks d b t m (begun ks p m) None u out e
    (ap (λ (x : Within). marked p q x (within t.at t.kinds) m) w ∙ c.0) (ap (λ (x : Within). finished p q x (within t.at t.kinds) m) w ∙ c.1) a

-- the last byte of a value that is no number
pub takes_end : (n : ℕ) (at : At) (ks0 ks : List Kind) (d d2 b : ℕ) (m : Marks) (u : List ℕ) (out : List Member)
    → step at ks0 d2 b ≡ go_to After ks d → within at ks0 ≡ InValue → Takes n (S After ks d) (settled ks m) u out → Takes n (S at ks0 d2) m (b ∷ u) (ended ks m (place_of n u) out)
takes_end n at ks0 ks d d2 b m u out e w a =
    let p = place_of n (b ∷ u) in
    let q = place_of n u in
    subst (λ (x : List Member). Takes n (S at ks0 d2) m (b ∷ u) x) (parts (is_deep ks) m q out)
    (takes_event n at ks0 d2 b (S After ks d) m (settled ks m) (cond (is_deep ks) None (Some (record { name = m.name; value = span_to m.from q }))) u out e
    (ap (λ (x : Within). marked p q x (cond (is_deep ks) InValue Outside) m) w ∙ marks (is_deep ks) p q m) (ap (λ (x : Within). finished p q x (cond (is_deep ks) InValue Outside) m) w ∙ part (is_deep ks) p q m) a)
  where
    marks : (deep : Bool) (p q : ℕ) (m : Marks) → marked p q InValue (cond deep InValue Outside) m ≡ cond deep m no_marks
    marks true p q m = refl
    marks false p q m = refl

    part : (deep : Bool) (p q : ℕ) (m : Marks) → finished p q InValue (cond deep InValue Outside) m ≡ cond deep None (Some (record { name = m.name; value = span_to m.from q }))
    part true p q m = refl
    part false p q m = refl

    parts : (deep : Bool) (m : Marks) (q : ℕ) (out : List Member) → also (cond deep None (Some (record { name = m.name; value = span_to m.from q }))) out ≡ cond deep out (record { name = m.name; value = span_to m.from q } ∷ out)
    parts true m q out = refl
    parts false m q out = refl

-- ---- white space

-- White space is passed where a state stays at it.
pub takes_spaces : (n : ℕ) (at : At) (ks : List Kind) (d : ℕ) → ((b : ℕ) → is_space b ≡ true → step at ks d b ≡ go_to at ks d) → (sp v : List ℕ) (m : Marks) (out : List Member) → Each is_space sp → Takes n (S at ks d) m v out → Takes n (S at ks d) m (sp ++ v) out
takes_spaces n at ks d self [] v m out each a = a
takes_spaces n at ks d self (b ∷ bs) v m out each a = takes_on n at ks d b (S at ks d) m (bs ++ v) out (self b each.0) refl (takes_spaces n at ks d self bs v m out each.1 a)

-- White space changes nothing where it may stand.
pub spaced_self : (at : At) (ks : List Kind) (d b : ℕ) → is_space b ≡ true → spaced_step at ks d b ≡ go_to at ks d
spaced_self at ks d b t = rw t refl

-- White space behind an opening bracket changes nothing.
pub fresh_self : (ks : List Kind) (d b : ℕ) → is_space b ≡ true → step Fresh ks d b ≡ go_to Fresh ks d
unfolding step
fresh_self ks d b t = spaced_self Fresh ks d b t

-- White space before a part changes nothing.
pub part_self : (ks : List Kind) (d b : ℕ) → is_space b ≡ true → step Part ks d b ≡ go_to Part ks d
unfolding step
part_self ks d b t = spaced_self Part ks d b t

-- White space before a value changes nothing.
pub value_self : (ks : List Kind) (d b : ℕ) → is_space b ≡ true → step Value ks d b ≡ go_to Value ks d
unfolding step
value_self ks d b t = spaced_self Value ks d b t

-- White space before a colon changes nothing.
pub colon_self : (ks : List Kind) (d b : ℕ) → is_space b ≡ true → step Colon ks d b ≡ go_to Colon ks d
unfolding step
colon_self ks d b t = spaced_self Colon ks d b t

-- White space behind a value changes nothing.
pub after_self : (ks : List Kind) (d b : ℕ) → is_space b ≡ true → step After ks d b ≡ go_to After ks d
unfolding step after_step
after_self ks d b t = rw t refl

-- White space before the outermost bracket changes nothing.
pub begin_self : (k : Kind) (d b : ℕ) → is_space b ≡ true → step (Begin k) [] d b ≡ go_to (Begin k) [] d
unfolding step
begin_self k d b t = spaced_self (Begin k) [] d b t
