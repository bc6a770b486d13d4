-- Each state that a text leads to can be completed.
use Rattle.std.proofs.Common.{◌≡◌, ℕ, zero, suc, ◌+◌, Bool, true, false, cond, eqb, List, [], ◌∷◌, ◌++◌, length, Option, Some, None, refl, sym, ap, subst, ◌∙◌, append_assoc, inl, inr}
use Rattle.std.specs.List.{AllByRecursion}
use Rattle.std.proofs.lemmas.List.{append-nil}
use Rattle.std.specs.Prelude.{codes}
use Rattle.json_span.specs.Grammar.{Each, is_space, is_digit, IsString, Fraction, Exponent, no_chars, escaped_char, digits, zero_digit, absent, no_fraction, no_exponent, null_text, open_of, close_of, Piece, piece_text, IsPiece, commas, ValueWithin, IsPartText, places, IsSplit}
use Rattle.json_span.specs.Machine.{◌>>=◌, State, go_to, string_step, ends_string, behind, number_step, may_end, letter, next_letters, scalar_begin, push, value_begin, part_begin, fresh_step, after_step, number_goes, literal_goes, begin_step, step, start, run, is_done}
use Rattle.json_span.specs.declared.Member.{Member}
use Rattle.json_span.specs.declared.state.Kind.{Kind}
use Rattle.json_span.specs.declared.state.Kind.TheVariants.{Array, Object}
use Rattle.json_span.specs.declared.state.Role.{Role}
use Rattle.json_span.specs.declared.state.Role.TheVariants.{Key, Item}
use Rattle.json_span.specs.declared.state.StringAt.{StringAt}
use Rattle.json_span.specs.declared.state.StringAt.TheVariants.{Plain, Escaped, Four, Three, Two, One}
use Rattle.json_span.specs.declared.state.NumberAt.{NumberAt}
use Rattle.json_span.specs.declared.state.NumberAt.TheVariants.{AfterMinus, AfterZero, InInteger, AfterPoint, InFraction, AfterE, AfterSign, InExponent}
use Rattle.json_span.specs.declared.state.LiteralAt.{LiteralAt}
use Rattle.json_span.specs.declared.state.At.{At}
use Rattle.json_span.specs.declared.state.At.TheVariants.{Begin, Fresh, Part, Colon, Value, After, Text, Number, Literal}
use Rattle.json_span.proofs.BasicLaws.{bind_some, some_is}
use Rattle.json_span.proofs.StringLaws.{InString}
use Rattle.json_span.proofs.Completions.{Afters, Values, Parts, Freshes, Spaced, Then, Byte, NumRest, letters_of, Colons, Closing, Opens, Completes}
use Rattle.json_span.proofs.NumberLaws.{num_ended}
use Rattle.json_span.proofs.SoundLaws.{no_space, scalar_value, step_sound}

-- ---- a state can be completed

close_all : (d : ℕ) (ks : List Kind) → (u : List ℕ) × Afters d ks u
close_all d [] = ([], tt)
close_all d (k ∷ ks) = let c = close_all (suc d) ks in (close_of k ∷ c.0, ([], [], c.0, tt, tt, c.1, refl))

some_value : (d : ℕ) (ks : List Kind) → (u : List ℕ) × Values d ks u
some_value d ks = let c = close_all d ks in (codes "null" ++ c.0, (codes "null", c.0, scalar_value d (codes "null") null_text, c.1, refl))

some_name : IsString (34 ∷ 34 ∷ [])
some_name = record { inner = []; chars = no_chars; whole = refl }

some_part : (d : ℕ) (k : Kind) (ks : List Kind) → (u : List ℕ) × Parts d (k ∷ ks) u
some_part d Array ks = let v = some_value d (Array ∷ ks) in (v.0, ([], [], v.0, (refl, refl), v.1, refl))
some_part d Object ks = let v = some_value d (Object ∷ ks) in (34 ∷ 34 ∷ 58 ∷ v.0, (34 ∷ 34 ∷ [], 58 ∷ [], v.0, (some_name, record { before = []; after = []; is_before = tt; is_after = tt; whole = refl }), v.1, refl))

some_colon : (d : ℕ) (ks : List Kind) → (u : List ℕ) × Colons d ks u
some_colon d ks = let v = some_value d ks in (58 ∷ v.0, no_space (Byte 58 (Spaced (Values d ks))) (58 ∷ v.0) (record { v = v.0; then = no_space (Values d ks) v.0 v.1; whole = refl }))

some_closing : (role : Role) (d : ℕ) (ks : List Kind) → (u : List ℕ) × Closing role d ks u
some_closing Key d ks = some_colon d ks
some_closing Item d ks = close_all d ks

some_chars : (c : StringAt) → (u : List ℕ) × InString c u
some_chars Plain = ([], no_chars)
some_chars Escaped = (34 ∷ [], escaped_char refl no_chars)
some_chars Four = (48 ∷ 48 ∷ 48 ∷ 48 ∷ [], (refl, (refl, (refl, (refl, no_chars)))))
some_chars Three = (48 ∷ 48 ∷ 48 ∷ [], (refl, (refl, (refl, no_chars))))
some_chars Two = (48 ∷ 48 ∷ [], (refl, (refl, no_chars)))
some_chars One = (48 ∷ [], (refl, no_chars))

ends_now : Then Fraction Exponent []
ends_now = record { x = []; v = []; first = no_fraction; then = no_exponent; whole = refl }

some_num : (n : NumberAt) → (u : List ℕ) × NumRest n u
some_num AfterMinus = (48 ∷ [], record { x = 48 ∷ []; v = []; first = zero_digit; then = ends_now; whole = refl })
some_num AfterZero = ([], num_ended AfterZero refl)
some_num InInteger = ([], num_ended InInteger refl)
some_num AfterPoint = (48 ∷ [], record { x = 48 ∷ []; v = []; first = digits refl tt; then = no_exponent; whole = refl })
some_num InFraction = ([], num_ended InFraction refl)
some_num AfterE = (48 ∷ [], record { x = []; v = 48 ∷ []; first = absent; then = digits refl tt; whole = refl })
some_num AfterSign = (48 ∷ [], digits refl tt)
some_num InExponent = ([], tt)

-- where a part comes next a bracket is open; room is left before the first
pub Sits : At → ℕ → List Kind → Type 0
Sits Fresh d [] = ⊥
Sits Part d [] = ⊥
Sits (Begin k) zero ks = ⊥
Sits _ d ks = Unit {0}

can_complete : (at : At) (d : ℕ) (ks : List Kind) → Sits at d ks → (u : List ℕ) × Completes at d ks u
unfolding Sits
can_complete Fresh d [] sits = absurd sits
can_complete Fresh d (k ∷ ks) sits = let p = some_part d k ks in (p.0, no_space (Freshes d (k ∷ ks)) p.0 (inr p.1))
can_complete Part d [] sits = absurd sits
can_complete Part d (k ∷ ks) sits = let p = some_part d k ks in (p.0, no_space (Parts d (k ∷ ks)) p.0 p.1)
can_complete Value d ks sits = let v = some_value d ks in (v.0, no_space (Values d ks) v.0 v.1)
can_complete After d ks sits = close_all d ks
can_complete Colon d ks sits = some_colon d ks
can_complete (Text role c) d ks sits = let x = some_chars c in let v = some_closing role d ks in (x.0 ++ 34 ∷ v.0, record { x = x.0; v = 34 ∷ v.0; first = x.1; then = record { v = v.0; then = v.1; whole = refl }; whole = refl })
can_complete (Number n) d ks sits = let x = some_num n in let v = close_all d ks in (x.0 ++ v.0, record { x = x.0; v = v.0; first = x.1; then = v.1; whole = refl })
can_complete (Literal l) d ks sits = let v = close_all d ks in (letters_of l ++ v.0, record { x = letters_of l; v = v.0; first = refl; then = v.1; whole = refl })
can_complete (Begin k) zero ks sits = absurd sits
can_complete (Begin k) (suc d) ks sits =
    let p = some_part d k ks in
    (open_of k ∷ p.0, no_space (Opens k (suc d) ks) (open_of k ∷ p.0) (record { v = p.0; then = no_space (Freshes d (k ∷ ks)) p.0 (inr p.1); whole = refl }))

-- ---- what sits

abbrev pub AllSome : (State → Type 0) → Option State → Type 0
AllSome P None = Unit {0}
AllSome P (Some s) = P s

abbrev pub SitsIn : State → Type 0
SitsIn s = Sits s.at s.room s.kinds

either : (P : State → Type 0) (b : Bool) (x y : Option State) → AllSome P x → AllSome P y → AllSome P (cond b x y)
either P true x y p q = p
either P false x y p q = q

pushed : (k : Kind) (ks : List Kind) (d : ℕ) → AllSome SitsIn (push k ks d)
unfolding push Sits
pushed k ks zero = tt
pushed k ks (suc d) = tt

-- a state that sits wherever it is
abbrev pub SitsAnywhere : Option At → Type 0
SitsAnywhere None = Unit {0}
SitsAnywhere (Some at) = (d : ℕ) (ks : List Kind) → Sits at d ks

anywhere : (b : Bool) (x y : Option At) → SitsAnywhere x → SitsAnywhere y → SitsAnywhere (cond b x y)
anywhere true x y p q = p
anywhere false x y p q = q

scalar_sits : (b : ℕ) → SitsAnywhere (scalar_begin b)
unfolding scalar_begin Sits
scalar_sits b = anywhere (eqb b 34) _ _ (λ d ks. tt) (anywhere (eqb b 45) _ _ (λ d ks. tt) (anywhere (eqb b 48) _ _ (λ d ks. tt) (anywhere (eqb b 116) _ _ (λ d ks. tt) (anywhere (eqb b 102) _ _ (λ d ks. tt) (anywhere (eqb b 110) _ _ (λ d ks. tt) (anywhere (is_digit b) _ _ (λ d ks. tt) tt))))))

began_sits : (ks : List Kind) (d : ℕ) (o : Option At) → SitsAnywhere o → AllSome SitsIn (o >>= λ at. go_to at ks d)
began_sits ks d None sits = tt
began_sits ks d (Some at) sits = sits d ks

value_sits : (ks : List Kind) (d b : ℕ) → AllSome SitsIn (value_begin ks d b)
unfolding value_begin
value_sits ks d b = either SitsIn (eqb b 91) _ _ (pushed Array ks d) (either SitsIn (eqb b 123) _ _ (pushed Object ks d) (began_sits ks d (scalar_begin b) (scalar_sits b)))

part_sits : (ks : List Kind) (d b : ℕ) → AllSome SitsIn (part_begin ks d b)
unfolding part_begin Sits
part_sits [] d b = tt
part_sits (Array ∷ ks) d b = value_sits (Array ∷ ks) d b
part_sits (Object ∷ ks) d b = either SitsIn (eqb b 34) _ _ tt tt

fresh_sits : (ks : List Kind) (d b : ℕ) → AllSome SitsIn (fresh_step ks d b)
unfolding fresh_step Sits
fresh_sits [] d b = tt
fresh_sits (k ∷ ks) d b = either SitsIn (eqb b (close_of k)) _ _ tt (part_sits (k ∷ ks) d b)

after_sits : (ks : List Kind) (d b : ℕ) → AllSome SitsIn (after_step ks d b)
unfolding after_step Sits
after_sits [] d b = either SitsIn (is_space b) _ _ tt tt
after_sits (k ∷ ks) d b = either SitsIn (is_space b) _ _ tt (either SitsIn (eqb b 44) _ _ tt (either SitsIn (eqb b (close_of k)) _ _ tt tt))

num_sits : (n : NumberAt) (ks : List Kind) (d b : ℕ) (o : Option NumberAt) → AllSome SitsIn (number_goes n ks d b o)
unfolding Sits
num_sits n ks d b (Some m) = tt
num_sits n ks d b None = either SitsIn (may_end n) _ _ (after_sits ks d b) tt

letters_sit : (o : Option LiteralAt) (ks : List Kind) (d : ℕ) → AllSome SitsIn (literal_goes o ks d)
unfolding Sits
letters_sit None ks d = tt
letters_sit (Some l) ks d = tt

char_sits : (role : Role) (ks : List Kind) (d : ℕ) (o : Option StringAt) → AllSome SitsIn (o >>= λ c. go_to (Text role c) ks d)
unfolding Sits
char_sits role ks d None = tt
char_sits role ks d (Some c) = tt

closed_sits : (role : Role) (ks : List Kind) (d : ℕ) → Sits (behind role) d ks
unfolding Sits
closed_sits Key ks d = tt
closed_sits Item ks d = tt

step_sits : (at : At) (ks : List Kind) (d b : ℕ) → Sits at d ks → AllSome SitsIn (step at ks d b)
unfolding step begin_step Sits
step_sits Fresh ks d b sits = either SitsIn (is_space b) _ _ sits (fresh_sits ks d b)
step_sits Part ks d b sits = either SitsIn (is_space b) _ _ sits (part_sits ks d b)
step_sits Value ks d b sits = either SitsIn (is_space b) _ _ tt (value_sits ks d b)
step_sits After ks d b sits = after_sits ks d b
step_sits Colon ks d b sits = either SitsIn (is_space b) _ _ tt (either SitsIn (eqb b 58) _ _ tt tt)
step_sits (Text role c) ks d b sits = either SitsIn (ends_string c b) _ _ (closed_sits role ks d) (char_sits role ks d (string_step c b))
step_sits (Number n) ks d b sits = num_sits n ks d b (number_step n b)
step_sits (Literal l) ks d b sits = either SitsIn (eqb b (letter l)) _ _ (letters_sit (next_letters l) ks d) tt
step_sits (Begin k) ks zero b sits = absurd sits
step_sits (Begin k) ks (suc d) b sits = either SitsIn (is_space b) _ _ tt (either SitsIn (eqb b (open_of k)) _ _ (pushed k ks (suc d)) tt)

-- ---- whole runs

-- Whatever was read can be completed: what completes the state completes what was read, and something does.
pub record Viable (s : State) (front : List ℕ) : Type 0 where
  pub more : List ℕ
  pub is : Completes s.at s.room s.kinds (front ++ more)

sits_some : (o : Option State) (t : State) → o ≡ Some t → AllSome SitsIn o → SitsIn t
sits_some o t e a = subst (λ (x : Option State). AllSome SitsIn x) e a

run_viable : (front : List ℕ) (s t : State) → SitsIn s → run s front ≡ Some t → Viable s front
unfolding run
run_viable [] s t sits e = let c = can_complete s.at s.room s.kinds sits in record { more = c.0; is = c.1 }
run_viable (b ∷ bs) s t sits e =
    let r = bind_some (step s.at s.kinds s.room b) (λ x. run x bs) t e in
    let v = run_viable bs r.0 t (sits_some (step s.at s.kinds s.room b) r.0 r.1 (step_sits s.at s.kinds s.room b sits)) r.2 in
    record { more = v.more; is = step_sound s.at s.kinds s.room b r.0 (bs ++ v.more) r.1 v.is }

-- ---- whole texts

outside : (k : Kind) (ps : List Piece) → AllByRecursion (IsPiece k (ValueWithin 100)) ps → AllByRecursion (IsPiece k IsPartText) ps
outside k [] all = tt
outside k (p ∷ ps) all = (record { before = all.0.before; named = all.0.named; value = record { within = all.0.value }; after = all.0.after }, outside k ps all.1)

split_regrouped : (front sp name middle a last c v : List ℕ) (o e : ℕ) → front ++ o ∷ (sp ++ (name ++ (middle ++ (a ++ (last ++ (c ++ e ∷ v)))))) ≡ front ++ o ∷ ((sp ++ (name ++ (middle ++ (a ++ last)))) ++ c) ++ e ∷ v
split_regrouped front sp name middle a last c v o e = simp append_assoc

fresh_split : (k : Kind) (front sp w text : List ℕ) → Each is_space front → Each is_space sp → Freshes 100 (k ∷ []) w → text ≡ front ++ open_of k ∷ (sp ++ w) → (ms : List Member) × IsSplit k text ms
fresh_split k front sp w text sf ss (inl (v, each, e)) whole =
    ([], (front, [], record { inner = sp; last = v; is_front = sf; is_last = each; inside = ss; whole = whole ∙ ap (λ (x : List ℕ). front ++ open_of k ∷ (sp ++ x)) e ∙ sym (append_assoc front (open_of k ∷ sp) (close_of k ∷ v)) }, refl))
fresh_split k front sp w text sf ss (inr (name, middle, x, named, (a, y, is, (last, ps, v, sl, each, rest, e3), e2), e1)) whole =
    let p : Piece = record { before = sp; name = name; middle = middle; value = a; after = last } in (
      places k (length front + 1) (p ∷ ps),
      (
        front,
        p ∷ ps,
        record {
          inner = piece_text p ++ commas ps;
          last = v;
          is_front = sf;
          is_last = rest;
          inside = (record { before = ss; named = named; value = record { within = is }; after = sl }, outside k ps each, refl);
          whole = whole ∙ ap (λ (t : List ℕ). front ++ open_of k ∷ (sp ++ t)) (e1 ∙ ap (λ (t : List ℕ). name ++ (middle ++ t)) (e2 ∙ ap (λ (t : List ℕ). a ++ t) e3)) ∙ split_regrouped front sp name middle a last (commas ps) v (open_of k) (close_of k);
        },
        refl,
      ),
    )

begin_split : (k : Kind) (text : List ℕ) → Completes (Begin k) 101 [] text → (ms : List Member) × IsSplit k text ms
begin_split k text c = fresh_split k c.sp c.is.then.sp c.is.then.v text c.each c.is.then.each c.is.then.is (c.whole ∙ ap (λ (x : List ℕ). c.sp ++ x) (c.is.whole ∙ ap (λ (x : List ℕ). open_of k ∷ x) c.is.then.whole))

run_completes : (front u : List ℕ) (s t : State) → run s front ≡ Some t → Completes t.at t.room t.kinds u → Completes s.at s.room s.kinds (front ++ u)
unfolding run
run_completes [] u s t e c = let same = some_is s t e in subst (λ (x : State). Completes x.at x.room x.kinds u) (sym same) c
run_completes (b ∷ bs) u s t e c =
    let r = bind_some (step s.at s.kinds s.room b) (λ x. run x bs) t e in
    step_sound s.at s.kinds s.room b r.0 (bs ++ u) r.1 (run_completes bs u r.0 t r.2 c)

closed_now : (at : At) (d : ℕ) (ks : List Kind) → is_done at ks ≡ true → Completes at d ks []
closed_now After d [] e = tt
closed_now After d (k ∷ ks) e = absurd cc
closed_now Fresh d ks e = absurd cc
closed_now Part d ks e = absurd cc
closed_now Colon d ks e = absurd cc
closed_now Value d ks e = absurd cc
closed_now (Begin k) d ks e = absurd cc
closed_now (Text role c) d ks e = absurd cc
closed_now (Number n) d ks e = absurd cc
closed_now (Literal l) d ks e = absurd cc

-- A text that leads behind the closed outermost bracket has a split.
pub run_split : (k : Kind) (text : List ℕ) (t : State) → run (start k) text ≡ Some t → is_done t.at t.kinds ≡ true → (ms : List Member) × IsSplit k text ms
run_split k text t e done = begin_split k text (subst (λ (x : List ℕ). Completes (Begin k) 101 [] x) (append-nil text) (run_completes text [] (start k) t e (closed_now t.at t.room t.kinds done)))

-- What the machine reads is the beginning of some text with a split.
pub viable : (k : Kind) (front : List ℕ) (t : State) → run (start k) front ≡ Some t → (more : List ℕ) × (ms : List Member) × IsSplit k (front ++ more) ms
unfolding Sits
viable k front t e =
    let v = run_viable front (start k) t tt e in
    let s = begin_split k (front ++ v.more) v.is in
    (v.more, s.0, s.1)
