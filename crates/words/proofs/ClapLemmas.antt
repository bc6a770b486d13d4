-- What `clap` reads of words that are positional arguments alone: those that `arguments_of` gives.
use Rattle.std.proofs.Common.{◌≡◌, ◌∙◌, ◌==◌, ℕ, Bool, cond, codes, true, false, refl, sym, ap, ap₂, subst, List, [], ◌∷◌, ◌++◌, map, Option, Some, None, option_map, true≢false, Global, append-nil, append_assoc, eqb-true}
use Rattle.std.specs.Char.{encode_utf8}
use Rattle.std.specs.Prelude.{fold, slice_get, encode_utf8_all, MatchOption, String, string_bytes, is_some}
use Rattle.std.specs.Str.{chars, IsUtf8}
use Rattle.std.proofs.lemmas.Str.{IsUtf8-string_bytes, encodes-chars}
use Rattle.clap.specs.Faults.{entered_fault, settle_fault, defaults_fault, check_fault, fault_of, flags_fault, turn_fault, walk_fault, is_simple_and_free}
use Rattle.clap.specs.Kinds.{IsAmong, Kinds, or_else}
use Rattle.clap.specs.Lexer.{name_and_value, long_of, short_of}
use Rattle.clap.specs.Simple.{entered, App, Shape, built, is_simple, matches_of}
use Rattle.clap.specs.Walk.{settled, Row, Rule, Text, Walk, idle, positional, reading_by, walked, walk, walk_from, nothing_held, finished, all_of}
use Rattle.clap.specs.declared.error.kind.ErrorKind.TheVariants.{UnknownArgument}
use Rattle.clap.specs.declared.error.kind.ErrorKind.{ErrorKind}
use Rattle.clap.specs.declared.parser.matches.ValueSource.TheVariants.{CommandLine}
use Rattle.words.specs.Arguments.{arguments_of, is_dashed, is_separator}
use Rattle.words.specs.ClapCommand.{app, argument_rule}

-- ---- the command

abbrev top : Shape
top = (built app).top

abbrev rules : List Rule
rules = top.rules

pub app_is_simple : is_simple app ≡ true
app_is_simple = refl

pub app_is_free : is_simple_and_free app ≡ true
app_is_free = refl

-- ---- the states of the walk

abbrev row : List Text → List Row
row [] = []
row (v ∷ vs) = record {
  id = codes "argument";
  values = v ∷ vs;
  count = None;
  source = Some CommandLine;
  reading = reading_by argument_rule;
} ∷ []

-- the arguments that were taken, the last apart
abbrev Taken : Type 0
Taken = Option (List Text × Text)

abbrev taken : Taken → List Text
taken None = []
taken (Some p) = p.0 ++ p.1 ∷ []

abbrev next : Taken → Text → Taken
next None w = Some ([], w)
next (Some p) w = Some (p.0 ++ p.1 ∷ [], w)

abbrev state : Taken → Bool → Walk
state None t = record {
  held = record { rows = []; pending = None; skip = 0 };
  waiting = idle;
  position = 1;
  is_trailing = t;
  stopped = None;
}
state (Some p) t = record {
  held = record { rows = row p.0; pending = Some (codes "argument", p.1 ∷ []); skip = 0 };
  waiting = positional;
  position = 1;
  is_trailing = t;
  stopped = None;
}

-- ---- after `--`

step_trailing : (s : Taken) (w : Text) → walked rules [] (state s true) w ≡ state (next s w) true
unfolding walked
step_trailing None w = refl
step_trailing (Some ([], v)) w = refl
step_trailing (Some (u ∷ us, v)) w = refl

turn_trailing : (s : Taken) (w : Text) → turn_fault top [] (state s true) w ≡ []
turn_trailing None w = refl
turn_trailing (Some p) w = refl

trailing_fault : (ws : List Text) (s : Taken) → walk_fault top [] (state s true) ws ≡ []
unfolding walk_fault
trailing_fault [] s = refl
trailing_fault (w ∷ ws) s =
    ap₂ or_else (turn_trailing s w) (ap (λ x. walk_fault top [] x ws) (step_trailing s w) ∙ trailing_fault ws (next s w))

-- ---- before `--`

plain_argument : (w : Text) → is_separator w ≡ false → is_dashed w ≡ false → (long_of w ≡ None) × (short_of w ≡ None)
plain_argument [] s f = (refl, refl)
plain_argument (x ∷ []) s f = go (x == 45) refl
  where
    go : (b : Bool) → (x == 45) ≡ b → (long_of (x ∷ []) ≡ None) × (short_of (x ∷ []) ≡ None)
    go true e = rw e (refl, refl)
    go false e = rw e (refl, refl)
plain_argument (x ∷ y ∷ rest) s f = rw f (refl, refl)

step_plain : (s : Taken) (w : Text) → is_separator w ≡ false → long_of w ≡ None → short_of w ≡ None → walked rules [] (state s false) w ≡ state (next s w) false
unfolding walked
step_plain None w e l h = rw (e, l, h) refl
step_plain (Some ([], v)) w e l h = rw (e, l, h) refl
step_plain (Some (u ∷ us, v)) w e l h = rw (e, l, h) refl

turn_plain : (s : Taken) (w : Text) → is_separator w ≡ false → long_of w ≡ None → short_of w ≡ None → turn_fault top [] (state s false) w ≡ []
turn_plain None w e l h = rw (e, l, h) refl
turn_plain (Some p) w e l h = rw (e, l, h) refl

step_separator : (s : Taken) (w : Text) → is_separator w ≡ true → walked rules [] (state s false) w ≡ state s true
unfolding walked
step_separator None w e = rw e refl
step_separator (Some p) w e = rw e refl

turn_separator : (s : Taken) (w : Text) → is_separator w ≡ true → turn_fault top [] (state s false) w ≡ []
turn_separator None w e = rw e refl
turn_separator (Some p) w e = rw e refl

-- ---- an argument that is refused

turn_long : (s : Taken) (w : Text) (p : Text × Option Text) → is_separator w ≡ false → long_of w ≡ Some p → turn_fault top [] (state s false) w ≡ UnknownArgument ∷ []
turn_long None w p e l = rw (e, l) refl
turn_long (Some q) w p e l = rw (e, l) refl

turn_short : (s : Taken) (w : Text) (y : ℕ) (ys : Text) (c : ℕ) → is_separator w ≡ false → long_of w ≡ None → short_of w ≡ Some (y ∷ ys) → slice_get (chars (y ∷ ys)) 0 ≡ Some c
    → turn_fault top [] (state s false) w ≡ UnknownArgument ∷ []
unfolding flags_fault
turn_short None w y ys c e l h first = rw (e, l, h, first) refl
turn_short (Some q) w y ys c e l h first = rw (e, l, h, first) refl

chars_after_dash : (y : ℕ) (ys : Text) → chars (45 ∷ y ∷ ys) ≡ 45 ∷ chars (y ∷ ys)
unfolding chars
chars_after_dash y ys = refl

one_dash : encode_utf8_all (45 ∷ []) ≡ 45 ∷ []
unfolding encode_utf8
one_dash = refl

first_char : (y : ℕ) (ys : Text) → IsUtf8 (45 ∷ y ∷ ys) → (c : ℕ) × (slice_get (chars (y ∷ ys)) 0 ≡ Some c)
first_char y ys u = go (chars (y ∷ ys)) refl
  where
    go : (cs : List ℕ) → chars (y ∷ ys) ≡ cs → (c : ℕ) × (slice_get (chars (y ∷ ys)) 0 ≡ Some c)
    go [] e =
        let short : 45 ∷ [] ≡ 45 ∷ y ∷ ys =
        sym one_dash ∙ ap encode_utf8_all (sym (chars_after_dash y ys ∙ ap (λ cs. 45 ∷ cs) e)) ∙ encodes-chars (45 ∷ y ∷ ys) u in
        cc
    go (c ∷ cs) e = (c, rw e refl)

turn_flag : (s : Taken) (w : Text) → IsUtf8 w → is_separator w ≡ false → is_dashed w ≡ true → turn_fault top [] (state s false) w ≡ UnknownArgument ∷ []
turn_flag s [] u e f = absurd (true≢false (sym f))
turn_flag s (x ∷ []) u e f = absurd (true≢false (sym f))
turn_flag s (x ∷ y ∷ ys) u e f = dashed x (eqb-true x 45 f) u e
  where
    second : (b : Bool) → (y == 45) ≡ b → IsUtf8 (45 ∷ y ∷ ys) → is_separator (45 ∷ y ∷ ys) ≡ false → turn_fault top [] (state s false) (45 ∷ y ∷ ys) ≡ UnknownArgument ∷ []
    second true same u e = long ys e
      where
        long : (zs : Text) → is_separator (45 ∷ y ∷ zs) ≡ false → turn_fault top [] (state s false) (45 ∷ y ∷ zs) ≡ UnknownArgument ∷ []
        long [] e = let no : true ≡ false = rw same at e in absurd (true≢false no)
        long (z ∷ zs) e = turn_long s (45 ∷ y ∷ z ∷ zs) (name_and_value (z ∷ zs)) e (rw same refl)
    second false other u e =
        let first = first_char y ys u in
        turn_short s (45 ∷ y ∷ ys) y ys first.0 e (rw other refl) (rw other refl) first.1

    dashed : (x : ℕ) → x ≡ 45 → IsUtf8 (x ∷ y ∷ ys) → is_separator (x ∷ y ∷ ys) ≡ false → turn_fault top [] (state s false) (x ∷ y ∷ ys) ≡ UnknownArgument ∷ []
    dashed x is u e =
        subst (λ n. IsUtf8 (n ∷ y ∷ ys) → is_separator (n ∷ y ∷ ys) ≡ false → turn_fault top [] (state s false) (n ∷ y ∷ ys) ≡ UnknownArgument ∷ []) (sym is)
        (λ u e. second (y == 45) refl u e) u e

-- ---- all of them

trailing_walk : (ws : List Text) (s : Taken) → (end : Taken) × (fold (walked rules []) (state s true) ws ≡ state end true) × (taken end ≡ taken s ++ ws)
trailing_walk [] s = (s, refl, sym (append-nil (taken s)))
trailing_walk (w ∷ ws) s =
    let more = trailing_walk ws (next s w) in
    (more.0, ap (λ x. fold (walked rules []) x ws) (step_trailing s w) ∙ more.1, more.2 ∙ ap (λ l. l ++ ws) (taken-next s w) ∙ append_assoc (taken s) (w ∷ []) ws)
  where
    taken-next : (s : Taken) (w : Text) → taken (next s w) ≡ taken s ++ w ∷ []
    taken-next None w = refl
    taken-next (Some p) w = refl

abbrev Refuses : Taken → List Text → Type 0
Refuses s ws = (k : ErrorKind) × (ks : Kinds) × (walk_fault top [] (state s false) ws ≡ k ∷ ks)

abbrev Takes : Taken → List Text → List Text → Type 0
Takes s ws more = (walk_fault top [] (state s false) ws ≡ [])
    × ((end : Taken) × (t : Bool) × (fold (walked rules []) (state s false) ws ≡ state end t) × (taken end ≡ taken s ++ more))

abbrev Outcome : Taken → List Text → Option (List Text) → Type 0
Outcome s ws o = MatchOption o (Refuses s ws) (Takes s ws)

taken_next : (s : Taken) (w : Text) → taken (next s w) ≡ taken s ++ w ∷ []
taken_next None w = refl
taken_next (Some p) w = refl

one_more : (s : Taken) (w : Text) (ws : List Text) (o : Option (List Text)) → is_separator w ≡ false → is_dashed w ≡ false
    → Outcome (next s w) ws o → Outcome s (w ∷ ws) (option_map (λ more. w ∷ more) o)
unfolding walk_fault
one_more s w ws None e f r =
    let plain = plain_argument w e f in
    (r.0, r.1, ap₂ or_else (turn_plain s w e plain.0 plain.1) (ap (λ x. walk_fault top [] x ws) (step_plain s w e plain.0 plain.1) ∙ r.2))
one_more s w ws (Some more) e f r =
    let plain = plain_argument w e f in (
      ap₂ or_else (turn_plain s w e plain.0 plain.1) (ap (λ x. walk_fault top [] x ws) (step_plain s w e plain.0 plain.1) ∙ r.0),
      (
        r.1.0,
        r.1.1,
        ap (λ x. fold (walked rules []) x ws) (step_plain s w e plain.0 plain.1) ∙ r.1.2,
        r.1.3 ∙ ap (λ l. l ++ more) (taken_next s w) ∙ append_assoc (taken s) (w ∷ []) more,
      ),
    )

one_word : (s : Taken) (w : Text) (ws : List Text) → IsUtf8 w → ((t : Taken) → Outcome t ws (arguments_of ws)) → (b f : Bool) → is_separator w ≡ b → is_dashed w ≡ f
    → Outcome s (w ∷ ws) (cond b (Some ws) (cond f None (option_map (λ more. w ∷ more) (arguments_of ws))))
unfolding walk_fault
one_word s w ws u more true f e g =
    let end = trailing_walk ws s in (
      ap₂ or_else (turn_separator s w e) (ap (λ x. walk_fault top [] x ws) (step_separator s w e) ∙ trailing_fault ws s),
      (end.0, true, ap (λ x. fold (walked rules []) x ws) (step_separator s w e) ∙ end.1, end.2),
    )
one_word s w ws u more false true e g =
    (UnknownArgument, [], ap (λ k. or_else k (walk_fault top [] (walked rules [] (state s false) w) ws)) (turn_flag s w u e g))
one_word s w ws u more false false e g = one_more s w ws (arguments_of ws) e g (more (next s w))

reads : (ss : List (String Global)) (s : Taken) → Outcome s (map string_bytes ss) (arguments_of (map string_bytes ss))
unfolding walk_fault
reads [] s = (refl, (s, false, refl, sym (append-nil (taken s))))
reads (x ∷ ss) s =
    let w = string_bytes x in
    one_word s (string_bytes x) (map string_bytes ss) (IsUtf8-string_bytes x) (λ t. reads ss t) (is_separator w) (is_dashed w) refl refl

-- ---- the end of the walk

abbrev fault_at : Walk → Kinds → Kinds
fault_at e walked_fault =
    or_else walked_fault
    (or_else (entered_fault (built app) e.stopped) (or_else (settle_fault rules false e.held)
    (or_else (defaults_fault (settled rules e.held).rows rules)
    (check_fault top (finished rules e.held) (is_some (entered (built app) e.stopped))))))

fault_is : (ws : List Text) → fault_of app ws ≡ fault_at (walk rules [] nothing_held ws) (walk_fault top [] (walk_from nothing_held) ws)
fault_is ws = refl

fault_end : (s : Taken) (t : Bool) → fault_at (state s t) [] ≡ []
unfolding defaults_fault
fault_end None t = refl
fault_end (Some ([], v)) t = refl
fault_end (Some (u ∷ us, v)) t = refl

-- what a getter answers: where nothing was taken there is no entry
abbrev pub if_any : List Text → Option (List Text)
if_any [] = None
if_any (w ∷ ws) = Some (w ∷ ws)

rows_end : (s : Taken) (t : Bool) → all_of (codes "argument") (finished rules (state s t).held) ≡ if_any (taken s)
rows_end None t = refl
rows_end (Some ([], v)) t = refl
rows_end (Some (u ∷ us, v)) t = refl

-- one that is refused is a fault
pub refused : (ss : List (String Global)) → arguments_of (map string_bytes ss) ≡ None → (k : ErrorKind) × (ks : Kinds) × (fault_of app (map string_bytes ss) ≡ k ∷ ks)
refused ss none =
    let ws = map string_bytes ss in
    let r : Refuses None ws = subst (Outcome None ws) none (reads ss None) in
    (r.0, r.1, fault_is ws ∙ ap (fault_at (walk rules [] nothing_held ws)) r.2)

-- and else there is none, and the command has what was taken
pub taken_arguments : (ss : List (String Global)) (more : List Text) → arguments_of (map string_bytes ss) ≡ Some more
    → (fault_of app (map string_bytes ss) ≡ []) × (all_of (codes "argument") (matches_of app (map string_bytes ss)) ≡ if_any more)
taken_arguments ss more some =
    let ws = map string_bytes ss in
    let r : Takes None ws more = subst (Outcome None ws) some (reads ss None) in
    let end = r.1.2 in (
      fault_is ws ∙ ap₂ fault_at end r.0 ∙ fault_end r.1.0 r.1.1,
      ap (λ (e : Walk). all_of (codes "argument") (finished rules e.held)) end ∙ rows_end r.1.0 r.1.1 ∙ ap if_any r.1.3,
    )

-- ---- what the caller of `clap` knows

-- the parse succeeded, and a getter answered `got`
pub at_ok : (ss : List (String Global)) (a : App) (got : Option (List Text)) → a ≡ app → fault_of a (map string_bytes ss) ≡ []
    → got ≡ all_of (codes "argument") (matches_of a (map string_bytes ss))
    → (more : List Text) × (arguments_of (map string_bytes ss) ≡ Some more) × (got ≡ if_any more)
at_ok ss a got is none got_is = go (arguments_of ws) refl
  where
    ws : List Text
    ws = map string_bytes ss

    none_here : fault_of app ws ≡ []
    none_here = ap (λ b. fault_of b ws) (sym is) ∙ none

    go : (o : Option (List Text)) → arguments_of (map string_bytes ss) ≡ o → (more : List Text) × (arguments_of (map string_bytes ss) ≡ Some more) × (got ≡ if_any more)
    go None e = let r = refused ss e in let bad : r.0 ∷ r.1 ≡ [] = sym r.2 ∙ none_here in cc
    go (Some more) e = (more, e, got_is ∙ ap (λ b. all_of (codes "argument") (matches_of b (map string_bytes ss))) is ∙ (taken_arguments ss more e).1)

pub some_arguments : (more values : List Text) → Some values ≡ if_any more → more ≡ values
some_arguments [] values e = cc
some_arguments (w ∷ ws) values e = cc

pub no_arguments : (more : List Text) → None ≡ if_any more → more ≡ []
no_arguments [] e = refl
no_arguments (w ∷ ws) e = cc

-- the parse failed by a fault
pub at_fault : (ss : List (String Global)) (a : App) (k : ErrorKind) → a ≡ app → IsAmong k (fault_of a (map string_bytes ss)) → arguments_of (map string_bytes ss) ≡ None
at_fault ss a k is among = go (arguments_of (map string_bytes ss)) refl
  where
    go : (o : Option (List Text)) → arguments_of (map string_bytes ss) ≡ o → arguments_of (map string_bytes ss) ≡ None
    go None e = e
    go (Some more) e =
        absurd (subst (IsAmong k) (ap (λ b. fault_of b (map string_bytes ss)) is ∙ (taken_arguments ss more e).0) among)
