-- Strings and literals are taken whole.
use Rattle.std.proofs.Common.{◌≡◌, ℕ, Bool, true, false, cond, List, ◌∷◌, ◌++◌, Option, Some, None, refl, ap, ◌∙◌}
use Rattle.json_span.specs.Grammar.{is_escape, is_hex, Chars, no_chars, plain_char, escaped_char, unicode_char}
use Rattle.json_span.specs.Machine.{go_to, string_step, ends_string, behind, letter, next_letters, literal_goes, step}
use Rattle.json_span.specs.Nest.{is_deep}
use Rattle.json_span.specs.Machine.{within, marked, finished, span_to}
use Rattle.json_span.specs.declared.marks.Within.TheVariants.{Outside, InName, InValue}
use Rattle.json_span.specs.declared.marks.Marks.{Marks}
use Rattle.json_span.specs.declared.Member.{Member}
use Rattle.json_span.specs.declared.state.Kind.{Kind}
use Rattle.json_span.specs.declared.state.Role.{Role}
use Rattle.json_span.specs.declared.state.Role.TheVariants.{Key, Item}
use Rattle.json_span.specs.declared.state.StringAt.{StringAt}
use Rattle.json_span.specs.declared.state.StringAt.TheVariants.{Plain, Escaped, Four, Three, Two, One}
use Rattle.json_span.specs.declared.state.LiteralAt.{LiteralAt}
use Rattle.json_span.specs.declared.state.At.TheVariants.{Colon, After, Text, Literal}
use Rattle.json_span.proofs.BasicLaws.{same_eqb}
use Rattle.json_span.proofs.StringLaws.{plain_test, plain_step, escape_test}
use Rattle.json_span.proofs.TakenLaws.{Takes, S, place_of, takes_event, takes_on, named, settled, ended, takes_end}

-- ---- the inside of a string

text_within : (role : Role) (c e : StringAt) (ks : List Kind) → within (Text role e) ks ≡ within (Text role c) ks
text_within Key c e ks = refl
text_within Item c e ks = refl

char_on : (role : Role) (c e : StringAt) (ks : List Kind) (d b : ℕ) → ends_string c b ≡ false → string_step c b ≡ Some e → step (Text role c) ks d b ≡ go_to (Text role e) ks d
unfolding step
char_on role c e ks d b p q = rw (p, q) refl

takes_char : (n : ℕ) (role : Role) (c e : StringAt) (ks : List Kind) (d b : ℕ) (m : Marks) (u : List ℕ) (out : List Member)
    → ends_string c b ≡ false → string_step c b ≡ Some e → Takes n (S (Text role e) ks d) m u out → Takes n (S (Text role c) ks d) m (b ∷ u) out
takes_char n role c e ks d b m u out p q a = takes_on n (Text role c) ks d b (S (Text role e) ks d) m u out (char_on role c e ks d b p q) (text_within role c e ks) a

escape_on : (b : ℕ) → is_escape b ≡ true → string_step Escaped b ≡ Some Plain
unfolding string_step
escape_on b t = let q = escape_test b t in rw (q, t) refl

hex_on : (n : StringAt) (b : ℕ) → is_hex b ≡ true → cond (is_hex b) (Some n) None ≡ Some n
hex_on n b t = rw t refl

four_on : (b : ℕ) → is_hex b ≡ true → string_step Four b ≡ Some Three
unfolding string_step
four_on b t = hex_on Three b t

three_on : (b : ℕ) → is_hex b ≡ true → string_step Three b ≡ Some Two
unfolding string_step
three_on b t = hex_on Two b t

two_on : (b : ℕ) → is_hex b ≡ true → string_step Two b ≡ Some One
unfolding string_step
two_on b t = hex_on One b t

one_on : (b : ℕ) → is_hex b ≡ true → string_step One b ≡ Some Plain
unfolding string_step
one_on b t = hex_on Plain b t

back_on : string_step Plain 92 ≡ Some Escaped
unfolding string_step
back_on = refl

u_on : string_step Escaped 117 ≡ Some Four
unfolding string_step
u_on = refl

-- The characters of a string are passed.
pub takes_chars : (n : ℕ) (role : Role) (ks : List Kind) (d : ℕ) (x v : List ℕ) (m : Marks) (out : List Member) → Chars x → Takes n (S (Text role Plain) ks d) m (34 ∷ v) out → Takes n (S (Text role Plain) ks d) m (x ++ 34 ∷ v) out
takes_chars n role ks d x v m out no_chars acc = acc
takes_chars n role ks d x v m out (plain_char {b} {t} is more) acc = takes_char n role Plain Plain ks d b m (t ++ 34 ∷ v) out (plain_test b is).0 (plain_step b is) (takes_chars n role ks d t v m out more acc)
takes_chars n role ks d x v m out (escaped_char {b} {t} is more) acc =
    takes_char n role Plain Escaped ks d 92 m (b ∷ (t ++ 34 ∷ v)) out refl back_on
    (takes_char n role Escaped Plain ks d b m (t ++ 34 ∷ v) out refl (escape_on b is) (takes_chars n role ks d t v m out more acc))
takes_chars n role ks d x v m out (unicode_char {a} {b} {c} {d = e} {t} p q r s more) acc =
    takes_char n role Plain Escaped ks d 92 m (117 ∷ a ∷ b ∷ c ∷ e ∷ (t ++ 34 ∷ v)) out refl back_on
    (takes_char n role Escaped Four ks d 117 m (a ∷ b ∷ c ∷ e ∷ (t ++ 34 ∷ v)) out refl u_on
    (takes_char n role Four Three ks d a m (b ∷ c ∷ e ∷ (t ++ 34 ∷ v)) out refl (four_on a p)
    (takes_char n role Three Two ks d b m (c ∷ e ∷ (t ++ 34 ∷ v)) out refl (three_on b q)
    (takes_char n role Two One ks d c m (e ∷ (t ++ 34 ∷ v)) out refl (two_on c r)
    (takes_char n role One Plain ks d e m (t ++ 34 ∷ v) out refl (one_on e s) (takes_chars n role ks d t v m out more acc))))))

-- ---- the quote behind it

quote_on : (role : Role) (ks : List Kind) (d : ℕ) → step (Text role Plain) ks d 34 ≡ go_to (behind role) ks d
unfolding step
quote_on role ks d = refl

-- A value is one at each depth.
pub both_value : (deep : Bool) → cond deep InValue InValue ≡ InValue
both_value true = refl
both_value false = refl

-- the quote behind a value
pub takes_item : (n : ℕ) (ks : List Kind) (d : ℕ) (m : Marks) (v : List ℕ) (out : List Member) → Takes n (S After ks d) (settled ks m) v out → Takes n (S (Text Item Plain) ks d) m (34 ∷ v) (ended ks m (place_of n v) out)
takes_item n ks d m v out a = takes_end n (Text Item Plain) ks ks d d 34 m v out (quote_on Item ks d) (both_value (is_deep ks)) a

-- the quote behind a name
pub takes_key : (n : ℕ) (ks : List Kind) (d : ℕ) (m : Marks) (v : List ℕ) (out : List Member) → Takes n (S Colon ks d) (named ks (place_of n v) m) v out → Takes n (S (Text Key Plain) ks d) m (34 ∷ v) out
takes_key n ks d m v out a = takes_event n (Text Key Plain) ks d 34 (S Colon ks d) m (named ks (place_of n v) m) None v out (quote_on Key ks d) (marks (is_deep ks) (place_of n (34 ∷ v)) (place_of n v) m) (part (is_deep ks) (place_of n (34 ∷ v)) (place_of n v) m) a
  where
    marks : (deep : Bool) (p q : ℕ) (m : Marks) → marked p q (cond deep InValue InName) (cond deep InValue Outside) m ≡ cond deep m (record { name = span_to m.from q; from = q })
    marks true p q m = refl
    marks false p q m = refl

    part : (deep : Bool) (p q : ℕ) (m : Marks) → finished p q (cond deep InValue InName) (cond deep InValue Outside) m ≡ None
    part true p q m = refl
    part false p q m = refl

-- ---- literals

literal_on : (l : LiteralAt) (ks : List Kind) (d : ℕ) → step (Literal l) ks d (letter l) ≡ literal_goes (next_letters l) ks d
unfolding step
literal_on l ks d = let e = same_eqb (letter l) in rw e refl

-- A letter of a literal is passed.
pub takes_letter : (n : ℕ) (l l2 : LiteralAt) (ks : List Kind) (d : ℕ) (m : Marks) (u : List ℕ) (out : List Member) → next_letters l ≡ Some l2 → Takes n (S (Literal l2) ks d) m u out → Takes n (S (Literal l) ks d) m (letter l ∷ u) out
takes_letter n l l2 ks d m u out e a = takes_on n (Literal l) ks d (letter l) (S (Literal l2) ks d) m u out (literal_on l ks d ∙ ap (λ (o : Option LiteralAt). literal_goes o ks d) e) refl a

-- The last letter of a literal is passed.
pub takes_last : (n : ℕ) (l : LiteralAt) (ks : List Kind) (d : ℕ) (m : Marks) (v : List ℕ) (out : List Member) → next_letters l ≡ None → Takes n (S After ks d) (settled ks m) v out → Takes n (S (Literal l) ks d) m (letter l ∷ v) (ended ks m (place_of n v) out)
takes_last n l ks d m v out e a = takes_end n (Literal l) ks ks d d (letter l) m v out (literal_on l ks d ∙ ap (λ (o : Option LiteralAt). literal_goes o ks d) e) (both_value (is_deep ks)) a
