-- Bytes that leave the state as it is are passed in one step.
use Rattle.std.proofs.Common.{◌≡◌, ℕ, ◌+◌, List, [], ◌∷◌, ◌++◌, length, take, drop, Bool, true, cond, Option, Some, None, refl, sym, ap, ◌∙◌, arith, map}
use Rattle.std.proofs.Math.Seq.{take-add}
use Rattle.std.proofs.lemmas.List.{take-append-drop, drop-drop}
use Rattle.std.specs.Option.{option_map}
use Rattle.json_span.specs.Grammar.{Each, is_plain, is_digit, is_space}
use Rattle.json_span.specs.Machine.{◌>>=◌, State, step, start, run, read, within, marked, finished, also, number_goes, go_to, string_step, behind, number_step}
use Rattle.json_span.specs.Steps.{AllStay}
use Rattle.json_span.specs.declared.Member.{Member}
use Rattle.json_span.specs.declared.marks.Marks.{Marks}
use Rattle.json_span.specs.declared.marks.Within.{Within}
use Rattle.json_span.specs.declared.marks.Within.TheVariants.{Outside, InName, InNumber, InValue}
use Rattle.json_span.specs.declared.state.At.{At}
use Rattle.json_span.specs.declared.state.At.TheVariants.{Begin, Fresh, Part, Colon, Value, After, Text, Number, Literal}
use Rattle.json_span.specs.declared.state.Kind.{Kind}
use Rattle.json_span.specs.declared.state.LiteralAt.{LiteralAt}
use Rattle.json_span.specs.declared.state.NumberAt.{NumberAt}
use Rattle.json_span.specs.declared.state.NumberAt.TheVariants.{InInteger, InFraction, InExponent}
use Rattle.json_span.specs.declared.state.Role.{Role}
use Rattle.json_span.specs.declared.state.StringAt.{StringAt}
use Rattle.json_span.specs.declared.state.StringAt.TheVariants.{Plain}
use Rattle.json_span.proofs.ReadLaws.{HasRead, read_on}
use Rattle.json_span.proofs.StringLaws.{plain_test, plain_step}
use Rattle.json_span.proofs.TakenLaws.{S, spaced_self, fresh_self, part_self, value_self, colon_self, after_self}
use Rattle.json_span.proofs.TakenNumbers.{whole_of}

-- ---- what is passed

quiet : (n p q : ℕ) (s : State) (w : Within) (m : Marks) (u : List ℕ) → option_map (also (finished p q w w m)) (read n s (marked p q w w m) u) ≡ read n s m u
quiet n p q s Outside m u = whole_of (read n s m u)
quiet n p q s InName m u = whole_of (read n s m u)
quiet n p q s InNumber m u = whole_of (read n s m u)
quiet n p q s InValue m u = whole_of (read n s m u)

read_passed : (n : ℕ) (s : State) (m : Marks) (xs ys : List ℕ) → AllStay s xs → read n s m (xs ++ ys) ≡ read n s m ys
read_passed n s m [] ys all = refl
read_passed n s m (x ∷ xs) ys all = read_on n s s m x (xs ++ ys) all.0 ∙ quiet n _ _ s (within s.at s.kinds) m (xs ++ ys) ∙ read_passed n s m xs ys all.1

run_passed : (r s : State) (front xs : List ℕ) → run r front ≡ Some s → AllStay s xs → run r (front ++ xs) ≡ Some s
unfolding run
run_passed r s [] [] is all = is
run_passed r s [] (x ∷ xs) is all =
    let same : r ≡ s = cc (is) in
    ap (λ (t : State). step t.at t.kinds t.room x >>= λ t. run t xs) same ∙ ap (λ (o : Option State). o >>= λ t. run t xs) all.0 ∙ run_passed s s [] xs refl all.1
run_passed r s (b ∷ front) xs is all = by (λ t e. run_passed t s front xs e all) (step r.at r.kinds r.room b) is
  where
    by : ((t : State) → run t front ≡ Some s → run t (front ++ xs) ≡ Some s) → (o : Option State) → (o >>= λ t. run t front) ≡ Some s → (o >>= λ t. run t (front ++ xs)) ≡ Some s
    by rest None e = absurd (cc (e))
    by rest (Some t) e = rest t e

-- So many bytes further as much is read as before, where they leave the state as it is.
pub has_passed : (P : Type 0) (f : Member → P) (k : Kind) (text : List ℕ) (place more : ℕ) (met : List P) (s : State) (m : Marks)
    → HasRead P f k text place met s m → AllStay s (take more (drop place text)) → HasRead P f k text (place + more) met s m
has_passed P f k text place more met s m has all =
    let rest = drop place text in
    let passed : read (length text) s m rest ≡ read (length text) s m (drop (place + more) text) =
    ap (read (length text) s m) (sym (take-append-drop more rest)) ∙ read_passed (length text) s m (take more rest) (drop more rest) all
    ∙ ap (read (length text) s m) (drop-drop more place text) in
    record {
      begun = let low = has.begun in omega (arith, low);
      reads = ap (λ (o : Option (List Member)). option_map (λ rest. met ++ map f rest) o) (sym passed) ∙ has.reads;
      taken = ap (run (start k)) (take-add place more text) ∙ run_passed (start k) s (take place text) (take more rest) has.taken all;
    }

-- ---- the classes of bytes

-- Bytes of a class that leaves the state as it is do.
pub all_stay : (s : State) (p : ℕ → Bool) (bs : List ℕ) → ((b : ℕ) → p b ≡ true → step s.at s.kinds s.room b ≡ Some s) → Each p bs → AllStay s bs
all_stay s p [] stays each = tt
all_stay s p (b ∷ bs) stays each = (stays b each.0, all_stay s p bs stays each.1)

-- The inside of a string.
pub plain_stays : (role : Role) (ks : List Kind) (d b : ℕ) → is_plain b ≡ true → step (Text role Plain) ks d b ≡ Some (S (Text role Plain) ks d)
unfolding step
plain_stays role ks d b is =
    let test = plain_test b is in
    ap (λ (t : Bool). cond t (go_to (behind role) ks d) (string_step Plain b >>= λ c. go_to (Text role c) ks d)) test.0
    ∙ ap (λ (o : Option StringAt). o >>= λ c. go_to (Text role c) ks d) (plain_step b is)

-- the number goes on with each digit
abbrev pub TakesDigits : NumberAt → Type 0
TakesDigits n = (b : ℕ) → is_digit b ≡ true → number_step n b ≡ Some n

-- Digits of a number.
pub digit_stays : (n : NumberAt) (ks : List Kind) (d b : ℕ) → TakesDigits n → is_digit b ≡ true → step (Number n) ks d b ≡ Some (S (Number n) ks d)
unfolding step
digit_stays n ks d b takes is = ap (number_goes n ks d b) (takes b is)

pub integer_takes : TakesDigits InInteger
unfolding number_step
integer_takes b is = rw is refl

pub fraction_takes : TakesDigits InFraction
unfolding number_step
fraction_takes b is = rw is refl

pub exponent_takes : TakesDigits InExponent
unfolding number_step
exponent_takes b is = rw is refl

-- White space where it may stand.
pub space_stays : (at : At) (ks : List Kind) (d b : ℕ) → ((r : Role) (c : StringAt) → at ≡ Text r c → ⊥) → ((n : NumberAt) → at ≡ Number n → ⊥) → ((l : LiteralAt) → at ≡ Literal l → ⊥)
    → is_space b ≡ true → step at ks d b ≡ Some (S at ks d)
unfolding step
space_stays (Text r c) ks d b f g h is = absurd (f r c refl)
space_stays (Number n) ks d b f g h is = absurd (g n refl)
space_stays (Literal l) ks d b f g h is = absurd (h l refl)
space_stays (Begin k) ks d b f g h is = spaced_self (Begin k) ks d b is
space_stays Fresh ks d b f g h is = fresh_self ks d b is
space_stays Part ks d b f g h is = part_self ks d b is
space_stays Colon ks d b f g h is = colon_self ks d b is
space_stays Value ks d b f g h is = value_self ks d b is
space_stays After ks d b f g h is = after_self ks d b is
