-- Arguments of an edit: those that satisfy their rules, and the first that does not.
use Rattle.std.proofs.Common.{◌≡◌, ◌≤◌, ◌∙◌, ◌+◌, ◌++◌, refl, ap, ℕ, Bool, true, false, List, [], ◌∷◌, length, Option, Some, None, Result, Ok, Err, IsSome, arith}
use Rattle.std.specs.Prelude.{⊤, ◌&&◌, is_some, IfSome}
use Rattle.std.specs.Str.{is_utf8}
use Rattle.gb_text.specs.Rules.{is_message_text, is_title_text}
use Rattle.gb_text.specs.Ruled.{message_by, message_of, title_by, title_of}
use Rattle.gb_text.specs.declared.ruled.Title.{Title}
use Rattle.gb_text.proofs.RuledLemmas.{the_message, the_title}
use Rattle.bug_edits.specs.EditWords.{IsFirstBad, all_keep, any_word, is_message_word, is_title_word, kept_by}
use Rattle.bug_edits.specs.Given.{HasTitles, at, given_by, given_texts, made, made_of_two, titles_from}
use Rattle.bug_edits.specs.NewOps.{texts_of}
use Rattle.bug_edits.specs.declared.given.Form.{Form}
use Rattle.bug_edits.specs.declared.given.Form.TheVariants as form
use Rattle.bug_edits.specs.declared.given.Given.{Given}
use Rattle.bug_edits.specs.declared.given.Given.TheVariants as given

-- ---- one argument

-- it is read if and only if it satisfies its rule
pub title_word : (word : List ℕ) → is_title_word word ≡ is_some (title_of word)
title_word word = by (is_utf8 word) (is_title_text word) refl refl
  where
    by : (utf8 good : Bool) (u : is_utf8 word ≡ utf8) (g : is_title_text word ≡ good) → (utf8 && good) ≡ is_some (title_by word utf8 good u g)
    by true true u g = refl
    by true false u g = refl
    by false good u g = refl

pub message_word : (word : List ℕ) → is_message_word word ≡ is_some (message_of word)
message_word word = by (is_utf8 word) (is_message_text word) refl refl
  where
    by : (utf8 good : Bool) (u : is_utf8 word ≡ utf8) (g : is_message_text word ≡ good) → (utf8 && good) ≡ is_some (message_by word utf8 good u g)
    by true true u g = refl
    by true false u g = refl
    by false good u g = refl

-- ---- good arguments

-- two that are each of its type
pub both : {A B C : Type 0} (here there : ℕ) (one : Option A) (two : Option B) (a : A) (b : B) (make : A → B → C) → one ≡ Some a → two ≡ Some b
    → made_of_two (at here one) (at there two) make ≡ Ok (make a b)
both here there one two a b make is_one is_two =
    ap (λ o. made_of_two (at here o) (at there two) make) is_one ∙ ap (λ o. made_of_two (Ok a) (at there o) make) is_two

-- all titles
titles_back : (place : ℕ) (labels : List Title) → titles_from place (texts_of labels) ≡ Ok labels
titles_back place [] = refl
titles_back place (label ∷ labels) =
    ap (λ o. made_of_two (at place o) (titles_from (place + 1) (texts_of labels)) (λ title titles. title ∷ titles)) (the_title label)
    ∙ ap (λ r. made_of_two (Ok label) r (λ title titles. title ∷ titles)) (titles_back (place + 1) labels)

-- the types of arguments
abbrev pub form_for : Given → Form
form_for given.Nothing = form.Nothing
form_for (given.Title title) = form.Title
form_for (given.Message message) = form.Message
form_for (given.TitleAndMessage title message) = form.TitleAndMessage
form_for (given.Titles titles) = form.Titles

-- their texts are read as them
pub given_back : (g : Given) → HasTitles g → given_by (form_for g) (given_texts g) ≡ Some (Ok g)
given_back given.Nothing some = refl
given_back (given.Title title) some = ap (λ o. Some (made (at 2 o) (λ t. given.Title t))) (the_title title)
given_back (given.Message message) some = ap (λ o. Some (made (at 2 o) (λ m. given.Message m))) (the_message message)
given_back (given.TitleAndMessage title message) some =
    ap Some (both 2 3 (title_of title.text) (message_of message.text) title message (λ t m. given.TitleAndMessage t m) (the_title title) (the_message message))
given_back (given.Titles []) some = absurd some
given_back (given.Titles (title ∷ titles)) some = ap (λ r. Some (made r (λ ts. given.Titles ts))) (titles_back 2 (title ∷ titles))

-- ---- the first bad one

-- the first that is false is at this place, where the first of all is at another
pub record Splits (kept : List Bool) (from place : ℕ) : Type 0 where
  pub before : List Bool
  pub after : List Bool
  pub are : kept ≡ before ++ false ∷ after
  pub all_before : all_keep before ≡ true
  pub counted : place ≡ length before + from

-- what is read of arguments, of which the first is at a place, agrees with whether each satisfies its rule
abbrev pub Judges : {A : Type 0} → ℕ → List Bool → Result A ℕ → Type 0
Judges from kept (Ok read) = all_keep kept ≡ true
Judges from kept (Err place) = Splits kept from place

-- after one that is good
pub after_good : {A : Type 0} (from : ℕ) (kept : List Bool) (read : Result A ℕ) → Judges (from + 1) kept read → Judges from (true ∷ kept) read
after_good from kept (Ok read) all = all
after_good from kept (Err place) rest =
    let counted : place ≡ length rest.before + (from + 1) = rest.counted in
    record {
      before = true ∷ rest.before;
      after = rest.after;
      are = ap (λ (others : List Bool). true ∷ others) rest.are;
      all_before = rest.all_before;
      counted = omega arith;
    }

pub made_so : {A B : Type 0} (from : ℕ) (kept : List Bool) (read : Result A ℕ) (make : A → B) → Judges from kept read → Judges from kept (made read make)
made_so from kept (Ok read) make all = all
made_so from kept (Err place) make split = split

-- the last
pub last_so : {A : Type 0} (from : ℕ) (keeps : Bool) (o : Option A) → keeps ≡ is_some o → Judges from (keeps ∷ []) (at from o)
last_so from true (Some a) is = refl
last_so from false None is = record { before = []; after = []; are = refl; all_before = refl; counted = omega arith }
last_so from true None is = absurd (cc is)
last_so from false (Some a) is = absurd (cc is)

-- one before others
pub first_so : {A B C : Type 0} (from : ℕ) (keeps : Bool) (kept : List Bool) (o : Option A) (read : Result B ℕ) (make : A → B → C) → keeps ≡ is_some o → Judges (from + 1) kept read
    → Judges from (keeps ∷ kept) (made_of_two (at from o) read make)
first_so from true kept (Some a) (Ok read) make is rest = rest
first_so from true kept (Some a) (Err place) make is rest = after_good {A = ℕ} from kept (Err place) rest
first_so from false kept None read make is rest = record { before = []; after = kept; are = refl; all_before = refl; counted = omega arith }
first_so from true kept None read make is rest = absurd (cc is)
first_so from false kept (Some a) read make is rest = absurd (cc is)

titles_so : (place : ℕ) (labels : List (List ℕ)) → Judges place (kept_by [] is_title_word labels) (titles_from place labels)
titles_so place [] = refl
titles_so place (label ∷ labels) =
    first_so place (is_title_word label) (kept_by [] is_title_word labels) (title_of label) (titles_from (place + 1) labels) (λ title titles. title ∷ titles) (title_word label)
    (titles_so (place + 1) labels)

pub first_of_all : (kept : List Bool) (place : ℕ) → Splits kept 1 place → IsFirstBad kept place
first_of_all kept place found = record { before = found.before; after = found.after; are = found.are; all_before = found.all_before; counted = found.counted }

-- whether arguments satisfy the rules of their types
abbrev pub form_keeps : Form → List (List ℕ) → List Bool
form_keeps form.Nothing words = kept_by [] any_word words
form_keeps form.Title words = kept_by (is_title_word ∷ []) any_word words
form_keeps form.Message words = kept_by (is_message_word ∷ []) any_word words
form_keeps form.TitleAndMessage words = kept_by (is_title_word ∷ is_message_word ∷ []) any_word words
form_keeps form.Titles words = kept_by [] is_title_word words

pub form_judged : (f : Form) (words : List (List ℕ)) → IfSome (given_by f words) (Judges 2 (form_keeps f words))
form_judged form.Nothing [] = refl
form_judged form.Title (two ∷ []) =
    made_so 2 (is_title_word two ∷ []) (at 2 (title_of two)) (λ t. given.Title t) (last_so 2 (is_title_word two) (title_of two) (title_word two))
form_judged form.Message (two ∷ []) =
    made_so 2 (is_message_word two ∷ []) (at 2 (message_of two)) (λ m. given.Message m) (last_so 2 (is_message_word two) (message_of two) (message_word two))
form_judged form.TitleAndMessage (two ∷ three ∷ []) =
    first_so 2 (is_title_word two) (is_message_word three ∷ []) (title_of two) (at 3 (message_of three)) (λ t m. given.TitleAndMessage t m) (title_word two)
    (last_so 3 (is_message_word three) (message_of three) (message_word three))
form_judged form.Titles (two ∷ more) = made_so 2 (kept_by [] is_title_word (two ∷ more)) (titles_from 2 (two ∷ more)) (λ ts. given.Titles ts) (titles_so 2 (two ∷ more))
form_judged _ _ = tt

-- ---- how many

-- so many arguments are those of these types
abbrev pub Counts : Form → ℕ → Type 0
Counts form.Nothing count = count ≡ 0
Counts form.Title count = count ≡ 1
Counts form.Message count = count ≡ 1
Counts form.TitleAndMessage count = count ≡ 2
Counts form.Titles count = 1 ≤ count

pub form_counts : (f : Form) (words : List (List ℕ)) → IfSome (given_by f words) (λ read. Counts f (length words))
form_counts form.Nothing [] = refl
form_counts form.Title (two ∷ []) = refl
form_counts form.Message (two ∷ []) = refl
form_counts form.TitleAndMessage (two ∷ three ∷ []) = refl
form_counts form.Titles (two ∷ more) = omega arith
form_counts _ _ = tt

pub counted_form : (f : Form) (words : List (List ℕ)) → Counts f (length words) → IsSome (given_by f words)
counted_form form.Nothing [] count = refl
counted_form form.Nothing (a ∷ more) count = absurd (omega (arith, count))
counted_form form.Title [] count = absurd (omega (arith, count))
counted_form form.Title (a ∷ []) count = refl
counted_form form.Title (a ∷ b ∷ more) count = absurd (omega (arith, count))
counted_form form.Message [] count = absurd (omega (arith, count))
counted_form form.Message (a ∷ []) count = refl
counted_form form.Message (a ∷ b ∷ more) count = absurd (omega (arith, count))
counted_form form.TitleAndMessage [] count = absurd (omega (arith, count))
counted_form form.TitleAndMessage (a ∷ []) count = absurd (omega (arith, count))
counted_form form.TitleAndMessage (a ∷ b ∷ []) count = refl
counted_form form.TitleAndMessage (a ∷ b ∷ c ∷ more) count = absurd (omega (arith, count))
counted_form form.Titles [] count = absurd (omega (arith, count))
counted_form form.Titles (a ∷ more) count = refl

-- ---- all of these types

-- what is so of all arguments of these types
abbrev pub AllOf : Form → (Given → Type 0) → Type 0
AllOf form.Nothing P = P given.Nothing
AllOf form.Title P = (title : _) → P (given.Title title)
AllOf form.Message P = (message : _) → P (given.Message message)
AllOf form.TitleAndMessage P = (title : _) (message : _) → P (given.TitleAndMessage title message)
AllOf form.Titles P = (titles : _) → P (given.Titles titles)

-- of what is read, if it is
abbrev pub IfRead : (Given → Type 0) → Option (Result Given ℕ) → Type 0
IfRead P (Some (Ok g)) = P g
IfRead P _ = ⊤

if_made : {A : Type 0} (P : Given → Type 0) (read : Result A ℕ) (make : A → Given) → ((a : A) → P (make a)) → IfRead P (Some (made read make))
if_made P (Ok a) make all = all a
if_made P (Err place) make all = tt

if_both : {A B : Type 0} (P : Given → Type 0) (one : Result A ℕ) (two : Result B ℕ) (make : A → B → Given) → ((a : A) (b : B) → P (make a b)) → IfRead P (Some (made_of_two one two make))
if_both P (Ok a) (Ok b) make all = all a b
if_both P (Ok a) (Err place) make all = tt
if_both P (Err place) two make all = tt

pub all_read : (f : Form) (words : List (List ℕ)) (P : Given → Type 0) → AllOf f P → IfRead P (given_by f words)
all_read form.Nothing [] P all = all
all_read form.Title (two ∷ []) P all = if_made P (at 2 (title_of two)) (λ t. given.Title t) all
all_read form.Message (two ∷ []) P all = if_made P (at 2 (message_of two)) (λ m. given.Message m) all
all_read form.TitleAndMessage (two ∷ three ∷ []) P all = if_both P (at 2 (title_of two)) (at 3 (message_of three)) (λ t m. given.TitleAndMessage t m) all
all_read form.Titles (two ∷ more) P all = if_made P (titles_from 2 (two ∷ more)) (λ ts. given.Titles ts) all
all_read _ _ P all = tt
