-- The first argument that breaks its rule.
use Rattle.std.proofs.Common.{◌≡◌, ◌∙◌, refl, sym, ap, subst, ℕ, Bool, true, false, List, [], ◌∷◌, codes, Option, Some, None, Result, Ok, Err}
use Rattle.std.specs.Prelude.{◌&&◌, ◌||◌, is_some, not, IfSome, if◌then◌else◌}
use Rattle.std.specs.Str.{bytes_eq, is_utf8}
use Rattle.gb_text.specs.Rules.{is_line_text}
use Rattle.gb_text.specs.Ruled.{line_by, line_of, message_of, title_of}
use Rattle.gb_text.specs.declared.ruled.Line.{Line}
use Rattle.gb_text.specs.declared.ruled.Title.{Title}
use Rattle.bug_edits.specs.EditTable.{edit_by, edit_from, name_of as name_of_edit}
use Rattle.bug_edits.specs.EditWords.{IsFirstBad, all_keep, any_word, edit_keeps, is_message_word, is_title_word, kept_by, kept_of_bug}
use Rattle.bug_edits.specs.Given.{at, made}
use Rattle.bug_edits.specs.declared.edit.BugEdit.{BugEdit}
use Rattle.bug_edits.specs.declared.edit.BugEdit.TheVariants as bug_edit
use Rattle.bug_edits.specs.declared.given.Given.TheVariants as given
use Rattle.bug_edits.specs.declared.names.EditName.{EditName}
use Rattle.bug_edits.specs.declared.names.EditName.TheVariants as named
use Rattle.bug_edits.proofs.GivenLemmas.{Judges, after_good, both, first_of_all, first_so, last_so, made_so, message_word, title_word}
use Rattle.bug_edits.proofs.ReadLemmas.{each_name, edit_judged}
use Rattle.words.specs.Verbs.{name_of}
use Rattle.words.specs.WordRules.{IsRead, is_line_word, words_keep}
use Rattle.words.specs.Words.{by_verb, command_of, edit_of_bug, of_bug, person}
use Rattle.words.specs.declared.edit.Edit.TheVariants as edits
use Rattle.words.specs.declared.verb.Verb.{Verb}
use Rattle.words.specs.declared.verb.Verb.TheVariants as verb
use Rattle.words.specs.declared.words.Command.{Command}
use Rattle.words.specs.declared.words.Command.TheVariants as ask
use Rattle.words.proofs.VerbLemmas.{of_a_verb}

-- ---- one argument

-- it is read if and only if it satisfies its rule
line_word : (word : List ℕ) → is_line_word word ≡ is_some (line_of word)
line_word word = by (is_utf8 word) (is_line_text word) refl refl
  where
    by : (utf8 good : Bool) (u : is_utf8 word ≡ utf8) (g : is_line_text word ≡ good) → (utf8 && good) ≡ is_some (line_by word utf8 good u g)
    by true true u g = refl
    by true false u g = refl
    by false good u g = refl

-- ---- several

-- a title and a line
person_so : {A : Type 0} (one two : List ℕ) (make : Title × Line → A) → Judges 1 (is_title_word one ∷ is_line_word two ∷ []) (made (person one two) make)
person_so one two make =
    let pair : Title → Line → Title × Line = λ name email. (name, email) in
    made_so 1 (is_title_word one ∷ is_line_word two ∷ []) (person one two) make
    (first_so 1 (is_title_word one) (is_line_word two ∷ []) (title_of one) (at 2 (line_of two)) pair (title_word one) (last_so 2 (is_line_word two) (line_of two) (line_word two)))

-- the rules of an edit are those that follow the bug's argument
is_off : (b : Bool) → not b ≡ true → b ≡ false
is_off true off = absurd (cc off)
is_off false off = refl

edit_rules : (edit : EditName) (bug : List ℕ) (words : List (List ℕ)) → words_keep (name_of_edit edit) (bug ∷ words) ≡ true ∷ edit_keeps (name_of_edit edit) words
edit_rules edit bug words =
    let name = name_of_edit edit in
    let persons = is_off (bytes_eq name (codes "user-new") || bytes_eq name (codes "user-edit"))
    (each_name (λ e. not (bytes_eq (name_of_edit e) (codes "user-new") || bytes_eq (name_of_edit e) (codes "user-edit"))) refl edit) in
    let bugs = is_off (bytes_eq name (codes "new")) (each_name (λ e. not (bytes_eq (name_of_edit e) (codes "new"))) refl edit) in
    let comments = is_off (bytes_eq name (codes "edit")) (each_name (λ e. not (bytes_eq (name_of_edit e) (codes "edit"))) refl edit) in
    let person_rules = kept_by (is_title_word ∷ is_line_word ∷ []) any_word (bug ∷ words) in
    let bug_rules = kept_by (is_title_word ∷ is_message_word ∷ []) any_word (bug ∷ words) in
    let comment_rules = kept_by (any_word ∷ is_message_word ∷ []) any_word (bug ∷ words) in
    ap (λ b. if b then person_rules else if bytes_eq name (codes "new") then bug_rules else if bytes_eq name (codes "edit") then comment_rules else kept_of_bug name (bug ∷ words)) persons
    ∙ ap (λ b. if b then bug_rules else if bytes_eq name (codes "edit") then comment_rules else kept_of_bug name (bug ∷ words)) bugs
    ∙ ap (λ b. if b then comment_rules else kept_of_bug name (bug ∷ words)) comments

edit_so : (edit : EditName) (bug : List ℕ) (words : List (List ℕ)) → IfSome (edit_of_bug bug (edit_from edit words)) (Judges 1 (words_keep (name_of_edit edit) (bug ∷ words)))
edit_so edit bug words =
    let kept = edit_keeps (name_of_edit edit) words in
    subst (λ all. IfSome (edit_of_bug bug (edit_from edit words)) (Judges 1 all)) (sym (edit_rules edit bug words)) (by kept (edit_from edit words) (edit_judged edit words))
  where
    by : (kept : List Bool) (o : Option (Result BugEdit ℕ)) → IfSome o (Judges 2 kept) → IfSome (edit_of_bug bug o) (Judges 1 (true ∷ kept))
    by kept None so = tt
    by kept (Some read) so = made_so 1 (true ∷ kept) read (of_bug bug) (after_good 1 kept read so)

-- what each command reads agrees with the rules of its arguments
judged : (v : Verb) (arguments : List (List ℕ)) → IfSome (by_verb v arguments) (Judges 1 (words_keep (name_of v) arguments))
judged verb.UserNew (one ∷ two ∷ []) = person_so one two (λ p. ask.Edit (edits.UserNew p.0 p.1))
judged verb.UserEdit (one ∷ two ∷ []) = person_so one two (λ p. ask.Edit (edits.UserEdit p.0 p.1))
judged verb.UserSet (one ∷ []) = refl
judged verb.Users [] = refl
judged verb.New (one ∷ two ∷ []) =
    first_so 1 (is_title_word one) (is_message_word two ∷ []) (title_of one) (at 2 (message_of two)) (λ t m. ask.Edit (edits.New t m)) (title_word one)
    (last_so 2 (is_message_word two) (message_of two) (message_word two))
judged (verb.OfBug edit) (bug ∷ words) = edit_so edit bug words
judged verb.Edit (one ∷ two ∷ []) =
    after_good 1 (is_message_word two ∷ []) (made (at 2 (message_of two)) (λ message. ask.Edit (edits.OfComment one message)))
    (made_so 2 (is_message_word two ∷ []) (at 2 (message_of two)) (λ message. ask.Edit (edits.OfComment one message)) (last_so 2 (is_message_word two) (message_of two) (message_word two)))
judged verb.Show (one ∷ []) = refl
judged verb.Log (one ∷ []) = refl
judged verb.PackRefs [] = refl
judged _ _ = tt

told : (name : List ℕ) (arguments : List (List ℕ)) (read : Result Command ℕ) → command_of name arguments ≡ Some read → Judges 1 (words_keep name arguments) read
told name arguments read is =
    let by = of_a_verb (λ v. by_verb v arguments) name read is in
    subst (λ n. Judges 1 (words_keep n arguments) read) (sym by.1)
    (subst (λ o. IfSome o (Judges 1 (words_keep (name_of by.0) arguments))) by.2 (judged by.0 arguments))

pub first_bad : (name : List ℕ) (arguments : List (List ℕ)) (place : ℕ) → command_of name arguments ≡ Some (Err place) → IsFirstBad (words_keep name arguments) place
first_bad name arguments place is = first_of_all (words_keep name arguments) place (told name arguments (Err place) is)

pub none_bad : (name : List ℕ) (arguments : List (List ℕ)) (command : Command) → command_of name arguments ≡ Some (Ok command) → all_keep (words_keep name arguments) ≡ true
none_bad name arguments command is = told name arguments (Ok command) is

-- ---- messages

-- an argument that satisfies its rule is of its type
read_is : {A : Type 0} (o : Option A) → true ≡ is_some o → (a : A) × (o ≡ Some a)
read_is None is = absurd (cc is)
read_is (Some a) is = (a, refl)

pub messages_are_read : (bug title message : List ℕ) → is_title_word title ≡ true → is_message_word message ≡ true
    → IsRead (command_of (codes "comment") (bug ∷ message ∷ [])) × IsRead (command_of (codes "edit") (bug ∷ message ∷ [])) × IsRead (command_of (codes "new") (title ∷ message ∷ []))
    × IsRead (command_of (codes "meta") (bug ∷ title ∷ message ∷ []))
messages_are_read bug title message is_title is_message =
    let t = read_is (title_of title) (sym is_title ∙ title_word title) in
    let m = read_is (message_of message) (sym is_message ∙ message_word message) in (
      (of_bug bug (bug_edit.Comment m.0), ap (λ o. edit_of_bug bug (edit_by named.Comment (Some (made (at 2 o) (λ read. given.Message read))))) m.1),
      (ask.Edit (edits.OfComment bug m.0), ap (λ o. Some (made (at 2 o) (λ read. ask.Edit (edits.OfComment bug read)))) m.1),
      (ask.Edit (edits.New t.0 m.0), ap Some (both 1 2 (title_of title) (message_of message) t.0 m.0 (λ one two. ask.Edit (edits.New one two)) t.1 m.1)),
      (
        of_bug bug (bug_edit.Metadata t.0 m.0),
        ap (λ r. edit_of_bug bug (edit_by named.Meta (Some r))) (both 2 3 (title_of title) (message_of message) t.0 m.0 (λ one two. given.TitleAndMessage one two) t.1 m.1),
      ),
    )
