-- A text that obeys a rule is read as the one value that has this text; another is read as none.
use Rattle.std.proofs.Common.{◌≡◌, ◌∙◌, refl, ap, sym, ℕ, Bool, true, false, List, Some, None, IsUtf8, IsSome}
use Rattle.std.proofs.Math.Bool.{Bool-set}
use Rattle.std.specs.Str.{is_utf8}
use Rattle.std.proofs.lemmas.Str.{is_utf8-from_IsUtf8}
use Rattle.gb_text.specs.Rules.{is_line_text, is_message_text, is_title_text}
use Rattle.gb_text.specs.Ruled.{line_by, line_of, message_by, message_of, title_by, title_of}
use Rattle.gb_text.specs.declared.ruled.Line.{Line}
use Rattle.gb_text.specs.declared.ruled.Message.{Message}
use Rattle.gb_text.specs.declared.ruled.Title.{Title}

-- the text of a copy is UTF-8
pub copy_is_utf8 : (text copy : List ℕ) → IsUtf8 text → copy ≡ text → is_utf8 copy ≡ true
copy_is_utf8 text copy utf8 same = ap is_utf8 same ∙ is_utf8-from_IsUtf8 text utf8

-- ---- lines

pub the_line : (line : Line) → line_of line.text ≡ Some line
the_line line = by (is_utf8 line.text) (is_line_text line.text) refl refl line.utf8 line.is_line
  where
    by : (utf8 good : Bool) (u : is_utf8 line.text ≡ utf8) (g : is_line_text line.text ≡ good) → is_utf8 line.text ≡ true → is_line_text line.text ≡ true → line_by line.text utf8 good u g ≡ Some line
    by true true u g h k =
        ap (λ u. Some (record { text = line.text; utf8 = u; is_line = g })) (Bool-set _ _ u line.utf8)
        ∙ ap (λ g. Some (record { text = line.text; utf8 = line.utf8; is_line = g })) (Bool-set _ _ g line.is_line)
    by true false u g h k = absurd cc
    by false good u g h k = absurd cc

-- a copy of a text that obeys the rule
pub copied_line : (text : List ℕ) (line : Line) → line.text ≡ text → Some line ≡ line_of text
copied_line text line is = sym (ap line_of (sym is) ∙ the_line line)

-- a text that obeys the rule is one
pub is_a_line : (text : List ℕ) → IsUtf8 text → is_line_text text ≡ true → IsSome (line_of text)
is_a_line text utf8 good = by (is_utf8 text) (is_line_text text) refl refl (is_utf8-from_IsUtf8 text utf8) good
  where
    by : (utf8 good : Bool) (u : is_utf8 text ≡ utf8) (g : is_line_text text ≡ good) → is_utf8 text ≡ true → is_line_text text ≡ true → IsSome (line_by text utf8 good u g)
    by true true u g h k = refl
    by true false u g h k = absurd cc
    by false good u g h k = absurd cc

pub no_line : (text : List ℕ) → is_line_text text ≡ false → line_of text ≡ None
no_line text bad = by (is_utf8 text) (is_line_text text) refl refl bad
  where
    by : (utf8 good : Bool) (u : is_utf8 text ≡ utf8) (g : is_line_text text ≡ good) → is_line_text text ≡ false → line_by text utf8 good u g ≡ None
    by true true u g h = absurd cc
    by true false u g h = refl
    by false good u g h = refl

-- ---- titles

pub the_title : (title : Title) → title_of title.text ≡ Some title
the_title title = by (is_utf8 title.text) (is_title_text title.text) refl refl title.utf8 title.is_title
  where
    by : (utf8 good : Bool) (u : is_utf8 title.text ≡ utf8) (g : is_title_text title.text ≡ good) → is_utf8 title.text ≡ true → is_title_text title.text ≡ true → title_by title.text utf8 good u g ≡ Some title
    by true true u g h k =
        ap (λ u. Some (record { text = title.text; utf8 = u; is_title = g })) (Bool-set _ _ u title.utf8)
        ∙ ap (λ g. Some (record { text = title.text; utf8 = title.utf8; is_title = g })) (Bool-set _ _ g title.is_title)
    by true false u g h k = absurd cc
    by false good u g h k = absurd cc

-- a copy of a text that obeys the rule
pub copied_title : (text : List ℕ) (title : Title) → title.text ≡ text → Some title ≡ title_of text
copied_title text title is = sym (ap title_of (sym is) ∙ the_title title)

-- a text that obeys the rule is one
pub is_a_title : (text : List ℕ) → IsUtf8 text → is_title_text text ≡ true → IsSome (title_of text)
is_a_title text utf8 good = by (is_utf8 text) (is_title_text text) refl refl (is_utf8-from_IsUtf8 text utf8) good
  where
    by : (utf8 good : Bool) (u : is_utf8 text ≡ utf8) (g : is_title_text text ≡ good) → is_utf8 text ≡ true → is_title_text text ≡ true → IsSome (title_by text utf8 good u g)
    by true true u g h k = refl
    by true false u g h k = absurd cc
    by false good u g h k = absurd cc

pub no_title : (text : List ℕ) → is_title_text text ≡ false → title_of text ≡ None
no_title text bad = by (is_utf8 text) (is_title_text text) refl refl bad
  where
    by : (utf8 good : Bool) (u : is_utf8 text ≡ utf8) (g : is_title_text text ≡ good) → is_title_text text ≡ false → title_by text utf8 good u g ≡ None
    by true true u g h = absurd cc
    by true false u g h = refl
    by false good u g h = refl

-- ---- messages

pub the_message : (message : Message) → message_of message.text ≡ Some message
the_message message = by (is_utf8 message.text) (is_message_text message.text) refl refl message.utf8 message.is_message
  where
    by : (utf8 good : Bool) (u : is_utf8 message.text ≡ utf8) (g : is_message_text message.text ≡ good) → is_utf8 message.text ≡ true → is_message_text message.text ≡ true → message_by message.text utf8 good u g ≡ Some message
    by true true u g h k =
        ap (λ u. Some (record { text = message.text; utf8 = u; is_message = g })) (Bool-set _ _ u message.utf8)
        ∙ ap (λ g. Some (record { text = message.text; utf8 = message.utf8; is_message = g })) (Bool-set _ _ g message.is_message)
    by true false u g h k = absurd cc
    by false good u g h k = absurd cc

-- a copy of a text that obeys the rule
pub copied_message : (text : List ℕ) (message : Message) → message.text ≡ text → Some message ≡ message_of text
copied_message text message is = sym (ap message_of (sym is) ∙ the_message message)

-- a text that obeys the rule is one
pub is_a_message : (text : List ℕ) → IsUtf8 text → is_message_text text ≡ true → IsSome (message_of text)
is_a_message text utf8 good = by (is_utf8 text) (is_message_text text) refl refl (is_utf8-from_IsUtf8 text utf8) good
  where
    by : (utf8 good : Bool) (u : is_utf8 text ≡ utf8) (g : is_message_text text ≡ good) → is_utf8 text ≡ true → is_message_text text ≡ true → IsSome (message_by text utf8 good u g)
    by true true u g h k = refl
    by true false u g h k = absurd cc
    by false good u g h k = absurd cc

pub no_message : (text : List ℕ) → is_message_text text ≡ false → message_of text ≡ None
no_message text bad = by (is_utf8 text) (is_message_text text) refl refl bad
  where
    by : (utf8 good : Bool) (u : is_utf8 text ≡ utf8) (g : is_message_text text ≡ good) → is_message_text text ≡ false → message_by text utf8 good u g ≡ None
    by true true u g h = absurd cc
    by true false u g h = refl
    by false good u g h = refl
