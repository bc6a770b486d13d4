-- The line, the title or the message that a text is.
use Rattle.std.specs.Prelude.{◌≡◌, refl, ℕ, Bool, true, false, List, Option, Some, None}
use Rattle.std.specs.Str.{is_utf8}
use Rattle.gb_text.specs.Rules.{is_line_text, is_message_text, is_title_text}
use Rattle.gb_text.specs.declared.ruled.Line.{Line}
use Rattle.gb_text.specs.declared.ruled.Message.{Message}
use Rattle.gb_text.specs.declared.ruled.Title.{Title}

-- a line, by whether the text is UTF-8 and obeys the rule
abbrev pub line_by : (text : List ℕ) (utf8 good : Bool) → is_utf8 text ≡ utf8 → is_line_text text ≡ good → Option Line
line_by text true true utf8 good = Some (record { text = text; utf8 = utf8; is_line = good })
line_by text true false utf8 good = None
line_by text false _ utf8 good = None

-- the line that a text is, if it is one
abbrev pub line_of : List ℕ → Option Line
line_of text = line_by text (is_utf8 text) (is_line_text text) refl refl

-- a title, likewise
abbrev pub title_by : (text : List ℕ) (utf8 good : Bool) → is_utf8 text ≡ utf8 → is_title_text text ≡ good → Option Title
title_by text true true utf8 good = Some (record { text = text; utf8 = utf8; is_title = good })
title_by text true false utf8 good = None
title_by text false _ utf8 good = None

-- the title that a text is, if it is one
abbrev pub title_of : List ℕ → Option Title
title_of text = title_by text (is_utf8 text) (is_title_text text) refl refl

-- a message, likewise
abbrev pub message_by : (text : List ℕ) (utf8 good : Bool) → is_utf8 text ≡ utf8 → is_message_text text ≡ good → Option Message
message_by text true true utf8 good = Some (record { text = text; utf8 = utf8; is_message = good })
message_by text true false utf8 good = None
message_by text false _ utf8 good = None

-- the message that a text is, if it is one
abbrev pub message_of : List ℕ → Option Message
message_of text = message_by text (is_utf8 text) (is_message_text text) refl refl
