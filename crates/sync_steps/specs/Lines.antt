-- How the lines of an exchange are printed, and which of them are refusals.
use Rattle.std.specs.Prelude.{ℕ, Bool, true, false, List, ◌++◌, codes, decimal, filter, length}
use Rattle.std.specs.List.{flat_map, list_all}
use Rattle.hex.specs.Hex.{encode_lower}
use Rattle.sync_steps.specs.declared.line.CopyCause.{CopyCause}
use Rattle.sync_steps.specs.declared.line.CopyCause.TheVariants as cause
use Rattle.sync_steps.specs.declared.line.EntityWord.{EntityWord}
use Rattle.sync_steps.specs.declared.line.EntityWord.TheVariants as word
use Rattle.sync_steps.specs.declared.line.Exchange.{Exchange}
use Rattle.sync_steps.specs.declared.line.Exchange.TheVariants as verb
use Rattle.sync_steps.specs.declared.line.Line.{Line}
use Rattle.sync_steps.specs.declared.line.Outcome.{Outcome}
use Rattle.sync_steps.specs.declared.line.Outcome.TheVariants as outcome

abbrev pub verb_text : Exchange → List ℕ
verb_text verb.Fetch = codes "fetch"
verb_text verb.Push = codes "push"

abbrev pub word_text : EntityWord → List ℕ
word_text word.Identity = codes "identity"
word_text word.Bug = codes "bug"

abbrev pub cause_text : CopyCause → List ℕ
cause_text (cause.Missing name) = codes "missing " ++ encode_lower name.bytes
cause_text (cause.Damaged name) = codes "bytes " ++ encode_lower name.bytes
cause_text (cause.WrongKind name) = codes "kind " ++ encode_lower name.bytes
cause_text (cause.TooLarge count) = codes "large " ++ decimal count
cause_text (cause.Ring name) = codes "ring " ++ encode_lower name.bytes
cause_text (cause.Taken name) = codes "taken " ++ encode_lower name.bytes

abbrev pub outcome_text : Outcome → List ℕ
outcome_text outcome.Fetched = codes "fetched"
outcome_text outcome.Pushed = codes "pushed"
outcome_text outcome.Same = codes "same"
outcome_text outcome.BadRef = codes "damaged ref"
outcome_text (outcome.DamagedCopy c) = codes "damaged " ++ cause_text c
outcome_text (outcome.NotForward name) = codes "not-forward " ++ encode_lower name.bytes
outcome_text outcome.Held = codes "held"

-- the line of an entity: what is done, its kind, its id and what came of it, with a space between each two, and a line feed
abbrev pub line_text : Line → List ℕ
line_text line = verb_text line.verb ++ codes " " ++ word_text line.word ++ codes " " ++ encode_lower line.id.bytes ++ codes " " ++ outcome_text line.outcome ++ codes "\n"

-- The lines, one behind another.
abbrev pub lines_text_of : List Line → List ℕ
lines_text_of lines = flat_map line_text lines

-- an entity was refused, and no ref of it changed
abbrev pub is_refused : Outcome → Bool
is_refused outcome.Fetched = false
is_refused outcome.Pushed = false
is_refused outcome.Same = false
is_refused outcome.BadRef = true
is_refused (outcome.DamagedCopy c) = true
is_refused (outcome.NotForward name) = true
is_refused outcome.Held = true

-- so many entities were refused
abbrev pub refused_in : List Line → ℕ
refused_in lines = length (filter (λ (line : Line). is_refused line.outcome) lines)

-- what came of an entity by its refs alone
abbrev pub is_quiet : Outcome → Bool
is_quiet outcome.Fetched = false
is_quiet outcome.Pushed = false
is_quiet outcome.Same = true
is_quiet outcome.BadRef = true
is_quiet (outcome.DamagedCopy c) = false
is_quiet (outcome.NotForward name) = false
is_quiet outcome.Held = true

-- the same of all lines
abbrev pub are_quiet : List Line → Bool
are_quiet lines = list_all (λ (line : Line). is_quiet line.outcome) lines
