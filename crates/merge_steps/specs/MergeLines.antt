-- How the lines of a merge are printed, and which of them are refusals.
use Rattle.std.specs.Prelude.{ℕ, Bool, true, false, List, ◌++◌, codes, filter, length}
use Rattle.std.specs.List.{flat_map}
use Rattle.hex.specs.Hex.{encode_lower}
use Rattle.sync_steps.specs.Lines.{word_text}
use Rattle.merge_steps.specs.FaultTexts.{entity_fault_text, identity_fault_text}
use Rattle.merge_steps.specs.declared.line.MergeLine.{MergeLine}
use Rattle.merge_steps.specs.declared.line.MergeOutcome.{MergeOutcome}
use Rattle.merge_steps.specs.declared.line.MergeOutcome.TheVariants as outcome

abbrev pub outcome_text : MergeOutcome → List ℕ
outcome_text outcome.Nothing = codes "nothing"
outcome_text outcome.New = codes "new"
outcome_text outcome.Forward = codes "forward"
outcome_text outcome.Joined = codes "joined"
outcome_text (outcome.InvalidBug f) = codes "invalid " ++ entity_fault_text f
outcome_text (outcome.InvalidIdentity f) = codes "invalid " ++ identity_fault_text f
outcome_text (outcome.NotForward name) = codes "not-forward " ++ encode_lower name.bytes

-- the line of an entity: its kind, its id and what came of it, with a space between each two, and a line feed
abbrev pub line_text : MergeLine → List ℕ
line_text line = codes "merge " ++ word_text line.word ++ codes " " ++ encode_lower line.id.bytes ++ codes " " ++ outcome_text line.outcome ++ codes "\n"

-- The lines, one behind another.
abbrev pub lines_text_of : List MergeLine → List ℕ
lines_text_of lines = flat_map line_text lines

-- an entity was refused, and no ref of it changed
abbrev pub is_refused : MergeOutcome → Bool
is_refused outcome.Nothing = false
is_refused outcome.New = false
is_refused outcome.Forward = false
is_refused outcome.Joined = false
is_refused (outcome.InvalidBug f) = true
is_refused (outcome.InvalidIdentity f) = true
is_refused (outcome.NotForward name) = true

-- so many entities were refused
abbrev pub refused_in : List MergeLine → ℕ
refused_in lines = length (filter (λ (line : MergeLine). is_refused line.outcome) lines)
