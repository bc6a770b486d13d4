-- The lines that tell refusals.
use Rattle.std.specs.Prelude.{ℕ, List, ◌++◌, codes, decimal}
use Rattle.hex.specs.Hex.{encode_lower}
use Rattle.repo_steps.specs.Stops.{number_of as command_number}
use Rattle.repo_steps.specs.declared.refusal.Refusal.{Refusal}
use Rattle.repo_steps.specs.declared.refusal.Refusal.TheVariants.{NoUser, NotFound, Ambiguous, NoLabelChange, SameStatus, ClockFull, RepeatedOperation, EntityExists, NameTaken, TooLarge, Damaged}
use Rattle.bug_run.specs.declared.status.Refused.{Refused}
use Rattle.bug_run.specs.declared.status.Refused.TheVariants.{ByCommand, ByWords, SomeLines}
use Rattle.words.specs.declared.list.BadQuery.{BadQuery as QueryRefusal}
use Rattle.words.specs.declared.list.BadQuery.TheVariants.{BadValue, OpenQuote, UnknownField}
use Rattle.words.specs.declared.words.BadWord.TheVariants.{BadFolder, BadQuery, BadRemoteName, BadText, SameFolder}

-- the number of a refusal
abbrev pub number_of : Refused → ℕ
number_of (ByWords (BadText place)) = 4
number_of (ByWords SameFolder) = 11
number_of (ByWords BadRemoteName) = 12
number_of (ByCommand refusal) = command_number refusal
number_of (SomeLines count) = 15
number_of (ByWords (BadQuery why)) = 16
number_of (ByWords BadFolder) = 17

-- what the refusal of a command says after its number
abbrev pub refusal_words : Refusal → List ℕ
refusal_words NoUser = codes "no user"
refusal_words NotFound = codes "not found"
refusal_words (Ambiguous least next) = codes "ambiguous " ++ encode_lower least.bytes ++ codes " " ++ encode_lower next.bytes
refusal_words NoLabelChange = codes "no label change"
refusal_words SameStatus = codes "same status"
refusal_words (ClockFull name) = codes "clock full " ++ encode_lower name.bytes
refusal_words (RepeatedOperation id) = codes "repeated operation " ++ encode_lower id.bytes
refusal_words (EntityExists id) = codes "entity exists " ++ encode_lower id.bytes
refusal_words (NameTaken name) = codes "name taken " ++ encode_lower name.bytes
refusal_words (TooLarge count) = codes "too large " ++ decimal count
refusal_words (Damaged path) = codes "damaged " ++ path

-- the kind of a query that is refused, and the place in bytes of what is wrong
abbrev pub query_words : QueryRefusal → List ℕ
query_words (UnknownField place) = codes "1 " ++ decimal place
query_words (BadValue place) = codes "2 " ++ decimal place
query_words (OpenQuote place) = codes "3 " ++ decimal place

-- what a refusal says after its number; that of lines is never told, since its lines are the answer
abbrev pub words_of : Refused → List ℕ
words_of (ByWords BadFolder) = codes "bad folder"
words_of (ByWords (BadText place)) = codes "bad text " ++ decimal place
words_of (ByWords SameFolder) = codes "same folder"
words_of (ByWords BadRemoteName) = codes "bad remote name"
words_of (ByWords (BadQuery why)) = codes "bad query " ++ query_words why
words_of (ByCommand refusal) = refusal_words refusal
words_of (SomeLines count) = codes "some refused " ++ decimal count

-- its line
abbrev pub refusal_line : Refused → List ℕ
refusal_line refused = codes "refused " ++ decimal (number_of refused) ++ codes " " ++ words_of refused ++ codes "\n"

-- what is told where the arguments give no command
abbrev pub usage_text : List ℕ
usage_text = codes "usage: gitbug FOLDER COMMAND ARGUMENTS\n"
