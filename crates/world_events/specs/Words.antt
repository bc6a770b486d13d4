-- The arguments of an event's command.
use Rattle.std.specs.Prelude.{ℕ, ◌%◌, List, [], ◌∷◌, ◌++◌, length, codes, decimal, string_bytes, Option, Some, None, get_or}
use Rattle.std.specs.Option.{option_map}
use Rattle.hex.specs.Hex.{encode_lower}
use Rattle.combined_id.specs.Combined.{combined_of}
use Rattle.gb_text.specs.declared.id.Id.{Id}
use Rattle.world_events.specs.declared.act.Act.{Act}
use Rattle.world_events.specs.declared.act.Act.TheVariants.{UserNew, NewBug, Comment, Title, Edit, Close, Reopen, LabelAdd, LabelRm, Noop, PackRefs, Pull, Push}
use Rattle.world_events.specs.declared.event.Event.{Event}
use Rattle.world_events.specs.declared.words.Taken.{Taken}
use Rattle.world_events.specs.declared.words.Taken.TheVariants.{Nothing, One, Two}

-- the word of a folder, which is also its name as a remote
abbrev pub folder_word : ℕ → List ℕ
folder_word folder = codes "w" ++ decimal folder

-- the name and the mail address of a folder's person
abbrev pub user_text : ℕ → List ℕ
user_text folder = codes "user" ++ decimal folder

abbrev pub mail_text : ℕ → List ℕ
mail_text folder = codes "u" ++ decimal folder ++ codes "@w"

-- the title and the message that an event gives
abbrev pub title_text : ℕ → List ℕ
title_text number = codes "title " ++ decimal number

abbrev pub message_text : ℕ → List ℕ
message_text number = codes "message " ++ decimal number

abbrev pub label_text : ℕ → List ℕ
label_text label = codes "label " ++ decimal label

-- the name of a command
abbrev pub verb_of : Act → List ℕ
verb_of UserNew = codes "user-new"
verb_of NewBug = codes "new"
verb_of (Comment pick) = codes "comment"
verb_of (Title pick) = codes "title"
verb_of (Edit pick) = codes "edit"
verb_of (Close pick) = codes "close"
verb_of (Reopen pick) = codes "open"
verb_of (LabelAdd pick label) = codes "label-add"
verb_of (LabelRm pick label) = codes "label-rm"
verb_of (Noop pick) = codes "noop"
verb_of (Pull peer) = codes "pull"
verb_of (Push peer) = codes "push"
verb_of PackRefs = codes "pack-refs"

-- the bug at the picked place, counted around; none where there is no bug
abbrev pub picked : List Id → ℕ → Option Id
picked [] pick = None
picked (bug ∷ bugs) pick = Some (get_or (bug ∷ bugs) (pick % length (bug ∷ bugs)) bug)

-- what a command of a bug takes: it alone, a bug and a text, or the first comment of a bug and a text
abbrev pub alone : Id → List (List ℕ)
alone bug = encode_lower bug.bytes ∷ []

abbrev pub of_bug : List ℕ → Id → List (List ℕ)
of_bug text bug = encode_lower bug.bytes ∷ text ∷ []

abbrev pub of_comment : List ℕ → Id → List (List ℕ)
of_comment text bug = combined_of (encode_lower bug.bytes) (encode_lower bug.bytes) ∷ text ∷ []

-- what an event's command takes, where its folder has these bugs
abbrev pub arguments_for : Act → ℕ → ℕ → List Id → Option (List (List ℕ))
arguments_for UserNew folder number bugs = Some (user_text folder ∷ mail_text folder ∷ [])
arguments_for NewBug folder number bugs = Some (title_text number ∷ message_text number ∷ [])
arguments_for (Comment pick) folder number bugs = option_map (of_bug (message_text number)) (picked bugs pick)
arguments_for (Title pick) folder number bugs = option_map (of_bug (title_text number)) (picked bugs pick)
arguments_for (Edit pick) folder number bugs = option_map (of_comment (message_text number)) (picked bugs pick)
arguments_for (Close pick) folder number bugs = option_map alone (picked bugs pick)
arguments_for (Reopen pick) folder number bugs = option_map alone (picked bugs pick)
arguments_for (LabelAdd pick label) folder number bugs = option_map (of_bug (label_text label)) (picked bugs pick)
arguments_for (LabelRm pick label) folder number bugs = option_map (of_bug (label_text label)) (picked bugs pick)
arguments_for (Noop pick) folder number bugs = option_map alone (picked bugs pick)
arguments_for (Pull peer) folder number bugs = Some (folder_word peer ∷ folder_word peer ∷ [])
arguments_for (Push peer) folder number bugs = Some (folder_word peer ∷ [])
arguments_for PackRefs folder number bugs = Some []

abbrev pub arguments_of : Event → List Id → Option (List (List ℕ))
arguments_of event bugs = arguments_for event.act event.folder event.number bugs

-- the folder, the command's name and what it takes
abbrev pub words_from : Event → List (List ℕ) → List (List ℕ)
words_from event arguments = folder_word event.folder ∷ verb_of event.act ∷ arguments

-- the arguments of an event in a folder with these bugs, in order of their ids; none where it needs a bug and there is none
abbrev pub words_of : Event → List Id → Option (List (List ℕ))
words_of event bugs = option_map (words_from event) (arguments_of event bugs)

-- the texts of arguments
abbrev pub texts_of : Taken → List (List ℕ)
texts_of Nothing = []
texts_of (One one) = string_bytes one ∷ []
texts_of (Two one two) = string_bytes one ∷ string_bytes two ∷ []
