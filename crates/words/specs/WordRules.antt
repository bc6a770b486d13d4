-- Which arguments give a command, and which rule each of them has to satisfy: by the command's name, however the reading is built.
use Rattle.std.specs.Prelude.{◌≡◌, ◌+◌, ◌⊎◌, ◌&&◌, ◌||◌, ℕ, Bool, if◌then◌else◌, List, [], ◌∷◌, codes, Contains, Option, Some, Result, Ok}
use Rattle.std.specs.Str.{bytes_eq, is_utf8}
use Rattle.gb_text.specs.Rules.{is_line_text}
use Rattle.bug_edits.specs.EditWords.{IsCountedEdit, any_word, is_message_word, is_title_word, kept_by, kept_of_bug}
use Rattle.words.specs.declared.words.Command.{Command}

-- ---- which arguments give a command

-- the names of commands that are no edits of a bug, each with the number of its arguments
abbrev pub counted_commands : List (List ℕ × ℕ)
counted_commands =
    (codes "users", 0) ∷ (codes "log", 1) ∷ (codes "show", 1) ∷ (codes "user-set", 1) ∷ (codes "user-new", 2) ∷ (codes "user-edit", 2) ∷ (codes "new", 2) ∷ (codes "edit", 2) ∷ (codes "pack-refs", 0) ∷ []

-- a name with so many arguments is a command; an edit of a bug has one more than it counts, which finds the bug
abbrev pub IsCounted : List ℕ → ℕ → Type 0
IsCounted name count = Contains counted_commands (name, count) ⊎ ((others : ℕ) × (count ≡ others + 1) × IsCountedEdit name others)

-- the names of commands with a peer, each with the number of its arguments
abbrev pub counted_peer_commands : List (List ℕ × ℕ)
counted_peer_commands = (codes "fetch", 2) ∷ (codes "pull", 2) ∷ (codes "push", 1) ∷ []

-- a name with so many arguments is a command with a peer
abbrev pub IsCountedPeer : List ℕ → ℕ → Type 0
IsCountedPeer name count = Contains counted_peer_commands (name, count)

-- a name with so many arguments is that of a merge
abbrev pub IsCountedMerge : List ℕ → ℕ → Type 0
IsCountedMerge name count = (name ≡ codes "merge") × (count ≡ 1)

-- a name is that of a list of bugs, which takes any number of arguments
abbrev pub NamesList : List ℕ → Type 0
NamesList name = (name ≡ codes "ls") ⊎ (name ≡ codes "board")

-- ---- rules of arguments

-- an argument is a line
abbrev pub is_line_word : List ℕ → Bool
is_line_word word = is_utf8 word && is_line_text word

-- whether each argument of a command satisfies its rule, in their order; one that finds something may be any
abbrev pub words_keep : List ℕ → List (List ℕ) → List Bool
words_keep name arguments =
    if bytes_eq name (codes "user-new") || bytes_eq name (codes "user-edit") then kept_by (is_title_word ∷ is_line_word ∷ []) any_word arguments
    else if bytes_eq name (codes "new") then kept_by (is_title_word ∷ is_message_word ∷ []) any_word arguments
    else if bytes_eq name (codes "edit") then kept_by (any_word ∷ is_message_word ∷ []) any_word arguments
    else kept_of_bug name arguments

-- arguments are read, and none is refused
abbrev pub IsRead : Option (Result Command ℕ) → Type 0
IsRead read = (command : Command) × (read ≡ Some (Ok command))
