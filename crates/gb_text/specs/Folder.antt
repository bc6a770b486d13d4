-- Folders, and paths below them.
use Rattle.std.specs.Prelude.{◌≡◌, ◌≢◌, ℕ, ◌==◌, ◌||◌, not, Bool, true, false, if◌then◌else◌, List, [], ◌∷◌, ◌++◌, codes, filter, Option, Some, None, Result, Ok, Err}
use Rattle.std.specs.List.{list_any, slice_split, join_with_byte}
use Rattle.std.specs.Str.{bytes_eq}
use Rattle.gb_text.specs.Rules.{is_line_text}
use Rattle.gb_text.specs.declared.folder.FolderFault.{FolderFault}
use Rattle.gb_text.specs.declared.folder.FolderFault.TheVariants.{Memory, BadFolder}

-- a word begins with a slash
abbrev pub is_rooted : List ℕ → Bool
is_rooted [] = false
is_rooted (c ∷ cs) = c == 47

-- the parts of a word between its slashes
abbrev pub parts_of : List ℕ → List (List ℕ)
parts_of word = slice_split (λ c. c == 47) word

-- a part that names a step down: neither empty nor `.`
abbrev pub counts : List ℕ → Bool
counts part = not (bytes_eq part (codes "") || bytes_eq part (codes "."))

-- some part is `..`
abbrev pub goes_up : List (List ℕ) → Bool
goes_up parts = list_any (λ part. bytes_eq part (codes "..")) parts

-- the text of a folder: a slash where it is rooted, and its parts with slashes between
abbrev pub folder_text : Bool → List (List ℕ) → List ℕ
folder_text rooted parts = (if rooted then codes "/" else codes "") ++ join_with_byte 47 parts

-- a word that names no folder: the empty word, one with a control character, one with a part `..`
abbrev pub is_bad_folder : List ℕ → Bool
is_bad_folder [] = true
is_bad_folder (c ∷ cs) = not (is_line_text (c ∷ cs)) || goes_up (parts_of (c ∷ cs))

-- the text of the folder that a word names, if it names one
abbrev pub folder_of : List ℕ → Option (List ℕ)
folder_of word =
    if is_bad_folder word then None
    else Some (folder_text (is_rooted word) (filter counts (parts_of word)))

-- the answer to a word that names this folder, or none; want of memory comes only where it names
-- one
abbrev pub FolderAnswers : Option (List ℕ) → Result (List ℕ) FolderFault → Type 0
FolderAnswers folder (Ok text) = folder ≡ Some text
FolderAnswers folder (Err BadFolder) = folder ≡ None
FolderAnswers folder (Err Memory) = folder ≢ None

-- what stands between a folder's text and the rest of a path: nothing after the empty text and
-- after `/`, else a slash
abbrev pub joint : List ℕ → List ℕ
joint folder =
    if bytes_eq folder (codes "") || bytes_eq folder (codes "/") then codes "" else codes "/"

-- the path of a file below a folder
abbrev pub joined : List ℕ → List ℕ → List ℕ
joined folder rest = folder ++ joint folder ++ rest
