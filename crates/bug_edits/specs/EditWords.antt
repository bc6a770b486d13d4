-- Which arguments give an edit, and which rule each of them has to satisfy: by the edit's name, however the reading is built.
use Rattle.std.specs.Prelude.{◌≡◌, ◌≤◌, ◌+◌, ◌⊎◌, ◌&&◌, ◌||◌, ℕ, Bool, true, false, if◌then◌else◌, List, [], ◌∷◌, ◌++◌, length, map, codes, Contains, Option, option_and_then, Result}
use Rattle.std.specs.List.{list_all}
use Rattle.std.specs.Str.{bytes_eq, is_utf8}
use Rattle.gb_text.specs.Rules.{is_message_text, is_title_text}
use Rattle.bug_edits.specs.EditTable.{edit_from, name_read}
use Rattle.bug_edits.specs.declared.edit.BugEdit.{BugEdit}

-- ---- rules of arguments

-- an argument is a title
abbrev pub is_title_word : List ℕ → Bool
is_title_word word = is_utf8 word && is_title_text word

-- an argument is a message
abbrev pub is_message_word : List ℕ → Bool
is_message_word word = is_utf8 word && is_message_text word

-- an argument that finds something may be any
abbrev pub any_word : List ℕ → Bool
any_word word = true

-- whether each argument satisfies the rule for its place; those after the last rule satisfy another
abbrev pub kept_by : List (List ℕ → Bool) → (List ℕ → Bool) → List (List ℕ) → List Bool
kept_by rules others [] = []
kept_by [] others (word ∷ words) = others word ∷ kept_by [] others words
kept_by (rule ∷ rules) others (word ∷ words) = rule word ∷ kept_by rules others words

abbrev pub all_keep : List Bool → Bool
all_keep kept = list_all (λ keeps. keeps) kept

-- the first that does not satisfy its rule is at this place, counted from 1
pub record IsFirstBad (kept : List Bool) (place : ℕ) : Type 0 where
  pub before : List Bool
  pub after : List Bool
  pub are : kept ≡ before ++ false ∷ after
  pub all_before : all_keep before ≡ true
  pub counted : place ≡ length before + 1

-- ---- the edits

-- the names of edits, each with the rules of its arguments after that of the bug, in their order
abbrev pub edit_rules : List (List ℕ × List (List ℕ → Bool))
edit_rules =
    (codes "noop", []) ∷ (codes "close", []) ∷ (codes "open", []) ∷ (codes "comment", is_message_word ∷ []) ∷ (codes "title", is_title_word ∷ [])
    ∷ (codes "meta", is_title_word ∷ is_message_word ∷ []) ∷ []

-- the names of those that take one title or more
abbrev pub label_edits : List (List ℕ)
label_edits = codes "label-add" ∷ codes "label-rm" ∷ []

-- ---- what follows

-- the names of the first, each with the number of its arguments after that of the bug
abbrev pub counted_edits : List (List ℕ × ℕ)
counted_edits = map (λ r. (r.0, length r.1)) edit_rules

-- a name with so many arguments after that of the bug is an edit
abbrev pub IsCountedEdit : List ℕ → ℕ → Type 0
IsCountedEdit name count = Contains counted_edits (name, count) ⊎ ((1 ≤ count) × Contains label_edits name)

-- the rules of a name
abbrev pub rules_in : List (List ℕ × List (List ℕ → Bool)) → List ℕ → List (List ℕ → Bool)
rules_in [] name = []
rules_in (r ∷ more) name = if bytes_eq name r.0 then r.1 else rules_in more name

-- a name is among others
abbrev pub is_name_in : List (List ℕ) → List ℕ → Bool
is_name_in [] name = false
is_name_in (other ∷ more) name = bytes_eq name other || is_name_in more name

-- whether each argument of an edit after that of the bug satisfies its rule, in their order
abbrev pub edit_keeps : List ℕ → List (List ℕ) → List Bool
edit_keeps name words = if is_name_in label_edits name then kept_by [] is_title_word words else kept_by (rules_in edit_rules name) any_word words

-- and with that of the bug, which may be any
abbrev pub kept_of_bug : List ℕ → List (List ℕ) → List Bool
kept_of_bug name [] = []
kept_of_bug name (bug ∷ words) = any_word bug ∷ edit_keeps name words

-- the edit of a name with arguments after that of the bug, if there is one
abbrev pub edit_named : List ℕ → List (List ℕ) → Option (Result BugEdit ℕ)
edit_named name words = option_and_then (λ n. edit_from n words) (name_read name)
