-- The names of commands.
use Rattle.std.specs.Prelude.{ℕ, List, codes, find, Option, Some, None}
use Rattle.std.specs.Option.{option_or}
use Rattle.std.specs.Str.{bytes_eq}
use Rattle.bug_edits.specs.EditTable.{name_of as name_of_edit, name_read}
use Rattle.bug_edits.specs.declared.names.EditName.{EditName}
use Rattle.words.specs.declared.verb.TheConstants.{FIRST_VERBS, LAST_VERBS}
use Rattle.words.specs.declared.verb.Verb.{Verb}
use Rattle.words.specs.declared.verb.Verb.TheVariants as verb

-- the name of a command
abbrev pub name_of : Verb → List ℕ
name_of verb.UserNew = codes "user-new"
name_of verb.UserEdit = codes "user-edit"
name_of verb.UserSet = codes "user-set"
name_of verb.Users = codes "users"
name_of verb.New = codes "new"
name_of (verb.OfBug edit) = name_of_edit edit
name_of verb.Edit = codes "edit"
name_of verb.Show = codes "show"
name_of verb.Log = codes "log"
name_of verb.Ls = codes "ls"
name_of verb.Board = codes "board"
name_of verb.Fetch = codes "fetch"
name_of verb.Merge = codes "merge"
name_of verb.Pull = codes "pull"
name_of verb.Push = codes "push"
name_of verb.PackRefs = codes "pack-refs"

-- the one of these that has a name, if there is one
abbrev pub verb_among : List Verb → List ℕ → Option Verb
verb_among verbs name = find (λ v. bytes_eq (name_of v) name) verbs

-- a command that is no edit of a bug
abbrev pub other_of : List ℕ → Option Verb
other_of name = option_or (verb_among FIRST_VERBS name) (verb_among LAST_VERBS name)

-- an edit of a bug
abbrev pub of_edit : Option EditName → Option Verb
of_edit None = None
of_edit (Some edit) = Some (verb.OfBug edit)

-- the command of a name, if there is one
abbrev pub verb_of : List ℕ → Option Verb
verb_of name = option_or (other_of name) (of_edit (name_read name))
