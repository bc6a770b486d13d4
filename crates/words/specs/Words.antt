-- What arguments ask: a command, each argument read by its rule, in a folder; or what they alone refuse.
use Rattle.std.specs.Prelude.{ℕ, IsSome, List, [], ◌∷◌, codes, Option, Some, None, option_and_then, option_map, Result, Ok, Err}
use Rattle.std.specs.List.{join_by}
use Rattle.gb_text.specs.Folder.{folder_of}
use Rattle.gb_text.specs.Ruled.{line_of, message_of, title_of}
use Rattle.gb_text.specs.declared.ruled.Line.{Line}
use Rattle.gb_text.specs.declared.ruled.Title.{Title}
use Rattle.bug_edits.specs.EditTable.{edit_from}
use Rattle.bug_edits.specs.Given.{at, made, made_of_two}
use Rattle.bug_edits.specs.declared.edit.BugEdit.{BugEdit}
use Rattle.query.specs.Reading.{query_of}
use Rattle.query.specs.declared.fault.QueryFault.{QueryFault}
use Rattle.query.specs.declared.fault.QueryFault.TheVariants as fault
use Rattle.query.specs.declared.query.Query.{Query}
use Rattle.remote_name.specs.Remotes.{remote_of}
use Rattle.remote_name.specs.declared.remote.RemoteName.{RemoteName}
use Rattle.words.specs.Arguments.{arguments_of}
use Rattle.words.specs.Pairs.{pair_of}
use Rattle.words.specs.declared.pair.FolderPair.{FolderPair}
use Rattle.words.specs.declared.edit.Edit.TheVariants.{New, OfBug, OfComment, UserEdit, UserNew, UserSet}
use Rattle.words.specs.declared.list.BadQuery.{BadQuery}
use Rattle.words.specs.declared.list.BadQuery.TheVariants.{BadValue, OpenQuote, UnknownField}
use Rattle.words.specs.declared.list.Layout.{Layout}
use Rattle.words.specs.declared.list.Layout.TheVariants.{Board, Lines}
use Rattle.words.specs.Verbs.{verb_of}
use Rattle.words.specs.declared.verb.Verb.{Verb}
use Rattle.words.specs.declared.verb.Verb.TheVariants as verb
use Rattle.words.specs.declared.words.Asked.{Asked}
use Rattle.words.specs.declared.words.Asked.TheVariants as asked
use Rattle.words.specs.declared.words.BadWord.TheVariants as bad_word
use Rattle.words.specs.declared.words.BadWord.TheVariants.{BadFolder, BadRemoteName, BadText, SameFolder}
use Rattle.words.specs.declared.words.Command.{Command}
use Rattle.words.specs.declared.words.Command.TheVariants.{Edit, Log, PackRefs, Show, Users}
use Rattle.words.specs.declared.words.PeerCommand.{PeerCommand}
use Rattle.words.specs.declared.words.PeerCommand.TheVariants.{Fetch, Pull, Push}

-- ---- commands

-- an edit of the bug that an argument finds
abbrev pub of_bug : List ℕ → BugEdit → Command
of_bug bug e = Edit (OfBug bug e)

-- a person's name and email, which are a title and a line
abbrev pub person : List ℕ → List ℕ → Result (Title × Line) ℕ
person one two = made_of_two (at 1 (title_of one)) (at 2 (line_of two)) (λ name email. (name, email))

-- a new bug with a title and a message
abbrev pub new_bug : List ℕ → List ℕ → Result Command ℕ
new_bug one two = made_of_two (at 1 (title_of one)) (at 2 (message_of two)) (λ title message. Edit (New title message))

-- another message of the comment that an argument finds
abbrev pub edited_comment : List ℕ → List ℕ → Result Command ℕ
edited_comment one two = made (at 2 (message_of two)) (λ message. Edit (OfComment one message))

-- what is read of an edit of the bug that an argument finds
abbrev pub edit_of_bug : List ℕ → Option (Result BugEdit ℕ) → Option (Result Command ℕ)
edit_of_bug bug None = None
edit_of_bug bug (Some read) = Some (made read (of_bug bug))

-- This command with these arguments, or the place of the first that breaks its rule; none where they are not those that it takes.
abbrev pub by_verb : Verb → List (List ℕ) → Option (Result Command ℕ)
by_verb verb.UserNew (one ∷ two ∷ []) = Some (made (person one two) (λ p. Edit (UserNew p.0 p.1)))
by_verb verb.UserEdit (one ∷ two ∷ []) = Some (made (person one two) (λ p. Edit (UserEdit p.0 p.1)))
by_verb verb.UserSet (one ∷ []) = Some (Ok (Edit (UserSet one)))
by_verb verb.Users [] = Some (Ok Users)
by_verb verb.New (one ∷ two ∷ []) = Some (new_bug one two)
by_verb (verb.OfBug edit) (bug ∷ words) = edit_of_bug bug (edit_from edit words)
by_verb verb.Edit (one ∷ two ∷ []) = Some (edited_comment one two)
by_verb verb.Show (bug ∷ []) = Some (Ok (Show bug))
by_verb verb.Log (bug ∷ []) = Some (Ok (Log bug))
by_verb verb.PackRefs [] = Some (Ok PackRefs)
by_verb _ _ = None

-- the command of a name, if there is one, with these arguments
abbrev pub command_of : List ℕ → List (List ℕ) → Option (Result Command ℕ)
command_of name arguments = option_and_then (λ v. by_verb v arguments) (verb_of name)

-- the same with the arguments that the rest gives, if none of it is refused
abbrev pub command_from : List ℕ → List (List ℕ) → Option (Result Command ℕ)
command_from name rest = option_and_then (command_of name) (arguments_of rest)

-- ---- requests

-- a command in a folder: a bad folder is refused before an argument
abbrev pub asked_in : Option (List ℕ) → Result Command ℕ → Asked
asked_in None command = asked.Refused BadFolder
asked_in (Some folder) (Err place) = asked.Refused (BadText place)
asked_in (Some folder) (Ok command) = asked.Request (record { folder = folder; command = command })

-- ---- commands with a peer

-- What this command does with a peer, and the argument for the peer; none where these are not its arguments. The remote may be no name.
abbrev pub peer_by_verb : Verb → List (List ℕ) → Option (List ℕ × Option PeerCommand)
peer_by_verb verb.Fetch (remote ∷ peer ∷ []) = Some (peer, option_map Fetch (remote_of remote))
peer_by_verb verb.Pull (remote ∷ peer ∷ []) = Some (peer, option_map Pull (remote_of remote))
peer_by_verb verb.Push (peer ∷ []) = Some (peer, Some Push)
peer_by_verb _ _ = None

-- the same of the name of a command, if there is one
abbrev pub peer_command_of : List ℕ → List (List ℕ) → Option (List ℕ × Option PeerCommand)
peer_command_of name arguments = option_and_then (λ v. peer_by_verb v arguments) (verb_of name)

-- the same with the arguments that the rest gives, if none of it is refused
abbrev pub peer_command_from : List ℕ → List (List ℕ) → Option (List ℕ × Option PeerCommand)
peer_command_from name rest = option_and_then (peer_command_of name) (arguments_of rest)

-- between two folders: those that overlap are refused before a remote that is no name
abbrev pub exchange_of : Option FolderPair → Option PeerCommand → Asked
exchange_of None command = asked.Refused SameFolder
exchange_of (Some pair) None = asked.Refused BadRemoteName
exchange_of (Some pair) (Some command) = asked.Exchange (record { pair = pair; command = command })

-- between folders that may be bad: these are refused first
abbrev pub exchange_in : Option (List ℕ) → Option (List ℕ) → Option PeerCommand → Asked
exchange_in None peer command = asked.Refused BadFolder
exchange_in (Some own) None command = asked.Refused BadFolder
exchange_in (Some own) (Some peer) command = exchange_of (pair_of own peer) command

-- ---- merges

-- The remote of this command, if it is a merge; none where these are not its arguments. The remote may be no name.
abbrev pub merge_by_verb : Verb → List (List ℕ) → Option (Option RemoteName)
merge_by_verb verb.Merge (remote ∷ []) = Some (remote_of remote)
merge_by_verb _ _ = None

-- the same of the name of a command, if there is one
abbrev pub merge_command_of : List ℕ → List (List ℕ) → Option (Option RemoteName)
merge_command_of name arguments = option_and_then (λ v. merge_by_verb v arguments) (verb_of name)

-- the same with the arguments that the rest gives, if none of it is refused
abbrev pub merge_command_from : List ℕ → List (List ℕ) → Option (Option RemoteName)
merge_command_from name rest = option_and_then (merge_command_of name) (arguments_of rest)

-- in a folder: a bad one is refused before a remote that is no name
abbrev pub merge_in : Option (List ℕ) → Option RemoteName → Asked
merge_in None remote = asked.Refused BadFolder
merge_in (Some folder) None = asked.Refused BadRemoteName
merge_in (Some folder) (Some remote) = asked.Merge (record { folder = folder; remote = remote })

-- ---- lists of bugs

-- the arguments as one text, with one space between each two
abbrev pub spaced : List (List ℕ) → List ℕ
spaced arguments = join_by (λ argument. argument) (codes " ") arguments

-- a query that is read of a text, or why it is refused; memory is no fault of a text
abbrev pub query_or_bad : Result Query QueryFault → Option (Result Query BadQuery)
query_or_bad (Ok query) = Some (Ok query)
query_or_bad (Err fault.Memory) = None
query_or_bad (Err (fault.UnknownField place)) = Some (Err (UnknownField place))
query_or_bad (Err (fault.BadValue place)) = Some (Err (BadValue place))
query_or_bad (Err (fault.OpenQuote place)) = Some (Err (OpenQuote place))

-- a list in a layout, by the query that the arguments give
abbrev pub list_of : Layout → List (List ℕ) → Option (Layout × Result Query BadQuery)
list_of layout arguments = option_map (λ query. (layout, query)) (query_or_bad (query_of (spaced arguments)))

-- The layout and the query of this command, if it is a list. The query may be refused.
abbrev pub list_by_verb : Verb → List (List ℕ) → Option (Layout × Result Query BadQuery)
list_by_verb verb.Ls arguments = list_of Lines arguments
list_by_verb verb.Board arguments = list_of Board arguments
list_by_verb _ _ = None

-- the same of the name of a command, if there is one
abbrev pub list_command_of : List ℕ → List (List ℕ) → Option (Layout × Result Query BadQuery)
list_command_of name arguments = option_and_then (λ v. list_by_verb v arguments) (verb_of name)

-- the same with the arguments that the rest gives, if none of it is refused
abbrev pub list_command_from : List ℕ → List (List ℕ) → Option (Layout × Result Query BadQuery)
list_command_from name rest = option_and_then (list_command_of name) (arguments_of rest)

-- in a folder: a bad one is refused before a bad query
abbrev pub list_in : Option (List ℕ) → Layout → Result Query BadQuery → Asked
list_in None layout query = asked.Refused BadFolder
list_in (Some folder) layout (Err bad) = asked.Refused (bad_word.BadQuery bad)
list_in (Some folder) layout (Ok query) = asked.List (record { folder = folder; layout = layout; query = query })

-- ---- what is asked

-- by what the arguments after the folder give: a command in the folder, or one with a peer, or a merge, or a list, or none of these
abbrev pub asked_by : Option (List ℕ) → Option (Result Command ℕ) → Option (List ℕ × Option PeerCommand) → Option (Option RemoteName) → Option (Layout × Result Query BadQuery) → Asked
asked_by folder None None None None = asked.Nothing
asked_by folder None None None (Some list) = list_in folder list.0 list.1
asked_by folder None None (Some remote) list = merge_in folder remote
asked_by folder None (Some p) merge list = exchange_in folder (folder_of p.0) p.1
asked_by folder (Some command) p merge list = asked_in folder command

-- What arguments ask: of a folder, the name of a command and the rest. Nothing where they give no command.
abbrev pub asked_of : List (List ℕ) → Asked
asked_of (folder ∷ name ∷ rest) = asked_by (folder_of folder) (command_from name rest) (peer_command_from name rest) (merge_command_from name rest) (list_command_from name rest)
asked_of _ = asked.Nothing

-- the second argument is the name of a command
abbrev pub NamesCommand : List (List ℕ) → Type 0
NamesCommand (folder ∷ name ∷ rest) = IsSome (verb_of name)
NamesCommand _ = ⊥
