-- What commands ask for, and in which order arguments are judged.
use Rattle.std.proofs.Common.{◌≡◌, ◌≤◌, ◌<◌, ◌∙◌, refl, sym, ap, ap₂, ℕ, List, [], ◌∷◌, ◌-◌, length, get_or, take, drop, map, codes, arith, IsSome, Option, Some, None, Result, Ok, Err}
use Rattle.std.specs.Prelude.{option_and_then}
use Rattle.gb_text.specs.Folder.{folder_of}
use Rattle.gb_text.specs.Ruled.{line_of, message_of, title_of}
use Rattle.gb_text.specs.declared.ruled.Line.{Line}
use Rattle.gb_text.specs.declared.ruled.Message.{Message}
use Rattle.gb_text.specs.declared.ruled.Title.{Title}
use Rattle.gb_text.proofs.RuledLemmas.{the_line, the_message, the_title}
use Rattle.bug_edits.specs.EditTable.{name_of as name_of_edit, row_of}
use Rattle.bug_edits.specs.Given.{HasTitles, at, given_texts, made}
use Rattle.bug_edits.specs.declared.edit.BugEdit.{BugEdit}
use Rattle.bug_edits.proofs.ArgumentLemmas.{begin_with_two}
use Rattle.bug_edits.proofs.GivenLemmas.{both}
use Rattle.bug_edits.proofs.ReadLemmas.{row_named, some_is}
use Rattle.words.specs.Arguments.{arguments_of}
use Rattle.words.specs.Verbs.{verb_of}
use Rattle.words.specs.Words.{asked_by, asked_in, asked_of, by_verb, command_of, list_by_verb, list_command_of, merge_by_verb, merge_command_of, of_bug, peer_by_verb, peer_command_of}
use Rattle.words.specs.declared.edit.Edit.TheVariants as edits
use Rattle.words.specs.declared.words.Asked.{Asked}
use Rattle.words.specs.declared.words.Asked.TheVariants as asked
use Rattle.words.specs.declared.words.BadWord.TheVariants.{BadFolder, BadText}
use Rattle.words.specs.declared.words.Command.{Command}
use Rattle.words.specs.declared.words.Command.TheVariants as ask
use Rattle.words.proofs.VerbLemmas.{edit_command}

-- ---- commands

pub user_new : (name : Title) (email : Line) → command_of (codes "user-new") (name.text ∷ email.text ∷ []) ≡ Some (Ok (ask.Edit (edits.UserNew name email)))
user_new name email =
    ap (λ r. Some (made r (λ p. ask.Edit (edits.UserNew p.0 p.1)))) (both 1 2 (title_of name.text) (line_of email.text) name email (λ n e. (n, e)) (the_title name) (the_line email))

pub user_edit : (name : Title) (email : Line) → command_of (codes "user-edit") (name.text ∷ email.text ∷ []) ≡ Some (Ok (ask.Edit (edits.UserEdit name email)))
user_edit name email =
    ap (λ r. Some (made r (λ p. ask.Edit (edits.UserEdit p.0 p.1)))) (both 1 2 (title_of name.text) (line_of email.text) name email (λ n e. (n, e)) (the_title name) (the_line email))

pub new : (title : Title) (message : Message) → command_of (codes "new") (title.text ∷ message.text ∷ []) ≡ Some (Ok (ask.Edit (edits.New title message)))
new title message =
    ap Some (both 1 2 (title_of title.text) (message_of message.text) title message (λ t m. ask.Edit (edits.New t m)) (the_title title) (the_message message))

pub edit_comment : (comment : List ℕ) (message : Message) → command_of (codes "edit") (comment ∷ message.text ∷ []) ≡ Some (Ok (ask.Edit (edits.OfComment comment message)))
edit_comment comment message = ap (λ o. Some (made (at 2 o) (λ read. ask.Edit (edits.OfComment comment read)))) (the_message message)

-- each edit is asked for by the name and the arguments of its row
pub each : (bug : List ℕ) (e : BugEdit) → HasTitles (row_of e).words → command_of (name_of_edit (row_of e).name) (bug ∷ given_texts (row_of e).words) ≡ Some (Ok (of_bug bug e))
each bug e some = edit_command (name_of_edit (row_of e).name) bug (given_texts (row_of e).words) (Ok e) (row_named e some)

-- ---- the order of refusals

-- what is asked, by the arguments after the name, if none of them is refused
abbrev pub asked_from : List ℕ → List ℕ → Option (List (List ℕ)) → Asked
asked_from folder name given =
    asked_by (folder_of folder) (option_and_then (command_of name) given) (option_and_then (peer_command_of name) given) (option_and_then (merge_command_of name) given)
    (option_and_then (list_command_of name) given)

pub refused_argument : (folder name : List ℕ) (rest : List (List ℕ)) → arguments_of rest ≡ None → asked_of (folder ∷ name ∷ rest) ≡ asked.Nothing
refused_argument folder name rest none = ap (asked_from folder name) none

-- what is asked, by the arguments that are taken
pub asked_with : (folder name : List ℕ) (rest arguments : List (List ℕ)) → arguments_of rest ≡ Some arguments
    → asked_of (folder ∷ name ∷ rest) ≡ asked_from folder name (Some arguments)
asked_with folder name rest arguments are = ap (asked_from folder name) are

pub asks_nothing : (folder name : List ℕ) (rest arguments : List (List ℕ)) → arguments_of rest ≡ Some arguments → command_of name arguments ≡ None → peer_command_of name arguments ≡ None
    → merge_command_of name arguments ≡ None → list_command_of name arguments ≡ None → asked_of (folder ∷ name ∷ rest) ≡ asked.Nothing
asks_nothing folder name rest arguments are none no_peer no_merge no_list =
    asked_with folder name rest arguments are
    ∙ ap₂ (λ c p. asked_by (folder_of folder) c p (merge_command_of name arguments) (list_command_of name arguments)) none no_peer
    ∙ ap₂ (asked_by (folder_of folder) None None) no_merge no_list

-- what is asked in one folder, by a command that is given
asked_here : (folder name : List ℕ) (rest arguments : List (List ℕ)) (read : Result Command ℕ) → arguments_of rest ≡ Some arguments → command_of name arguments ≡ Some read
    → asked_of (folder ∷ name ∷ rest) ≡ asked_in (folder_of folder) read
asked_here folder name rest arguments read are is =
    asked_with folder name rest arguments are ∙ ap (λ o. asked_by (folder_of folder) o (peer_command_of name arguments) (merge_command_of name arguments) (list_command_of name arguments)) is

pub bad_folder : (folder name : List ℕ) (rest arguments : List (List ℕ)) → arguments_of rest ≡ Some arguments → IsSome (command_of name arguments) → folder_of folder ≡ None
    → asked_of (folder ∷ name ∷ rest) ≡ asked.Refused BadFolder
bad_folder folder name rest arguments are some bad =
    let read = some_is (command_of name arguments) some in
    asked_here folder name rest arguments read.0 are read.1 ∙ ap (λ f. asked_in f read.0) bad

pub bad_place : (folder name : List ℕ) (rest arguments : List (List ℕ)) (read : List ℕ) (place : ℕ) → arguments_of rest ≡ Some arguments → folder_of folder ≡ Some read
    → command_of name arguments ≡ Some (Err place) → asked_of (folder ∷ name ∷ rest) ≡ asked.Refused (BadText place)
bad_place folder name rest arguments read place are good bad = asked_here folder name rest arguments (Err place) are bad ∙ ap (λ f. asked_in f (Err place)) good

pub requested : (folder name : List ℕ) (rest arguments : List (List ℕ)) (read : List ℕ) (command : Command) → arguments_of rest ≡ Some arguments → folder_of folder ≡ Some read
    → command_of name arguments ≡ Some (Ok command) → asked_of (folder ∷ name ∷ rest) ≡ asked.Request (record { folder = read; command = command })
requested folder name rest arguments read command are good is = asked_here folder name rest arguments (Ok command) are is ∙ ap (λ f. asked_in f (Ok command)) good

-- ---- words

-- fewer than two give no command
pub too_few : {X : Type 0} (bytes : X → List ℕ) (words : List X) → length words < 2 → asked.Nothing ≡ asked_of (map bytes words)
too_few bytes [] few = refl
too_few bytes (a ∷ []) few = refl
too_few bytes (a ∷ b ∷ more) few = absurd (omega (arith, few))

-- a second that is no command's name gives none
pub no_verb : {X : Type 0} (bytes : X → List ℕ) (words : List X) (folder name : X) (text : List ℕ) → 2 ≤ length words → folder ≡ get_or words 0 folder → name ≡ get_or words 1 name → text ≡ bytes name
    → verb_of text ≡ None → asked.Nothing ≡ asked_of (map bytes words)
no_verb bytes words folder name text least is_folder is_name is_text none =
    let rest = map bytes (take (length words - 2) (drop 2 words)) in
    by (arguments_of rest) ∙ ap (λ xs. asked_of (map bytes xs)) (sym (begin_with_two words folder name least is_folder is_name))
  where
    by : (given : Option (List (List ℕ))) → asked.Nothing ≡ asked_from (bytes folder) (bytes name) given
    by None = refl
    by (Some arguments) =
        ap
        (λ v. asked_by (folder_of (bytes folder)) (option_and_then (λ w. by_verb w arguments) v) (option_and_then (λ w. peer_by_verb w arguments) v) (option_and_then (λ w. merge_by_verb w arguments) v)
        (option_and_then (λ w. list_by_verb w arguments) v))
        (sym (ap verb_of (sym is_text) ∙ none))
