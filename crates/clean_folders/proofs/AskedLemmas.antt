-- No event asks for an edit of an identity, and only one command of events asks for a new one.
use Rattle.std.proofs.Common.{◌≡◌, ◌≢◌, ◌⊎◌, inl, inr, refl, subst, ℕ, List, [], ◌∷◌, Option, Some, None, Result, Ok, Err}
use Rattle.std.specs.Prelude.{⊤, option_and_then}
use Rattle.std.specs.Option.{option_map}
use Rattle.gb_text.specs.Folder.{folder_of}
use Rattle.gb_text.specs.Ruled.{message_of, title_of}
use Rattle.gb_text.specs.declared.id.Id.{Id}
use Rattle.gb_text.specs.declared.ruled.Line.{Line}
use Rattle.gb_text.specs.declared.ruled.Title.{Title}
use Rattle.bug_edits.specs.EditTable.{edit_from}
use Rattle.bug_edits.specs.Given.{at, made, made_of_two}
use Rattle.bug_edits.specs.declared.edit.BugEdit.{BugEdit}
use Rattle.bug_edits.specs.declared.names.EditName.{EditName}
use Rattle.bug_edits.specs.declared.names.EditName.TheVariants as named
use Rattle.query.specs.declared.query.Query.{Query}
use Rattle.remote_name.specs.declared.remote.RemoteName.{RemoteName}
use Rattle.words.specs.Arguments.{arguments_of}
use Rattle.words.specs.Pairs.{pair_of}
use Rattle.words.specs.Words.{asked_by, asked_in, asked_of, by_verb, command_from, command_of, edit_of_bug, exchange_in, exchange_of, list_command_from, list_in, merge_command_from, merge_in, of_bug, peer_command_from, person}
use Rattle.words.specs.declared.edit.Edit.TheVariants as edit
use Rattle.words.specs.declared.list.BadQuery.{BadQuery}
use Rattle.words.specs.declared.list.Layout.{Layout}
use Rattle.words.specs.declared.pair.FolderPair.{FolderPair}
use Rattle.words.specs.declared.verb.Verb.TheVariants as verb
use Rattle.words.specs.declared.words.Asked.{Asked}
use Rattle.words.specs.declared.words.Asked.TheVariants as asked
use Rattle.words.specs.declared.words.Command.{Command}
use Rattle.words.specs.declared.words.Command.TheVariants as command
use Rattle.words.specs.declared.words.PeerCommand.{PeerCommand}
use Rattle.words.specs.declared.words.Request.{Request}
use Rattle.world_events.specs.Words.{arguments_for, folder_word, verb_of, words_from, words_of}
use Rattle.world_events.specs.declared.act.Act.{Act}
use Rattle.world_events.specs.declared.act.Act.TheVariants.{UserNew, NewBug, Comment, Title as Retitle, Edit, Close, Reopen, LabelAdd, LabelRm, Noop, PackRefs, Pull, Push}
use Rattle.world_events.specs.declared.event.Event.{Event}
use Rattle.clean_folders.specs.WorldPeople.{MakesAPerson}

-- ---- what is asked

-- a command makes no identity
abbrev MakesNone : Command → Type 0
MakesNone asks = (name : Title) (email : Line) → asks ≢ command.Edit (edit.UserNew name email)

-- and edits none
abbrev EditsNone : Command → Type 0
EditsNone asks = (name : Title) (email : Line) → asks ≢ command.Edit (edit.UserEdit name email)

abbrev IsOther : Command → Type 0
IsOther asks = MakesNone asks × EditsNone asks

-- so is the command that is asked for in a folder, if one is
abbrev pub AsksFor : (Command → Type 0) → Asked → Type 0
AsksFor Fits asks = (request : Request) → asks ≡ asked.Request request → Fits request.command

module _ (Fits : Command → Type 0) where
  -- and one that is read
  abbrev Reads : Result Command ℕ → Type 0
  Reads (Ok asks) = Fits asks
  Reads (Err place) = ⊤

  abbrev Gives : Option (Result Command ℕ) → Type 0
  Gives None = ⊤
  Gives (Some read) = Reads read

  in_folder : (folder : Option (List ℕ)) (read : Result Command ℕ) → Reads read → AsksFor Fits (asked_in folder read)
  in_folder None read fits request e = cc e
  in_folder (Some folder) (Err place) fits request e = cc e
  in_folder (Some folder) (Ok asks) fits request e =
      let same : record { folder = folder; command = asks } ≡ request = cc e in
      subst (λ (r : Request). Fits r.command) same fits

  of_pair : (pair : Option FolderPair) (asks : Option PeerCommand) → AsksFor Fits (exchange_of pair asks)
  of_pair None asks request e = cc e
  of_pair (Some pair) None request e = cc e
  of_pair (Some pair) (Some asks) request e = cc e

  in_folders : (own peer : Option (List ℕ)) (asks : Option PeerCommand) → AsksFor Fits (exchange_in own peer asks)
  in_folders None peer asks request e = cc e
  in_folders (Some own) None asks request e = cc e
  in_folders (Some own) (Some peer) asks request e = of_pair (pair_of own peer) asks request e

  of_merge : (folder : Option (List ℕ)) (remote : Option RemoteName) → AsksFor Fits (merge_in folder remote)
  of_merge None remote request e = cc e
  of_merge (Some folder) None request e = cc e
  of_merge (Some folder) (Some remote) request e = cc e

  of_list : (folder : Option (List ℕ)) (layout : Layout) (query : Result Query BadQuery) → AsksFor Fits (list_in folder layout query)
  of_list None layout query request e = cc e
  of_list (Some folder) layout (Err bad) request e = cc e
  of_list (Some folder) layout (Ok query) request e = cc e

  by_all : (folder : Option (List ℕ)) (asks : Option (Result Command ℕ)) (p : Option (List ℕ × Option PeerCommand)) (merge : Option (Option RemoteName)) (list : Option (Layout × Result Query BadQuery))
      → Gives asks → AsksFor Fits (asked_by folder asks p merge list)
  by_all folder (Some read) p merge list fits = in_folder folder read fits
  by_all folder None (Some p) merge list fits = in_folders folder (folder_of p.0) p.1
  by_all folder None None (Some remote) list fits = of_merge folder remote
  by_all folder None None None (Some list) fits = of_list folder list.0 list.1
  by_all folder None None None None fits = λ request e. cc e

  -- a name that gives only such commands asks for such ones
  asks : (folder name : List ℕ) (rest : List (List ℕ)) → ((arguments : List (List ℕ)) → Gives (command_of name arguments)) → AsksFor Fits (asked_of (folder ∷ name ∷ rest))
  asks folder name rest each =
      by_all (folder_of folder) (command_from name rest) (peer_command_from name rest) (merge_command_from name rest) (list_command_from name rest) (from (arguments_of rest))
    where
      from : (o : Option (List (List ℕ))) → Gives (option_and_then (command_of name) o)
      from None = tt
      from (Some arguments) = each arguments

  -- ---- commands that are read

  of_one : {A : Type 0} (read : Result A ℕ) (make : A → Command) → ((a : A) → Fits (make a)) → Reads (made read make)
  of_one (Ok a) make fits = fits a
  of_one (Err place) make fits = tt

  of_two : {A B : Type 0} (one : Result A ℕ) (two : Result B ℕ) (make : A → B → Command) → ((a : A) (b : B) → Fits (make a b)) → Reads (made_of_two one two make)
  of_two (Ok a) (Ok b) make fits = fits a b
  of_two (Ok a) (Err place) make fits = tt
  of_two (Err place) two make fits = tt

-- a new identity is no edit of one
user_gives : (arguments : List (List ℕ)) → Gives EditsNone (by_verb verb.UserNew arguments)
user_gives [] = tt
user_gives (one ∷ []) = tt
user_gives (one ∷ two ∷ []) = of_one EditsNone (person one two) (λ p. command.Edit (edit.UserNew p.0 p.1)) (λ p name email e. cc e)
user_gives (one ∷ two ∷ three ∷ more) = tt

new_gives : (arguments : List (List ℕ)) → Gives IsOther (by_verb verb.New arguments)
new_gives [] = tt
new_gives (one ∷ []) = tt
new_gives (one ∷ two ∷ []) =
    of_two IsOther (at 1 (title_of one)) (at 2 (message_of two)) (λ title message. command.Edit (edit.New title message)) (λ title message. (λ name email e. cc e, λ name email e. cc e))
new_gives (one ∷ two ∷ three ∷ more) = tt

bug_gives : (name : EditName) (arguments : List (List ℕ)) → Gives IsOther (by_verb (verb.OfBug name) arguments)
bug_gives name [] = tt
bug_gives name (bug ∷ arguments) = by (edit_from name arguments)
  where
    by : (read : Option (Result BugEdit ℕ)) → Gives IsOther (edit_of_bug bug read)
    by None = tt
    by (Some read) = of_one IsOther read (of_bug bug) (λ e. (λ name email same. cc same, λ name email same. cc same))

edit_gives : (arguments : List (List ℕ)) → Gives IsOther (by_verb verb.Edit arguments)
edit_gives [] = tt
edit_gives (one ∷ []) = tt
edit_gives (one ∷ two ∷ []) =
    of_one IsOther (at 2 (message_of two)) (λ message. command.Edit (edit.OfComment one message)) (λ message. (λ name email e. cc e, λ name email e. cc e))
edit_gives (one ∷ two ∷ three ∷ more) = tt

pack_gives : (arguments : List (List ℕ)) → Gives IsOther (by_verb verb.PackRefs arguments)
pack_gives [] = (λ name email e. cc e, λ name email e. cc e)
pack_gives (one ∷ more) = tt

-- ---- events

-- the command of an event makes an identity, or neither makes nor edits one
of_act : (act : Act) → (MakesAPerson act × ((arguments : List (List ℕ)) → Gives EditsNone (command_of (verb_of act) arguments))) ⊎ ((arguments : List (List ℕ)) → Gives IsOther (command_of (verb_of act) arguments))
of_act UserNew = inl (tt, user_gives)
of_act NewBug = inr new_gives
of_act (Comment pick) = inr (bug_gives named.Comment)
of_act (Retitle pick) = inr (bug_gives named.Title)
of_act (Edit pick) = inr edit_gives
of_act (Close pick) = inr (bug_gives named.Close)
of_act (Reopen pick) = inr (bug_gives named.Open)
of_act (LabelAdd pick label) = inr (bug_gives named.LabelAdd)
of_act (LabelRm pick label) = inr (bug_gives named.LabelRm)
of_act (Noop pick) = inr (bug_gives named.Noop)
of_act (Pull peer) = inr (λ arguments. tt)
of_act (Push peer) = inr (λ arguments. tt)
of_act PackRefs = inr pack_gives

-- what an event asks: no edit of an identity, and a new one only by its command
abbrev AsksOfPeople : Event → Asked → Type 0
AsksOfPeople event asks = AsksFor EditsNone asks × (MakesAPerson event.act ⊎ AsksFor MakesNone asks)

of_event : (event : Event) (bugs : List Id) (words : List (List ℕ)) → words_of event bugs ≡ Some words → AsksOfPeople event (asked_of words)
of_event event bugs words are = by (arguments_for event.act event.folder event.number bugs) are
  where
    from : (arguments : List (List ℕ)) → AsksOfPeople event (asked_of (words_from event arguments))
    from arguments = elim (of_act event.act) [
      | inl is ↦ (asks EditsNone (folder_word event.folder) (verb_of event.act) arguments is.1, inl is.0)
      | inr other ↦
          let both = asks IsOther (folder_word event.folder) (verb_of event.act) arguments other in
          (λ request e. (both request e).1, inr (λ request e. (both request e).0))
    ]

    by : (o : Option (List (List ℕ))) → option_map (words_from event) o ≡ Some words → AsksOfPeople event (asked_of words)
    by None e = cc e
    by (Some arguments) e =
        let same : words_from event arguments ≡ words = cc e in
        subst (λ (given : List (List ℕ)). AsksOfPeople event (asked_of given)) same (from arguments)

-- no event asks for an edit of an identity
pub edits_none : (event : Event) (bugs : List Id) (words : List (List ℕ)) (folder : List ℕ) (name : Title) (email : Line) → words_of event bugs ≡ Some words
    → asked_of words ≢ asked.Request (record { folder = folder; command = command.Edit (edit.UserEdit name email) })
edits_none event bugs words folder name email are is = (of_event event bugs words are).0 (record { folder = folder; command = command.Edit (edit.UserEdit name email) }) is name email refl

-- one that asks for a new identity has the command for it
pub makes_by_act : (event : Event) (bugs : List Id) (words : List (List ℕ)) (folder : List ℕ) (name : Title) (email : Line) → words_of event bugs ≡ Some words
    → asked_of words ≡ asked.Request (record { folder = folder; command = command.Edit (edit.UserNew name email) }) → MakesAPerson event.act
makes_by_act event bugs words folder name email are is = elim (of_event event bugs words are).1 [
  | inl makes ↦ makes
  | inr none ↦ absurd (none (record { folder = folder; command = command.Edit (edit.UserNew name email) }) is name email refl)
]
