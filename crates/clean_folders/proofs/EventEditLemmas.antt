-- An event that makes an operation edits a bug.
use Rattle.std.proofs.Common.{◌≡◌, ◌⊎◌, ◌∙◌, inl, inr, refl, sym, ap, subst, ℕ, List, [], ◌∷◌, codes, Contains, Option, Some, None, Result, Ok, Err}
use Rattle.std.specs.Option.{option_map}
use Rattle.gb_text.specs.Digits.{IsId}
use Rattle.gb_text.specs.Folder.{folder_of}
use Rattle.gb_text.specs.declared.id.Id.{Id}
use Rattle.gb_text.specs.declared.ruled.Line.{Line}
use Rattle.gb_text.specs.declared.ruled.Title.{Title}
use Rattle.gb_store.specs.Files.{Files, History, files_of}
use Rattle.bug_edits.specs.Given.{made}
use Rattle.bug_edits.specs.declared.moment.Moment.{Moment}
use Rattle.bug_ops.specs.declared.op.BugOp.{BugOp}
use Rattle.dag_entity.specs.declared.entity.Placed.{Placed}
use Rattle.remote_name.specs.Remotes.{remote_of}
use Rattle.words.specs.Pairs.{pair_of}
use Rattle.words.specs.Words.{asked_in, asked_of, exchange_in, exchange_of, person}
use Rattle.words.specs.declared.edit.Edit.{Edit as Edits}
use Rattle.words.specs.declared.edit.Edit.TheVariants as edit
use Rattle.words.specs.declared.pair.FolderPair.{FolderPair}
use Rattle.words.specs.declared.words.Asked.{Asked}
use Rattle.words.specs.declared.words.Asked.TheVariants as asked
use Rattle.words.specs.declared.words.Command.{Command}
use Rattle.words.specs.declared.words.Command.TheVariants as command
use Rattle.words.specs.declared.words.PeerCommand.{PeerCommand}
use Rattle.words.specs.declared.words.PeerCommand.TheVariants as peer_command
use Rattle.words.proofs.ArgumentLemmas.{all_plain}
use Rattle.words.proofs.AskLemmas.{asked_from, asked_with}
use Rattle.bug_run.specs.Run.{env_at}
use Rattle.operation_origins.specs.Origins.{EditAdds, IsMade}
use Rattle.world.specs.Folders.{world_folders}
use Rattle.world.specs.Plays.{HasBugs}
use Rattle.world.proofs.WordLemmas.{event_arguments_ask}
use Rattle.world_events.specs.Words.{arguments_for, folder_word, mail_text, user_text, verb_of, words_from}
use Rattle.world_events.specs.declared.act.Act.{Act}
use Rattle.world_events.specs.declared.act.Act.TheVariants.{UserNew, NewBug, Comment, Title as Retitle, Edit, Close, Reopen, LabelAdd, LabelRm, Noop, PackRefs, Pull, Push}
use Rattle.world_events.specs.declared.event.Event.{Event}
use Rattle.clean_folders.specs.Hashes.{EventMakes}
use Rattle.clean_folders.specs.WorldSeeds.{EditsABug}

-- ---- what is asked

-- the edit that is asked for, if one is
abbrev edits_by : Command → Option Edits
edits_by (command.Edit edits) = Some edits
edits_by _ = None

abbrev edits_in : Asked → Option Edits
edits_in (asked.Request request) = edits_by request.command
edits_in _ = None

-- what is asked makes no operation
abbrev MakesNothing : Asked → Type 0
MakesNothing asks = (folders : List (List ℕ)) (moment : Moment) (files : Files) (id : Id) (placed : Placed BugOp) → IsMade folders asks moment files id placed → ⊥

-- where no edit is asked for, or one that makes a person
no_edit : (asks : Asked) → edits_in asks ≡ None → MakesNothing asks
no_edit asks none folders moment files id placed was =
    let clash : None ≡ Some was.edits = sym none ∙ ap edits_in was.asked_for in cc clash

new_person : (asks : Asked) (name : Title) (email : Line) → edits_in asks ≡ Some (edit.UserNew name email) → MakesNothing asks
new_person asks name email is folders moment files id placed was =
    let both : Some (edit.UserNew name email) ≡ Some was.edits = sym is ∙ ap edits_in was.asked_for in
    let same : edit.UserNew name email ≡ was.edits = cc both in
    subst (λ (e : Edits). EditAdds (env_at moment was.folder) e files was.addition) (sym same) was.adds

person_nothing : (folder : Option (List ℕ)) (read : Result (Title × Line) ℕ) → MakesNothing (asked_in folder (made read (λ p. command.Edit (edit.UserNew p.0 p.1))))
person_nothing None read = no_edit (asked_in None (made read (λ p. command.Edit (edit.UserNew p.0 p.1)))) refl
person_nothing (Some folder) (Err place) = no_edit (asked_in (Some folder) (Err place)) refl
person_nothing (Some folder) (Ok p) = new_person (asked_in (Some folder) (Ok (command.Edit (edit.UserNew p.0 p.1)))) p.0 p.1 refl

pack_nothing : (folder : Option (List ℕ)) → MakesNothing (asked_in folder (Ok command.PackRefs))
pack_nothing None = no_edit (asked_in None (Ok command.PackRefs)) refl
pack_nothing (Some folder) = no_edit (asked_in (Some folder) (Ok command.PackRefs)) refl

peer_nothing : (own peer : Option (List ℕ)) (asks : Option PeerCommand) → MakesNothing (exchange_in own peer asks)
peer_nothing None peer asks = no_edit (exchange_in None peer asks) refl
peer_nothing (Some own) None asks = no_edit (exchange_in (Some own) None asks) refl
peer_nothing (Some own) (Some peer) asks = no_edit (exchange_of (pair_of own peer) asks) (by (pair_of own peer) asks)
  where
    by : (pair : Option FolderPair) (asks : Option PeerCommand) → edits_in (exchange_of pair asks) ≡ None
    by None asks = refl
    by (Some pair) None = refl
    by (Some pair) (Some given) = refl

-- ---- events

-- what an event asks makes no operation, if its command edits no bug
by_act : (act : Act) (folder number : ℕ) (bugs : List Id) (arguments : List (List ℕ)) → arguments_for act folder number bugs ≡ Some arguments
    → EditsABug act ⊎ MakesNothing (asked_from (folder_word folder) (verb_of act) (Some arguments))
by_act UserNew folder number bugs arguments e =
    let same : user_text folder ∷ mail_text folder ∷ [] ≡ arguments = cc e in
    inr (subst (λ (given : List (List ℕ)). MakesNothing (asked_from (folder_word folder) (codes "user-new") (Some given))) same
    (person_nothing (folder_of (folder_word folder)) (person (user_text folder) (mail_text folder))))
by_act NewBug folder number bugs arguments e = inl tt
by_act (Comment pick) folder number bugs arguments e = inl tt
by_act (Retitle pick) folder number bugs arguments e = inl tt
by_act (Edit pick) folder number bugs arguments e = inl tt
by_act (Close pick) folder number bugs arguments e = inl tt
by_act (Reopen pick) folder number bugs arguments e = inl tt
by_act (LabelAdd pick label) folder number bugs arguments e = inl tt
by_act (LabelRm pick label) folder number bugs arguments e = inl tt
by_act (Noop pick) folder number bugs arguments e = inl tt
by_act (Pull peer) folder number bugs arguments e =
    let same : folder_word peer ∷ folder_word peer ∷ [] ≡ arguments = cc e in
    inr (subst (λ (given : List (List ℕ)). MakesNothing (asked_from (folder_word folder) (codes "pull") (Some given))) same
    (peer_nothing (folder_of (folder_word folder)) (folder_of (folder_word peer)) (option_map peer_command.Pull (remote_of (folder_word peer)))))
by_act (Push peer) folder number bugs arguments e =
    let same : folder_word peer ∷ [] ≡ arguments = cc e in
    inr (subst (λ (given : List (List ℕ)). MakesNothing (asked_from (folder_word folder) (codes "push") (Some given))) same
    (peer_nothing (folder_of (folder_word folder)) (folder_of (folder_word peer)) (Some peer_command.Push)))
by_act PackRefs folder number bugs arguments e =
    let same : [] ≡ arguments = cc e in
    inr (subst (λ (given : List (List ℕ)). MakesNothing (asked_from (folder_word folder) (codes "pack-refs") (Some given))) same (pack_nothing (folder_of (folder_word folder))))

-- the bugs of a folder have ids
pub bugs_are_ids : (files : Files) (folder : ℕ) (bugs : List Id) → HasBugs files folder bugs → (id : Id) → Contains bugs id → IsId id
bugs_are_ids files folder bugs has id contained = ((has.are.members id).0 contained).0

pub makes_by_edit : (folders : ℕ) (event : Event) (old : History) → EventMakes folders event old → EditsABug event.act
makes_by_edit folders event old makes = by (arguments_for event.act event.folder event.number makes.bugs) refl makes.are
  where
    by : (o : Option (List (List ℕ))) → arguments_for event.act event.folder event.number makes.bugs ≡ o → option_map (words_from event) o ≡ Some makes.words → EditsABug event.act
    by None is e = cc e
    by (Some arguments) is e =
        let same : words_from event arguments ≡ makes.words = cc e in
        let ids = bugs_are_ids (files_of old) event.folder makes.bugs makes.has in
        let plain = (event_arguments_ask event makes.bugs arguments ids is).0 in
        let asks : asked_of makes.words ≡ asked_from (folder_word event.folder) (verb_of event.act) (Some arguments)
        = ap asked_of (sym same) ∙ asked_with (folder_word event.folder) (verb_of event.act) arguments arguments (all_plain arguments plain) in
        elim (by_act event.act event.folder event.number makes.bugs arguments is) [
          | inl edits ↦ edits
          | inr nothing ↦ absurd (nothing (world_folders folders) makes.moment (files_of old) makes.bug makes.placed
              (subst (λ (a : Asked). IsMade (world_folders folders) a makes.moment (files_of old) makes.bug makes.placed) asks makes.made))
        ]
