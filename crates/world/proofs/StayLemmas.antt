-- The command of an event is among the folders of its world.
use Rattle.std.proofs.Common.{◌≡◌, ◌≤◌, ◌<◌, ◌∙◌, ◌⊎◌, inl, inr, refl, sym, ap, subst, ℕ, Bool, true, false, List, [], ◌∷◌, Contains, arith, codes, IsSome, Option, Some, None, Result, Ok, Err}
use Rattle.std.specs.Prelude.{⊤}
use Rattle.std.specs.Option.{option_map}
use Rattle.gb_text.specs.Digits.{IsId}
use Rattle.gb_text.specs.Folder.{folder_of}
use Rattle.gb_text.specs.declared.id.Id.{Id}
use Rattle.bug_run.specs.Runs.{StaysAmong}
use Rattle.words.specs.Overlaps.{overlaps}
use Rattle.words.specs.Pairs.{pair_by}
use Rattle.words.specs.Words.{asked_by, asked_in, asked_of, command_of, exchange_in, exchange_of, list_command_of, merge_command_of, peer_command_of}
use Rattle.words.specs.declared.words.Asked.{Asked}
use Rattle.words.specs.declared.words.Asked.TheVariants as asked
use Rattle.words.specs.declared.words.Command.{Command}
use Rattle.words.specs.declared.words.PeerCommand.{PeerCommand}
use Rattle.words.specs.declared.words.PeerCommand.TheVariants as peer_command
use Rattle.words.proofs.ArgumentLemmas.{all_plain}
use Rattle.words.proofs.AskLemmas.{asked_with}
use Rattle.world.proofs.FolderLemmas.{among, path_of_word}
use Rattle.world.proofs.WordLemmas.{Asks, event_arguments_ask}
use Rattle.world.specs.Folders.{world_folders}
use Rattle.world_events.specs.Within.{HasPeerWithin, IsWithin}
use Rattle.world_events.specs.Words.{arguments_for, folder_word, verb_of, words_from, words_of}
use Rattle.world_events.specs.declared.act.Act.{Act}
use Rattle.world_events.specs.declared.act.Act.TheVariants.{UserNew, NewBug, Comment, Title, Edit, Close, Reopen, LabelAdd, LabelRm, Noop, PackRefs, Pull, Push}
use Rattle.world_events.specs.declared.event.Event.{Event}

-- what arguments ask is in these folders, and each peer is one of them
abbrev pub IsAskedAmong : List (List ℕ) → Asked → Type 0
IsAskedAmong folders asked.Nothing = ⊤
IsAskedAmong folders (asked.Refused bad) = ⊤
IsAskedAmong folders (asked.Request request) = Contains folders request.folder
IsAskedAmong folders (asked.Exchange request) = Contains folders request.pair.own × Contains folders request.pair.peer
IsAskedAmong folders (asked.Merge request) = Contains folders request.folder
IsAskedAmong folders (asked.List request) = Contains folders request.folder

-- so it stays among them
pub stays_among : (folders : List (List ℕ)) (asks : Asked) → IsAskedAmong folders asks → StaysAmong folders asks
stays_among folders asked.Nothing among = tt
stays_among folders (asked.Refused bad) among = tt
stays_among folders (asked.Request request) among = inl among
stays_among folders (asked.Exchange request) among = exchange_stays request.command
  where
    exchange_stays : (command : PeerCommand) → StaysAmong folders (asked.Exchange (record { pair = request.pair; command = command }))
    exchange_stays (peer_command.Fetch remote) = (inl among.0, λ push other. among.0)
    exchange_stays (peer_command.Pull remote) = (inl among.0, λ push other. among.0)
    exchange_stays peer_command.Push = (inl among.1, λ push other. among.0)
stays_among folders (asked.Merge request) among = inl among
stays_among folders (asked.List request) among = inl among

-- a folder, if there is one, is one of these
abbrev IsOneOf : List (List ℕ) → Option (List ℕ) → Type 0
IsOneOf folders folder = (path : List ℕ) → folder ≡ Some path → Contains folders path

in_folder : (folders : List (List ℕ)) (folder : Option (List ℕ)) (read : Result Command ℕ) → IsOneOf folders folder → IsAskedAmong folders (asked_in folder read)
in_folder folders None read one = tt
in_folder folders (Some folder) (Err place) one = tt
in_folder folders (Some folder) (Ok command) one = one folder refl

of_pair : (folders : List (List ℕ)) (own peer : List ℕ) (is : Bool) (e : overlaps own peer ≡ is) (command : Option PeerCommand) → Contains folders own → Contains folders peer
    → IsAskedAmong folders (exchange_of (pair_by own peer is e) command)
of_pair folders own peer true e command one two = tt
of_pair folders own peer false e None one two = tt
of_pair folders own peer false e (Some command) one two = (one, two)

in_folders : (folders : List (List ℕ)) (own peer : Option (List ℕ)) (command : Option PeerCommand) → IsOneOf folders own → IsOneOf folders peer
    → IsAskedAmong folders (exchange_in own peer command)
in_folders folders None peer command one two = tt
in_folders folders (Some own) None command one two = tt
in_folders folders (Some own) (Some peer) command one two = of_pair folders own peer (overlaps own peer) refl command (one own refl) (two peer refl)

-- the argument of what may be given
abbrev first_of : Option (List ℕ × Option PeerCommand) → List ℕ
first_of (Some p) = p.0
first_of None = []

-- the argument for a peer, if there is one, is the word of one of so many folders
abbrev IsPeerOf : ℕ → Option (List ℕ × Option PeerCommand) → Type 0
IsPeerOf folders given = (p : List ℕ × Option PeerCommand) → given ≡ Some p → (peer : ℕ) × (peer < folders) × (p.0 ≡ folder_word peer)

by_command : (folders : List (List ℕ)) (folder : Option (List ℕ)) (command : Option (Result Command ℕ)) (p : Option (List ℕ × Option PeerCommand)) (name : List ℕ) (words : List (List ℕ))
    → IsOneOf folders folder → ((q : List ℕ × Option PeerCommand) → p ≡ Some q → IsOneOf folders (folder_of q.0)) → IsSome command ⊎ ((command ≡ None) × IsSome p)
    → IsAskedAmong folders (asked_by folder command p (merge_command_of name words) (list_command_of name words))
by_command folders folder (Some read) p name words one two some = in_folder folders folder read one
by_command folders folder None (Some q) name words one two some = in_folders folders folder (folder_of q.0) q.1 one (two q refl)
by_command folders folder None None name words one two (inl some) = cc some
by_command folders folder None None name words one two (inr (none, some)) = cc some

-- the path of a folder of a world
module _ (folders : ℕ) (most : folders ≤ 16) where
  one_of : (folder : ℕ) → folder < folders → IsOneOf (world_folders folders) (folder_of (folder_word folder))
  one_of folder below path is =
      let same : folder_word folder ≡ path = grind (arith, sym (path_of_word folder (omega (arith, below, most))) ∙ is) in
      subst (Contains (world_folders folders)) same (among folders folder below)

  peer_of : (p : Option (List ℕ × Option PeerCommand)) → IsPeerOf folders p → (q : List ℕ × Option PeerCommand) → p ≡ Some q → IsOneOf (world_folders folders) (folder_of q.0)
  peer_of p peers q is =
      let found = peers q is in
      subst (λ (word : List ℕ). IsOneOf (world_folders folders) (folder_of word)) (sym found.2) (one_of found.0 found.1)

  asks_among : (folder : ℕ) (name : List ℕ) (words : List (List ℕ)) → folder < folders → Asks name words → IsPeerOf folders (peer_command_of name words)
      → IsAskedAmong (world_folders folders) (asked_of (folder_word folder ∷ name ∷ words))
  asks_among folder name words below (plain, some) peers =
      subst (IsAskedAmong (world_folders folders)) (sym (asked_with (folder_word folder) name words words (all_plain words plain)))
      (by_command (world_folders folders) (folder_of (folder_word folder)) (command_of name words) (peer_command_of name words) name words
      (one_of folder below) (peer_of (peer_command_of name words) peers) some)

  no_peer : (name : List ℕ) (words : List (List ℕ)) → peer_command_of name words ≡ None → IsPeerOf folders (peer_command_of name words)
  no_peer name words none p is = cc (sym none ∙ is)

  peers : (act : Act) (folder number : ℕ) (bugs : List Id) (words : List (List ℕ)) → HasPeerWithin folders folder act → arguments_for act folder number bugs ≡ Some words
      → IsPeerOf folders (peer_command_of (verb_of act) words)
  peers UserNew folder number bugs words within e = no_peer (codes "user-new") words refl
  peers NewBug folder number bugs words within e = no_peer (codes "new") words refl
  peers (Comment pick) folder number bugs words within e = no_peer (codes "comment") words refl
  peers (Title pick) folder number bugs words within e = no_peer (codes "title") words refl
  peers (Edit pick) folder number bugs words within e = no_peer (codes "edit") words refl
  peers (Close pick) folder number bugs words within e = no_peer (codes "close") words refl
  peers (Reopen pick) folder number bugs words within e = no_peer (codes "open") words refl
  peers (LabelAdd pick label) folder number bugs words within e = no_peer (codes "label-add") words refl
  peers (LabelRm pick label) folder number bugs words within e = no_peer (codes "label-rm") words refl
  peers (Noop pick) folder number bugs words within e = no_peer (codes "noop") words refl
  peers PackRefs folder number bugs words within e = no_peer (codes "pack-refs") words refl
  peers (Pull peer) folder number bugs words within e = λ p is.
      let same : folder_word peer ∷ folder_word peer ∷ [] ≡ words = cc e in
      let given : peer_command_of (codes "pull") (folder_word peer ∷ folder_word peer ∷ []) ≡ Some p = ap (peer_command_of (codes "pull")) same ∙ is in
      (peer, within.below, sym (ap (λ (o : Option (List ℕ × Option PeerCommand)). first_of o) given))
  peers (Push peer) folder number bugs words within e = λ p is.
      let same : folder_word peer ∷ [] ≡ words = cc e in
      let given : peer_command_of (codes "push") (folder_word peer ∷ []) ≡ Some p = ap (peer_command_of (codes "push")) same ∙ is in
      (peer, within.below, sym (ap (λ (o : Option (List ℕ × Option PeerCommand)). first_of o) given))

  pub event_asks_among : (event : Event) (bugs : List Id) (words : List (List ℕ)) → IsWithin folders event → ((id : Id) → Contains bugs id → IsId id) → words_of event bugs ≡ Some words
      → IsAskedAmong (world_folders folders) (asked_of words)
  event_asks_among event bugs words within ids are = by (arguments_for event.act event.folder event.number bugs) refl are
    where
      by : (o : Option (List (List ℕ))) → arguments_for event.act event.folder event.number bugs ≡ o → option_map (words_from event) o ≡ Some words → IsAskedAmong (world_folders folders) (asked_of words)
      by None is e = cc e
      by (Some arguments) is e =
          let same : words_from event arguments ≡ words = cc e in
          subst (λ (ws : List (List ℕ)). IsAskedAmong (world_folders folders) (asked_of ws)) same
          (asks_among event.folder (verb_of event.act) arguments within.folder (event_arguments_ask event bugs arguments ids is)
          (peers event.act event.folder event.number bugs arguments within.peer is))
