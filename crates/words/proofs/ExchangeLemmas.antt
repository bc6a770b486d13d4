-- What commands with a peer ask for, and in which order their arguments are judged.
use Rattle.std.proofs.Common.{◌≡◌, ◌∙◌, refl, sym, ap, ap₂, subst, ℕ, false, List, [], ◌∷◌, codes, IsSome, Option, Some, None}
use Rattle.std.specs.Prelude.{option_map}
use Rattle.gb_text.specs.Folder.{folder_of}
use Rattle.gb_text.specs.Overlap.{Overlap}
use Rattle.bug_edits.proofs.ReadLemmas.{some_is}
use Rattle.remote_name.specs.RemoteTexts.{is_remote_name}
use Rattle.remote_name.specs.declared.remote.RemoteName.{RemoteName}
use Rattle.remote_name.proofs.RemoteLemmas.{no_remote, the_remote}
use Rattle.words.specs.Arguments.{arguments_of}
use Rattle.words.specs.Words.{asked_by, asked_of, command_of, exchange_in, exchange_of, list_command_of, merge_command_of, peer_command_of}
use Rattle.words.specs.declared.pair.FolderPair.{FolderPair}
use Rattle.words.specs.declared.words.Asked.TheVariants as asked
use Rattle.words.specs.declared.words.BadWord.TheVariants.{BadFolder, BadRemoteName, SameFolder}
use Rattle.words.specs.declared.words.PeerCommand.{PeerCommand}
use Rattle.words.specs.declared.words.PeerCommand.TheVariants.{Fetch, Pull}
use Rattle.words.proofs.AskLemmas.{asked_with}
use Rattle.words.proofs.KindLemmas.{none_if, of_one_kind}
use Rattle.words.proofs.PairLemmas.{no_pair, some_pair, the_pair}

-- ---- commands

pub fetch : (remote : RemoteName) (peer : List ℕ) → peer_command_of (codes "fetch") (remote.text ∷ peer ∷ []) ≡ Some (peer, Some (Fetch remote))
fetch remote peer = ap (λ o. Some (peer, option_map Fetch o)) (the_remote remote)

pub fetch_unnamed : (remote peer : List ℕ) → is_remote_name remote ≡ false → peer_command_of (codes "fetch") (remote ∷ peer ∷ []) ≡ Some (peer, None)
fetch_unnamed remote peer bad = ap (λ o. Some (peer, option_map Fetch o)) (no_remote remote bad)

pub pull : (remote : RemoteName) (peer : List ℕ) → peer_command_of (codes "pull") (remote.text ∷ peer ∷ []) ≡ Some (peer, Some (Pull remote))
pull remote peer = ap (λ o. Some (peer, option_map Pull o)) (the_remote remote)

pub pull_unnamed : (remote peer : List ℕ) → is_remote_name remote ≡ false → peer_command_of (codes "pull") (remote ∷ peer ∷ []) ≡ Some (peer, None)
pull_unnamed remote peer bad = ap (λ o. Some (peer, option_map Pull o)) (no_remote remote bad)

-- ---- the order of refusals

-- what gives a command with a peer gives no other
no_command : (name : List ℕ) (arguments : List (List ℕ)) → IsSome (peer_command_of name arguments) → command_of name arguments ≡ None
no_command name arguments some = none_if (command_of name arguments) (λ command. of_one_kind name arguments arguments command some)

-- what is asked between two folders
exchanged : (folder name : List ℕ) (rest arguments : List (List ℕ)) (p : List ℕ × Option PeerCommand) → arguments_of rest ≡ Some arguments → peer_command_of name arguments ≡ Some p
    → asked_of (folder ∷ name ∷ rest) ≡ exchange_in (folder_of folder) (folder_of p.0) p.1
exchanged folder name rest arguments p are is =
    asked_with folder name rest arguments are
    ∙ ap₂ (λ c o. asked_by (folder_of folder) c o (merge_command_of name arguments) (list_command_of name arguments)) (no_command name arguments (subst IsSome (sym is) refl)) is

pub bad_own : (folder name : List ℕ) (rest arguments : List (List ℕ)) → arguments_of rest ≡ Some arguments → IsSome (peer_command_of name arguments) → folder_of folder ≡ None
    → asked_of (folder ∷ name ∷ rest) ≡ asked.Refused BadFolder
bad_own folder name rest arguments are some bad =
    let p = some_is (peer_command_of name arguments) some in
    exchanged folder name rest arguments p.0 are p.1 ∙ ap (λ f. exchange_in f (folder_of p.0.0) p.0.1) bad

pub bad_peer : (folder name word : List ℕ) (rest arguments : List (List ℕ)) (command : Option PeerCommand) → arguments_of rest ≡ Some arguments
    → peer_command_of name arguments ≡ Some (word, command) → folder_of word ≡ None → asked_of (folder ∷ name ∷ rest) ≡ asked.Refused BadFolder
bad_peer folder name word rest arguments command are is bad =
    exchanged folder name rest arguments (word, command) are is ∙ ap (λ f. exchange_in (folder_of folder) f command) bad ∙ by (folder_of folder)
  where
    by : (own : Option (List ℕ)) → exchange_in own None command ≡ asked.Refused BadFolder
    by None = refl
    by (Some own) = refl

-- what is asked between two folders that are none of the bad ones
between : (folder name word own peer : List ℕ) (rest arguments : List (List ℕ)) (command : Option PeerCommand) → arguments_of rest ≡ Some arguments
    → peer_command_of name arguments ≡ Some (word, command) → folder_of folder ≡ Some own → folder_of word ≡ Some peer
    → asked_of (folder ∷ name ∷ rest) ≡ exchange_in (Some own) (Some peer) command
between folder name word own peer rest arguments command are is good good_peer =
    exchanged folder name rest arguments (word, command) are is ∙ ap₂ (λ f g. exchange_in f g command) good good_peer

pub overlapping : (folder name word own peer : List ℕ) (rest arguments : List (List ℕ)) (command : Option PeerCommand) → arguments_of rest ≡ Some arguments
    → peer_command_of name arguments ≡ Some (word, command) → folder_of folder ≡ Some own → folder_of word ≡ Some peer → Overlap own peer
    → asked_of (folder ∷ name ∷ rest) ≡ asked.Refused SameFolder
overlapping folder name word own peer rest arguments command are is good good_peer over =
    between folder name word own peer rest arguments command are is good good_peer ∙ ap (λ p. exchange_of p command) (no_pair own peer over)

pub unnamed_remote : (folder name word own peer : List ℕ) (rest arguments : List (List ℕ)) → arguments_of rest ≡ Some arguments → peer_command_of name arguments ≡ Some (word, None)
    → folder_of folder ≡ Some own → folder_of word ≡ Some peer → (Overlap own peer → ⊥) → asked_of (folder ∷ name ∷ rest) ≡ asked.Refused BadRemoteName
unnamed_remote folder name word own peer rest arguments are is good good_peer apart =
    between folder name word own peer rest arguments None are is good good_peer ∙ ap (λ p. exchange_of p None) (some_pair own peer apart).1

pub exchange : (folder name word : List ℕ) (rest arguments : List (List ℕ)) (pair : FolderPair) (command : PeerCommand) → arguments_of rest ≡ Some arguments
    → peer_command_of name arguments ≡ Some (word, Some command) → folder_of folder ≡ Some pair.own → folder_of word ≡ Some pair.peer
    → asked_of (folder ∷ name ∷ rest) ≡ asked.Exchange (record { pair = pair; command = command })
exchange folder name word rest arguments pair command are is good good_peer =
    between folder name word pair.own pair.peer rest arguments (Some command) are is good good_peer ∙ ap (λ p. exchange_of p (Some command)) (the_pair pair)
