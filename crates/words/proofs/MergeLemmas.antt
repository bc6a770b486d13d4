-- What a merge asks for, and in which order its arguments are judged.
use Rattle.std.proofs.Common.{◌≡◌, ◌∙◌, refl, sym, ap, ap₂, subst, ℕ, false, List, [], ◌∷◌, codes, IsSome, Option, Some, None}
use Rattle.gb_text.specs.Folder.{folder_of}
use Rattle.bug_edits.proofs.ReadLemmas.{some_is}
use Rattle.remote_name.specs.RemoteTexts.{is_remote_name}
use Rattle.remote_name.specs.declared.remote.RemoteName.{RemoteName}
use Rattle.remote_name.proofs.RemoteLemmas.{no_remote, the_remote}
use Rattle.words.specs.Arguments.{arguments_of}
use Rattle.words.specs.Words.{asked_by, asked_of, command_of, list_command_of, merge_command_of, merge_in, peer_command_of}
use Rattle.words.specs.declared.words.Asked.TheVariants as asked
use Rattle.words.specs.declared.words.BadWord.TheVariants.{BadFolder, BadRemoteName}
use Rattle.words.proofs.AskLemmas.{asked_with}
use Rattle.words.proofs.KindLemmas.{no_other_merge, no_peer_merge, none_if}

-- ---- the remote

pub merge : (remote : RemoteName) → merge_command_of (codes "merge") (remote.text ∷ []) ≡ Some (Some remote)
merge remote = ap Some (the_remote remote)

pub merge_unnamed : (remote : List ℕ) → is_remote_name remote ≡ false → merge_command_of (codes "merge") (remote ∷ []) ≡ Some None
merge_unnamed remote bad = ap Some (no_remote remote bad)

-- ---- the order of refusals

-- what gives a merge gives nothing else
no_command : (name : List ℕ) (arguments : List (List ℕ)) → IsSome (merge_command_of name arguments) → command_of name arguments ≡ None
no_command name arguments some = none_if (command_of name arguments) (λ command. no_other_merge name arguments arguments command some)

no_peer : (name : List ℕ) (arguments : List (List ℕ)) → IsSome (merge_command_of name arguments) → peer_command_of name arguments ≡ None
no_peer name arguments some = none_if (peer_command_of name arguments) (λ peer. no_peer_merge name arguments arguments peer some)

-- what is asked of a folder that may be bad, and of a remote that may be no name
merged : (folder name : List ℕ) (rest arguments : List (List ℕ)) (remote : Option RemoteName) → arguments_of rest ≡ Some arguments → merge_command_of name arguments ≡ Some remote
    → asked_of (folder ∷ name ∷ rest) ≡ merge_in (folder_of folder) remote
merged folder name rest arguments remote are is =
    let some = subst IsSome (sym is) refl in
    asked_with folder name rest arguments are
    ∙ ap₂ (λ c p. asked_by (folder_of folder) c p (merge_command_of name arguments) (list_command_of name arguments)) (no_command name arguments some) (no_peer name arguments some)
    ∙ ap (λ m. asked_by (folder_of folder) None None m (list_command_of name arguments)) is

pub bad_folder : (folder name : List ℕ) (rest arguments : List (List ℕ)) → arguments_of rest ≡ Some arguments → IsSome (merge_command_of name arguments) → folder_of folder ≡ None
    → asked_of (folder ∷ name ∷ rest) ≡ asked.Refused BadFolder
bad_folder folder name rest arguments are some bad =
    let remote = some_is (merge_command_of name arguments) some in
    merged folder name rest arguments remote.0 are remote.1 ∙ ap (λ f. merge_in f remote.0) bad

pub unnamed_remote : (folder name : List ℕ) (rest arguments : List (List ℕ)) (read : List ℕ) → arguments_of rest ≡ Some arguments → folder_of folder ≡ Some read
    → merge_command_of name arguments ≡ Some None → asked_of (folder ∷ name ∷ rest) ≡ asked.Refused BadRemoteName
unnamed_remote folder name rest arguments read are good is = merged folder name rest arguments None are is ∙ ap (λ f. merge_in f None) good

pub merge_asked : (folder name : List ℕ) (rest arguments : List (List ℕ)) (read : List ℕ) (remote : RemoteName) → arguments_of rest ≡ Some arguments → folder_of folder ≡ Some read
    → merge_command_of name arguments ≡ Some (Some remote) → asked_of (folder ∷ name ∷ rest) ≡ asked.Merge (record { folder = read; remote = remote })
merge_asked folder name rest arguments read remote are good is = merged folder name rest arguments (Some remote) are is ∙ ap (λ f. merge_in f (Some remote)) good
