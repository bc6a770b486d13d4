-- Worked examples of what arguments ask, computed.
use Rattle.std.specs.Prelude.{◌≡◌, ℕ, true, List, codes, map, [], ◌∷◌}
use Rattle.std.specs.List.{repeat}
use Rattle.std.specs.Str.{chars, is_utf8}
use Rattle.std.proofs.Common.{refl}
use Rattle.words.specs.Words.{asked_of}
use Rattle.query.specs.Reading.{no_words}
use Rattle.words.specs.declared.list.BadQuery.TheVariants.{BadValue, OpenQuote, UnknownField}
use Rattle.words.specs.declared.list.Layout.TheVariants.{Board, Lines}
use Rattle.words.specs.declared.words.Asked.TheVariants as asked
use Rattle.words.specs.declared.words.Asked.TheVariants.{Exchange, Merge, Nothing, Refused, Request}
use Rattle.words.specs.declared.words.BadWord.TheVariants.{BadFolder, BadQuery, BadRemoteName, BadText, SameFolder}
use Rattle.words.specs.declared.words.Command.TheVariants.{Log, Users}
use Rattle.words.specs.declared.words.PeerCommand.TheVariants.{Fetch, Pull, Push}

log_of_a_bug : asked_of (codes "f" ∷ codes "log" ∷ codes "b" ∷ []) ≡ Request (record { folder = codes "f"; command = Log (codes "b") })
unfolding chars
log_of_a_bug = refl

folder_is_read : asked_of (codes "/a//b/" ∷ codes "users" ∷ []) ≡ Request (record { folder = codes "/a/b"; command = Users })
unfolding chars
folder_is_read = refl

users_of_one : asked_of (codes "f" ∷ codes "users" ∷ codes "x" ∷ []) ≡ Nothing
users_of_one = refl

log_of_two : asked_of (codes "f" ∷ codes "log" ∷ codes "b" ∷ codes "c" ∷ []) ≡ Nothing
log_of_two = refl

no_label : asked_of (codes "f" ∷ codes "label-add" ∷ codes "b" ∷ []) ≡ Nothing
no_label = refl

of_other_commands : map (λ (word : List ℕ). asked_of (codes "f" ∷ word ∷ codes "b" ∷ [])) (codes "Ls" ∷ codes "Merge" ∷ codes "Edit" ∷ codes "Log" ∷ codes "log " ∷ [] ∷ []) ≡ repeat 6 (Nothing ∷ [])
of_other_commands = refl

of_other_commands_alone : map (λ (word : List ℕ). asked_of (codes "f" ∷ word ∷ [])) (codes "list" ∷ codes "user" ∷ codes "user-ls" ∷ codes "boards" ∷ [] ∷ []) ≡ repeat 5 (Nothing ∷ [])
of_other_commands_alone = refl

-- `-` and what follows `--` are arguments; what else begins with `-` is none
logs_of_dashes : map (λ (rest : List (List ℕ)). asked_of (codes "f" ∷ codes "log" ∷ rest))
    ((codes "-" ∷ []) ∷ (codes "--" ∷ codes "b" ∷ []) ∷ (codes "b" ∷ codes "--" ∷ []) ∷ (codes "--" ∷ codes "-b" ∷ []) ∷ (codes "--" ∷ codes "--" ∷ []) ∷ [])
    ≡ map (λ (bug : List ℕ). Request (record { folder = codes "f"; command = Log bug })) (codes "-" ∷ codes "b" ∷ codes "b" ∷ codes "-b" ∷ codes "--" ∷ [])
unfolding chars
logs_of_dashes = refl

no_logs_of_dashes : map (λ (rest : List (List ℕ)). asked_of (codes "f" ∷ codes "log" ∷ rest))
    ((codes "-b" ∷ []) ∷ (codes "--b" ∷ []) ∷ (codes "--help" ∷ []) ∷ (codes "--" ∷ []) ∷ (codes "--" ∷ codes "b" ∷ codes "--" ∷ []) ∷ (codes "-b" ∷ codes "--" ∷ []) ∷ [])
    ≡ repeat 6 (Nothing ∷ [])
no_logs_of_dashes = refl

bad_folder_first : asked_of (codes "a/../b" ∷ codes "title" ∷ codes "b" ∷ [] ∷ []) ≡ Refused BadFolder
unfolding chars is_utf8
bad_folder_first = refl

second_argument : asked_of (codes "f" ∷ codes "title" ∷ codes "b" ∷ [] ∷ []) ≡ Refused (BadText 2)
unfolding chars is_utf8
second_argument = refl

name_before_email : asked_of (codes "f" ∷ codes "user-new" ∷ [] ∷ codes "\n" ∷ []) ≡ Refused (BadText 1)
unfolding chars is_utf8
name_before_email = refl

second_argument_after_dashes : asked_of (codes "f" ∷ codes "title" ∷ codes "--" ∷ codes "-b" ∷ [] ∷ []) ≡ Refused (BadText 2)
unfolding chars is_utf8
second_argument_after_dashes = refl

bad_email : asked_of (codes "f" ∷ codes "user-new" ∷ codes "n" ∷ codes "\n" ∷ []) ≡ Refused (BadText 2)
unfolding chars is_utf8 lib.Utf8.encode
bad_email = refl

second_label : asked_of (codes "f" ∷ codes "label-rm" ∷ codes "b" ∷ codes "x" ∷ codes " " ∷ codes "\n" ∷ []) ≡ Refused (BadText 3)
unfolding chars is_utf8 lib.Utf8.encode
second_label = refl

-- ---- commands with a peer

fetch_of_a_peer : asked_of (codes "f" ∷ codes "fetch" ∷ codes "o" ∷ codes "p/" ∷ []) ≡ Exchange (record { pair = record { own = codes "f"; peer = codes "p"; apart = refl }; command = Fetch (record { text = codes "o"; is_name = refl }) })
unfolding chars
fetch_of_a_peer = refl

pull_of_a_peer : asked_of (codes "f" ∷ codes "pull" ∷ codes "o" ∷ codes "p/" ∷ []) ≡ Exchange (record { pair = record { own = codes "f"; peer = codes "p"; apart = refl }; command = Pull (record { text = codes "o"; is_name = refl }) })
unfolding chars
pull_of_a_peer = refl

push_into_a_peer : asked_of (codes "f" ∷ codes "push" ∷ codes "/f" ∷ []) ≡ Exchange (record { pair = record { own = codes "f"; peer = codes "/f"; apart = refl }; command = Push })
unfolding chars
push_into_a_peer = refl

remote_after_dashes : asked_of (codes "f" ∷ codes "fetch" ∷ codes "--" ∷ codes "-o" ∷ codes "p" ∷ []) ≡ Exchange (record { pair = record { own = codes "f"; peer = codes "p"; apart = refl }; command = Fetch (record { text = codes "-o"; is_name = refl }) })
unfolding chars
remote_after_dashes = refl

no_exchanges : map (λ (rest : List (List ℕ)). asked_of (codes "f" ∷ rest))
    ((codes "fetch" ∷ []) ∷ (codes "fetch" ∷ codes "p" ∷ []) ∷ (codes "fetch" ∷ codes "o" ∷ codes "p" ∷ codes "q" ∷ []) ∷ (codes "push" ∷ []) ∷ (codes "push" ∷ codes "o" ∷ codes "p" ∷ []) ∷ (codes "pull" ∷ codes "p" ∷ []) ∷ (codes "pull" ∷ codes "o" ∷ codes "p" ∷ codes "q" ∷ []) ∷ [])
    ≡ repeat 7 (Nothing ∷ [])
no_exchanges = refl

bad_peer_first : asked_of (codes "f" ∷ codes "fetch" ∷ codes "o/p" ∷ codes "f/.." ∷ []) ≡ Refused BadFolder
unfolding chars
bad_peer_first = refl

overlap_before_remote : map (λ (peer : List ℕ). asked_of (codes "f/g" ∷ codes "fetch" ∷ codes "o/p" ∷ peer ∷ [])) (codes "f" ∷ codes "f/g" ∷ codes "./f//g/h" ∷ codes "." ∷ []) ≡ repeat 4 (Refused SameFolder ∷ [])
unfolding chars
overlap_before_remote = refl

bad_remote_last : map (λ (remote : List ℕ). asked_of (codes "f/g" ∷ codes "fetch" ∷ remote ∷ codes "f/h" ∷ [])) (codes "o/p" ∷ codes ".." ∷ [] ∷ []) ≡ repeat 3 (Refused BadRemoteName ∷ [])
unfolding chars
bad_remote_last = refl

pull_is_judged_like_fetch : map (λ (peer : List ℕ). asked_of (codes "f/g" ∷ codes "pull" ∷ codes "o/p" ∷ peer ∷ [])) (codes "f/.." ∷ codes "f" ∷ codes "f/h" ∷ [])
    ≡ Refused BadFolder ∷ Refused SameFolder ∷ Refused BadRemoteName ∷ []
unfolding chars
pull_is_judged_like_fetch = refl

-- ---- merges

merge_of_a_remote : asked_of (codes "f/" ∷ codes "merge" ∷ codes "o" ∷ []) ≡ Merge (record { folder = codes "f"; remote = record { text = codes "o"; is_name = refl } })
unfolding chars
merge_of_a_remote = refl

merge_after_dashes : asked_of (codes "f" ∷ codes "merge" ∷ codes "--" ∷ codes "-o" ∷ []) ≡ Merge (record { folder = codes "f"; remote = record { text = codes "-o"; is_name = refl } })
unfolding chars
merge_after_dashes = refl

no_merges : map (λ (rest : List (List ℕ)). asked_of (codes "f" ∷ rest)) ((codes "merge" ∷ []) ∷ (codes "merge" ∷ codes "o" ∷ codes "p" ∷ []) ∷ (codes "merge" ∷ codes "-o" ∷ []) ∷ []) ≡ repeat 3 (Nothing ∷ [])
no_merges = refl

bad_folder_before_remote : asked_of (codes "f/.." ∷ codes "merge" ∷ codes "o/p" ∷ []) ≡ Refused BadFolder
unfolding chars
bad_folder_before_remote = refl

bad_remote_of_a_merge : map (λ (remote : List ℕ). asked_of (codes "f" ∷ codes "merge" ∷ remote ∷ [])) (codes "o/p" ∷ codes ".." ∷ [] ∷ []) ≡ repeat 3 (Refused BadRemoteName ∷ [])
unfolding chars
bad_remote_of_a_merge = refl

-- ---- lists

lists_alone : map (λ (name : List ℕ). asked_of (codes "f/" ∷ name ∷ [])) (codes "ls" ∷ codes "board" ∷ [])
    ≡ map (λ layout. asked.List (record { folder = codes "f"; layout = layout; query = no_words })) (Lines ∷ Board ∷ [])
unfolding chars
lists_alone = refl

-- a value in quotes may lie in several arguments, and an argument may have several values
list_of_a_value : asked_of (codes "f" ∷ codes "ls" ∷ codes "label:\"a" ∷ codes "b\"" ∷ []) ≡ asked.List (record { folder = codes "f"; layout = Lines; query = record no_words { labels = codes "a b" ∷ [] } })
unfolding chars
list_of_a_value = refl

list_of_two_values : asked_of (codes "f" ∷ codes "ls" ∷ codes "no:label label:a" ∷ []) ≡ asked.List (record { folder = codes "f"; layout = Lines; query = record no_words { labels = codes "a" ∷ []; no_label = true } })
unfolding chars
list_of_two_values = refl

list_after_dashes : asked_of (codes "f" ∷ codes "ls" ∷ codes "--" ∷ codes "-" ∷ codes "-a" ∷ []) ≡ Refused (BadQuery (UnknownField 0))
unfolding chars
list_after_dashes = refl

bad_queries : map (λ (rest : List (List ℕ)). asked_of (codes "f" ∷ codes "ls" ∷ rest))
    ((codes "status:openn" ∷ []) ∷ (codes "label:\"x" ∷ []) ∷ (codes "no:label" ∷ codes "x:y" ∷ []) ∷ (codes "x" ∷ codes "-" ∷ []) ∷ [])
    ≡ map (λ bad. Refused (BadQuery bad)) (BadValue 0 ∷ OpenQuote 6 ∷ UnknownField 9 ∷ UnknownField 0 ∷ [])
unfolding chars
bad_queries = refl

no_lists : map (λ (rest : List (List ℕ)). asked_of (codes "f" ∷ codes "ls" ∷ rest)) ((codes "-a" ∷ []) ∷ (codes "no:label" ∷ codes "--all" ∷ []) ∷ []) ≡ repeat 2 (Nothing ∷ [])
no_lists = refl

bad_folder_before_query : asked_of (codes "f/.." ∷ codes "ls" ∷ codes "status:openn" ∷ []) ≡ Refused BadFolder
unfolding chars
bad_folder_before_query = refl
