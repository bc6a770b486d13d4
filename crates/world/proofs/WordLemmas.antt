-- The arguments of an event ask for something.
use Rattle.std.proofs.Common.{◌≡◌, ◌≢◌, ◌∙◌, ◌≤◌, ◌⊎◌, inl, inr, refl, sym, ap, subst, ℕ, List, [], ◌∷◌, All, Contains, get_or, length, ◌%◌, arith, codes, IsSome, Option, Some, None, Result, Ok, Err}
use Rattle.std.proofs.lemmas.List.Elements.{Contains-get_or}
use Rattle.std.specs.List.{AllByRecursion}
use Rattle.std.specs.Option.{option_map}
use Rattle.hex.specs.Hex.{encode_lower, hex_digit_value}
use Rattle.hex.proofs.HexLemmas.{IsDigits-lower_digits}
use Rattle.combined_id.specs.Combined.{combined_of}
use Rattle.combined_id.proofs.CombinedLemmas.{IsDigit, digits-combined_from, digits-encode_lower}
use Rattle.gb_text.specs.Digits.{IsId}
use Rattle.gb_text.specs.Folder.{folder_of}
use Rattle.gb_text.specs.declared.id.Id.{Id}
use Rattle.words.specs.Arguments.{IsPlain}
use Rattle.bug_edits.specs.EditWords.{IsCountedEdit}
use Rattle.words.proofs.VerbLemmas.{counted_gives}
use Rattle.words.specs.Pairs.{pair_of}
use Rattle.words.specs.Words.{asked_by, asked_in, asked_of, command_of, exchange_in, exchange_of, list_command_of, merge_command_of, peer_command_of}
use Rattle.words.specs.declared.pair.FolderPair.{FolderPair}
use Rattle.words.specs.declared.words.Asked.TheVariants as asked
use Rattle.words.specs.declared.words.Command.{Command}
use Rattle.words.specs.declared.words.PeerCommand.{PeerCommand}
use Rattle.words.proofs.ArgumentLemmas.{all_plain}
use Rattle.words.proofs.AskLemmas.{asked_with}
use Rattle.world_events.specs.Words.{alone, arguments_for, folder_word, label_text, mail_text, message_text, of_bug, of_comment, picked, title_text, user_text, verb_of, words_from, words_of}
use Rattle.world_events.specs.declared.act.Act.{Act}
use Rattle.world_events.specs.declared.act.Act.TheVariants.{UserNew, NewBug, Comment, Title, Edit, Close, Reopen, LabelAdd, LabelRm, Noop, PackRefs, Pull, Push}
use Rattle.world_events.specs.declared.event.Event.{Event}

-- ---- what is asked

in_folder : (folder : Option (List ℕ)) (read : Result Command ℕ) → asked_in folder read ≢ asked.Nothing
in_folder None read e = cc e
in_folder (Some folder) (Err place) e = cc e
in_folder (Some folder) (Ok command) e = cc e

of_pair : (pair : Option FolderPair) (command : Option PeerCommand) → exchange_of pair command ≢ asked.Nothing
of_pair None command e = cc e
of_pair (Some pair) None e = cc e
of_pair (Some pair) (Some command) e = cc e

in_folders : (own peer : Option (List ℕ)) (command : Option PeerCommand) → exchange_in own peer command ≢ asked.Nothing
in_folders None peer command e = cc e
in_folders (Some own) None command e = cc e
in_folders (Some own) (Some peer) command e = of_pair (pair_of own peer) command e

by_command : (folder : Option (List ℕ)) (command : Option (Result Command ℕ)) (p : Option (List ℕ × Option PeerCommand)) (name : List ℕ) (words : List (List ℕ)) → IsSome command
    → asked_by folder command p (merge_command_of name words) (list_command_of name words) ≢ asked.Nothing
by_command folder None p name words some e = cc some
by_command folder (Some read) p name words some e = in_folder folder read e

by_peer : (folder : Option (List ℕ)) (p : Option (List ℕ × Option PeerCommand)) (name : List ℕ) (words : List (List ℕ)) → IsSome p
    → asked_by folder None p (merge_command_of name words) (list_command_of name words) ≢ asked.Nothing
by_peer folder None name words some e = cc some
by_peer folder (Some p) name words some e = in_folders folder (folder_of p.0) p.1 e

-- this name with these arguments asks for something in a folder, or between two
abbrev pub Asks : List ℕ → List (List ℕ) → Type 0
Asks name words = AllByRecursion IsPlain words × (IsSome (command_of name words) ⊎ ((command_of name words ≡ None) × IsSome (peer_command_of name words)))

asks : (folder name : List ℕ) (words : List (List ℕ)) → Asks name words → asked_of (folder ∷ name ∷ words) ≢ asked.Nothing
asks folder name words (plain, inl some) e =
    by_command (folder_of folder) (command_of name words) (peer_command_of name words) name words some
    (sym (asked_with folder name words words (all_plain words plain)) ∙ e)
asks folder name words (plain, inr (none, some)) e =
    by_peer (folder_of folder) (peer_command_of name words) name words some
    (sym (ap (λ c. asked_by (folder_of folder) c (peer_command_of name words) (merge_command_of name words) (list_command_of name words)) none)
    ∙ sym (asked_with folder name words words (all_plain words plain)) ∙ e)

-- ---- plain arguments

other_first : (first : ℕ) (more : List ℕ) → first ≢ 45 → IsPlain (first ∷ more)
other_first first more other = inr (λ rest same. other (ap (λ (t : List ℕ). get_or t 0 0) same))

not_dash : (digit : ℕ) → IsDigit digit → digit ≢ 45
not_dash digit is same =
    let value : hex_digit_value digit ≡ Some is.value = ap hex_digit_value is.is ∙ IsDigits-lower_digits is.value is.below in
    let none : hex_digit_value digit ≡ None = ap hex_digit_value same in
    cc (value, none)

digits_plain : (digits : List ℕ) → All IsDigit digits → IsPlain digits
digits_plain [] all = inr (λ more same. cc same)
digits_plain (first ∷ more) all = other_first first more (not_dash first (all 0 first (omega arith)))

id_plain : (id : Id) → IsId id → IsPlain (encode_lower id.bytes)
id_plain id is = digits_plain (encode_lower id.bytes) (digits-encode_lower id.bytes is.bytes)

comment_plain : (id : Id) → IsId id → IsPlain (combined_of (encode_lower id.bytes) (encode_lower id.bytes))
comment_plain id is =
    let digits = digits-encode_lower id.bytes is.bytes in
    digits_plain (combined_of (encode_lower id.bytes) (encode_lower id.bytes)) (digits-combined_from 64 0 (encode_lower id.bytes) (encode_lower id.bytes) digits digits)

letter : (first : ℕ) (more : List ℕ) → 46 ≤ first → IsPlain (first ∷ more)
letter first more above = other_first first more (λ same. omega arith)

-- ---- events

-- a bug alone
of_alone : (name : List ℕ) (o : Option Id) (words : List (List ℕ)) → ((bug : Id) → o ≡ Some bug → IsId bug) → ((bug : List ℕ) → IsSome (command_of name (bug ∷ [])))
    → option_map alone o ≡ Some words → Asks name words
of_alone name None words ids some e = cc e
of_alone name (Some bug) words ids some e =
    let same : alone bug ≡ words = cc e in
    subst (Asks name) same ((id_plain bug (ids bug refl), tt), inl (some (encode_lower bug.bytes)))

-- a bug, and a text
of_text : (name : List ℕ) (o : Option Id) (text : List ℕ) (words : List (List ℕ)) → ((bug : Id) → o ≡ Some bug → IsId bug) → IsPlain text
    → ((bug : List ℕ) → IsSome (command_of name (bug ∷ text ∷ []))) → option_map (of_bug text) o ≡ Some words → Asks name words
of_text name None text words ids plain some e = cc e
of_text name (Some bug) text words ids plain some e =
    let same : of_bug text bug ≡ words = cc e in
    subst (Asks name) same ((id_plain bug (ids bug refl), (plain, tt)), inl (some (encode_lower bug.bytes)))

-- a comment, and a text
of_comments : (name : List ℕ) (o : Option Id) (text : List ℕ) (words : List (List ℕ)) → ((bug : Id) → o ≡ Some bug → IsId bug) → IsPlain text
    → ((comment : List ℕ) → IsSome (command_of name (comment ∷ text ∷ []))) → option_map (of_comment text) o ≡ Some words → Asks name words
of_comments name None text words ids plain some e = cc e
of_comments name (Some bug) text words ids plain some e =
    let same : of_comment text bug ≡ words = cc e in
    subst (Asks name) same ((comment_plain bug (ids bug refl), (plain, tt)), inl (some (combined_of (encode_lower bug.bytes) (encode_lower bug.bytes))))

title : (number : ℕ) → IsPlain (title_text number)
title number = letter 116 _ (omega arith)

message : (number : ℕ) → IsPlain (message_text number)
message number = letter 109 _ (omega arith)

label : (number : ℕ) → IsPlain (label_text number)
label number = letter 108 _ (omega arith)

folder_plain : (folder : ℕ) → IsPlain (folder_word folder)
folder_plain folder = letter 119 _ (omega arith)

person : (folder : ℕ) → IsPlain (user_text folder) × IsPlain (mail_text folder)
person folder = (letter 117 _ (omega arith), letter 117 _ (omega arith))

-- the name of an edit of a bug, with so many arguments after that of the bug, is a command's
edit_some : (name bug text : List ℕ) → IsCountedEdit name 1 → IsSome (command_of name (bug ∷ text ∷ []))
edit_some name bug text counted = counted_gives name (bug ∷ text ∷ []) (inr (1, omega arith, counted))

short_some : (name bug : List ℕ) → IsCountedEdit name 0 → IsSome (command_of name (bug ∷ []))
short_some name bug counted = counted_gives name (bug ∷ []) (inr (0, omega arith, counted))

each : (act : Act) (folder number : ℕ) (bugs : List Id) (words : List (List ℕ)) → ((pick : ℕ) (bug : Id) → picked bugs pick ≡ Some bug → IsId bug)
    → arguments_for act folder number bugs ≡ Some words → Asks (verb_of act) words
each UserNew folder number bugs words ids e =
    let same : user_text folder ∷ mail_text folder ∷ [] ≡ words = cc e in
    subst (Asks (codes "user-new")) same (((person folder).0, ((person folder).1, tt)), inl (counted_gives (codes "user-new") (user_text folder ∷ mail_text folder ∷ []) (inl (4, omega arith, refl))))
each NewBug folder number bugs words ids e =
    let same : title_text number ∷ message_text number ∷ [] ≡ words = cc e in
    subst (Asks (codes "new")) same ((title number, (message number, tt)), inl (counted_gives (codes "new") (title_text number ∷ message_text number ∷ []) (inl (6, omega arith, refl))))
each (Comment pick) folder number bugs words ids e = of_text (codes "comment") (picked bugs pick) (message_text number) words (ids pick) (message number) (λ bug. edit_some (codes "comment") bug _ (inl (3, omega arith, refl))) e
each (Title pick) folder number bugs words ids e = of_text (codes "title") (picked bugs pick) (title_text number) words (ids pick) (title number) (λ bug. edit_some (codes "title") bug _ (inl (4, omega arith, refl))) e
each (Edit pick) folder number bugs words ids e = of_comments (codes "edit") (picked bugs pick) (message_text number) words (ids pick) (message number) (λ comment. counted_gives (codes "edit") (comment ∷ message_text number ∷ []) (inl (7, omega arith, refl))) e
each (Close pick) folder number bugs words ids e = of_alone (codes "close") (picked bugs pick) words (ids pick) (λ bug. short_some (codes "close") bug (inl (1, omega arith, refl))) e
each (Reopen pick) folder number bugs words ids e = of_alone (codes "open") (picked bugs pick) words (ids pick) (λ bug. short_some (codes "open") bug (inl (2, omega arith, refl))) e
each (LabelAdd pick number) folder place bugs words ids e = of_text (codes "label-add") (picked bugs pick) (label_text number) words (ids pick) (label number) (λ bug. edit_some (codes "label-add") bug _ (inr (omega arith, (0, omega arith, refl)))) e
each (LabelRm pick number) folder place bugs words ids e = of_text (codes "label-rm") (picked bugs pick) (label_text number) words (ids pick) (label number) (λ bug. edit_some (codes "label-rm") bug _ (inr (omega arith, (1, omega arith, refl)))) e
each (Noop pick) folder number bugs words ids e = of_alone (codes "noop") (picked bugs pick) words (ids pick) (λ bug. short_some (codes "noop") bug (inl (0, omega arith, refl))) e
each (Pull peer) folder number bugs words ids e =
    let same : folder_word peer ∷ folder_word peer ∷ [] ≡ words = cc e in
    subst (Asks (codes "pull")) same ((folder_plain peer, (folder_plain peer, tt)), inr (refl, refl))
each (Push peer) folder number bugs words ids e =
    let same : folder_word peer ∷ [] ≡ words = cc e in
    subst (Asks (codes "push")) same ((folder_plain peer, tt), inr (refl, refl))
each PackRefs folder number bugs words ids e =
    let same : [] ≡ words = cc e in
    subst (Asks (codes "pack-refs")) same (tt, inl (counted_gives (codes "pack-refs") [] (inl (8, omega arith, refl))))

-- the bugs of a folder have ids
picked_is : (bugs : List Id) → ((id : Id) → Contains bugs id → IsId id) → (pick : ℕ) (bug : Id) → picked bugs pick ≡ Some bug → IsId bug
picked_is [] all pick bug e = cc e
picked_is (first ∷ more) all pick bug e =
    let bugs = first ∷ more in
    let place = pick % length bugs in
    let same : get_or bugs place first ≡ bug = cc e in
    subst IsId same (all (get_or bugs place first) (Contains-get_or bugs place first (omega arith)))

-- what an event's command takes asks for something
pub event_arguments_ask : (event : Event) (bugs : List Id) (arguments : List (List ℕ)) → ((id : Id) → Contains bugs id → IsId id)
    → arguments_for event.act event.folder event.number bugs ≡ Some arguments → Asks (verb_of event.act) arguments
event_arguments_ask event bugs arguments all is = each event.act event.folder event.number bugs arguments (picked_is bugs all) is

-- the arguments of an event ask for something
pub event_asks : (event : Event) (bugs : List Id) (words : List (List ℕ)) → ((id : Id) → Contains bugs id → IsId id) → words_of event bugs ≡ Some words → asked_of words ≢ asked.Nothing
event_asks event bugs words all are = by (arguments_for event.act event.folder event.number bugs) refl are
  where
    by : (o : Option (List (List ℕ))) → arguments_for event.act event.folder event.number bugs ≡ o → option_map (words_from event) o ≡ Some words → asked_of words ≢ asked.Nothing
    by None is e = cc e
    by (Some arguments) is e =
        let same : words_from event arguments ≡ words = cc e in
        subst (λ (ws : List (List ℕ)). asked_of ws ≢ asked.Nothing) same
        (asks (folder_word event.folder) (verb_of event.act) arguments (event_arguments_ask event bugs arguments all is))
