-- Which command a name is, and which arguments give a command.
use Rattle.std.proofs.Common.{◌≡◌, ◌+◌, ◌∙◌, inl, inr, refl, sym, ap, subst, ℕ, zero, suc, true, List, [], ◌∷◌, length, codes, Contains, IsSome, Option, Some, None, Result, arith}
use Rattle.std.specs.Prelude.{⊤, is_some, not, option_and_then, IfSome}
use Rattle.std.specs.Option.{option_or}
use Rattle.std.specs.Str.{bytes_eq}
use Rattle.std.proofs.lemmas.Slice.Eq.{bytes_eq-Decides}
use Rattle.bug_edits.specs.EditTable.{edit_from, name_of as name_of_edit, name_read}
use Rattle.bug_edits.specs.EditWords.{IsCountedEdit, edit_named}
use Rattle.bug_edits.specs.declared.edit.BugEdit.{BugEdit}
use Rattle.bug_edits.specs.declared.names.EditName.{EditName}
use Rattle.bug_edits.proofs.ReadLemmas.{counted_edits_give, counted_of, each_name, found_passes, name_back, name_is, of_a_name, some_is}
use Rattle.words.specs.Verbs.{name_of, of_edit, other_of, verb_among, verb_of}
use Rattle.words.specs.WordRules.{IsCounted, IsCountedMerge, IsCountedPeer, NamesList, counted_commands, counted_peer_commands}
use Rattle.words.specs.Words.{NamesCommand, by_verb, command_of, edit_of_bug, list_by_verb, list_command_of, merge_by_verb, merge_command_of, peer_by_verb, peer_command_of}
use Rattle.words.specs.declared.verb.TheConstants.{FIRST_VERBS, LAST_VERBS}
use Rattle.words.specs.declared.verb.Verb.{Verb}
use Rattle.words.specs.declared.verb.Verb.TheVariants as verb

-- ---- names

-- a name is that of the command that it is read as
among_is : (verbs : List Verb) (name : List ℕ) (v : Verb) → verb_among verbs name ≡ Some v → name ≡ name_of v
among_is verbs name v is = sym ((bytes_eq-Decides (name_of v) name).0 (found_passes (λ w. bytes_eq (name_of w) name) verbs v is))

either_is : (one two : Option Verb) (v : Verb) (P : Type 0) → (one ≡ Some v → P) → (two ≡ Some v → P) → option_or one two ≡ Some v → P
either_is None two v P of_one of_two is = of_two is
either_is (Some w) two v P of_one of_two is = of_one is

of_edit_is : (o : Option EditName) (name : List ℕ) (v : Verb) → name_read name ≡ o → of_edit o ≡ Some v → name ≡ name_of v
of_edit_is None name v read is = absurd (cc is)
of_edit_is (Some edit) name v read is = let same : verb.OfBug edit ≡ v = cc is in subst (λ w. name ≡ name_of w) same (name_is name edit read)

pub is_named : (name : List ℕ) (v : Verb) → verb_of name ≡ Some v → name ≡ name_of v
is_named name v is =
    either_is (other_of name) (of_edit (name_read name)) v (name ≡ name_of v)
    (λ other. either_is (verb_among FIRST_VERBS name) (verb_among LAST_VERBS name) v (name ≡ name_of v) (among_is FIRST_VERBS name v) (among_is LAST_VERBS name v) other)
    (of_edit_is (name_read name) name v refl) is

-- the name of an edit is that of no other command
no_other : (o : Option Verb) → not (is_some o) ≡ true → o ≡ None
no_other None none = refl
no_other (Some v) none = absurd (cc none)

edit_is_no_other : (edit : EditName) → other_of (name_of_edit edit) ≡ None
edit_is_no_other edit = no_other (other_of (name_of_edit edit)) (each_name (λ e. not (is_some (other_of (name_of_edit e)))) refl edit)

-- the name of each command is read as it
pub read_back : (v : Verb) → verb_of (name_of v) ≡ Some v
read_back verb.UserNew = refl
read_back verb.UserEdit = refl
read_back verb.UserSet = refl
read_back verb.Users = refl
read_back verb.New = refl
read_back (verb.OfBug edit) = ap (λ o. option_or o (of_edit (name_read (name_of_edit edit)))) (edit_is_no_other edit) ∙ ap of_edit (name_back edit)
read_back verb.Edit = refl
read_back verb.Show = refl
read_back verb.Log = refl
read_back verb.Ls = refl
read_back verb.Board = refl
read_back verb.Fetch = refl
read_back verb.Merge = refl
read_back verb.Pull = refl
read_back verb.Push = refl
read_back verb.PackRefs = refl

-- arguments name a command by their second
pub verb_named : (words : List (List ℕ)) → NamesCommand words → (folder : List ℕ) × (rest : List (List ℕ)) × (v : Verb) × (words ≡ folder ∷ name_of v ∷ rest)
verb_named [] none = absurd none
verb_named (folder ∷ []) none = absurd none
verb_named (folder ∷ name ∷ rest) some =
    let found = some_is (verb_of name) some in
    (folder, rest, found.0, ap (λ n. folder ∷ n ∷ rest) (is_named name found.0 found.1))

pub named_by_verb : (folder : List ℕ) (rest : List (List ℕ)) (v : Verb) → NamesCommand (folder ∷ name_of v ∷ rest)
named_by_verb folder rest v = subst IsSome (sym (read_back v)) refl

-- what gives something by its command is the name of one
pub of_a_verb : {X : Type 0} (gives : Verb → Option X) (name : List ℕ) (x : X) → option_and_then gives (verb_of name) ≡ Some x → (v : Verb) × (name ≡ name_of v) × (gives v ≡ Some x)
of_a_verb gives name x is = by (verb_of name) refl is
  where
    by : (o : Option Verb) → verb_of name ≡ o → option_and_then gives o ≡ Some x → (v : Verb) × (name ≡ name_of v) × (gives v ≡ Some x)
    by None named is = absurd (cc is)
    by (Some v) named is = (v, is_named name v named, is)

-- ---- numbers of arguments

-- an edit of a bug has one argument more than it counts
edit_is_counted : (edit : EditName) (words : List (List ℕ)) → IfSome (edit_from edit words) (λ read. IsCountedEdit (name_of_edit edit) (length words))
    → (bug : List ℕ) → IfSome (edit_of_bug bug (edit_from edit words)) (λ read. IsCounted (name_of_edit edit) (length (bug ∷ words)))
edit_is_counted edit words so bug = by (edit_from edit words) so
  where
    by : (o : Option (Result BugEdit ℕ)) → IfSome o (λ read. IsCountedEdit (name_of_edit edit) (length words)) → IfSome (edit_of_bug bug o) (λ read. IsCounted (name_of_edit edit) (length (bug ∷ words)))
    by None so = tt
    by (Some read) so = inr (length words, omega arith, so)

-- a command has the name and the number of arguments of one that is listed
counted : (v : Verb) (arguments : List (List ℕ)) → IfSome (by_verb v arguments) (λ read. IsCounted (name_of v) (length arguments))
counted verb.Users [] = inl (0, omega arith, refl)
counted verb.Log (one ∷ []) = inl (1, omega arith, refl)
counted verb.Show (one ∷ []) = inl (2, omega arith, refl)
counted verb.UserSet (one ∷ []) = inl (3, omega arith, refl)
counted verb.UserNew (one ∷ two ∷ []) = inl (4, omega arith, refl)
counted verb.UserEdit (one ∷ two ∷ []) = inl (5, omega arith, refl)
counted verb.New (one ∷ two ∷ []) = inl (6, omega arith, refl)
counted (verb.OfBug edit) (bug ∷ words) = edit_is_counted edit words (counted_of edit words) bug
counted verb.Edit (one ∷ two ∷ []) = inl (7, omega arith, refl)
counted verb.PackRefs [] = inl (8, omega arith, refl)
counted _ _ = tt

pub only_counted : (name : List ℕ) (arguments : List (List ℕ)) → IsSome (command_of name arguments) → IsCounted name (length arguments)
only_counted name arguments some =
    let read = some_is (command_of name arguments) some in
    let by = of_a_verb (λ v. by_verb v arguments) name read.0 read.1 in
    subst (λ n. IsCounted n (length arguments)) (sym by.1)
    (subst (λ o. IfSome o (λ r. IsCounted (name_of by.0) (length arguments))) by.2 (counted by.0 arguments))

-- one with a peer too
counted_peer : (v : Verb) (arguments : List (List ℕ)) → IfSome (peer_by_verb v arguments) (λ p. IsCountedPeer (name_of v) (length arguments))
counted_peer verb.Fetch (one ∷ two ∷ []) = (0, omega arith, refl)
counted_peer verb.Pull (one ∷ two ∷ []) = (1, omega arith, refl)
counted_peer verb.Push (one ∷ []) = (2, omega arith, refl)
counted_peer _ _ = tt

pub only_counted_peers : (name : List ℕ) (arguments : List (List ℕ)) → IsSome (peer_command_of name arguments) → IsCountedPeer name (length arguments)
only_counted_peers name arguments some =
    let p = some_is (peer_command_of name arguments) some in
    let by = of_a_verb (λ v. peer_by_verb v arguments) name p.0 p.1 in
    subst (λ n. IsCountedPeer n (length arguments)) (sym by.1)
    (subst (λ o. IfSome o (λ r. IsCountedPeer (name_of by.0) (length arguments))) by.2 (counted_peer by.0 arguments))

-- and a merge
counted_merge : (v : Verb) (arguments : List (List ℕ)) → IfSome (merge_by_verb v arguments) (λ remote. IsCountedMerge (name_of v) (length arguments))
counted_merge verb.Merge (one ∷ []) = (refl, refl)
counted_merge _ _ = tt

pub only_counted_merges : (name : List ℕ) (arguments : List (List ℕ)) → IsSome (merge_command_of name arguments) → IsCountedMerge name (length arguments)
only_counted_merges name arguments some =
    let remote = some_is (merge_command_of name arguments) some in
    let by = of_a_verb (λ v. merge_by_verb v arguments) name remote.0 remote.1 in
    subst (λ n. IsCountedMerge n (length arguments)) (sym by.1)
    (subst (λ o. IfSome o (λ r. IsCountedMerge (name_of by.0) (length arguments))) by.2 (counted_merge by.0 arguments))

-- and a list has a name of one, whatever its arguments
names_list : (v : Verb) (arguments : List (List ℕ)) → IsSome (list_by_verb v arguments) → NamesList (name_of v)
names_list verb.Ls arguments some = inl refl
names_list verb.Board arguments some = inr refl
names_list _ arguments some = cc some

pub only_named_lists : (name : List ℕ) (arguments : List (List ℕ)) → IsSome (list_command_of name arguments) → NamesList name
only_named_lists name arguments some =
    let list = some_is (list_command_of name arguments) some in
    let by = of_a_verb (λ v. list_by_verb v arguments) name list.0 list.1 in
    subst NamesList (sym by.1) (names_list by.0 arguments (subst IsSome (sym by.2) refl))

-- ---- the other way

-- so many arguments
no_word : (P : List (List ℕ) → Type 0) → P [] → (arguments : List (List ℕ)) → length arguments ≡ 0 → P arguments
no_word P holds [] count = holds
no_word P holds (a ∷ more) count = absurd (omega (arith, count))

one_word : (P : List (List ℕ) → Type 0) → ((a : List ℕ) → P (a ∷ [])) → (arguments : List (List ℕ)) → length arguments ≡ 1 → P arguments
one_word P holds [] count = absurd (omega (arith, count))
one_word P holds (a ∷ []) count = holds a
one_word P holds (a ∷ b ∷ more) count = absurd (omega (arith, count))

two_words : (P : List (List ℕ) → Type 0) → ((a b : List ℕ) → P (a ∷ b ∷ [])) → (arguments : List (List ℕ)) → length arguments ≡ 2 → P arguments
two_words P holds [] count = absurd (omega (arith, count))
two_words P holds (a ∷ []) count = absurd (omega (arith, count))
two_words P holds (a ∷ b ∷ []) count = holds a b
two_words P holds (a ∷ b ∷ c ∷ more) count = absurd (omega (arith, count))

-- each of these names with so many arguments gives what is asked for
abbrev EachGives : (List ℕ → List (List ℕ) → Type 0) → List (List ℕ × ℕ) → Type 0
EachGives Gives [] = ⊤
EachGives Gives (p ∷ rest) = ((arguments : List (List ℕ)) → length arguments ≡ p.1 → Gives p.0 arguments) × EachGives Gives rest

gives_by : (Gives : List ℕ → List (List ℕ) → Type 0) (listed : List (List ℕ × ℕ)) → EachGives Gives listed → (name : List ℕ) (arguments : List (List ℕ)) → Contains listed (name, length arguments)
    → Gives name arguments
gives_by Gives [] each name arguments (k, few, is) = absurd (omega (arith, few))
gives_by Gives (p ∷ rest) each name arguments (zero, few, is) =
    subst (λ n. Gives n arguments) (ap (λ (q : List ℕ × ℕ). q.0) is) (each.0 arguments (sym (ap (λ (q : List ℕ × ℕ). q.1) is)))
gives_by Gives (p ∷ rest) each name arguments (suc k, few, is) = gives_by Gives rest each.1 name arguments (k, omega (arith, few), is)

-- this name with these arguments gives a command
abbrev Gives : List ℕ → List (List ℕ) → Type 0
Gives name arguments = IsSome (command_of name arguments)

-- it gives one with a peer
abbrev GivesPeer : List ℕ → List (List ℕ) → Type 0
GivesPeer name arguments = IsSome (peer_command_of name arguments)

each_gives : EachGives Gives counted_commands
each_gives = (
  no_word (Gives (codes "users")) refl,
  (
    one_word (Gives (codes "log")) (λ a. refl),
    (
      one_word (Gives (codes "show")) (λ a. refl),
      (
        one_word (Gives (codes "user-set")) (λ a. refl),
        (
          two_words (Gives (codes "user-new")) (λ a b. refl),
          (two_words (Gives (codes "user-edit")) (λ a b. refl), (two_words (Gives (codes "new")) (λ a b. refl), (two_words (Gives (codes "edit")) (λ a b. refl), (no_word (Gives (codes "pack-refs")) refl, tt)))),
        ),
      ),
    ),
  ),
)

-- what an edit of a bug is read as
pub edit_command : (name bug : List ℕ) (words : List (List ℕ)) (read : Result BugEdit ℕ) → edit_named name words ≡ Some read → command_of name (bug ∷ words) ≡ edit_of_bug bug (Some read)
edit_command name bug words read is =
    let by = of_a_name name words read is in
    ap (λ n. option_and_then (λ v. by_verb v (bug ∷ words)) (verb_of n)) by.1
    ∙ ap (option_and_then (λ v. by_verb v (bug ∷ words))) (read_back (verb.OfBug by.0))
    ∙ ap (edit_of_bug bug) by.2

edits_give : (name : List ℕ) (arguments : List (List ℕ)) (others : ℕ) → length arguments ≡ others + 1 → IsCountedEdit name others → Gives name arguments
edits_give name [] others count is = absurd (omega (arith, count))
edits_give name (bug ∷ words) others count is =
    let same : others ≡ length words = omega (arith, count) in
    let read = some_is (edit_named name words) (counted_edits_give name words (subst (IsCountedEdit name) same is)) in
    subst IsSome (sym (edit_command name bug words read.0 read.1)) refl

pub counted_gives : (name : List ℕ) (arguments : List (List ℕ)) → IsCounted name (length arguments) → IsSome (command_of name arguments)
counted_gives name arguments (inl has) = gives_by Gives counted_commands each_gives name arguments has
counted_gives name arguments (inr (others, count, is)) = edits_give name arguments others count is

pub counted_peers_give : (name : List ℕ) (arguments : List (List ℕ)) → IsCountedPeer name (length arguments) → IsSome (peer_command_of name arguments)
counted_peers_give =
    gives_by GivesPeer counted_peer_commands
    (two_words (GivesPeer (codes "fetch")) (λ a b. refl), (two_words (GivesPeer (codes "pull")) (λ a b. refl), (one_word (GivesPeer (codes "push")) (λ a. refl), tt)))

pub counted_merges_give : (name : List ℕ) (arguments : List (List ℕ)) → IsCountedMerge name (length arguments) → IsSome (merge_command_of name arguments)
counted_merges_give name arguments is =
    subst (λ n. IsSome (merge_command_of n arguments)) (sym is.0) (one_word (λ given. IsSome (merge_command_of (codes "merge") given)) (λ a. refl) arguments is.1)
