-- No command is of two kinds: in one folder, with a peer, a merge, or a list.
use Rattle.std.proofs.Common.{◌≡◌, refl, ℕ, List, IsSome, Option, Some, None}
use Rattle.std.specs.Prelude.{option_and_then}
use Rattle.words.specs.Verbs.{verb_of}
use Rattle.words.specs.Words.{by_verb, command_of, list_by_verb, list_command_of, merge_by_verb, merge_command_of, peer_by_verb, peer_command_of}
use Rattle.words.specs.declared.verb.Verb.{Verb}
use Rattle.words.specs.declared.verb.Verb.TheVariants as verb

-- what no command gives both of, no name does
of_no_verb : {X Y : Type 0} (one : Verb → Option X) (two : Verb → Option Y) → ((v : Verb) → IsSome (one v) → IsSome (two v) → ⊥)
    → (name : List ℕ) → IsSome (option_and_then one (verb_of name)) → IsSome (option_and_then two (verb_of name)) → ⊥
of_no_verb one two never name = by (verb_of name)
  where
    by : (o : Option Verb) → IsSome (option_and_then one o) → IsSome (option_and_then two o) → ⊥
    by None some other = cc some
    by (Some v) some other = never v some other

-- no command is one with a peer and one without
one_kind : (v : Verb) (arguments others : List (List ℕ)) → IsSome (by_verb v arguments) → IsSome (peer_by_verb v others) → ⊥
one_kind verb.Fetch arguments others some peer = cc some
one_kind verb.Pull arguments others some peer = cc some
one_kind verb.Push arguments others some peer = cc some
one_kind _ arguments others some peer = cc peer

pub of_one_kind : (name : List ℕ) (arguments others : List (List ℕ)) → IsSome (command_of name arguments) → IsSome (peer_command_of name others) → ⊥
of_one_kind name arguments others = of_no_verb (λ v. by_verb v arguments) (λ v. peer_by_verb v others) (λ v. one_kind v arguments others) name

-- and a merge is neither
merge_alone : (v : Verb) (arguments others : List (List ℕ)) → IsSome (by_verb v arguments) → IsSome (merge_by_verb v others) → ⊥
merge_alone verb.Merge arguments others some merge = cc some
merge_alone _ arguments others some merge = cc merge

merge_has_no_peer : (v : Verb) (arguments others : List (List ℕ)) → IsSome (peer_by_verb v arguments) → IsSome (merge_by_verb v others) → ⊥
merge_has_no_peer verb.Merge arguments others peer merge = cc peer
merge_has_no_peer _ arguments others peer merge = cc merge

pub no_other_merge : (name : List ℕ) (arguments others : List (List ℕ)) → IsSome (command_of name arguments) → IsSome (merge_command_of name others) → ⊥
no_other_merge name arguments others = of_no_verb (λ v. by_verb v arguments) (λ v. merge_by_verb v others) (λ v. merge_alone v arguments others) name

pub no_peer_merge : (name : List ℕ) (arguments others : List (List ℕ)) → IsSome (peer_command_of name arguments) → IsSome (merge_command_of name others) → ⊥
no_peer_merge name arguments others = of_no_verb (λ v. peer_by_verb v arguments) (λ v. merge_by_verb v others) (λ v. merge_has_no_peer v arguments others) name

-- and a list is none of these
list_alone : (v : Verb) (arguments others : List (List ℕ)) → IsSome (by_verb v arguments) → IsSome (list_by_verb v others) → ⊥
list_alone verb.Ls arguments others some list = cc some
list_alone verb.Board arguments others some list = cc some
list_alone _ arguments others some list = cc list

list_has_no_peer : (v : Verb) (arguments others : List (List ℕ)) → IsSome (peer_by_verb v arguments) → IsSome (list_by_verb v others) → ⊥
list_has_no_peer verb.Ls arguments others peer list = cc peer
list_has_no_peer verb.Board arguments others peer list = cc peer
list_has_no_peer _ arguments others peer list = cc list

list_merges_nothing : (v : Verb) (arguments others : List (List ℕ)) → IsSome (merge_by_verb v arguments) → IsSome (list_by_verb v others) → ⊥
list_merges_nothing verb.Ls arguments others merge list = cc merge
list_merges_nothing verb.Board arguments others merge list = cc merge
list_merges_nothing _ arguments others merge list = cc list

pub no_other_list : (name : List ℕ) (arguments others : List (List ℕ)) → IsSome (command_of name arguments) → IsSome (list_command_of name others) → ⊥
no_other_list name arguments others = of_no_verb (λ v. by_verb v arguments) (λ v. list_by_verb v others) (λ v. list_alone v arguments others) name

pub no_peer_list : (name : List ℕ) (arguments others : List (List ℕ)) → IsSome (peer_command_of name arguments) → IsSome (list_command_of name others) → ⊥
no_peer_list name arguments others = of_no_verb (λ v. peer_by_verb v arguments) (λ v. list_by_verb v others) (λ v. list_has_no_peer v arguments others) name

pub no_merge_list : (name : List ℕ) (arguments others : List (List ℕ)) → IsSome (merge_command_of name arguments) → IsSome (list_command_of name others) → ⊥
no_merge_list name arguments others = of_no_verb (λ v. merge_by_verb v arguments) (λ v. list_by_verb v others) (λ v. list_merges_nothing v arguments others) name

-- what never is something is none
pub none_if : {X : Type 0} (o : Option X) → (IsSome o → ⊥) → o ≡ None
none_if None never = refl
none_if (Some x) never = absurd (never refl)
