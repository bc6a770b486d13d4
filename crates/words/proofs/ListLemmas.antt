-- What a list asks for, and in which order its arguments are judged.
use Rattle.std.proofs.Common.{◌≡◌, ◌∙◌, inl, inr, refl, sym, ap, ap₂, subst, ℕ, List, [], ◌∷◌, ◌++◌, map, codes, IsSome, Some, None, Result, Ok, Err}
use Rattle.std.specs.Prelude.{option_map}
use Rattle.std.specs.List.{join_by}
use Rattle.std.proofs.lemmas.List.{append-nil, append_assoc}
use Rattle.std.proofs.lemmas.List.Folds.{flat_map-map}
use Rattle.gb_text.specs.Folder.{folder_of}
use Rattle.bug_edits.proofs.ReadLemmas.{some_is}
use Rattle.query.specs.Meaning.{IsRefusal}
use Rattle.query.specs.Reading.{query_of}
use Rattle.query.specs.declared.fault.QueryFault.{QueryFault}
use Rattle.query.specs.declared.fault.QueryFault.TheVariants.{BadValue, Memory, OpenQuote, UnknownField}
use Rattle.query.specs.declared.query.Query.{Query}
use Rattle.query.proofs.MeaningLemmas.{refused}
use Rattle.words.specs.Arguments.{arguments_of}
use Rattle.words.specs.WordRules.{NamesList}
use Rattle.words.specs.Words.{asked_by, asked_of, command_of, list_command_of, list_in, list_of, merge_command_of, peer_command_of, query_or_bad, spaced}
use Rattle.words.specs.declared.list.BadQuery.{BadQuery}
use Rattle.words.specs.declared.list.Layout.{Layout}
use Rattle.words.specs.declared.list.Layout.TheVariants.{Board, Lines}
use Rattle.words.specs.declared.words.Asked.TheVariants as asked
use Rattle.words.specs.declared.words.BadWord.TheVariants.{BadFolder}
use Rattle.words.specs.declared.words.BadWord.TheVariants as bad_word
use Rattle.words.proofs.AskLemmas.{asked_with}
use Rattle.words.proofs.KindLemmas.{no_merge_list, no_other_list, no_peer_list, none_if}

-- ---- one text

-- texts are joined as the lists of their bytes are
pub spaced-map : {X : Type 0} (bytes : X → List ℕ) (arguments : List X) → join_by bytes (codes " ") arguments ≡ spaced (map bytes arguments)
spaced-map bytes [] = refl
spaced-map bytes (argument ∷ others) = ap (λ text. bytes argument ++ text) (sym (flat_map-map (λ text. codes " " ++ text) bytes others))

pub spaced-one : (argument : List ℕ) → spaced (argument ∷ []) ≡ argument
spaced-one argument = append-nil argument

pub spaced-more : (argument next : List ℕ) (others : List (List ℕ)) → spaced (argument ∷ next ∷ others) ≡ argument ++ codes " " ++ spaced (next ∷ others)
spaced-more argument next others = sym (append_assoc argument (codes " ") (spaced (next ∷ others)))

-- ---- the query

-- memory is no fault of a text
not_memory : (text : List ℕ) → query_of text ≡ Err Memory → ⊥
not_memory text is = by (refused text Memory is)
  where
    by : IsRefusal text Memory → ⊥
    by (inl (place, quote, fault)) = cc fault
    by (inr (closed, first)) = elim first.place [ inl fault ↦ cc fault | inr fault ↦ cc fault ]

-- so each text is a query, or is refused
is_some_by : (layout : Layout) (read : Result Query QueryFault) → (read ≡ Err Memory → ⊥)
    → IsSome {T = Layout × Result Query BadQuery} (option_map (λ query. (layout, query)) (query_or_bad read))
is_some_by layout (Ok query) never = refl
is_some_by layout (Err Memory) never = absurd (never refl)
is_some_by layout (Err (UnknownField place)) never = refl
is_some_by layout (Err (BadValue place)) never = refl
is_some_by layout (Err (OpenQuote place)) never = refl

list_given : (layout : Layout) (arguments : List (List ℕ)) → IsSome (list_of layout arguments)
list_given layout arguments = is_some_by layout (query_of (spaced arguments)) (not_memory (spaced arguments))

pub named_lists_give : (name : List ℕ) (arguments : List (List ℕ)) → NamesList name → IsSome (list_command_of name arguments)
named_lists_give name arguments (inl is) = subst (λ n. IsSome (list_command_of n arguments)) (sym is) (list_given Lines arguments)
named_lists_give name arguments (inr is) = subst (λ n. IsSome (list_command_of n arguments)) (sym is) (list_given Board arguments)

-- what is read of the arguments
pub list_read : (layout : Layout) (arguments : List (List ℕ)) (read : Result Query QueryFault) → query_of (spaced arguments) ≡ read
    → list_of layout arguments ≡ option_map (λ query. (layout, query)) (query_or_bad read)
list_read layout arguments read is = ap (λ r. option_map (λ query. (layout, query)) (query_or_bad r)) is

-- ---- the order of refusals

-- what gives a list gives nothing else
no_command : (name : List ℕ) (arguments : List (List ℕ)) → IsSome (list_command_of name arguments) → command_of name arguments ≡ None
no_command name arguments some = none_if (command_of name arguments) (λ command. no_other_list name arguments arguments command some)

no_peer : (name : List ℕ) (arguments : List (List ℕ)) → IsSome (list_command_of name arguments) → peer_command_of name arguments ≡ None
no_peer name arguments some = none_if (peer_command_of name arguments) (λ peer. no_peer_list name arguments arguments peer some)

no_merge : (name : List ℕ) (arguments : List (List ℕ)) → IsSome (list_command_of name arguments) → merge_command_of name arguments ≡ None
no_merge name arguments some = none_if (merge_command_of name arguments) (λ merge. no_merge_list name arguments arguments merge some)

-- what is asked of a folder that may be bad, and of arguments that may be no query
listed : (folder name : List ℕ) (rest arguments : List (List ℕ)) (layout : Layout) (query : Result Query BadQuery) → arguments_of rest ≡ Some arguments
    → list_command_of name arguments ≡ Some (layout, query) → asked_of (folder ∷ name ∷ rest) ≡ list_in (folder_of folder) layout query
listed folder name rest arguments layout query are is =
    let some = subst IsSome (sym is) refl in
    asked_with folder name rest arguments are
    ∙ ap₂ (λ c p. asked_by (folder_of folder) c p (merge_command_of name arguments) (list_command_of name arguments)) (no_command name arguments some) (no_peer name arguments some)
    ∙ ap₂ (asked_by (folder_of folder) None None) (no_merge name arguments some) is

pub bad_folder : (folder name : List ℕ) (rest arguments : List (List ℕ)) → arguments_of rest ≡ Some arguments → IsSome (list_command_of name arguments) → folder_of folder ≡ None
    → asked_of (folder ∷ name ∷ rest) ≡ asked.Refused BadFolder
bad_folder folder name rest arguments are some bad =
    let list = some_is (list_command_of name arguments) some in
    listed folder name rest arguments list.0.0 list.0.1 are list.1 ∙ ap (λ f. list_in f list.0.0 list.0.1) bad

pub bad_query : (folder name : List ℕ) (rest arguments : List (List ℕ)) (read : List ℕ) (layout : Layout) (bad : BadQuery) → arguments_of rest ≡ Some arguments → folder_of folder ≡ Some read
    → list_command_of name arguments ≡ Some (layout, Err bad) → asked_of (folder ∷ name ∷ rest) ≡ asked.Refused (bad_word.BadQuery bad)
bad_query folder name rest arguments read layout bad are good is = listed folder name rest arguments layout (Err bad) are is ∙ ap (λ f. list_in f layout (Err bad)) good

pub list_asked : (folder name : List ℕ) (rest arguments : List (List ℕ)) (read : List ℕ) (layout : Layout) (query : Query) → arguments_of rest ≡ Some arguments → folder_of folder ≡ Some read
    → list_command_of name arguments ≡ Some (layout, Ok query) → asked_of (folder ∷ name ∷ rest) ≡ asked.List (record { folder = read; layout = layout; query = query })
list_asked folder name rest arguments read layout query are good is = listed folder name rest arguments layout (Ok query) are is ∙ ap (λ f. list_in f layout (Ok query)) good
