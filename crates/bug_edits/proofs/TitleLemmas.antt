-- Titles that are read one after another.
use Rattle.std.proofs.Common.{◌≡◌, ◌≤◌, ◌<◌, ◌∙◌, ◌+◌, ◌++◌, refl, sym, ap, subst, ℕ, suc, List, [], ◌∷◌, length, drop, get_or, map, Some, None, Result, Ok, Err, append_assoc, append-nil, drop-cons, arith}
use Rattle.std.proofs.lemmas.List.{drop_all}
use Rattle.gb_text.specs.Ruled.{title_of}
use Rattle.gb_text.specs.declared.ruled.Title.{Title}
use Rattle.bug_edits.specs.Given.{at, made, made_of_two, titles_from}

-- what all words give, by the titles so far and the words that are left, of which the first is at a place
abbrev pub So : {X : Type 0} → (X → List ℕ) → Result (List Title) ℕ → List Title → ℕ → List X → Type 0
So bytes all titles place left = all ≡ made (titles_from place (map bytes left)) (λ others. titles ++ others)

-- a title more
one_more : (titles : List Title) (title : Title) (read : Result (List Title) ℕ)
    → made (made_of_two (Ok title) read (λ first others. first ∷ others)) (λ others. titles ++ others) ≡ made read (λ others. (titles ++ title ∷ []) ++ others)
one_more titles title (Ok others) = ap Ok (sym (append_assoc titles (title ∷ []) others))
one_more titles title (Err place) = refl

with_one_more : {X : Type 0} (bytes : X → List ℕ) (all : Result (List Title) ℕ) (titles : List Title) (place : ℕ) (word : X) (left : List X) (title : Title)
    → Some title ≡ title_of (bytes word) → So bytes all titles place (word ∷ left) → So bytes all (titles ++ title ∷ []) (place + 1) left
with_one_more bytes all titles place word left title is so =
    so
    ∙ ap (λ o. made (made_of_two (at place o) (titles_from (place + 1) (map bytes left)) (λ first others. first ∷ others)) (λ others. titles ++ others)) (sym is)
    ∙ one_more titles title (titles_from (place + 1) (map bytes left))

-- before the first
none_yet : (read : Result (List Title) ℕ) → read ≡ made read (λ others. [] ++ others)
none_yet (Ok titles) = refl
none_yet (Err place) = refl

pub with_the_first : {X : Type 0} (bytes : X → List ℕ) (place : ℕ) (word : X) (left : List X) (title : Title) → Some title ≡ title_of (bytes word)
    → So bytes (titles_from place (map bytes (word ∷ left))) (title ∷ []) (place + 1) left
with_the_first bytes place word left title is =
    with_one_more bytes (titles_from place (map bytes (word ∷ left))) [] place word left title is (none_yet (titles_from place (map bytes (word ∷ left))))

-- the words from one on
from_word : {X : Type 0} (words : List X) (index : ℕ) (d : X) → index < length words → drop index words ≡ get_or words index d ∷ drop (index + 1) words
from_word words index d within =
    let next : suc index ≡ index + 1 = omega arith in
    drop-cons words index d within ∙ ap (λ n. get_or words index d ∷ drop n words) next

pub with_the_next : {X : Type 0} (bytes : X → List ℕ) (all : Result (List Title) ℕ) (titles : List Title) (words : List X) (index : ℕ) (d : X) (title : Title)
    → index < length words → Some title ≡ title_of (bytes (get_or words index d))
    → So bytes all titles (index + 3) (drop index words) → So bytes all (titles ++ title ∷ []) (index + 1 + 3) (drop (index + 1) words)
with_the_next bytes all titles words index d title within is so =
    let next : index + 3 + 1 ≡ index + 1 + 3 = omega arith in
    subst (λ place. So bytes all (titles ++ title ∷ []) place (drop (index + 1) words)) next
    (with_one_more bytes all titles (index + 3) (get_or words index d) (drop (index + 1) words) title is (subst (So bytes all titles (index + 3)) (from_word words index d within) so))

-- a word that is no title ends it
pub ends_there : {X : Type 0} (bytes : X → List ℕ) (all : Result (List Title) ℕ) (titles : List Title) (words : List X) (index : ℕ) (d : X)
    → index < length words → None ≡ title_of (bytes (get_or words index d)) → So bytes all titles (index + 3) (drop index words) → Err (index + 3) ≡ all
ends_there bytes all titles words index d within is so =
    let left = drop (index + 1) words in
    let ends : all ≡ Err (index + 3) =
    subst (So bytes all titles (index + 3)) (from_word words index d within) so
    ∙ ap (λ o. made (made_of_two (at (index + 3) o) (titles_from (index + 3 + 1) (map bytes left)) (λ first others. first ∷ others)) (λ others. titles ++ others)) (sym is) in
    sym ends

-- no word is left
pub all_read : {X : Type 0} (bytes : X → List ℕ) (all : Result (List Title) ℕ) (titles : List Title) (words : List X) (index place : ℕ) → length words ≤ index
    → So bytes all titles place (drop index words) → Ok titles ≡ all
all_read bytes all titles words index place over so =
    let ends : all ≡ Ok (titles ++ []) = subst (So bytes all titles place) (drop_all index words over) so in
    sym (ends ∙ ap Ok (append-nil titles))
