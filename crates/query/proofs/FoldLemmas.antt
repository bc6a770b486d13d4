-- Rows match by folded texts and names as they match.
use Rattle.std.proofs.Common.{◌≡◌, ℕ, ◌+◌, Bool, true, false, ◌&&◌, ◌||◌, nat_eq, if◌then◌else◌, List, [], ◌∷◌, map, refl, sym, ap, ◌∙◌}
use Rattle.std.specs.List.{list_all, list_any, starts_with}
use Rattle.hex.specs.Hex.{encode_lower}
use Rattle.gb_text.specs.declared.id.Id.{Id}
use Rattle.bug_ops.specs.Snapshots.{same_id}
use Rattle.bug_ops.specs.declared.snapshot.Excerpt.{Excerpt}
use Rattle.identity.specs.declared.chain.Person.{Person}
use Rattle.person_names.specs.Named.{name_among}
use Rattle.query.specs.declared.folds.Folds.{Folds}
use Rattle.query.specs.declared.folds.Known.{Known}
use Rattle.query.specs.declared.folds.Sought.{Sought}
use Rattle.query.specs.declared.query.Query.{Query}
use Rattle.query.specs.declared.query.SortKey.{SortKey}
use Rattle.query.specs.Answers.{matching, matching_by, placed_of}
use Rattle.query.specs.Folds.{folded_among, folded_matches, folded_who, folds_of, is_sought, known_of, sought_match, sought_of, titles_match}
use Rattle.query.specs.Matching.{fields_match, folded, is_person, matches, occurs, persons_match, tells, who_matches}

any_same : {X Y : Type 0} (f : Y → Bool) (g : X → Bool) (h : X → Y) → ((x : X) → f (h x) ≡ g x) → (xs : List X) → list_any f (map h xs) ≡ list_any g xs
any_same f g h same [] = refl
any_same f g h same (x ∷ xs) = rw (same x, any_same f g h same xs) refl

any_alike : {X : Type 0} (f g : X → Bool) → ((x : X) → f x ≡ g x) → (xs : List X) → list_any f xs ≡ list_any g xs
any_alike f g same [] = refl
any_alike f g same (x ∷ xs) = rw (same x, any_alike f g same xs) refl

all_same : {X Y : Type 0} (f : Y → Bool) (g : X → Bool) (h : X → Y) → ((x : X) → f (h x) ≡ g x) → (xs : List X) → list_all f (map h xs) ≡ list_all g xs
all_same f g h same [] = refl
all_same f g h same (x ∷ xs) = rw (same x, all_same f g h same xs) refl

fold_choice : (b : Bool) (x y : List ℕ) → (if b then folded x else folded y) ≡ folded (if b then x else y)
fold_choice true x y = refl
fold_choice false x y = refl

folded_name : (names : List Person) (id : Id) → folded_among (map known_of names) id ≡ folded (name_among names id)
folded_name [] id = refl
folded_name (person ∷ names) id =
    ap (λ rest. if same_id person.id id then folded person.name else rest) (folded_name names id)
    ∙ fold_choice (same_id person.id id) person.name (name_among names id)

sought_is : (names : List Person) (text : List ℕ) (id : Id) → is_sought (map known_of names) (sought_of text) id ≡ is_person names text id
sought_is names text id = ap (λ name. occurs name (folded text) || starts_with nat_eq (encode_lower id.bytes) text) (folded_name names id)

persons_are : (names : List Person) (texts : List (List ℕ)) (ids : List Id) → sought_match (map known_of names) (map sought_of texts) ids ≡ persons_match names texts ids
persons_are names [] ids = refl
persons_are names (text ∷ texts) ids =
    any_same (λ word. list_any (is_sought (map known_of names) word) ids) (λ t. list_any (is_person names t) ids) sought_of
    (λ t. any_alike (is_sought (map known_of names) (sought_of t)) (is_person names t) (sought_is names t) ids) (text ∷ texts)

titles_are : (title : List ℕ) (texts : List (List ℕ)) → titles_match title (map sought_of texts) ≡ list_all (tells title) texts
titles_are title texts = all_same (λ word. occurs (folded title) word.folded) (tells title) sought_of (λ t. refl) texts

pub matches_are : (names : List Person) (q : Query) (row : Excerpt) → folded_matches q (folds_of names q) row ≡ matches names q row
matches_are names q row =
    ap (λ t. fields_match q row && (t && folded_who (folds_of names q) row)) (titles_are row.title q.titles)
    ∙ ap (λ t. fields_match q row && (list_all (tells row.title) q.titles && (t && (sought_match (map known_of names) (map sought_of q.participants) row.participants && sought_match (map known_of names) (map sought_of q.actors) row.actors)))) (persons_are names q.authors (row.author ∷ []))
    ∙ ap (λ t. fields_match q row && (list_all (tells row.title) q.titles && (persons_match names q.authors (row.author ∷ []) && (t && sought_match (map known_of names) (map sought_of q.actors) row.actors)))) (persons_are names q.participants row.participants)
    ∙ ap (λ t. fields_match q row && (list_all (tells row.title) q.titles && (persons_match names q.authors (row.author ∷ []) && (persons_match names q.participants row.participants && t)))) (persons_are names q.actors row.actors)

pub matching_alike : (f g : Excerpt → Bool) → ((row : Excerpt) → f row ≡ g row) → (key : SortKey) (place : ℕ) (rows : List Excerpt) → matching_by f key place rows ≡ matching_by g key place rows
matching_alike f g same key place [] = refl
matching_alike f g same key place (row ∷ rows) = rw (same row, matching_alike f g same key (place + 1) rows) refl

pub folded_rows : (names : List Person) (q : Query) (folds : Folds) (rows : List Excerpt) → folds ≡ folds_of names q → matching_by (folded_matches q folds) q.key 0 rows ≡ matching names q 0 rows
folded_rows names q folds rows is =
    ap (λ f. matching_by (folded_matches q f) q.key 0 rows) is
    ∙ matching_alike (folded_matches q (folds_of names q)) (matches names q) (matches_are names q) q.key 0 rows
