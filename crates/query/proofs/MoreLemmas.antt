-- What one word more does to the rows that match.
use Rattle.std.proofs.Common.{◌≡◌, ◌≢◌, ℕ, Bool, true, false, ◌&&◌, ◌||◌, List, [], ◌∷◌, ◌++◌, refl, sym, ap, ◌∙◌, subst}
use Rattle.std.specs.List.{list_all, list_any}
use Rattle.std.specs.Str.{bytes_eq}
use Rattle.std.proofs.lemmas.Bool.{and_parts}
use Rattle.gb_text.specs.declared.id.Id.{Id}
use Rattle.bug_ops.specs.declared.snapshot.Excerpt.{Excerpt}
use Rattle.identity.specs.declared.chain.Person.{Person}
use Rattle.query.specs.declared.query.Query.{Query}
use Rattle.query.specs.declared.term.Term.{Term}
use Rattle.query.specs.declared.term.Term.TheVariants.{Status, Author, Participant, Actor, Metadata, Label, Title, NoLabel, Sort}
use Rattle.query.specs.Matching.{any_of, fields_match, is_person, labels_match, matches, none_match, persons_match, same_pair, same_status, tells, who_matches}
use Rattle.query.specs.More.{IsDemand, IsFurther}
use Rattle.query.specs.Reading.{with_term}

both : (x y : Bool) → x ≡ true → y ≡ true → (x && y) ≡ true
both x y h k = rw (h, k) refl

any_more : {X : Type 0} (f : X → Bool) (xs ys : List X) → list_any f xs ≡ true → list_any f (xs ++ ys) ≡ true
any_more f [] ys h = cc
any_more f (x ∷ xs) ys h = elim (f x) as (λ b. (b || list_any f xs) ≡ true → (b || list_any f (xs ++ ys)) ≡ true) [ true ↦ λ e. refl | false ↦ λ e. any_more f xs ys e ] h

-- a further alternative
any_of_more : {X : Type 0} (f : X → Bool) (xs ys : List X) → xs ≢ [] → any_of f xs ≡ true → any_of f (xs ++ ys) ≡ true
any_of_more f [] ys some h = absurd (some refl)
any_of_more f (x ∷ xs) ys some h = any_more f (x ∷ xs) ys h

-- one demand less
all_less : {X : Type 0} (f : X → Bool) (xs ys : List X) → list_all f (xs ++ ys) ≡ true → list_all f xs ≡ true
all_less f [] ys h = refl
all_less f (x ∷ xs) ys h =
    let parts = and_parts (f x) (list_all f (xs ++ ys)) h in
    both (f x) (list_all f xs) parts.0 (all_less f xs ys parts.1)

none_less : (asked : Bool) (labels : List (List ℕ)) → none_match true labels ≡ true → none_match asked labels ≡ true
none_less true labels h = h
none_less false [] h = refl
none_less false (label ∷ labels) h = refl

-- the eight parts of a match
record Parts (names : List Person) (q : Query) (row : Excerpt) : Type 0 where
  pub statuses : any_of (same_status row.status) q.statuses ≡ true
  pub metadata : any_of (λ pair. list_any (same_pair pair) row.metadata) q.metadata ≡ true
  pub labels : labels_match q.labels row.labels ≡ true
  pub none : none_match q.no_label row.labels ≡ true
  pub titles : list_all (tells row.title) q.titles ≡ true
  pub authors : persons_match names q.authors (row.author ∷ []) ≡ true
  pub participants : persons_match names q.participants row.participants ≡ true
  pub actors : persons_match names q.actors row.actors ≡ true

parts_of : (names : List Person) (q : Query) (row : Excerpt) → matches names q row ≡ true → Parts names q row
parts_of names q row h =
    let all = and_parts (fields_match q row) (list_all (tells row.title) q.titles && who_matches names q row) h in
    let three = and_parts (any_of (same_status row.status) q.statuses && any_of (λ pair. list_any (same_pair pair) row.metadata) q.metadata && labels_match q.labels row.labels) (none_match q.no_label row.labels) all.0 in
    let two = and_parts (any_of (same_status row.status) q.statuses && any_of (λ pair. list_any (same_pair pair) row.metadata) q.metadata) (labels_match q.labels row.labels) three.0 in
    let one = and_parts (any_of (same_status row.status) q.statuses) (any_of (λ pair. list_any (same_pair pair) row.metadata) q.metadata) two.0 in
    let rest = and_parts (list_all (tells row.title) q.titles) (who_matches names q row) all.1 in
    let who = and_parts (persons_match names q.authors (row.author ∷ [])) (persons_match names q.participants row.participants && persons_match names q.actors row.actors) rest.1 in
    let last = and_parts (persons_match names q.participants row.participants) (persons_match names q.actors row.actors) who.1 in
    record {
      statuses = one.0;
      metadata = one.1;
      labels = two.1;
      none = three.1;
      titles = rest.0;
      authors = who.0;
      participants = last.0;
      actors = last.1;
    }

from_parts : (names : List Person) (q : Query) (row : Excerpt) → Parts names q row → matches names q row ≡ true
from_parts names q row p = rw (p.statuses, p.metadata, p.labels, p.none, p.titles, p.authors, p.participants, p.actors) refl

pub further_widens : (names : List Person) (q : Query) (term : Term) (row : Excerpt) → IsFurther q term → matches names q row ≡ true → matches names (with_term q term) row ≡ true
further_widens names q (Status status) row some h =
    let p = parts_of names q row h in
    from_parts names (with_term q (Status status)) row (record {
      statuses = any_of_more (same_status row.status) q.statuses (status ∷ []) some p.statuses;
      metadata = p.metadata;
      labels = p.labels;
      none = p.none;
      titles = p.titles;
      authors = p.authors;
      participants = p.participants;
      actors = p.actors;
    })
further_widens names q (Author text) row some h =
    let p = parts_of names q row h in
    from_parts names (with_term q (Author text)) row (record {
      statuses = p.statuses;
      metadata = p.metadata;
      labels = p.labels;
      none = p.none;
      titles = p.titles;
      authors = any_of_more (λ t. list_any (is_person names t) (row.author ∷ [])) q.authors (text ∷ []) some p.authors;
      participants = p.participants;
      actors = p.actors;
    })
further_widens names q (Participant text) row some h =
    let p = parts_of names q row h in
    from_parts names (with_term q (Participant text)) row (record {
      statuses = p.statuses;
      metadata = p.metadata;
      labels = p.labels;
      none = p.none;
      titles = p.titles;
      authors = p.authors;
      participants = any_of_more (λ t. list_any (is_person names t) row.participants) q.participants (text ∷ []) some p.participants;
      actors = p.actors;
    })
further_widens names q (Actor text) row some h =
    let p = parts_of names q row h in
    from_parts names (with_term q (Actor text)) row (record {
      statuses = p.statuses;
      metadata = p.metadata;
      labels = p.labels;
      none = p.none;
      titles = p.titles;
      authors = p.authors;
      participants = p.participants;
      actors = any_of_more (λ t. list_any (is_person names t) row.actors) q.actors (text ∷ []) some p.actors;
    })
further_widens names q (Metadata pair) row some h =
    let p = parts_of names q row h in
    from_parts names (with_term q (Metadata pair)) row (record {
      statuses = p.statuses;
      metadata = any_of_more (λ one. list_any (same_pair one) row.metadata) q.metadata (pair ∷ []) some p.metadata;
      labels = p.labels;
      none = p.none;
      titles = p.titles;
      authors = p.authors;
      participants = p.participants;
      actors = p.actors;
    })
further_widens names q (Label text) row some h = absurd some
further_widens names q (Title text) row some h = absurd some
further_widens names q NoLabel row some h = absurd some
further_widens names q (Sort key down) row some h = absurd some

pub demands_narrow : (names : List Person) (q : Query) (term : Term) (row : Excerpt) → IsDemand term → matches names (with_term q term) row ≡ true → matches names q row ≡ true
demands_narrow names q (Label text) row is h =
    let p = parts_of names (with_term q (Label text)) row h in
    from_parts names q row (record {
      statuses = p.statuses;
      metadata = p.metadata;
      labels = all_less (λ word. list_any (bytes_eq word) row.labels) q.labels (text ∷ []) p.labels;
      none = p.none;
      titles = p.titles;
      authors = p.authors;
      participants = p.participants;
      actors = p.actors;
    })
demands_narrow names q (Title text) row is h =
    let p = parts_of names (with_term q (Title text)) row h in
    from_parts names q row (record {
      statuses = p.statuses;
      metadata = p.metadata;
      labels = p.labels;
      none = p.none;
      titles = all_less (tells row.title) q.titles (text ∷ []) p.titles;
      authors = p.authors;
      participants = p.participants;
      actors = p.actors;
    })
demands_narrow names q NoLabel row is h =
    let p = parts_of names (with_term q NoLabel) row h in
    from_parts names q row (record {
      statuses = p.statuses;
      metadata = p.metadata;
      labels = p.labels;
      none = none_less q.no_label row.labels p.none;
      titles = p.titles;
      authors = p.authors;
      participants = p.participants;
      actors = p.actors;
    })
demands_narrow names q (Status status) row is h = absurd is
demands_narrow names q (Author text) row is h = absurd is
demands_narrow names q (Participant text) row is h = absurd is
demands_narrow names q (Actor text) row is h = absurd is
demands_narrow names q (Metadata pair) row is h = absurd is
demands_narrow names q (Sort key down) row is h = absurd is
