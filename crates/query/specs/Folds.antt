-- The same rows, by texts and names that are folded once.
use Rattle.std.specs.Prelude.{ℕ, Bool, ◌&&◌, ◌||◌, nat_eq, if◌then◌else◌, List, [], ◌∷◌, map}
use Rattle.std.specs.List.{list_all, list_any, starts_with}
use Rattle.hex.specs.Hex.{encode_lower}
use Rattle.gb_text.specs.declared.id.Id.{Id}
use Rattle.bug_ops.specs.Snapshots.{same_id}
use Rattle.bug_ops.specs.declared.snapshot.Excerpt.{Excerpt}
use Rattle.identity.specs.declared.chain.Person.{Person}
use Rattle.person_names.specs.Named.{short_of}
use Rattle.query.specs.declared.folds.Folds.{Folds}
use Rattle.query.specs.declared.folds.Known.{Known}
use Rattle.query.specs.declared.folds.Sought.{Sought}
use Rattle.query.specs.declared.query.Query.{Query}
use Rattle.query.specs.Matching.{any_of, fields_match, folded, occurs}

-- a text, and it folded
abbrev pub sought_of : List ℕ → Sought
sought_of text = record { text = text; folded = folded text }

-- a person with a folded name
abbrev pub known_of : Person → Known
known_of person = record { id = person.id; name = folded person.name }

-- all that is folded for a query
abbrev pub folds_of : List Person → Query → Folds
folds_of names q =
    record {
      persons = map known_of names;
      authors = map sought_of q.authors;
      participants = map sought_of q.participants;
      actors = map sought_of q.actors;
      titles = map sought_of q.titles;
    }

-- the folded name of an id
abbrev pub folded_among : List Known → Id → List ℕ
folded_among [] id = folded (short_of id)
folded_among (person ∷ persons) id = if same_id person.id id then person.name else folded_among persons id

-- a person matches a text
abbrev pub is_sought : List Known → Sought → Id → Bool
is_sought names word id = occurs (folded_among names id) word.folded || starts_with nat_eq (encode_lower id.bytes) word.text

-- one of these persons matches one of the texts, if there are texts
abbrev pub sought_match : List Known → List Sought → List Id → Bool
sought_match names words ids = any_of (λ word. list_any (is_sought names word) ids) words

-- the title contains each of the texts
abbrev pub titles_match : List ℕ → List Sought → Bool
titles_match title words = list_all (λ word. occurs (folded title) word.folded) words

-- who made the bug, and who took part
abbrev pub folded_who : Folds → Excerpt → Bool
folded_who folds row =
    sought_match folds.persons folds.authors (row.author ∷ []) && (sought_match folds.persons folds.participants row.participants
    && sought_match folds.persons folds.actors row.actors)

-- the row matches the query
abbrev pub folded_matches : Query → Folds → Excerpt → Bool
folded_matches q folds row = fields_match q row && (titles_match row.title folds.titles && folded_who folds row)
