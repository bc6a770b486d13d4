-- Which rows a query asks for.
use Rattle.std.specs.Prelude.{ℕ, Bool, true, false, ◌&&◌, ◌||◌, if◌then◌else◌, List, [], ◌∷◌, chars, encode_utf8_all, nat_eq}
use Rattle.std.specs.List.{list_all, list_any, starts_with}
use Rattle.std.specs.Str.{bytes_eq}
use Rattle.caseless.specs.Caseless.{default_case_fold}
use Rattle.hex.specs.Hex.{encode_lower}
use Rattle.gb_text.specs.declared.id.Id.{Id}
use Rattle.op_kind.specs.declared.place.Pair.{Pair}
use Rattle.bug_ops.specs.declared.op.BugStatus.{BugStatus}
use Rattle.bug_ops.specs.declared.op.BugStatus.TheVariants.{Opened, Closed}
use Rattle.bug_ops.specs.declared.snapshot.Excerpt.{Excerpt}
use Rattle.identity.specs.declared.chain.Person.{Person}
use Rattle.person_names.specs.Named.{name_among}
use Rattle.query.specs.declared.query.Query.{Query}

-- ---- texts

-- a text, folded by Unicode's full case folding
abbrev pub folded : List ℕ → List ℕ
folded text = encode_utf8_all (default_case_fold (chars text))

-- the bytes of the second text are in the first
abbrev pub occurs : List ℕ → List ℕ → Bool
occurs [] needle = starts_with nat_eq [] needle
occurs (b ∷ bs) needle = starts_with nat_eq (b ∷ bs) needle || occurs bs needle

-- the same of the folded texts
abbrev pub tells : List ℕ → List ℕ → Bool
tells text word = occurs (folded text) (folded word)

-- ---- persons

-- a person matches a text: the name tells it, or the id's digits begin with it
abbrev pub is_person : List Person → List ℕ → Id → Bool
is_person names text id = tells (name_among names id) text || starts_with nat_eq (encode_lower id.bytes) text

-- ---- fields

-- one of those given passes, if there are some
abbrev pub any_of : {X : Type 0} → (X → Bool) → List X → Bool
any_of test [] = true
any_of test (x ∷ xs) = list_any test (x ∷ xs)

abbrev pub same_status : BugStatus → BugStatus → Bool
same_status Opened Opened = true
same_status Closed Closed = true
same_status _ _ = false

abbrev pub same_pair : Pair → Pair → Bool
same_pair a b = bytes_eq a.key b.key && bytes_eq a.value b.value

-- one of these persons matches one of the texts, if there are some
abbrev pub persons_match : List Person → List (List ℕ) → List Id → Bool
persons_match names texts ids = any_of (λ text. list_any (is_person names text) ids) texts

-- each label given is on, byte for byte
abbrev pub labels_match : List (List ℕ) → List (List ℕ) → Bool
labels_match words labels = list_all (λ word. list_any (bytes_eq word) labels) words

-- no label is on, if that is asked
abbrev pub none_match : Bool → List (List ℕ) → Bool
none_match true (label ∷ labels) = false
none_match _ labels = true

-- who made the bug, and who took part
abbrev pub who_matches : List Person → Query → Excerpt → Bool
who_matches names q row =
    persons_match names q.authors (row.author ∷ []) && (persons_match names q.participants row.participants
    && persons_match names q.actors row.actors)

-- status, metadata and labels of the bug
abbrev pub fields_match : Query → Excerpt → Bool
fields_match q row =
    any_of (same_status row.status) q.statuses && any_of (λ pair. list_any (same_pair pair) row.metadata) q.metadata
    && labels_match q.labels row.labels && none_match q.no_label row.labels

-- the row matches the query
abbrev pub matches : List Person → Query → Excerpt → Bool
matches names q row = fields_match q row && (list_all (tells row.title) q.titles && who_matches names q row)
