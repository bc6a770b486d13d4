-- How a query is written.
use Rattle.std.specs.Prelude.{◌≡◌, ◌≢◌, ◌==◌, ℕ, Bool, true, false, List, [], ◌++◌, codes}
use Rattle.std.specs.List.{AllByRecursion, flat_map}
use Rattle.op_kind.specs.declared.place.Pair.{Pair}
use Rattle.bug_ops.specs.declared.op.BugStatus.{BugStatus}
use Rattle.bug_ops.specs.declared.op.BugStatus.TheVariants.{Opened, Closed}
use Rattle.query.specs.declared.query.Query.{Query}
use Rattle.query.specs.declared.query.SortKey.{SortKey}
use Rattle.query.specs.declared.query.SortKey.TheVariants.{ById, ByCreation, ByEdit}

-- a text in quotes
abbrev pub in_quotes : List ℕ → List ℕ
in_quotes text = codes "\"" ++ text ++ codes "\""

-- the word of a status, and a space
abbrev pub status_word : BugStatus → List ℕ
status_word Opened = codes "status:open "
status_word Closed = codes "status:closed "

-- the word of a text, in quotes after its field, and a space
abbrev pub text_word : List ℕ → List ℕ → List ℕ
text_word field text = field ++ in_quotes text ++ codes " "

-- the word of a pair of metadata, and a space
abbrev pub pair_word : Pair → List ℕ
pair_word pair = codes "metadata:" ++ in_quotes pair.key ++ codes ":" ++ in_quotes pair.value ++ codes " "

-- the word that no label is on, and a space, if it is said
abbrev pub no_word : Bool → List ℕ
no_word true = codes "no:label "
no_word false = []

-- the word of an order, with its direction
abbrev pub sort_word : SortKey → Bool → List ℕ
sort_word ById true = codes "sort:id-desc"
sort_word ById false = codes "sort:id-asc"
sort_word ByCreation true = codes "sort:creation-desc"
sort_word ByCreation false = codes "sort:creation-asc"
sort_word ByEdit true = codes "sort:edit-desc"
sort_word ByEdit false = codes "sort:edit-asc"

-- the words of statuses and of authors
abbrev pub first_words : Query → List ℕ
first_words q = flat_map status_word q.statuses ++ flat_map (text_word (codes "author:")) q.authors

-- the words of participants and of actors
abbrev pub person_words : Query → List ℕ
person_words q = flat_map (text_word (codes "participant:")) q.participants ++ flat_map (text_word (codes "actor:")) q.actors

-- the words of metadata, labels and titles
abbrev pub last_words : Query → List ℕ
last_words q =
    flat_map pair_word q.metadata ++ flat_map (text_word (codes "label:")) q.labels
    ++ flat_map (text_word (codes "title:")) q.titles ++ no_word q.no_label

-- the text of a query
abbrev pub printed : Query → List ℕ
printed q = first_words q ++ person_words q ++ last_words q ++ sort_word q.key q.down

-- a text without quotes
abbrev pub IsUnquoted : List ℕ → Type 0
IsUnquoted text = AllByRecursion (λ b. (b == 34) ≡ false) text

-- a pair without quotes, whose key is not empty
pub record IsUnquotedPair (pair : Pair) : Type 0 where
  pub key : IsUnquoted pair.key
  pub value : IsUnquoted pair.value
  pub named : pair.key ≢ []

-- a query that words can say: no text of it has a quote
pub record IsSayable (q : Query) : Type 0 where
  pub authors : AllByRecursion IsUnquoted q.authors
  pub participants : AllByRecursion IsUnquoted q.participants
  pub actors : AllByRecursion IsUnquoted q.actors
  pub metadata : AllByRecursion IsUnquotedPair q.metadata
  pub labels : AllByRecursion IsUnquoted q.labels
  pub titles : AllByRecursion IsUnquoted q.titles
