-- What the text of a query reads as.
use Rattle.std.specs.Prelude.{⊤, ℕ, true, false, if◌then◌else◌, List, [], ◌∷◌, ◌++◌, codes, Option, Some, None, Result, Ok, Err, ◌≡◌}
use Rattle.std.specs.Str.{bytes_eq}
use Rattle.bug_ops.specs.declared.op.BugStatus.TheVariants.{Opened, Closed}
use Rattle.query.specs.declared.draft.Draft.{Draft}
use Rattle.query.specs.declared.fault.QueryFault.{QueryFault}
use Rattle.query.specs.declared.fault.QueryFault.TheVariants.{Memory, UnknownField, BadValue, OpenQuote}
use Rattle.query.specs.declared.query.Query.{Query}
use Rattle.query.specs.declared.query.SortKey.TheVariants.{ById, ByCreation, ByEdit}
use Rattle.query.specs.declared.term.Term.{Term}
use Rattle.query.specs.declared.term.Term.TheVariants.{Status, Author, Participant, Actor, Metadata, Label, Title, NoLabel, Sort}
use Rattle.query.specs.Words.{Word, cut_at, value_of, pair_of, words_of, open_quote}

-- ---- steps that may fail

-- a function of what was read, unless it was refused
infixl 10 ◌>>=◌
abbrev pub ◌>>=◌ : {A B : Type 0} → Result A QueryFault → (A → Result B QueryFault) → Result B QueryFault
(Ok x) >>= f = f x
(Err e) >>= f = Err e

-- a fault that is not want of memory is the one that reading finds
abbrev pub Fails : {A : Type 0} → QueryFault → Result A QueryFault → Type 0
Fails Memory read = ⊤
Fails fault read = read ≡ Err fault

-- what was returned is what is read, unless memory ran out
abbrev pub Gives : {A : Type 0} → Result A QueryFault → Result A QueryFault → Type 0
Gives (Ok x) read = read ≡ Ok x
Gives (Err e) read = Fails e read

-- the value after a call that changes it is what is read, unless memory ran out
abbrev pub Goes : {A B : Type 0} → Result B QueryFault → A → Result A QueryFault → Type 0
Goes (Ok x) new read = read ≡ Ok new
Goes (Err e) new read = Fails e read

-- ---- words

-- what a word at a place says, if its value is as it must
abbrev pub or_bad : {A : Type 0} → ℕ → Option A → Result A QueryFault
or_bad at None = Err (BadValue at)
or_bad at (Some x) = Ok x

-- the value of a word at a place, by a function of its text
abbrev pub said : {A B : Type 0} → ℕ → (A → B) → Option A → Result B QueryFault
said at f None = Err (BadValue at)
said at f (Some x) = Ok (f x)

-- a status
abbrev pub status_of : List ℕ → Option Term
status_of text =
    if bytes_eq text (codes "open") then Some (Status Opened)
    else (if bytes_eq text (codes "closed") then Some (Status Closed) else None)

-- the only value of `no`
abbrev pub no_of : List ℕ → Option Term
no_of text = if bytes_eq text (codes "label") then Some NoLabel else None

-- an order; by id it ascends and else it descends, if nothing is said
abbrev pub sort_of : List ℕ → Option Term
sort_of text =
    if bytes_eq text (codes "id") then Some (Sort ById false)
    else (if bytes_eq text (codes "id-asc") then Some (Sort ById false)
    else (if bytes_eq text (codes "id-desc") then Some (Sort ById true)
    else (if bytes_eq text (codes "creation") then Some (Sort ByCreation true)
    else (if bytes_eq text (codes "creation-asc") then Some (Sort ByCreation false)
    else (if bytes_eq text (codes "creation-desc") then Some (Sort ByCreation true)
    else (if bytes_eq text (codes "edit") then Some (Sort ByEdit true)
    else (if bytes_eq text (codes "edit-asc") then Some (Sort ByEdit false)
    else (if bytes_eq text (codes "edit-desc") then Some (Sort ByEdit true) else None))))))))

-- a term of a text, if there is one
abbrev pub with_text : (List ℕ → Option Term) → Option (List ℕ) → Option Term
with_text f None = None
with_text f (Some text) = f text

-- what a word at a place says, by its field and its value
abbrev pub term_in : ℕ → List ℕ → List ℕ → Result Term QueryFault
term_in at field value =
    if bytes_eq field (codes "status") then or_bad at (with_text status_of (value_of value))
    else (if bytes_eq field (codes "author") then said at Author (value_of value)
    else (if bytes_eq field (codes "participant") then said at Participant (value_of value)
    else (if bytes_eq field (codes "actor") then said at Actor (value_of value)
    else (if bytes_eq field (codes "metadata") then said at Metadata (pair_of value)
    else (if bytes_eq field (codes "label") then said at Label (value_of value)
    else (if bytes_eq field (codes "title") then said at Title (value_of value)
    else (if bytes_eq field (codes "no") then or_bad at (with_text no_of (value_of value))
    else (if bytes_eq field (codes "sort") then or_bad at (with_text sort_of (value_of value))
    else Err (UnknownField at)))))))))

-- the same, of the parts before and after the word's first colon
abbrev pub term_of_parts : ℕ → Option (List ℕ × List ℕ) → Result Term QueryFault
term_of_parts at None = Err (UnknownField at)
term_of_parts at (Some parts) = term_in at parts.0 parts.1

-- what a word says
abbrev pub term_of : Word → Result Term QueryFault
term_of word = term_of_parts word.at (cut_at 58 word.text)

-- ---- queries

-- no words: by creation, descending
abbrev pub no_words : Query
no_words =
    record {
      statuses = [];
      authors = [];
      participants = [];
      actors = [];
      metadata = [];
      labels = [];
      titles = [];
      no_label = false;
      key = ByCreation;
      down = true;
    }

-- a query with what one word more says
abbrev pub with_term : Query → Term → Query
with_term q (Status status) = record q { statuses = q.statuses ++ status ∷ [] }
with_term q (Author text) = record q { authors = q.authors ++ text ∷ [] }
with_term q (Participant text) = record q { participants = q.participants ++ text ∷ [] }
with_term q (Actor text) = record q { actors = q.actors ++ text ∷ [] }
with_term q (Metadata pair) = record q { metadata = q.metadata ++ pair ∷ [] }
with_term q (Label text) = record q { labels = q.labels ++ text ∷ [] }
with_term q (Title text) = record q { titles = q.titles ++ text ∷ [] }
with_term q NoLabel = record q { no_label = true }
with_term q (Sort key down) = record q { key = key; down = down }

-- what was read so far with what the word at a place says: a second order is refused
abbrev pub put : Draft → ℕ → Term → Result Draft QueryFault
put draft at (Sort key down) =
    if draft.sorted then Err (BadValue at)
    else Ok (record { query = with_term draft.query (Sort key down); sorted = true })
put draft at term = Ok (record draft { query = with_term draft.query term })

-- what was read so far with one word more
abbrev pub taken : Draft → Word → Result Draft QueryFault
taken draft word = term_of word >>= λ term. put draft word.at term

-- what was read so far with further words, or the first fault among them
abbrev pub all_taken : Draft → List Word → Result Draft QueryFault
all_taken draft [] = Ok draft
all_taken draft (word ∷ words) = taken draft word >>= λ more. all_taken more words

-- before the first word
abbrev pub no_draft : Draft
no_draft = record { query = no_words; sorted = false }

-- the query of a text with an open quote, or with none
abbrev pub query_in : List ℕ → Option ℕ → Result Query QueryFault
query_in text (Some place) = Err (OpenQuote place)
query_in text None = all_taken no_draft (words_of text) >>= λ draft. Ok draft.query

-- the query of a text, or why it is not one
abbrev pub query_of : List ℕ → Result Query QueryFault
query_of text = query_in text (open_quote text)
