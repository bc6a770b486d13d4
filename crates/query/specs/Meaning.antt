-- The grammar as relations, apart from how it is read.
use Rattle.std.specs.Prelude.{◌≡◌, ◌≢◌, ◌⊎◌, ℕ, List, [], ◌∷◌, ◌++◌, length, take, drop, Some, None, Ok, Err}
use Rattle.query.specs.declared.draft.Draft.{Draft}
use Rattle.query.specs.declared.fault.QueryFault.{QueryFault}
use Rattle.query.specs.declared.fault.QueryFault.TheVariants.{UnknownField, BadValue, OpenQuote}
use Rattle.query.specs.Printing.{IsUnquoted, in_quotes}
use Rattle.query.specs.Reading.{all_taken, no_draft, taken}
use Rattle.query.specs.Words.{Word, open_quote, words_of}

-- a value says a text: in quotes, or as it is if it is not empty; the text has no quote
abbrev pub IsValue : List ℕ → List ℕ → Type 0
IsValue value text = ((value ≡ in_quotes text) × IsUnquoted text) ⊎ ((value ≡ text) × IsUnquoted text × (text ≢ []))

-- the word is in the text at its place, and is not empty
pub record StandsIn (text : List ℕ) (word : Word) : Type 0 where
  pub is : take (length word.text) (drop word.at text) ≡ word.text
  pub some : word.text ≢ []

-- a word at fault after others that are not, and the fault is of its place
pub record IsFirstFault (text : List ℕ) (fault : QueryFault) : Type 0 where
  pub before : List Word
  pub word : Word
  pub behind : List Word
  pub draft : Draft
  pub words : words_of text ≡ before ++ word ∷ behind
  pub read : all_taken no_draft before ≡ Ok draft
  pub refused : taken draft word ≡ Err fault
  pub place : (fault ≡ UnknownField word.at) ⊎ (fault ≡ BadValue word.at)

-- why a text is not a query: a quote is not closed, or else a word is at fault
abbrev pub IsRefusal : List ℕ → QueryFault → Type 0
IsRefusal text fault =
    ((place : ℕ) × (open_quote text ≡ Some place) × (fault ≡ OpenQuote place)) ⊎ ((open_quote text ≡ None) × IsFirstFault text fault)
