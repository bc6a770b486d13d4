-- Lists of a folder's bugs: their texts, and what a list answers.
use Rattle.std.specs.Prelude.{◌≡◌, ◌⊎◌, ⊤, ℕ, List, Result, Ok, Err}
use Rattle.gb_store.specs.Files.{Files, History, files_of}
use Rattle.bug_ops.specs.declared.snapshot.Excerpt.{Excerpt}
use Rattle.identity.specs.declared.chain.Person.{Person}
use Rattle.list_texts.specs.Boards.{board_text_of}
use Rattle.list_texts.specs.Lists.{list_text_of}
use Rattle.query.specs.Answers.{IsAnswer}
use Rattle.query.specs.declared.query.Query.{Query}
use Rattle.repo_rows.specs.Rows.{AllRows, AllStored, AreRows, HasBadBug}
use Rattle.repo_rows.specs.Reads.{ReadsRows}
use Rattle.repo_state.specs.Answers.{HasBadPerson, ReadsPeople}
use Rattle.repo_state.specs.People.{ArePeople}
use Rattle.repo_state.specs.Sides.{AreHeads}
use Rattle.repo_state.specs.Sound.{HasPart}
use Rattle.repo_state.specs.Sound as parts
use Rattle.repo_state.specs.declared.side.HeadEntry.{HeadEntry}
use Rattle.repo_state.specs.declared.side.Side.TheVariants as side
use Rattle.repo_state.specs.declared.stop.ReadStop.{ReadStop}
use Rattle.repo_state.specs.declared.stop.ReadStop.TheVariants as stop
use Rattle.words.specs.declared.list.Layout.{Layout}
use Rattle.words.specs.declared.list.Layout.TheVariants.{Board, Lines}

-- the text of the rows at these places, in a layout
abbrev pub text_in : Layout → List Person → List Excerpt → List ℕ → List ℕ
text_in Lines people rows order = list_text_of people rows order
text_in Board people rows order = board_text_of people rows order

-- the text of the rows that a query asks for, in its order
abbrev pub IsListText : Layout → Query → List Person → List Excerpt → List ℕ → Type 0
IsListText layout query people rows text = (order : List ℕ) × IsAnswer people query rows order × (text ≡ text_in layout people rows order)

-- a text lists the local bugs that a query asks for, in its order: each by what the operations of the commits below its head say, in the
-- order of edit clock, pack id and name, with the names of the folder's people. It does not depend on any row that is stored.
pub record ListsBugs (files : Files) (folder : List ℕ) (layout : Layout) (query : Query) (text : List ℕ) : Type 0 where
  pub rows : List Excerpt
  pub are_rows : AreRows files folder rows
  pub people : List Person
  pub are_people : ArePeople files folder people
  pub is_text : IsListText layout query people rows text

-- a text lists rows of the local bugs, which are stored afterwards if they fit; they are what the operations say if the bugs are sound and
-- the rows that were stored true
pub record ListsRows (folder : List ℕ) (layout : Layout) (query : Query) (old new : History) (text : List ℕ) : Type 0 where
  pub heads : List HeadEntry
  pub are_heads : AreHeads (files_of old) folder side.Bugs heads
  pub rows : List Excerpt
  pub all : HasPart parts.Rows folder (files_of old) → AllRows (files_of old) folder heads rows
  pub stored : AllStored (files_of new) folder heads rows
  pub people : List Person
  pub are_people : ArePeople (files_of old) folder people
  pub is_text : IsListText layout query people rows text

-- the answer to a list, with what was written
abbrev pub ListAnswers : List ℕ → Layout → Query → History → History → Result (List ℕ) ReadStop → Type 0
ListAnswers folder layout query old new (Ok text) = ListsRows folder layout query old new text
ListAnswers folder layout query old new (Err stop.Memory) = ⊤
ListAnswers folder layout query old new (Err stop.Disk) = ⊤
ListAnswers folder layout query old new (Err (stop.Damaged path)) = HasBadPerson (files_of old) folder path ⊎ HasBadBug (files_of old) folder path

-- at most three objects were read for each local identity; and then those of some local bugs, each once, by their stored rows
abbrev pub ReadsList : Files → List ℕ → ℕ → ℕ → Type 0
ReadsList files folder before after = (mid : ℕ) × ReadsPeople files folder before mid × ReadsRows files folder mid after
