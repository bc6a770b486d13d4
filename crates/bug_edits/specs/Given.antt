-- The arguments of an edit, each read by its rule, or the place of the first that breaks it.
use Rattle.std.specs.Prelude.{◌+◌, ⊤, ℕ, List, [], ◌∷◌, Option, Some, None, Result, Ok, Err}
use Rattle.gb_text.specs.Ruled.{message_of, title_of}
use Rattle.gb_text.specs.declared.ruled.Title.{Title}
use Rattle.bug_edits.specs.NewOps.{texts_of}
use Rattle.bug_edits.specs.declared.given.Form.{Form}
use Rattle.bug_edits.specs.declared.given.Form.TheVariants as form
use Rattle.bug_edits.specs.declared.given.Given.{Given}
use Rattle.bug_edits.specs.declared.given.Given.TheVariants as given

-- ---- arguments

-- an argument at a place, counted from 1, if it is one of its type; or the place
abbrev pub at : {A : Type 0} → ℕ → Option A → Result A ℕ
at place (Some argument) = Ok argument
at place None = Err place

-- what is made of an argument, or the place of one that breaks its rule
abbrev pub made : {A B : Type 0} → Result A ℕ → (A → B) → Result B ℕ
made (Ok argument) make = Ok (make argument)
made (Err place) make = Err place

-- of two arguments; the first that breaks its rule counts
abbrev pub made_of_two : {A B C : Type 0} → Result A ℕ → Result B ℕ → (A → B → C) → Result C ℕ
made_of_two (Ok one) (Ok two) make = Ok (make one two)
made_of_two (Ok one) (Err place) make = Err place
made_of_two (Err place) two make = Err place

-- titles, where the first of them is at this place
abbrev pub titles_from : ℕ → List (List ℕ) → Result (List Title) ℕ
titles_from place [] = Ok []
titles_from place (text ∷ texts) = made_of_two (at place (title_of text)) (titles_from (place + 1) texts) (λ title titles. title ∷ titles)

-- a title and a message
abbrev pub two_given : List ℕ → List ℕ → Result Given ℕ
two_given two three = made_of_two (at 2 (title_of two)) (at 3 (message_of three)) (λ title message. given.TitleAndMessage title message)

-- ---- of an edit

-- Arguments of an edit, of which the first is the second of its command; none where they are too few or too many.
abbrev pub given_by : Form → List (List ℕ) → Option (Result Given ℕ)
given_by form.Nothing [] = Some (Ok given.Nothing)
given_by form.Title (two ∷ []) = Some (made (at 2 (title_of two)) (λ title. given.Title title))
given_by form.Message (two ∷ []) = Some (made (at 2 (message_of two)) (λ message. given.Message message))
given_by form.TitleAndMessage (two ∷ three ∷ []) = Some (two_given two three)
given_by form.Titles (two ∷ more) = Some (made (titles_from 2 (two ∷ more)) (λ titles. given.Titles titles))
given_by _ _ = None

-- the texts of arguments
abbrev pub given_texts : Given → List (List ℕ)
given_texts given.Nothing = []
given_texts (given.Title title) = title.text ∷ []
given_texts (given.Message message) = message.text ∷ []
given_texts (given.TitleAndMessage title message) = title.text ∷ message.text ∷ []
given_texts (given.Titles titles) = texts_of titles

-- where several titles may be given, one is at least
abbrev pub HasTitles : Given → Type 0
HasTitles (given.Titles []) = ⊥
HasTitles g = ⊤
