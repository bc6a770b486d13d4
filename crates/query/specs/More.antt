-- What one word more does to a query.
use Rattle.std.specs.Prelude.{◌≢◌, [], ⊤}
use Rattle.query.specs.declared.query.Query.{Query}
use Rattle.query.specs.declared.term.Term.{Term}
use Rattle.query.specs.declared.term.Term.TheVariants.{Status, Author, Participant, Actor, Metadata, Label, Title, NoLabel, Sort}

-- the word is a further alternative of a field that has one
abbrev pub IsFurther : Query → Term → Type 0
IsFurther q (Status status) = q.statuses ≢ []
IsFurther q (Author text) = q.authors ≢ []
IsFurther q (Participant text) = q.participants ≢ []
IsFurther q (Actor text) = q.actors ≢ []
IsFurther q (Metadata pair) = q.metadata ≢ []
IsFurther q (Label text) = ⊥
IsFurther q (Title text) = ⊥
IsFurther q NoLabel = ⊥
IsFurther q (Sort key down) = ⊥

-- the word is one that each row must satisfy
abbrev pub IsDemand : Term → Type 0
IsDemand (Label text) = ⊤
IsDemand (Title text) = ⊤
IsDemand NoLabel = ⊤
IsDemand _ = ⊥
